use Rattle.acl_binding.specs.declared.words.Kind.TheVariants.{Topic, Group, Cluster, TransactionalId}
use Rattle.authorizer.proofs.index.Index.clean.Goals as goal

pub returns : goal.returns
returns c = λ es is. record {
  topics = c.clean.ensures Topic es is.topics;
  groups = c.clean-2.ensures Group es is.groups;
  cluster = c.clean-3.ensures Cluster es is.cluster;
  ids = c.clean-4.ensures TransactionalId es is.ids;
}
