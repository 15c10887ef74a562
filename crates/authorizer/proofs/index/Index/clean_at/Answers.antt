use Rattle.std.proofs.Common.{ap}
use Rattle.std.specs.Prelude.{◌==◌}
use Rattle.acl_binding.specs.declared.words.Kind.{Kind}
use Rattle.acl_binding.specs.declared.words.Kind.TheVariants.{Topic, Group, Cluster, TransactionalId}
use Rattle.acl_binding.specs.Words.{kind_number}
use Rattle.authorizer.proofs.Leaving.{kind_here, kind_left}
use Rattle.authorizer.proofs.index.Index.clean_at.Goals as goal

pub returns-in-Topic : goal.returns-in-Topic
returns-in-Topic c = λ es is. record {
  topics = kind_here _ Topic es c.args.filter.now c.args.acl_key.now c.in-Topic.is (c.clean_at.ensures Topic es is.topics);
  groups = kind_left _ Group es c.args.filter.now c.args.acl_key.now (ap (λ (k : Kind). 3 == kind_number k) c.in-Topic.is) is.groups;
  cluster = kind_left _ Cluster es c.args.filter.now c.args.acl_key.now (ap (λ (k : Kind). 4 == kind_number k) c.in-Topic.is) is.cluster;
  ids = kind_left _ TransactionalId es c.args.filter.now c.args.acl_key.now (ap (λ (k : Kind). 5 == kind_number k) c.in-Topic.is) is.ids;
}

pub returns-in-Group : goal.returns-in-Group
returns-in-Group c = λ es is. record {
  topics = kind_left _ Topic es c.args.filter.now c.args.acl_key.now (ap (λ (k : Kind). 2 == kind_number k) c.in-Group.is) is.topics;
  groups = kind_here _ Group es c.args.filter.now c.args.acl_key.now c.in-Group.is (c.clean_at-in-Group.ensures Group es is.groups);
  cluster = kind_left _ Cluster es c.args.filter.now c.args.acl_key.now (ap (λ (k : Kind). 4 == kind_number k) c.in-Group.is) is.cluster;
  ids = kind_left _ TransactionalId es c.args.filter.now c.args.acl_key.now (ap (λ (k : Kind). 5 == kind_number k) c.in-Group.is) is.ids;
}

pub returns-in-Cluster : goal.returns-in-Cluster
returns-in-Cluster c = λ es is. record {
  topics = kind_left _ Topic es c.args.filter.now c.args.acl_key.now (ap (λ (k : Kind). 2 == kind_number k) c.in-Cluster.is) is.topics;
  groups = kind_left _ Group es c.args.filter.now c.args.acl_key.now (ap (λ (k : Kind). 3 == kind_number k) c.in-Cluster.is) is.groups;
  cluster = kind_here _ Cluster es c.args.filter.now c.args.acl_key.now c.in-Cluster.is (c.clean_at-in-Cluster.ensures Cluster es is.cluster);
  ids = kind_left _ TransactionalId es c.args.filter.now c.args.acl_key.now (ap (λ (k : Kind). 5 == kind_number k) c.in-Cluster.is) is.ids;
}

pub returns-in-TransactionalId : goal.returns-in-TransactionalId
returns-in-TransactionalId c = λ es is. record {
  topics = kind_left _ Topic es c.args.filter.now c.args.acl_key.now (ap (λ (k : Kind). 2 == kind_number k) c.in-TransactionalId.is) is.topics;
  groups = kind_left _ Group es c.args.filter.now c.args.acl_key.now (ap (λ (k : Kind). 3 == kind_number k) c.in-TransactionalId.is) is.groups;
  cluster = kind_left _ Cluster es c.args.filter.now c.args.acl_key.now (ap (λ (k : Kind). 4 == kind_number k) c.in-TransactionalId.is) is.cluster;
  ids = kind_here _ TransactionalId es c.args.filter.now c.args.acl_key.now c.in-TransactionalId.is (c.clean_at-in-TransactionalId.ensures TransactionalId es is.ids);
}
