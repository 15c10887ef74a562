use Rattle.std.proofs.Common.{◌≡◌, ap, rules}
use Rattle.std.specs.Prelude.{◌==◌}
use Rattle.std.proofs.lemmas.Result.{on_ok_weaker, on_err_weaker}
use Rattle.acl_binding.specs.declared.words.Kind.{Kind}
use Rattle.acl_binding.specs.declared.words.Kind.TheVariants.{Topic, Group, Cluster, TransactionalId}
use Rattle.acl_binding.specs.Words.{kind_number}
use Rattle.authorizer.proofs.Indexing.{other_kind}
use Rattle.authorizer.proofs.index.Index.add.Goals as goal

pub returns-in-Topic-clause-ok : goal.returns-in-Topic-clause-ok
returns-in-Topic-clause-ok c =
    let is : c.args.entry.now.binding.kind ≡ Topic = search rules in
    on_ok_weaker c.add.result (λ more es old. record { topics = more Topic es (ap kind_number is) old.topics; groups = other_kind _ Group es c.args.entry.now (ap (λ (k : Kind). kind_number k == 3) is) old.groups; cluster = other_kind _ Cluster es c.args.entry.now (ap (λ (k : Kind). kind_number k == 4) is) old.cluster; ids = other_kind _ TransactionalId es c.args.entry.now (ap (λ (k : Kind). kind_number k == 5) is) old.ids }) c.add.ensures.ok

pub returns-in-Topic-clause-err : goal.returns-in-Topic-clause-err
returns-in-Topic-clause-err c = on_err_weaker c.add.result (λ same es old. record { topics = same Topic es old.topics; groups = old.groups; cluster = old.cluster; ids = old.ids }) c.add.ensures.err

pub returns-in-Group-clause-ok : goal.returns-in-Group-clause-ok
returns-in-Group-clause-ok c =
    let is : c.args.entry.now.binding.kind ≡ Group = search rules in
    on_ok_weaker c.add-in-Group.result (λ more es old. record { topics = other_kind _ Topic es c.args.entry.now (ap (λ (k : Kind). kind_number k == 2) is) old.topics; groups = more Group es (ap kind_number is) old.groups; cluster = other_kind _ Cluster es c.args.entry.now (ap (λ (k : Kind). kind_number k == 4) is) old.cluster; ids = other_kind _ TransactionalId es c.args.entry.now (ap (λ (k : Kind). kind_number k == 5) is) old.ids }) c.add-in-Group.ensures.ok

pub returns-in-Group-clause-err : goal.returns-in-Group-clause-err
returns-in-Group-clause-err c = on_err_weaker c.add-in-Group.result (λ same es old. record { topics = old.topics; groups = same Group es old.groups; cluster = old.cluster; ids = old.ids }) c.add-in-Group.ensures.err

pub returns-in-Cluster-clause-ok : goal.returns-in-Cluster-clause-ok
returns-in-Cluster-clause-ok c =
    let is : c.args.entry.now.binding.kind ≡ Cluster = search rules in
    on_ok_weaker c.add-in-Cluster.result (λ more es old. record { topics = other_kind _ Topic es c.args.entry.now (ap (λ (k : Kind). kind_number k == 2) is) old.topics; groups = other_kind _ Group es c.args.entry.now (ap (λ (k : Kind). kind_number k == 3) is) old.groups; cluster = more Cluster es (ap kind_number is) old.cluster; ids = other_kind _ TransactionalId es c.args.entry.now (ap (λ (k : Kind). kind_number k == 5) is) old.ids }) c.add-in-Cluster.ensures.ok

pub returns-in-Cluster-clause-err : goal.returns-in-Cluster-clause-err
returns-in-Cluster-clause-err c = on_err_weaker c.add-in-Cluster.result (λ same es old. record { topics = old.topics; groups = old.groups; cluster = same Cluster es old.cluster; ids = old.ids }) c.add-in-Cluster.ensures.err

pub returns-in-TransactionalId-clause-ok : goal.returns-in-TransactionalId-clause-ok
returns-in-TransactionalId-clause-ok c =
    let is : c.args.entry.now.binding.kind ≡ TransactionalId = search rules in
    on_ok_weaker c.add-in-TransactionalId.result (λ more es old. record { topics = other_kind _ Topic es c.args.entry.now (ap (λ (k : Kind). kind_number k == 2) is) old.topics; groups = other_kind _ Group es c.args.entry.now (ap (λ (k : Kind). kind_number k == 3) is) old.groups; cluster = other_kind _ Cluster es c.args.entry.now (ap (λ (k : Kind). kind_number k == 4) is) old.cluster; ids = more TransactionalId es (ap kind_number is) old.ids }) c.add-in-TransactionalId.ensures.ok

pub returns-in-TransactionalId-clause-err : goal.returns-in-TransactionalId-clause-err
returns-in-TransactionalId-clause-err c = on_err_weaker c.add-in-TransactionalId.result (λ same es old. record { topics = old.topics; groups = old.groups; cluster = old.cluster; ids = same TransactionalId es old.ids }) c.add-in-TransactionalId.ensures.err
