use Rattle.std.proofs.Common.{rules}
use Rattle.std.proofs.lemmas.Result.{on_ok_weaker, on_err_weaker}
use Rattle.authorizer.proofs.Indexing.{literal_added, prefixed_added, literal_same, prefixed_same}
use Rattle.authorizer.proofs.index.KindIndex.add.Goals as goal

pub returns-in-Literal-clause-ok : goal.returns-in-Literal-clause-ok
returns-in-Literal-clause-ok c = on_ok_weaker c.add.result (λ more. literal_added c.args.self.now _ c.args.entry.now (search rules) (search (rules, more))) c.add.ensures.ok

pub returns-in-Literal-clause-err : goal.returns-in-Literal-clause-err
returns-in-Literal-clause-err c = on_err_weaker c.add.result (λ same. literal_same c.args.self.now _ same) c.add.ensures.err

pub returns-in-Prefixed-clause-ok : goal.returns-in-Prefixed-clause-ok
returns-in-Prefixed-clause-ok c = on_ok_weaker c.add-in-Prefixed.result (λ more. prefixed_added c.args.self.now _ c.args.entry.now (search rules) (search (rules, more))) c.add-in-Prefixed.ensures.ok

pub returns-in-Prefixed-clause-err : goal.returns-in-Prefixed-clause-err
returns-in-Prefixed-clause-err c = on_err_weaker c.add-in-Prefixed.result (λ same. prefixed_same c.args.self.now _ same) c.add-in-Prefixed.ensures.err
