use Rattle.std.proofs.Common.{rules}
use Rattle.txn_handlers.proofs.end_txn.end_by.Goals as goal

pub returns-clause-answer : goal.returns-clause-answer
returns-clause-answer c =
    let told = rw c.in_ok-answer.was at c.end-spent.ensures.answer in
    search (rules, told)
