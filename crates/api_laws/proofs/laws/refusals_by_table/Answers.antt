use Rattle.api_laws.proofs.RefusedRows.{refusals_by_table as the_law}
use Rattle.api_laws.proofs.WrongReads.{not_without_bindings, not_first_refusal}
use Rattle.api_laws.proofs.laws.refusals_by_table.Goals as goal

pub returns-clause-told : goal.returns-clause-told
returns-clause-told c = the_law

pub returns-clause-by_binding : goal.returns-clause-by_binding
returns-clause-by_binding c = not_without_bindings

pub returns-clause-each : goal.returns-clause-each
returns-clause-each c = not_first_refusal
