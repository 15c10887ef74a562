use Rattle.wrong_rules.proofs.Lines.{named, not_the_first, not_unmatched}
use Rattle.wrong_rules.proofs.laws.audit_lines_name_bindings.Goals as goal

pub returns-clause-named : goal.returns-clause-named
returns-clause-named c = named

pub returns-clause-by_its_own : goal.returns-clause-by_its_own
returns-clause-by_its_own c = not_the_first

pub returns-clause-as_denied : goal.returns-clause-as_denied
returns-clause-as_denied c = not_unmatched
