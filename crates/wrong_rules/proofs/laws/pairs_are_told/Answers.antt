use Rattle.wrong_rules.proofs.Pairs.{tells_the_pair, not_epoch_0, kept}
use Rattle.wrong_rules.proofs.laws.pairs_are_told.Goals as goal

pub returns-clause-init : goal.returns-clause-init
returns-clause-init c = tells_the_pair

pub returns-clause-init_not_epoch_0 : goal.returns-clause-init_not_epoch_0
returns-clause-init_not_epoch_0 c = not_epoch_0

pub returns-clause-init_kept : goal.returns-clause-init_kept
returns-clause-init_kept c = kept
