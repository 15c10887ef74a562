use Rattle.authorizer.proofs.Edits.{good_until_added, good_until_taken_out}
use Rattle.authorizer.proofs.laws.permit_ends_with_edit.Goals as goal

pub returns : goal.returns
returns c = record { added = good_until_added; taken_out = good_until_taken_out }
