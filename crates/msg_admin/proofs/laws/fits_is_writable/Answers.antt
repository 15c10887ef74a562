use Rattle.msg_admin.proofs.MessageLaws.{fits_is_writable}
use Rattle.msg_admin.proofs.laws.fits_is_writable.Goals as goal

pub returns : goal.returns
returns c = fits_is_writable
