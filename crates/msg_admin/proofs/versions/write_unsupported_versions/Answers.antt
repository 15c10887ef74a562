use Rattle.msg_admin.proofs.Unsupported.{never_long}
use Rattle.msg_admin.proofs.versions.write_unsupported_versions.Goals as goal

pub unreachable-requires : goal.unreachable-requires
unreachable-requires c = never_long _ c.in_ok-answer.answer c.in-Err-TooLong.field-0 c.in_ok-answer.ensures c.in-Err-TooLong.field-0-is c.in-Err-TooLong.ensures
