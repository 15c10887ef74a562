-- A session's own answers can be sent.
use Rattle.std.proofs.Common.{◌≡◌, ℤ, true, refl, sym, ◌∙◌, Err, true≢false}
use Rattle.wire_types.specs.declared.error_code.ErrorCode.{ErrorCode}
use Rattle.wire_types.specs.declared.fault.WriteFault.{WriteFault}
use Rattle.wire_types.specs.declared.fault.WriteFault.TheVariants as faults
use Rattle.wire_types.specs.Spelling.{int_written, after_count_written, after_count_fits, many_written, many_fit, null_count_fits, after_null_count_fits, after_null_count_written}
use Rattle.msg_login.specs.SaslHandshake.{handshake_reply}
use Rattle.msg_login.specs.SaslAuthenticate.{authenticate_reply}
use Rattle.msg_admin.specs.declared.reply.Reply.{Reply}
use Rattle.msg_admin.specs.declared.reply.Reply.TheVariants as replies
use Rattle.msg_admin.specs.ApiKey.{all_keys}
use Rattle.msg_admin.specs.Api.{is_flexible}
use Rattle.msg_admin.specs.Bodies.{reply_body}
use Rattle.msg_admin.specs.Response.{is_sendable, GivesReply}
use Rattle.sasl_login.specs.declared.listed.ListedVersions.{ListedVersions}
use Rattle.sasl_login.specs.declared.listed.ListedVersions.TheVariants.{AsServed, ForLibrdkafka}
use Rattle.sasl_login.specs.Listed.{versions_listed}

pub versions_short : (listed : ListedVersions) (c : ℤ) → is_sendable c (replies.ApiVersions (versions_listed listed)) ≡ true
unfolding is_sendable is_flexible reply_body int_written after_count_written after_count_fits many_written many_fit null_count_fits all_keys
versions_short AsServed c = refl
versions_short ForLibrdkafka c = refl

pub handshake_short : (c : ℤ) (e : ErrorCode) → is_sendable c (replies.SaslHandshake (handshake_reply e)) ≡ true
unfolding is_sendable is_flexible reply_body int_written after_count_written after_count_fits many_written many_fit null_count_fits
handshake_short c e = refl

pub login_short : (c : ℤ) (e : ErrorCode) → is_sendable c (replies.SaslAuthenticate (authenticate_reply e)) ≡ true
unfolding is_sendable is_flexible reply_body int_written after_count_written after_count_fits many_written many_fit null_count_fits after_null_count_fits after_null_count_written
login_short c e = refl

pub never_long : (c : ℤ) (r : Reply) (f : WriteFault) → is_sendable c r ≡ true → f ≡ faults.TooLong → GivesReply c r (Err f) → ⊥
never_long c r faults.NoMemory fits is given = absurd cc
never_long c r faults.TooLong fits is given = true≢false (sym fits ∙ given)
