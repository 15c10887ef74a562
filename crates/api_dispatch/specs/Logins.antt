-- What each caller is told: the apis that are served, and that the mechanism of its login can't be
-- chosen, nor a password told, once it is logged in (Kafka protocol guide, "SASL Authentication
-- Sequence"). It asks nothing and changes nothing.
use Rattle.std.specs.Prelude.{[]}
use Rattle.wire_types.specs.declared.error_code.ErrorCode.TheVariants as codes
use Rattle.msg_login.specs.SaslHandshake.{handshake_reply}
use Rattle.msg_login.specs.SaslAuthenticate.{authenticate_reply}
use Rattle.msg_admin.specs.declared.reply.Reply.{Reply}
use Rattle.msg_admin.specs.declared.reply.Reply.TheVariants as replies
use Rattle.msg_admin.specs.Versions.{versions_reply}
use Rattle.broker_world.specs.World.{World}
use Rattle.broker_world.specs.HandlerResult.{HandlerResult}

abbrev pub reply_outcome : World → Reply → HandlerResult
reply_outcome w reply = record { world = w; reply = reply; refusals = [] }

abbrev pub api_versions_outcome : World → HandlerResult
api_versions_outcome w = reply_outcome w (replies.ApiVersions versions_reply)

abbrev pub sasl_handshake_outcome : World → HandlerResult
sasl_handshake_outcome w =
    reply_outcome w (replies.SaslHandshake (handshake_reply codes.IllegalSaslState))

abbrev pub sasl_authenticate_outcome : World → HandlerResult
sasl_authenticate_outcome w =
    reply_outcome w (replies.SaslAuthenticate (authenticate_reply codes.IllegalSaslState))
