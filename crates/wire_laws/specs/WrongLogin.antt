-- Wrong decoders and encoders of the messages about the login: each is the right one, but for one
-- mistake.
use Rattle.std.specs.Prelude.{drop}
use Rattle.wire_types.specs.declared.error_code.ErrorCode.{ErrorCode}
use Rattle.msg_admin.specs.declared.request.Request.{Request}
use Rattle.msg_admin.specs.declared.reply.Reply.{Reply}
use Rattle.msg_admin.specs.Request.{request_at}
use Rattle.msg_admin.specs.Response.{response}
use Rattle.wire_laws.specs.Frames.{Decoder, Encoder}
use Rattle.wire_laws.specs.WrongFrames.{null_is_empty, with_request, each, keys_swapped}
use Rattle.wire_types.specs.declared.error_code.ErrorCode.TheVariants as errors
use Rattle.msg_admin.specs.declared.request.Request.TheVariants as requests
use Rattle.msg_admin.specs.declared.reply.Reply.TheVariants as replies

-- the api keys 17 (SaslHandshake) and 18 (ApiVersions) are taken for each other
abbrev pub handshake_and_versions_swapped : Decoder
handshake_and_versions_swapped = keys_swapped 17 18

-- the next mistake, in a Request
abbrev drop_zero : Request → Request
drop_zero (requests.SaslAuthenticate r) =
    requests.SaslAuthenticate (record { auth = drop 1 r.auth })
drop_zero r = r

-- the auth_bytes of a SaslAuthenticate are read without the zero that they begin with
abbrev pub auth_without_the_first_zero : Decoder
auth_without_the_first_zero = with_request drop_zero request_at

-- the next mistake, in a Reply
abbrev exchange_versions : Reply → Reply
exchange_versions (replies.ApiVersions r) =
    replies.ApiVersions
    (record r { apis = each r.apis (λ v. record v { min = v.max; max = v.min }) })
exchange_versions r = r

-- the min_version and the max_version of an api are exchanged
abbrev pub min_and_max_exchanged : Encoder
min_and_max_exchanged correlation r = response correlation (exchange_versions r)

-- the next mistake, in an ErrorCode
abbrev other_refusal : ErrorCode → ErrorCode
other_refusal errors.UnsupportedSaslMechanism = errors.IllegalSaslState
other_refusal errors.IllegalSaslState = errors.UnsupportedSaslMechanism
other_refusal code = code

-- the next mistake, in a Reply
abbrev swap_refusals : Reply → Reply
swap_refusals (replies.SaslHandshake r) =
    replies.SaslHandshake (record r { error = other_refusal r.error })
swap_refusals r = r

-- 33 (UNSUPPORTED_SASL_MECHANISM) is told as 34 (ILLEGAL_SASL_STATE), and the other way round
abbrev pub mechanism_and_state_swapped : Encoder
mechanism_and_state_swapped correlation r = response correlation (swap_refusals r)

-- the next mistake, in a Reply
abbrev fill_reason : Reply → Reply
fill_reason (replies.SaslAuthenticate r) =
    replies.SaslAuthenticate (record r { message = null_is_empty r.message })
fill_reason r = r

-- an error_message that is null is told as an empty one
abbrev pub null_reasons_are_empty : Encoder
null_reasons_are_empty correlation r = response correlation (fill_reason r)
