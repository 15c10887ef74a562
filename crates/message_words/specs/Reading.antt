-- What a client reads of a response (Kafka protocol guide, "Common Request and Response
-- Structure").
use Rattle.std.specs.Prelude.{ℕ, ℤ, List, Result, Ok}
use Rattle.wire_types.specs.declared.fault.Malformed.{Malformed}
use Rattle.wire_types.specs.Reading.{◌>>=◌}
use Rattle.msg_admin.specs.declared.api.Api.{Api}
use Rattle.msg_admin.specs.declared.reply.Reply.{Reply}
use Rattle.msg_admin.specs.Header.{response_header}
use Rattle.msg_admin.specs.Bodies.{reply_body}
use Rattle.msg_admin.specs.Request.{whole_body}

-- The correlation id and the answer of an api that stand after a size field, or the first fault
-- from left to right.
unfoldable pub response_at : Api → List ℕ → Result (ℤ × Reply) Malformed
response_at api bytes =
    (response_header api).reading bytes >>= λ c.
    (reply_body api).reading c.1 >>= λ x.
    whole_body x >>= λ r.
    Ok (c.0, r)
