-- The grammars of the SaslHandshake messages, version 1 (Kafka protocol guide, "SaslHandshake API
-- (Key: 17)").
use Rattle.std.specs.Prelude.{ℕ, List, [], ◌∷◌, codes, refl}
use Rattle.wire_types.specs.Grammar.{Grammar}
use Rattle.wire_types.specs.Combinators.{struct, ◌⨟◌}
use Rattle.wire_types.specs.Schema.{string, array}
use Rattle.wire_types.specs.declared.error_code.ErrorCode.{ErrorCode}
use Rattle.wire_types.specs.ErrorCode.{error_code}
use Rattle.msg_login.specs.declared.sasl_handshake.SaslHandshakeRequest.{SaslHandshakeRequest}
use Rattle.msg_login.specs.declared.sasl_handshake.SaslHandshakeReply.{SaslHandshakeReply}

-- SaslHandshake Request => mechanism
abbrev pub sasl_handshake_request : Grammar SaslHandshakeRequest
sasl_handshake_request = struct
    (λ mechanism. record { mechanism = mechanism })
    (λ r. r.mechanism)
    (λ x. refl) (λ r. refl)
    string

-- SaslHandshake Response => error_code [mechanisms]
abbrev pub sasl_handshake_reply : Grammar SaslHandshakeReply
sasl_handshake_reply = struct
    (λ (error, mechanisms). record { error = error; mechanisms = mechanisms })
    (λ r. (r.error, r.mechanisms))
    (λ x. refl) (λ r. refl)
    (error_code  -- error_code
    ⨟ array string)  -- mechanisms

-- ---- the texts of an answer

abbrev pub sasl_handshake_strings : SaslHandshakeReply → List (List ℕ)
sasl_handshake_strings r = r.mechanisms

-- ---- what is offered

-- PLAIN alone (RFC 4616, "The PLAIN Simple Authentication and Security Layer (SASL) Mechanism")
abbrev pub plain_mechanism : List ℕ
plain_mechanism = codes "PLAIN"

-- it is listed beside each error
abbrev pub handshake_reply : ErrorCode → SaslHandshakeReply
handshake_reply error = record { error = error; mechanisms = plain_mechanism ∷ [] }
