-- The grammars of the SaslAuthenticate messages, version 0 (Kafka protocol guide, "SaslAuthenticate
-- API (Key: 36)").
use Rattle.std.specs.Prelude.{ℕ, List, [], None, refl}
use Rattle.wire_types.specs.Grammar.{Grammar}
use Rattle.wire_types.specs.Combinators.{struct, ◌⨟◌}
use Rattle.wire_types.specs.Schema.{bytes, nullable_string}
use Rattle.wire_types.specs.declared.error_code.ErrorCode.{ErrorCode}
use Rattle.wire_types.specs.ErrorCode.{error_code}
use Rattle.wire_types.specs.Strings.{text_of}
use Rattle.msg_login.specs.declared.sasl_authenticate.SaslAuthenticateRequest.{SaslAuthenticateRequest}
use Rattle.msg_login.specs.declared.sasl_authenticate.SaslAuthenticateReply.{SaslAuthenticateReply}

-- SaslAuthenticate Request => auth_bytes
abbrev pub sasl_authenticate_request : Grammar SaslAuthenticateRequest
sasl_authenticate_request = struct
    (λ auth. record { auth = auth })
    (λ r. r.auth)
    (λ x. refl) (λ r. refl)
    bytes

-- SaslAuthenticate Response => error_code error_message auth_bytes
abbrev pub sasl_authenticate_reply : Grammar SaslAuthenticateReply
sasl_authenticate_reply = struct
    (λ (error, (message, auth)). record { error = error; message = message; auth = auth })
    (λ r. (r.error, (r.message, r.auth)))
    (λ x. refl) (λ r. refl)
    (error_code  -- error_code
    ⨟ nullable_string  -- error_message
    ⨟ bytes)  -- auth_bytes

-- ---- the texts of an answer

abbrev pub sasl_authenticate_strings : SaslAuthenticateReply → List (List ℕ)
sasl_authenticate_strings r = text_of r.message

-- ---- what PLAIN has the broker tell: nothing but the error (RFC 4616, section 2)

abbrev pub authenticate_reply : ErrorCode → SaslAuthenticateReply
authenticate_reply error = record { error = error; message = None; auth = [] }
