-- Frames of SaslHandshake, SaslAuthenticate and ApiVersions, byte by byte, and what each spells
-- (Kafka protocol guide, "The Messages"). The bytes are those of kafka-python 2.0.2, whose structs
-- were given the same values.
use Rattle.std.specs.Prelude.{ℕ, pos, List, [], ◌∷◌, Some, None, Ok, ◌≡◌, codes as text}
use Rattle.wire_laws.specs.Frames.{Decoder, Encoder}
use Rattle.wire_types.specs.declared.error_code.ErrorCode.TheVariants as errors
use Rattle.msg_admin.specs.declared.request.Request.TheVariants as requests
use Rattle.msg_admin.specs.declared.reply.Reply.TheVariants as replies

-- ---- SaslHandshake Request, version 1

-- a SaslHandshake
abbrev pub sasl_handshake_request : List ℕ
sasl_handshake_request =
    0x00 ∷ 0x11  -- request_api_key
    ∷ 0x00 ∷ 0x01  -- request_api_version
    ∷ 0x01 ∷ 0x02 ∷ 0x03 ∷ 0x30  -- correlation_id
    ∷ 0x00 ∷ 0x01 ∷ 0x63  -- client_id
    ∷ 0x00 ∷ 0x05 ∷ 0x50 ∷ 0x4c ∷ 0x41 ∷ 0x49 ∷ 0x4e  -- mechanism
    ∷ []

-- what the frame of a SaslHandshake is read as
abbrev pub SaslHandshakeRequestFrame : Decoder → Type 0
SaslHandshakeRequestFrame decode =
    decode sasl_handshake_request ≡ Ok (
      record {
        key = pos 17;
        version = pos 1;
        correlation = pos 0x01020330;
        client = Some (text "c");
      },
      requests.SaslHandshake (record { mechanism = text "PLAIN" }),
    )

-- ---- SaslHandshake Response, version 1

-- the answer to a SaslHandshake
abbrev pub sasl_handshake_response : List ℕ
sasl_handshake_response =
    0x00 ∷ 0x00 ∷ 0x00 ∷ 0x14  -- size
    ∷ 0x01 ∷ 0x02 ∷ 0x03 ∷ 0x30  -- correlation_id
    ∷ 0x00 ∷ 0x21  -- error_code
    ∷ 0x00 ∷ 0x00 ∷ 0x00 ∷ 0x02  -- [mechanisms]
    ∷ 0x00 ∷ 0x05 ∷ 0x50 ∷ 0x4c ∷ 0x41 ∷ 0x49 ∷ 0x4e  -- mechanisms
    ∷ 0x00 ∷ 0x01 ∷ 0x50  -- mechanisms
    ∷ []

-- what the answer to a SaslHandshake is sent as
abbrev pub SaslHandshakeResponseFrame : Encoder → Type 0
SaslHandshakeResponseFrame encode =
    encode (pos 0x01020330)
    (replies.SaslHandshake (record {
      error = errors.UnsupportedSaslMechanism;
      mechanisms = text "PLAIN" ∷ text "P" ∷ [];
    }))
    ≡ sasl_handshake_response

-- ---- ApiVersions Request, version 0

-- no fields follow the header
abbrev pub api_versions_request : List ℕ
api_versions_request =
    0x00 ∷ 0x12  -- request_api_key
    ∷ 0x00 ∷ 0x00  -- request_api_version
    ∷ 0x01 ∷ 0x02 ∷ 0x03 ∷ 0x32  -- correlation_id
    ∷ 0x00 ∷ 0x01 ∷ 0x63  -- client_id
    ∷ []

-- what the frame of an ApiVersions is read as
abbrev pub ApiVersionsRequestFrame : Decoder → Type 0
ApiVersionsRequestFrame decode =
    decode api_versions_request ≡ Ok (
      record {
        key = pos 18;
        version = pos 0;
        correlation = pos 0x01020332;
        client = Some (text "c");
      },
      requests.ApiVersions,
    )

-- ---- ApiVersions Response, version 0

-- the answer to an ApiVersions
abbrev pub api_versions_response : List ℕ
api_versions_response =
    0x00 ∷ 0x00 ∷ 0x00 ∷ 0x16  -- size
    ∷ 0x01 ∷ 0x02 ∷ 0x03 ∷ 0x32  -- correlation_id
    ∷ 0x00 ∷ 0x23  -- error_code
    ∷ 0x00 ∷ 0x00 ∷ 0x00 ∷ 0x02  -- [api_keys]
    ∷ 0x00 ∷ 0x1a  -- api_key
    ∷ 0x00 ∷ 0x00  -- min_version
    ∷ 0x00 ∷ 0x05  -- max_version
    ∷ 0x00 ∷ 0x09  -- api_key
    ∷ 0x00 ∷ 0x06  -- min_version
    ∷ 0x00 ∷ 0x07  -- max_version
    ∷ []

-- what the answer to an ApiVersions is sent as
abbrev pub ApiVersionsResponseFrame : Encoder → Type 0
ApiVersionsResponseFrame encode =
    encode (pos 0x01020332)
    (replies.ApiVersions (record {
      error = errors.UnsupportedVersion;
      apis = record { key = pos 26; min = pos 0; max = pos 5 }
          ∷ record { key = pos 9; min = pos 6; max = pos 7 }
          ∷ [];
    }))
    ≡ api_versions_response

-- ---- SaslAuthenticate Request, version 0

-- PLAIN: an empty identity, a name and a password
abbrev pub sasl_authenticate_request : List ℕ
sasl_authenticate_request =
    0x00 ∷ 0x24  -- request_api_key
    ∷ 0x00 ∷ 0x00  -- request_api_version
    ∷ 0x01 ∷ 0x02 ∷ 0x03 ∷ 0x31  -- correlation_id
    ∷ 0x00 ∷ 0x01 ∷ 0x63  -- client_id
    ∷ 0x00 ∷ 0x00 ∷ 0x00 ∷ 0x07 ∷ 0x00 ∷ 0x61 ∷ 0x6e ∷ 0x6e ∷ 0x00 ∷ 0x70  -- auth_bytes
    ∷ 0x77
    ∷ []

-- what the frame of a SaslAuthenticate is read as
abbrev pub SaslAuthenticateRequestFrame : Decoder → Type 0
SaslAuthenticateRequestFrame decode =
    decode sasl_authenticate_request ≡ Ok (
      record {
        key = pos 36;
        version = pos 0;
        correlation = pos 0x01020331;
        client = Some (text "c");
      },
      requests.SaslAuthenticate (record {
        auth = 0x00 ∷ 0x61 ∷ 0x6e ∷ 0x6e ∷ 0x00 ∷ 0x70 ∷ 0x77 ∷ [];
      }),
    )

-- ---- SaslAuthenticate Response, version 0

-- the answer to a SaslAuthenticate
abbrev pub sasl_authenticate_response : List ℕ
sasl_authenticate_response =
    0x00 ∷ 0x00 ∷ 0x00 ∷ 0x0e  -- size
    ∷ 0x01 ∷ 0x02 ∷ 0x03 ∷ 0x31  -- correlation_id
    ∷ 0x00 ∷ 0x3a  -- error_code
    ∷ 0xff ∷ 0xff  -- error_message
    ∷ 0x00 ∷ 0x00 ∷ 0x00 ∷ 0x02 ∷ 0xca ∷ 0xfe  -- auth_bytes
    ∷ []

-- the answer to a SaslAuthenticate
abbrev pub told_sasl_authenticate_response : List ℕ
told_sasl_authenticate_response =
    0x00 ∷ 0x00 ∷ 0x00 ∷ 0x0d  -- size
    ∷ 0x00 ∷ 0x00 ∷ 0x00 ∷ 0x0f  -- correlation_id
    ∷ 0x00 ∷ 0x00  -- error_code
    ∷ 0x00 ∷ 0x01 ∷ 0x6d  -- error_message
    ∷ 0x00 ∷ 0x00 ∷ 0x00 ∷ 0x00  -- auth_bytes
    ∷ []

-- what the answers to a SaslAuthenticate are sent as
pub record SaslAuthenticateResponseFrames (encode : Encoder) : Type 0 where
  pub refusal : encode (pos 0x01020331)
      (replies.SaslAuthenticate (record {
        error = errors.SaslAuthenticationFailed;
        message = None;
        auth = 0xca ∷ 0xfe ∷ [];
      }))
      ≡ sasl_authenticate_response
  pub message : encode (pos 15)
      (replies.SaslAuthenticate (record {
        error = errors.None;
        message = Some (text "m");
        auth = [];
      }))
      ≡ told_sasl_authenticate_response
