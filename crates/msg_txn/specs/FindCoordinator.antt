-- The grammars of the FindCoordinator messages, version 1 (Kafka protocol guide, "FindCoordinator
-- API (Key: 10)").
use Rattle.std.specs.Prelude.{ℕ, List, [], ◌∷◌, ◌++◌, refl}
use Rattle.wire_types.specs.Grammar.{Grammar}
use Rattle.wire_types.specs.Combinators.{struct, ◌⨟◌}
use Rattle.wire_types.specs.Schema.{int8, int32, string, nullable_string}
use Rattle.wire_types.specs.ErrorCode.{error_code}
use Rattle.wire_types.specs.Strings.{text_of}
use Rattle.msg_txn.specs.declared.find_coordinator.FindCoordinatorRequest.{FindCoordinatorRequest}
use Rattle.msg_txn.specs.declared.find_coordinator.FindCoordinatorReply.{FindCoordinatorReply}

-- FindCoordinator Request => key key_type
abbrev pub find_coordinator_request : Grammar FindCoordinatorRequest
find_coordinator_request = struct
    (λ (key, key_type). record { key = key; key_type = key_type })
    (λ r. (r.key, r.key_type))
    (λ x. refl) (λ r. refl)
    (string  -- key
    ⨟ int8)  -- key_type

-- FindCoordinator Response => throttle_time_ms error_code error_message node_id host port
abbrev pub find_coordinator_reply : Grammar FindCoordinatorReply
find_coordinator_reply = struct
    (λ (throttle, (error, (message, (node, (host, port))))). record {
      throttle = throttle;
      error = error;
      message = message;
      node = node;
      host = host;
      port = port;
    })
    (λ r. (r.throttle, (r.error, (r.message, (r.node, (r.host, r.port))))))
    (λ x. refl) (λ r. refl)
    (int32  -- throttle_time_ms
    ⨟ error_code  -- error_code
    ⨟ nullable_string  -- error_message
    ⨟ int32  -- node_id
    ⨟ string  -- host
    ⨟ int32)  -- port

-- ---- the texts of an answer

abbrev pub find_coordinator_strings : FindCoordinatorReply → List (List ℕ)
find_coordinator_strings r = text_of r.message ++ r.host ∷ []
