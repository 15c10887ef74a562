-- The grammars of the CreateAcls messages, version 1 (Kafka protocol guide, "CreateAcls API (Key:
-- 30)").
use Rattle.std.specs.Prelude.{ℕ, List, refl}
use Rattle.std.specs.List.{flat_map}
use Rattle.wire_types.specs.Grammar.{Grammar}
use Rattle.wire_types.specs.Combinators.{◌⨟◌, struct}
use Rattle.wire_types.specs.Schema.{array, nullable_string, int32}
use Rattle.wire_types.specs.ErrorCode.{error_code}
use Rattle.wire_types.specs.Strings.{text_of}
use Rattle.msg_acl.specs.Entries.{binding_entry}
use Rattle.msg_acl.specs.declared.create_acls.CreateAclsRequest.{CreateAclsRequest}
use Rattle.msg_acl.specs.declared.create_acls.CreatedAcl.{CreatedAcl}
use Rattle.msg_acl.specs.declared.create_acls.CreateAclsReply.{CreateAclsReply}

-- CreateAcls Request => [creations]
abbrev pub create_acls_request : Grammar CreateAclsRequest
create_acls_request = struct
    (λ creations. record { creations = creations })
    (λ c. c.creations)
    (λ x. refl) (λ c. refl)
    (array binding_entry)

-- results => error_code error_message
abbrev pub created_acl : Grammar CreatedAcl
created_acl = struct
    (λ (error, message). record { error = error; message = message })
    (λ c. (c.error, c.message))
    (λ x. refl) (λ c. refl)
    (error_code  -- error_code
    ⨟ nullable_string)  -- error_message

-- CreateAcls Response => throttle_time_ms [results]
abbrev pub create_acls_reply : Grammar CreateAclsReply
create_acls_reply = struct
    (λ (throttle, results). record { throttle = throttle; results = results })
    (λ c. (c.throttle, c.results))
    (λ x. refl) (λ c. refl)
    (int32  -- throttle_time_ms
    ⨟ array created_acl)  -- results

-- ---- the texts of an answer after a length of two bytes

abbrev pub created_acl_strings : CreatedAcl → List (List ℕ)
created_acl_strings c = text_of c.message

abbrev pub create_acls_strings : CreateAclsReply → List (List ℕ)
create_acls_strings c = flat_map created_acl_strings c.results
