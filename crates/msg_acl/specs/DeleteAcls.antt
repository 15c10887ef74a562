-- The grammars of the DeleteAcls messages, version 1 (Kafka protocol guide, "DeleteAcls API (Key:
-- 31)").
use Rattle.std.specs.Prelude.{ℕ, List, ◌++◌, refl}
use Rattle.std.specs.List.{flat_map}
use Rattle.wire_types.specs.Grammar.{Grammar}
use Rattle.wire_types.specs.Combinators.{◌⨟◌, struct}
use Rattle.wire_types.specs.Schema.{array, nullable_string, int32}
use Rattle.wire_types.specs.ErrorCode.{error_code}
use Rattle.wire_types.specs.Strings.{text_of}
use Rattle.msg_acl.specs.Entries.{binding_entry, filter_entry, binding_strings}
use Rattle.msg_acl.specs.declared.delete_acls.DeleteAclsRequest.{DeleteAclsRequest}
use Rattle.msg_acl.specs.declared.delete_acls.DeletedAcl.{DeletedAcl}
use Rattle.msg_acl.specs.declared.delete_acls.DeletedAcls.{DeletedAcls}
use Rattle.msg_acl.specs.declared.delete_acls.DeleteAclsReply.{DeleteAclsReply}

-- DeleteAcls Request => [filters]
abbrev pub delete_acls_request : Grammar DeleteAclsRequest
delete_acls_request = struct
    (λ filters. record { filters = filters })
    (λ d. d.filters)
    (λ x. refl) (λ d. refl)
    (array filter_entry)

-- matching_acls => error_code error_message and the fields of a binding
abbrev pub deleted_acl : Grammar DeletedAcl
deleted_acl = struct
    (λ (error, (message, binding)). record { error = error; message = message; binding = binding })
    (λ d. (d.error, (d.message, d.binding)))
    (λ x. refl) (λ d. refl)
    (error_code  -- error_code
    ⨟ nullable_string  -- error_message
    ⨟ binding_entry)  -- binding

-- filter_results => error_code error_message [matching_acls]
abbrev pub deleted_acls : Grammar DeletedAcls
deleted_acls = struct
    (λ (error, (message, matches)). record { error = error; message = message; matches = matches })
    (λ d. (d.error, (d.message, d.matches)))
    (λ x. refl) (λ d. refl)
    (error_code  -- error_code
    ⨟ nullable_string  -- error_message
    ⨟ array deleted_acl)  -- matching_acls

-- DeleteAcls Response => throttle_time_ms [filter_results]
abbrev pub delete_acls_reply : Grammar DeleteAclsReply
delete_acls_reply = struct
    (λ (throttle, results). record { throttle = throttle; results = results })
    (λ d. (d.throttle, d.results))
    (λ x. refl) (λ d. refl)
    (int32  -- throttle_time_ms
    ⨟ array deleted_acls)  -- filter_results

-- ---- the texts of an answer after a length of two bytes

abbrev pub deleted_acl_strings : DeletedAcl → List (List ℕ)
deleted_acl_strings d = text_of d.message ++ binding_strings d.binding

abbrev pub deleted_acls_strings : DeletedAcls → List (List ℕ)
deleted_acls_strings d = text_of d.message ++ flat_map deleted_acl_strings d.matches

abbrev pub delete_acls_strings : DeleteAclsReply → List (List ℕ)
delete_acls_strings d = flat_map deleted_acls_strings d.results
