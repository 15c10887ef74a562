-- The grammars of the DescribeAcls messages, version 1 (Kafka protocol guide, "DescribeAcls API
-- (Key: 29)").
use Rattle.std.specs.Prelude.{ℕ, List, [], ◌∷◌, ◌++◌, refl}
use Rattle.std.specs.List.{flat_map}
use Rattle.wire_types.specs.Grammar.{Grammar}
use Rattle.wire_types.specs.Combinators.{◌⨟◌, struct}
use Rattle.wire_types.specs.Schema.{string, int8, array, int32, nullable_string}
use Rattle.wire_types.specs.ErrorCode.{error_code}
use Rattle.wire_types.specs.Strings.{text_of}
use Rattle.msg_acl.specs.Entries.{filter_entry}
use Rattle.msg_acl.specs.declared.describe_acls.DescribeAclsRequest.{DescribeAclsRequest}
use Rattle.msg_acl.specs.declared.describe_acls.DescribedAcl.{DescribedAcl}
use Rattle.msg_acl.specs.declared.describe_acls.DescribedResource.{DescribedResource}
use Rattle.msg_acl.specs.declared.describe_acls.DescribeAclsReply.{DescribeAclsReply}

-- DescribeAcls Request => the fields of a filter
abbrev pub describe_acls_request : Grammar DescribeAclsRequest
describe_acls_request = struct
    (λ filter. record { filter = filter })
    (λ d. d.filter)
    (λ x. refl) (λ d. refl)
    filter_entry

-- acls => principal host operation permission_type
abbrev pub described_acl : Grammar DescribedAcl
described_acl = struct
    (λ (principal, (host, (operation, permission))).
    record { principal = principal; host = host; operation = operation; permission = permission })
    (λ d. (d.principal, (d.host, (d.operation, d.permission))))
    (λ x. refl) (λ d. refl)
    (string  -- principal
    ⨟ string  -- host
    ⨟ int8  -- operation
    ⨟ int8)  -- permission_type

-- resources => resource_type resource_name pattern_type [acls]
abbrev pub described_resource : Grammar DescribedResource
described_resource = struct
    (λ (kind, (name, (pattern, acls))).
    record { kind = kind; name = name; pattern = pattern; acls = acls })
    (λ d. (d.kind, (d.name, (d.pattern, d.acls))))
    (λ x. refl) (λ d. refl)
    (int8  -- resource_type
    ⨟ string  -- resource_name
    ⨟ int8  -- pattern_type
    ⨟ array described_acl)  -- acls

-- DescribeAcls Response => throttle_time_ms error_code error_message [resources]
abbrev pub describe_acls_reply : Grammar DescribeAclsReply
describe_acls_reply = struct
    (λ (throttle, (error, (message, resources))).
    record { throttle = throttle; error = error; message = message; resources = resources })
    (λ d. (d.throttle, (d.error, (d.message, d.resources))))
    (λ x. refl) (λ d. refl)
    (int32  -- throttle_time_ms
    ⨟ error_code  -- error_code
    ⨟ nullable_string  -- error_message
    ⨟ array described_resource)  -- resources

-- ---- the texts of an answer after a length of two bytes

abbrev pub described_acl_strings : DescribedAcl → List (List ℕ)
described_acl_strings d = d.principal ∷ d.host ∷ []

abbrev pub described_resource_strings : DescribedResource → List (List ℕ)
described_resource_strings d = d.name ∷ flat_map described_acl_strings d.acls

abbrev pub describe_acls_strings : DescribeAclsReply → List (List ℕ)
describe_acls_strings d = text_of d.message ++ flat_map described_resource_strings d.resources
