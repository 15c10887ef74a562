-- Frames of CreateAcls, DeleteAcls and DescribeAcls with each word of a binding and of a filter,
-- and the bindings and filters that they ask for (Kafka, ResourceType, PatternType, AclOperation
-- and AclPermissionType; KIP-140, KIP-290). The bytes are those of kafka-python 2.0.2, whose
-- structs were given the same values.
use Rattle.std.specs.Prelude.{◌≡◌, ℕ, List, [], ◌∷◌, map, Option, Some, None, Result, Ok, Err, codes as text}
use Rattle.wire_types.specs.declared.fault.Malformed.{Malformed}
use Rattle.acl_binding.specs.declared.words.Kind.TheVariants as kinds
use Rattle.acl_binding.specs.declared.words.Pattern.TheVariants as patterns
use Rattle.acl_binding.specs.declared.words.Operation.TheVariants as operation
use Rattle.acl_binding.specs.declared.words.Permission.TheVariants as permissions
use Rattle.acl_binding.specs.declared.filter.FilterPattern.TheVariants as wanted
use Rattle.acl_binding.specs.declared.binding.Binding.{Binding}
use Rattle.acl_binding.specs.declared.filter.Filter.{Filter}
use Rattle.acl_binding.specs.Entries.{binding_of, filter_of}
use Rattle.msg_admin.specs.declared.header.Header.{Header}
use Rattle.msg_admin.specs.declared.request.Request.{Request}
use Rattle.msg_admin.specs.declared.request.Request.TheVariants as requests
use Rattle.msg_admin.specs.Request.{request_at}

-- ---- frames

-- a CreateAcls with each operation, and each of the other words
abbrev pub create_each_operation : List ℕ
create_each_operation =
    0x00 ∷ 0x1e  -- request_api_key
    ∷ 0x00 ∷ 0x01  -- request_api_version
    ∷ 0x00 ∷ 0x00 ∷ 0x00 ∷ 0x01  -- correlation_id
    ∷ 0xff ∷ 0xff  -- client_id
    ∷ 0x00 ∷ 0x00 ∷ 0x00 ∷ 0x0b  -- [creations]
    ∷ 0x02  -- resource_type
    ∷ 0x00 ∷ 0x01 ∷ 0x74  -- resource_name
    ∷ 0x03  -- resource_pattern_type
    ∷ 0x00 ∷ 0x06 ∷ 0x55 ∷ 0x73 ∷ 0x65 ∷ 0x72 ∷ 0x3a ∷ 0x61  -- principal
    ∷ 0x00 ∷ 0x01 ∷ 0x2a  -- host
    ∷ 0x02  -- operation
    ∷ 0x02  -- permission_type
    ∷ 0x03  -- resource_type
    ∷ 0x00 ∷ 0x01 ∷ 0x67  -- resource_name
    ∷ 0x04  -- resource_pattern_type
    ∷ 0x00 ∷ 0x06 ∷ 0x55 ∷ 0x73 ∷ 0x65 ∷ 0x72 ∷ 0x3a ∷ 0x61  -- principal
    ∷ 0x00 ∷ 0x01 ∷ 0x2a  -- host
    ∷ 0x03  -- operation
    ∷ 0x03  -- permission_type
    ∷ 0x04  -- resource_type
    ∷ 0x00 ∷ 0x0d ∷ 0x6b ∷ 0x61 ∷ 0x66 ∷ 0x6b ∷ 0x61 ∷ 0x2d ∷ 0x63 ∷ 0x6c  -- resource_name
    ∷ 0x75 ∷ 0x73 ∷ 0x74 ∷ 0x65 ∷ 0x72
    ∷ 0x03  -- resource_pattern_type
    ∷ 0x00 ∷ 0x06 ∷ 0x55 ∷ 0x73 ∷ 0x65 ∷ 0x72 ∷ 0x3a ∷ 0x61  -- principal
    ∷ 0x00 ∷ 0x01 ∷ 0x2a  -- host
    ∷ 0x04  -- operation
    ∷ 0x02  -- permission_type
    ∷ 0x05  -- resource_type
    ∷ 0x00 ∷ 0x01 ∷ 0x78  -- resource_name
    ∷ 0x03  -- resource_pattern_type
    ∷ 0x00 ∷ 0x06 ∷ 0x55 ∷ 0x73 ∷ 0x65 ∷ 0x72 ∷ 0x3a ∷ 0x61  -- principal
    ∷ 0x00 ∷ 0x01 ∷ 0x2a  -- host
    ∷ 0x05  -- operation
    ∷ 0x03  -- permission_type
    ∷ 0x02  -- resource_type
    ∷ 0x00 ∷ 0x01 ∷ 0x74  -- resource_name
    ∷ 0x04  -- resource_pattern_type
    ∷ 0x00 ∷ 0x06 ∷ 0x55 ∷ 0x73 ∷ 0x65 ∷ 0x72 ∷ 0x3a ∷ 0x61  -- principal
    ∷ 0x00 ∷ 0x01 ∷ 0x2a  -- host
    ∷ 0x06  -- operation
    ∷ 0x02  -- permission_type
    ∷ 0x03  -- resource_type
    ∷ 0x00 ∷ 0x01 ∷ 0x67  -- resource_name
    ∷ 0x04  -- resource_pattern_type
    ∷ 0x00 ∷ 0x06 ∷ 0x55 ∷ 0x73 ∷ 0x65 ∷ 0x72 ∷ 0x3a ∷ 0x61  -- principal
    ∷ 0x00 ∷ 0x01 ∷ 0x2a  -- host
    ∷ 0x07  -- operation
    ∷ 0x03  -- permission_type
    ∷ 0x04  -- resource_type
    ∷ 0x00 ∷ 0x0d ∷ 0x6b ∷ 0x61 ∷ 0x66 ∷ 0x6b ∷ 0x61 ∷ 0x2d ∷ 0x63 ∷ 0x6c  -- resource_name
    ∷ 0x75 ∷ 0x73 ∷ 0x74 ∷ 0x65 ∷ 0x72
    ∷ 0x03  -- resource_pattern_type
    ∷ 0x00 ∷ 0x06 ∷ 0x55 ∷ 0x73 ∷ 0x65 ∷ 0x72 ∷ 0x3a ∷ 0x61  -- principal
    ∷ 0x00 ∷ 0x01 ∷ 0x2a  -- host
    ∷ 0x08  -- operation
    ∷ 0x02  -- permission_type
    ∷ 0x05  -- resource_type
    ∷ 0x00 ∷ 0x01 ∷ 0x78  -- resource_name
    ∷ 0x04  -- resource_pattern_type
    ∷ 0x00 ∷ 0x06 ∷ 0x55 ∷ 0x73 ∷ 0x65 ∷ 0x72 ∷ 0x3a ∷ 0x61  -- principal
    ∷ 0x00 ∷ 0x01 ∷ 0x2a  -- host
    ∷ 0x09  -- operation
    ∷ 0x03  -- permission_type
    ∷ 0x02  -- resource_type
    ∷ 0x00 ∷ 0x01 ∷ 0x74  -- resource_name
    ∷ 0x03  -- resource_pattern_type
    ∷ 0x00 ∷ 0x06 ∷ 0x55 ∷ 0x73 ∷ 0x65 ∷ 0x72 ∷ 0x3a ∷ 0x61  -- principal
    ∷ 0x00 ∷ 0x01 ∷ 0x2a  -- host
    ∷ 0x0a  -- operation
    ∷ 0x02  -- permission_type
    ∷ 0x03  -- resource_type
    ∷ 0x00 ∷ 0x01 ∷ 0x67  -- resource_name
    ∷ 0x03  -- resource_pattern_type
    ∷ 0x00 ∷ 0x06 ∷ 0x55 ∷ 0x73 ∷ 0x65 ∷ 0x72 ∷ 0x3a ∷ 0x61  -- principal
    ∷ 0x00 ∷ 0x01 ∷ 0x2a  -- host
    ∷ 0x0b  -- operation
    ∷ 0x03  -- permission_type
    ∷ 0x04  -- resource_type
    ∷ 0x00 ∷ 0x0d ∷ 0x6b ∷ 0x61 ∷ 0x66 ∷ 0x6b ∷ 0x61 ∷ 0x2d ∷ 0x63 ∷ 0x6c  -- resource_name
    ∷ 0x75 ∷ 0x73 ∷ 0x74 ∷ 0x65 ∷ 0x72
    ∷ 0x03  -- resource_pattern_type
    ∷ 0x00 ∷ 0x06 ∷ 0x55 ∷ 0x73 ∷ 0x65 ∷ 0x72 ∷ 0x3a ∷ 0x61  -- principal
    ∷ 0x00 ∷ 0x01 ∷ 0x2a  -- host
    ∷ 0x0c  -- operation
    ∷ 0x02  -- permission_type
    ∷ []

-- a CreateAcls whose creations are no bindings: ANY, MATCH, or a number beyond the words
abbrev pub create_no_binding : List ℕ
create_no_binding =
    0x00 ∷ 0x1e  -- request_api_key
    ∷ 0x00 ∷ 0x01  -- request_api_version
    ∷ 0x00 ∷ 0x00 ∷ 0x00 ∷ 0x02  -- correlation_id
    ∷ 0xff ∷ 0xff  -- client_id
    ∷ 0x00 ∷ 0x00 ∷ 0x00 ∷ 0x08  -- [creations]
    ∷ 0x01  -- resource_type
    ∷ 0x00 ∷ 0x01 ∷ 0x74  -- resource_name
    ∷ 0x03  -- resource_pattern_type
    ∷ 0x00 ∷ 0x06 ∷ 0x55 ∷ 0x73 ∷ 0x65 ∷ 0x72 ∷ 0x3a ∷ 0x61  -- principal
    ∷ 0x00 ∷ 0x01 ∷ 0x2a  -- host
    ∷ 0x03  -- operation
    ∷ 0x03  -- permission_type
    ∷ 0x06  -- resource_type
    ∷ 0x00 ∷ 0x01 ∷ 0x74  -- resource_name
    ∷ 0x03  -- resource_pattern_type
    ∷ 0x00 ∷ 0x06 ∷ 0x55 ∷ 0x73 ∷ 0x65 ∷ 0x72 ∷ 0x3a ∷ 0x61  -- principal
    ∷ 0x00 ∷ 0x01 ∷ 0x2a  -- host
    ∷ 0x03  -- operation
    ∷ 0x03  -- permission_type
    ∷ 0x02  -- resource_type
    ∷ 0x00 ∷ 0x01 ∷ 0x74  -- resource_name
    ∷ 0x01  -- resource_pattern_type
    ∷ 0x00 ∷ 0x06 ∷ 0x55 ∷ 0x73 ∷ 0x65 ∷ 0x72 ∷ 0x3a ∷ 0x61  -- principal
    ∷ 0x00 ∷ 0x01 ∷ 0x2a  -- host
    ∷ 0x03  -- operation
    ∷ 0x03  -- permission_type
    ∷ 0x02  -- resource_type
    ∷ 0x00 ∷ 0x01 ∷ 0x74  -- resource_name
    ∷ 0x02  -- resource_pattern_type
    ∷ 0x00 ∷ 0x06 ∷ 0x55 ∷ 0x73 ∷ 0x65 ∷ 0x72 ∷ 0x3a ∷ 0x61  -- principal
    ∷ 0x00 ∷ 0x01 ∷ 0x2a  -- host
    ∷ 0x03  -- operation
    ∷ 0x03  -- permission_type
    ∷ 0x02  -- resource_type
    ∷ 0x00 ∷ 0x01 ∷ 0x74  -- resource_name
    ∷ 0x03  -- resource_pattern_type
    ∷ 0x00 ∷ 0x06 ∷ 0x55 ∷ 0x73 ∷ 0x65 ∷ 0x72 ∷ 0x3a ∷ 0x61  -- principal
    ∷ 0x00 ∷ 0x01 ∷ 0x2a  -- host
    ∷ 0x01  -- operation
    ∷ 0x03  -- permission_type
    ∷ 0x02  -- resource_type
    ∷ 0x00 ∷ 0x01 ∷ 0x74  -- resource_name
    ∷ 0x03  -- resource_pattern_type
    ∷ 0x00 ∷ 0x06 ∷ 0x55 ∷ 0x73 ∷ 0x65 ∷ 0x72 ∷ 0x3a ∷ 0x61  -- principal
    ∷ 0x00 ∷ 0x01 ∷ 0x2a  -- host
    ∷ 0x0d  -- operation
    ∷ 0x03  -- permission_type
    ∷ 0x02  -- resource_type
    ∷ 0x00 ∷ 0x01 ∷ 0x74  -- resource_name
    ∷ 0x03  -- resource_pattern_type
    ∷ 0x00 ∷ 0x06 ∷ 0x55 ∷ 0x73 ∷ 0x65 ∷ 0x72 ∷ 0x3a ∷ 0x61  -- principal
    ∷ 0x00 ∷ 0x01 ∷ 0x2a  -- host
    ∷ 0x03  -- operation
    ∷ 0x01  -- permission_type
    ∷ 0x02  -- resource_type
    ∷ 0x00 ∷ 0x01 ∷ 0x74  -- resource_name
    ∷ 0x03  -- resource_pattern_type
    ∷ 0x00 ∷ 0x06 ∷ 0x55 ∷ 0x73 ∷ 0x65 ∷ 0x72 ∷ 0x3a ∷ 0x61  -- principal
    ∷ 0x00 ∷ 0x01 ∷ 0x2a  -- host
    ∷ 0x03  -- operation
    ∷ 0x04  -- permission_type
    ∷ []

-- a CreateAcls of bindings that may not be: without a name, of a cluster of another name, of a
-- principal that is no user or has no name, and without a host
abbrev pub create_what_may_not_be : List ℕ
create_what_may_not_be =
    0x00 ∷ 0x1e  -- request_api_key
    ∷ 0x00 ∷ 0x01  -- request_api_version
    ∷ 0x00 ∷ 0x00 ∷ 0x00 ∷ 0x06  -- correlation_id
    ∷ 0xff ∷ 0xff  -- client_id
    ∷ 0x00 ∷ 0x00 ∷ 0x00 ∷ 0x05  -- [creations]
    ∷ 0x02  -- resource_type
    ∷ 0x00 ∷ 0x00  -- resource_name
    ∷ 0x03  -- resource_pattern_type
    ∷ 0x00 ∷ 0x06 ∷ 0x55 ∷ 0x73 ∷ 0x65 ∷ 0x72 ∷ 0x3a ∷ 0x61  -- principal
    ∷ 0x00 ∷ 0x01 ∷ 0x2a  -- host
    ∷ 0x03  -- operation
    ∷ 0x03  -- permission_type
    ∷ 0x04  -- resource_type
    ∷ 0x00 ∷ 0x01 ∷ 0x74  -- resource_name
    ∷ 0x03  -- resource_pattern_type
    ∷ 0x00 ∷ 0x06 ∷ 0x55 ∷ 0x73 ∷ 0x65 ∷ 0x72 ∷ 0x3a ∷ 0x61  -- principal
    ∷ 0x00 ∷ 0x01 ∷ 0x2a  -- host
    ∷ 0x03  -- operation
    ∷ 0x03  -- permission_type
    ∷ 0x02  -- resource_type
    ∷ 0x00 ∷ 0x01 ∷ 0x74  -- resource_name
    ∷ 0x03  -- resource_pattern_type
    ∷ 0x00 ∷ 0x07 ∷ 0x47 ∷ 0x72 ∷ 0x6f ∷ 0x75 ∷ 0x70 ∷ 0x3a ∷ 0x61  -- principal
    ∷ 0x00 ∷ 0x01 ∷ 0x2a  -- host
    ∷ 0x03  -- operation
    ∷ 0x03  -- permission_type
    ∷ 0x02  -- resource_type
    ∷ 0x00 ∷ 0x01 ∷ 0x74  -- resource_name
    ∷ 0x03  -- resource_pattern_type
    ∷ 0x00 ∷ 0x05 ∷ 0x55 ∷ 0x73 ∷ 0x65 ∷ 0x72 ∷ 0x3a  -- principal
    ∷ 0x00 ∷ 0x01 ∷ 0x2a  -- host
    ∷ 0x03  -- operation
    ∷ 0x03  -- permission_type
    ∷ 0x02  -- resource_type
    ∷ 0x00 ∷ 0x01 ∷ 0x74  -- resource_name
    ∷ 0x03  -- resource_pattern_type
    ∷ 0x00 ∷ 0x06 ∷ 0x55 ∷ 0x73 ∷ 0x65 ∷ 0x72 ∷ 0x3a ∷ 0x61  -- principal
    ∷ 0x00 ∷ 0x00  -- host
    ∷ 0x03  -- operation
    ∷ 0x03  -- permission_type
    ∷ []

-- a DeleteAcls with a filter for any operation and for each, and each of the other words
abbrev pub delete_each_operation : List ℕ
delete_each_operation =
    0x00 ∷ 0x1f  -- request_api_key
    ∷ 0x00 ∷ 0x01  -- request_api_version
    ∷ 0x00 ∷ 0x00 ∷ 0x00 ∷ 0x03  -- correlation_id
    ∷ 0xff ∷ 0xff  -- client_id
    ∷ 0x00 ∷ 0x00 ∷ 0x00 ∷ 0x0c  -- [filters]
    ∷ 0x01  -- resource_type_filter
    ∷ 0xff ∷ 0xff  -- resource_name_filter
    ∷ 0x01  -- pattern_type_filter
    ∷ 0xff ∷ 0xff  -- principal_filter
    ∷ 0xff ∷ 0xff  -- host_filter
    ∷ 0x01  -- operation
    ∷ 0x01  -- permission_type
    ∷ 0x02  -- resource_type_filter
    ∷ 0xff ∷ 0xff  -- resource_name_filter
    ∷ 0x02  -- pattern_type_filter
    ∷ 0xff ∷ 0xff  -- principal_filter
    ∷ 0xff ∷ 0xff  -- host_filter
    ∷ 0x02  -- operation
    ∷ 0x02  -- permission_type
    ∷ 0x03  -- resource_type_filter
    ∷ 0xff ∷ 0xff  -- resource_name_filter
    ∷ 0x03  -- pattern_type_filter
    ∷ 0xff ∷ 0xff  -- principal_filter
    ∷ 0xff ∷ 0xff  -- host_filter
    ∷ 0x03  -- operation
    ∷ 0x03  -- permission_type
    ∷ 0x04  -- resource_type_filter
    ∷ 0xff ∷ 0xff  -- resource_name_filter
    ∷ 0x04  -- pattern_type_filter
    ∷ 0xff ∷ 0xff  -- principal_filter
    ∷ 0xff ∷ 0xff  -- host_filter
    ∷ 0x04  -- operation
    ∷ 0x01  -- permission_type
    ∷ 0x05  -- resource_type_filter
    ∷ 0xff ∷ 0xff  -- resource_name_filter
    ∷ 0x01  -- pattern_type_filter
    ∷ 0xff ∷ 0xff  -- principal_filter
    ∷ 0xff ∷ 0xff  -- host_filter
    ∷ 0x05  -- operation
    ∷ 0x02  -- permission_type
    ∷ 0x01  -- resource_type_filter
    ∷ 0xff ∷ 0xff  -- resource_name_filter
    ∷ 0x02  -- pattern_type_filter
    ∷ 0xff ∷ 0xff  -- principal_filter
    ∷ 0xff ∷ 0xff  -- host_filter
    ∷ 0x06  -- operation
    ∷ 0x03  -- permission_type
    ∷ 0x02  -- resource_type_filter
    ∷ 0xff ∷ 0xff  -- resource_name_filter
    ∷ 0x03  -- pattern_type_filter
    ∷ 0xff ∷ 0xff  -- principal_filter
    ∷ 0xff ∷ 0xff  -- host_filter
    ∷ 0x07  -- operation
    ∷ 0x01  -- permission_type
    ∷ 0x03  -- resource_type_filter
    ∷ 0xff ∷ 0xff  -- resource_name_filter
    ∷ 0x04  -- pattern_type_filter
    ∷ 0xff ∷ 0xff  -- principal_filter
    ∷ 0xff ∷ 0xff  -- host_filter
    ∷ 0x08  -- operation
    ∷ 0x02  -- permission_type
    ∷ 0x04  -- resource_type_filter
    ∷ 0xff ∷ 0xff  -- resource_name_filter
    ∷ 0x01  -- pattern_type_filter
    ∷ 0xff ∷ 0xff  -- principal_filter
    ∷ 0xff ∷ 0xff  -- host_filter
    ∷ 0x09  -- operation
    ∷ 0x03  -- permission_type
    ∷ 0x05  -- resource_type_filter
    ∷ 0xff ∷ 0xff  -- resource_name_filter
    ∷ 0x02  -- pattern_type_filter
    ∷ 0xff ∷ 0xff  -- principal_filter
    ∷ 0xff ∷ 0xff  -- host_filter
    ∷ 0x0a  -- operation
    ∷ 0x01  -- permission_type
    ∷ 0x01  -- resource_type_filter
    ∷ 0xff ∷ 0xff  -- resource_name_filter
    ∷ 0x03  -- pattern_type_filter
    ∷ 0xff ∷ 0xff  -- principal_filter
    ∷ 0xff ∷ 0xff  -- host_filter
    ∷ 0x0b  -- operation
    ∷ 0x02  -- permission_type
    ∷ 0x02  -- resource_type_filter
    ∷ 0xff ∷ 0xff  -- resource_name_filter
    ∷ 0x04  -- pattern_type_filter
    ∷ 0xff ∷ 0xff  -- principal_filter
    ∷ 0xff ∷ 0xff  -- host_filter
    ∷ 0x0c  -- operation
    ∷ 0x03  -- permission_type
    ∷ []

-- a DeleteAcls whose filters are none: 0 (UNKNOWN), or a number beyond the words
abbrev pub delete_by_no_filter : List ℕ
delete_by_no_filter =
    0x00 ∷ 0x1f  -- request_api_key
    ∷ 0x00 ∷ 0x01  -- request_api_version
    ∷ 0x00 ∷ 0x00 ∷ 0x00 ∷ 0x04  -- correlation_id
    ∷ 0xff ∷ 0xff  -- client_id
    ∷ 0x00 ∷ 0x00 ∷ 0x00 ∷ 0x07  -- [filters]
    ∷ 0x00  -- resource_type_filter
    ∷ 0xff ∷ 0xff  -- resource_name_filter
    ∷ 0x01  -- pattern_type_filter
    ∷ 0xff ∷ 0xff  -- principal_filter
    ∷ 0xff ∷ 0xff  -- host_filter
    ∷ 0x01  -- operation
    ∷ 0x01  -- permission_type
    ∷ 0x01  -- resource_type_filter
    ∷ 0xff ∷ 0xff  -- resource_name_filter
    ∷ 0x00  -- pattern_type_filter
    ∷ 0xff ∷ 0xff  -- principal_filter
    ∷ 0xff ∷ 0xff  -- host_filter
    ∷ 0x01  -- operation
    ∷ 0x01  -- permission_type
    ∷ 0x01  -- resource_type_filter
    ∷ 0xff ∷ 0xff  -- resource_name_filter
    ∷ 0x05  -- pattern_type_filter
    ∷ 0xff ∷ 0xff  -- principal_filter
    ∷ 0xff ∷ 0xff  -- host_filter
    ∷ 0x01  -- operation
    ∷ 0x01  -- permission_type
    ∷ 0x01  -- resource_type_filter
    ∷ 0xff ∷ 0xff  -- resource_name_filter
    ∷ 0x01  -- pattern_type_filter
    ∷ 0xff ∷ 0xff  -- principal_filter
    ∷ 0xff ∷ 0xff  -- host_filter
    ∷ 0x00  -- operation
    ∷ 0x01  -- permission_type
    ∷ 0x01  -- resource_type_filter
    ∷ 0xff ∷ 0xff  -- resource_name_filter
    ∷ 0x01  -- pattern_type_filter
    ∷ 0xff ∷ 0xff  -- principal_filter
    ∷ 0xff ∷ 0xff  -- host_filter
    ∷ 0x0d  -- operation
    ∷ 0x01  -- permission_type
    ∷ 0x01  -- resource_type_filter
    ∷ 0xff ∷ 0xff  -- resource_name_filter
    ∷ 0x01  -- pattern_type_filter
    ∷ 0xff ∷ 0xff  -- principal_filter
    ∷ 0xff ∷ 0xff  -- host_filter
    ∷ 0x01  -- operation
    ∷ 0x00  -- permission_type
    ∷ 0x01  -- resource_type_filter
    ∷ 0xff ∷ 0xff  -- resource_name_filter
    ∷ 0x01  -- pattern_type_filter
    ∷ 0xff ∷ 0xff  -- principal_filter
    ∷ 0xff ∷ 0xff  -- host_filter
    ∷ 0x01  -- operation
    ∷ 0x04  -- permission_type
    ∷ []

-- a DescribeAcls
abbrev pub describe_prefixed : List ℕ
describe_prefixed =
    0x00 ∷ 0x1d  -- request_api_key
    ∷ 0x00 ∷ 0x01  -- request_api_version
    ∷ 0x00 ∷ 0x00 ∷ 0x00 ∷ 0x05  -- correlation_id
    ∷ 0xff ∷ 0xff  -- client_id
    ∷ 0x03  -- resource_type_filter
    ∷ 0x00 ∷ 0x03 ∷ 0x61 ∷ 0x70 ∷ 0x70  -- resource_name_filter
    ∷ 0x04  -- pattern_type_filter
    ∷ 0x00 ∷ 0x06 ∷ 0x55 ∷ 0x73 ∷ 0x65 ∷ 0x72 ∷ 0x3a ∷ 0x61  -- principal_filter
    ∷ 0x00 ∷ 0x01 ∷ 0x68  -- host_filter
    ∷ 0x07  -- operation
    ∷ 0x02  -- permission_type
    ∷ []

-- ---- which bindings and filters they ask for

-- the bindings that the bytes of a CreateAcls ask for, None for each creation that is none
abbrev pub BindingsRule : Type 0
BindingsRule = List ℕ → List (Option Binding)

-- the filters that the bytes of a DeleteAcls or a DescribeAcls ask for, None for each that is none
abbrev pub FiltersRule : Type 0
FiltersRule = List ℕ → List (Option Filter)

-- the bindings that a request asks for
abbrev bindings_in : Request → List (Option Binding)
bindings_in (requests.CreateAcls r) = map binding_of r.creations
bindings_in r = []

-- the filters that a request asks for
abbrev filters_in : Request → List (Option Filter)
filters_in (requests.DeleteAcls r) = map filter_of r.filters
filters_in (requests.DescribeAcls r) = filter_of r.filter ∷ []
filters_in r = []

-- what is read of a frame, if it is a request
abbrev pub asked_by : {A : Type 0} → (Request → List A) → Result (Header × Request) Malformed
    → List A
asked_by f (Ok x) = f x.1
asked_by f (Err fault) = []

-- the bindings of the request that is read
abbrev pub bindings_asked : BindingsRule
bindings_asked bytes = asked_by bindings_in (request_at bytes)

-- the filters of the request that is read
abbrev pub filters_asked : FiltersRule
filters_asked bytes = asked_by filters_in (request_at bytes)

-- a client's bindings are read in these words
pub record AsksForBindings (rule : BindingsRule) : Type 0 where
  pub words : rule create_each_operation
      ≡ (Some (record {
        kind = kinds.Topic;
        name = text "t";
        pattern = patterns.Literal;
        principal = text "User:a";
        host = text "*";
        operation = operation.All;
        permission = permissions.Deny;
      })
      ∷ Some (record {
        kind = kinds.Group;
        name = text "g";
        pattern = patterns.Prefixed;
        principal = text "User:a";
        host = text "*";
        operation = operation.Read;
        permission = permissions.Allow;
      })
      ∷ Some (record {
        kind = kinds.Cluster;
        name = text "kafka-cluster";
        pattern = patterns.Literal;
        principal = text "User:a";
        host = text "*";
        operation = operation.Write;
        permission = permissions.Deny;
      })
      ∷ Some (record {
        kind = kinds.TransactionalId;
        name = text "x";
        pattern = patterns.Literal;
        principal = text "User:a";
        host = text "*";
        operation = operation.Create;
        permission = permissions.Allow;
      })
      ∷ Some (record {
        kind = kinds.Topic;
        name = text "t";
        pattern = patterns.Prefixed;
        principal = text "User:a";
        host = text "*";
        operation = operation.Delete;
        permission = permissions.Deny;
      })
      ∷ Some (record {
        kind = kinds.Group;
        name = text "g";
        pattern = patterns.Prefixed;
        principal = text "User:a";
        host = text "*";
        operation = operation.Alter;
        permission = permissions.Allow;
      })
      ∷ Some (record {
        kind = kinds.Cluster;
        name = text "kafka-cluster";
        pattern = patterns.Literal;
        principal = text "User:a";
        host = text "*";
        operation = operation.Describe;
        permission = permissions.Deny;
      })
      ∷ Some (record {
        kind = kinds.TransactionalId;
        name = text "x";
        pattern = patterns.Prefixed;
        principal = text "User:a";
        host = text "*";
        operation = operation.ClusterAction;
        permission = permissions.Allow;
      })
      ∷ Some (record {
        kind = kinds.Topic;
        name = text "t";
        pattern = patterns.Literal;
        principal = text "User:a";
        host = text "*";
        operation = operation.DescribeConfigs;
        permission = permissions.Deny;
      })
      ∷ Some (record {
        kind = kinds.Group;
        name = text "g";
        pattern = patterns.Literal;
        principal = text "User:a";
        host = text "*";
        operation = operation.AlterConfigs;
        permission = permissions.Allow;
      })
      ∷ Some (record {
        kind = kinds.Cluster;
        name = text "kafka-cluster";
        pattern = patterns.Literal;
        principal = text "User:a";
        host = text "*";
        operation = operation.IdempotentWrite;
        permission = permissions.Deny;
      })
      ∷ [])
  pub nothing : rule create_no_binding
      ≡ None ∷ None ∷ None ∷ None ∷ None ∷ None ∷ None ∷ None ∷ []
  pub refused : rule create_what_may_not_be ≡ None ∷ None ∷ None ∷ None ∷ None ∷ []

-- a client's filters are read in these words
pub record AsksForFilters (rule : FiltersRule) : Type 0 where
  pub words : rule delete_each_operation
      ≡ (Some (record {
        kind = None;
        name = None;
        pattern = wanted.Any;
        principal = None;
        host = None;
        operation = None;
        permission = None;
      })
      ∷ Some (record {
        kind = Some kinds.Topic;
        name = None;
        pattern = wanted.Match;
        principal = None;
        host = None;
        operation = Some operation.All;
        permission = Some permissions.Deny;
      })
      ∷ Some (record {
        kind = Some kinds.Group;
        name = None;
        pattern = wanted.Literal;
        principal = None;
        host = None;
        operation = Some operation.Read;
        permission = Some permissions.Allow;
      })
      ∷ Some (record {
        kind = Some kinds.Cluster;
        name = None;
        pattern = wanted.Prefixed;
        principal = None;
        host = None;
        operation = Some operation.Write;
        permission = None;
      })
      ∷ Some (record {
        kind = Some kinds.TransactionalId;
        name = None;
        pattern = wanted.Any;
        principal = None;
        host = None;
        operation = Some operation.Create;
        permission = Some permissions.Deny;
      })
      ∷ Some (record {
        kind = None;
        name = None;
        pattern = wanted.Match;
        principal = None;
        host = None;
        operation = Some operation.Delete;
        permission = Some permissions.Allow;
      })
      ∷ Some (record {
        kind = Some kinds.Topic;
        name = None;
        pattern = wanted.Literal;
        principal = None;
        host = None;
        operation = Some operation.Alter;
        permission = None;
      })
      ∷ Some (record {
        kind = Some kinds.Group;
        name = None;
        pattern = wanted.Prefixed;
        principal = None;
        host = None;
        operation = Some operation.Describe;
        permission = Some permissions.Deny;
      })
      ∷ Some (record {
        kind = Some kinds.Cluster;
        name = None;
        pattern = wanted.Any;
        principal = None;
        host = None;
        operation = Some operation.ClusterAction;
        permission = Some permissions.Allow;
      })
      ∷ Some (record {
        kind = Some kinds.TransactionalId;
        name = None;
        pattern = wanted.Match;
        principal = None;
        host = None;
        operation = Some operation.DescribeConfigs;
        permission = None;
      })
      ∷ Some (record {
        kind = None;
        name = None;
        pattern = wanted.Literal;
        principal = None;
        host = None;
        operation = Some operation.AlterConfigs;
        permission = Some permissions.Deny;
      })
      ∷ Some (record {
        kind = Some kinds.Topic;
        name = None;
        pattern = wanted.Prefixed;
        principal = None;
        host = None;
        operation = Some operation.IdempotentWrite;
        permission = Some permissions.Allow;
      })
      ∷ [])
  pub nothing : rule delete_by_no_filter ≡ None ∷ None ∷ None ∷ None ∷ None ∷ None ∷ None ∷ []
  pub described : rule describe_prefixed
      ≡ Some (record {
        kind = Some kinds.Group;
        name = Some (text "app");
        pattern = wanted.Prefixed;
        principal = Some (text "User:a");
        host = Some (text "h");
        operation = Some operation.Alter;
        permission = Some permissions.Deny;
      }) ∷ []
