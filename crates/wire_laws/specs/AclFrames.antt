-- Frames of CreateAcls, DescribeAcls and DeleteAcls, byte by byte, and what each spells (Kafka
-- protocol guide, "The Messages"). The bytes are those of kafka-python 2.0.2, whose structs were
-- given the same values.
use Rattle.std.specs.Prelude.{ℕ, pos, List, [], ◌∷◌, Some, None, Ok, ◌≡◌, codes as text}
use Rattle.wire_laws.specs.Frames.{Decoder, Encoder}
use Rattle.wire_types.specs.declared.error_code.ErrorCode.TheVariants as errors
use Rattle.msg_admin.specs.declared.request.Request.TheVariants as requests
use Rattle.msg_admin.specs.declared.reply.Reply.TheVariants as replies

-- ---- DescribeAcls Request, version 1

-- each field is given
abbrev pub describe_acls_request : List ℕ
describe_acls_request =
    0x00 ∷ 0x1d  -- request_api_key
    ∷ 0x00 ∷ 0x01  -- request_api_version
    ∷ 0x01 ∷ 0x02 ∷ 0x03 ∷ 0x09  -- correlation_id
    ∷ 0x00 ∷ 0x01 ∷ 0x63  -- client_id
    ∷ 0x05  -- resource_type_filter
    ∷ 0x00 ∷ 0x01 ∷ 0x78  -- resource_name_filter
    ∷ 0x04  -- pattern_type_filter
    ∷ 0x00 ∷ 0x06 ∷ 0x55 ∷ 0x73 ∷ 0x65 ∷ 0x72 ∷ 0x3a ∷ 0x61  -- principal_filter
    ∷ 0x00 ∷ 0x01 ∷ 0x68  -- host_filter
    ∷ 0x07  -- operation
    ∷ 0x03  -- permission_type
    ∷ []

-- anything at all: 1 for each word, and null for each text
abbrev pub describe_acls_request_for_any : List ℕ
describe_acls_request_for_any =
    0x00 ∷ 0x1d  -- request_api_key
    ∷ 0x00 ∷ 0x01  -- request_api_version
    ∷ 0x00 ∷ 0x00 ∷ 0x00 ∷ 0x0a  -- correlation_id
    ∷ 0x00 ∷ 0x01 ∷ 0x63  -- client_id
    ∷ 0x01  -- resource_type_filter
    ∷ 0xff ∷ 0xff  -- resource_name_filter
    ∷ 0x01  -- pattern_type_filter
    ∷ 0xff ∷ 0xff  -- principal_filter
    ∷ 0xff ∷ 0xff  -- host_filter
    ∷ 0x01  -- operation
    ∷ 0x01  -- permission_type
    ∷ []

-- what the frames of a DescribeAcls are read as
pub record DescribeAclsRequestFrames (decode : Decoder) : Type 0 where
  pub full : decode describe_acls_request ≡ Ok (
    record {
      key = pos 29;
      version = pos 1;
      correlation = pos 0x01020309;
      client = Some (text "c");
    },
    requests.DescribeAcls (record {
      filter = record {
        kind = pos 5;
        name = Some (text "x");
        pattern = pos 4;
        principal = Some (text "User:a");
        host = Some (text "h");
        operation = pos 7;
        permission = pos 3;
      };
    }),
  )
  pub any : decode describe_acls_request_for_any ≡ Ok (
    record { key = pos 29; version = pos 1; correlation = pos 10; client = Some (text "c") },
    requests.DescribeAcls (record {
      filter = record {
        kind = pos 1;
        name = None;
        pattern = pos 1;
        principal = None;
        host = None;
        operation = pos 1;
        permission = pos 1;
      };
    }),
  )

-- ---- DescribeAcls Response, version 1

-- a resource with two bindings, and one without
abbrev pub describe_acls_response : List ℕ
describe_acls_response =
    0x00 ∷ 0x00 ∷ 0x00 ∷ 0x3f  -- size
    ∷ 0x01 ∷ 0x02 ∷ 0x03 ∷ 0x09  -- correlation_id
    ∷ 0x00 ∷ 0x00 ∷ 0x00 ∷ 0x05  -- throttle_time_ms
    ∷ 0x00 ∷ 0x00  -- error_code
    ∷ 0x00 ∷ 0x01 ∷ 0x6d  -- error_message
    ∷ 0x00 ∷ 0x00 ∷ 0x00 ∷ 0x02  -- [resources]
    ∷ 0x03  -- resource_type
    ∷ 0x00 ∷ 0x03 ∷ 0x61 ∷ 0x70 ∷ 0x70  -- resource_name
    ∷ 0x04  -- pattern_type
    ∷ 0x00 ∷ 0x00 ∷ 0x00 ∷ 0x02  -- [acls]
    ∷ 0x00 ∷ 0x06 ∷ 0x55 ∷ 0x73 ∷ 0x65 ∷ 0x72 ∷ 0x3a ∷ 0x61  -- principal
    ∷ 0x00 ∷ 0x01 ∷ 0x68  -- host
    ∷ 0x04  -- operation
    ∷ 0x03  -- permission_type
    ∷ 0x00 ∷ 0x06 ∷ 0x55 ∷ 0x73 ∷ 0x65 ∷ 0x72 ∷ 0x3a ∷ 0x62  -- principal
    ∷ 0x00 ∷ 0x01 ∷ 0x2a  -- host
    ∷ 0x0c  -- operation
    ∷ 0x02  -- permission_type
    ∷ 0x02  -- resource_type
    ∷ 0x00 ∷ 0x01 ∷ 0x74  -- resource_name
    ∷ 0x03  -- pattern_type
    ∷ 0x00 ∷ 0x00 ∷ 0x00 ∷ 0x00  -- [acls]
    ∷ []

-- CLUSTER_AUTHORIZATION_FAILED
abbrev pub describe_acls_refusal : List ℕ
describe_acls_refusal =
    0x00 ∷ 0x00 ∷ 0x00 ∷ 0x10  -- size
    ∷ 0x00 ∷ 0x00 ∷ 0x00 ∷ 0x0a  -- correlation_id
    ∷ 0x00 ∷ 0x00 ∷ 0x00 ∷ 0x06  -- throttle_time_ms
    ∷ 0x00 ∷ 0x1f  -- error_code
    ∷ 0xff ∷ 0xff  -- error_message
    ∷ 0x00 ∷ 0x00 ∷ 0x00 ∷ 0x00  -- [resources]
    ∷ []

-- what the answers to a DescribeAcls are sent as
pub record DescribeAclsResponseFrames (encode : Encoder) : Type 0 where
  pub bindings : encode (pos 0x01020309)
      (replies.DescribeAcls (record {
        throttle = pos 5;
        error = errors.None;
        message = Some (text "m");
        resources = record {
          kind = pos 3;
          name = text "app";
          pattern = pos 4;
          acls = record {
            principal = text "User:a";
            host = text "h";
            operation = pos 4;
            permission = pos 3;
          }
              ∷ record {
                principal = text "User:b";
                host = text "*";
                operation = pos 12;
                permission = pos 2;
              }
              ∷ [];
        }
            ∷ record { kind = pos 2; name = text "t"; pattern = pos 3; acls = [] }
            ∷ [];
      }))
      ≡ describe_acls_response
  pub refusal : encode (pos 10)
      (replies.DescribeAcls (record {
        throttle = pos 6;
        error = errors.ClusterAuthorizationFailed;
        message = None;
        resources = [];
      }))
      ≡ describe_acls_refusal

-- ---- CreateAcls Request, version 1

-- an ALLOW and a DENY, of a group's prefix and of the cluster
abbrev pub create_acls_request : List ℕ
create_acls_request =
    0x00 ∷ 0x1e  -- request_api_key
    ∷ 0x00 ∷ 0x01  -- request_api_version
    ∷ 0x01 ∷ 0x02 ∷ 0x03 ∷ 0x08  -- correlation_id
    ∷ 0x00 ∷ 0x01 ∷ 0x63  -- client_id
    ∷ 0x00 ∷ 0x00 ∷ 0x00 ∷ 0x02  -- [creations]
    ∷ 0x03  -- resource_type
    ∷ 0x00 ∷ 0x03 ∷ 0x61 ∷ 0x70 ∷ 0x70  -- resource_name
    ∷ 0x04  -- resource_pattern_type
    ∷ 0x00 ∷ 0x06 ∷ 0x55 ∷ 0x73 ∷ 0x65 ∷ 0x72 ∷ 0x3a ∷ 0x61  -- principal
    ∷ 0x00 ∷ 0x01 ∷ 0x68  -- host
    ∷ 0x04  -- operation
    ∷ 0x03  -- permission_type
    ∷ 0x04  -- resource_type
    ∷ 0x00 ∷ 0x0d ∷ 0x6b ∷ 0x61 ∷ 0x66 ∷ 0x6b ∷ 0x61 ∷ 0x2d ∷ 0x63 ∷ 0x6c  -- resource_name
    ∷ 0x75 ∷ 0x73 ∷ 0x74 ∷ 0x65 ∷ 0x72
    ∷ 0x03  -- resource_pattern_type
    ∷ 0x00 ∷ 0x06 ∷ 0x55 ∷ 0x73 ∷ 0x65 ∷ 0x72 ∷ 0x3a ∷ 0x62  -- principal
    ∷ 0x00 ∷ 0x01 ∷ 0x2a  -- host
    ∷ 0x0c  -- operation
    ∷ 0x02  -- permission_type
    ∷ []

-- what the frame of a CreateAcls is read as
abbrev pub CreateAclsRequestFrame : Decoder → Type 0
CreateAclsRequestFrame decode =
    decode create_acls_request ≡ Ok (
      record {
        key = pos 30;
        version = pos 1;
        correlation = pos 0x01020308;
        client = Some (text "c");
      },
      requests.CreateAcls (record {
        creations = record {
          kind = pos 3;
          name = text "app";
          pattern = pos 4;
          principal = text "User:a";
          host = text "h";
          operation = pos 4;
          permission = pos 3;
        }
            ∷ record {
              kind = pos 4;
              name = text "kafka-cluster";
              pattern = pos 3;
              principal = text "User:b";
              host = text "*";
              operation = pos 12;
              permission = pos 2;
            }
            ∷ [];
      }),
    )

-- ---- CreateAcls Response, version 1

-- one that was created, and two that weren't
abbrev pub create_acls_response : List ℕ
create_acls_response =
    0x00 ∷ 0x00 ∷ 0x00 ∷ 0x1a  -- size
    ∷ 0x01 ∷ 0x02 ∷ 0x03 ∷ 0x08  -- correlation_id
    ∷ 0x00 ∷ 0x00 ∷ 0x00 ∷ 0x05  -- throttle_time_ms
    ∷ 0x00 ∷ 0x00 ∷ 0x00 ∷ 0x03  -- [results]
    ∷ 0x00 ∷ 0x00  -- error_code
    ∷ 0xff ∷ 0xff  -- error_message
    ∷ 0x00 ∷ 0x2a  -- error_code
    ∷ 0x00 ∷ 0x02 ∷ 0x6e ∷ 0x6f  -- error_message
    ∷ 0x00 ∷ 0x2a  -- error_code
    ∷ 0x00 ∷ 0x00  -- error_message
    ∷ []

-- what the answer to a CreateAcls is sent as
abbrev pub CreateAclsResponseFrame : Encoder → Type 0
CreateAclsResponseFrame encode =
    encode (pos 0x01020308)
    (replies.CreateAcls (record {
      throttle = pos 5;
      results = record { error = errors.None; message = None }
          ∷ record { error = errors.InvalidRequest; message = Some (text "no") }
          ∷ record { error = errors.InvalidRequest; message = Some [] }
          ∷ [];
    }))
    ≡ create_acls_response

-- ---- DeleteAcls Request, version 1

-- three filters, with texts, with null, and with empty texts
abbrev pub delete_acls_request : List ℕ
delete_acls_request =
    0x00 ∷ 0x1f  -- request_api_key
    ∷ 0x00 ∷ 0x01  -- request_api_version
    ∷ 0x01 ∷ 0x02 ∷ 0x03 ∷ 0x0a  -- correlation_id
    ∷ 0x00 ∷ 0x01 ∷ 0x63  -- client_id
    ∷ 0x00 ∷ 0x00 ∷ 0x00 ∷ 0x03  -- [filters]
    ∷ 0x05  -- resource_type_filter
    ∷ 0x00 ∷ 0x01 ∷ 0x78  -- resource_name_filter
    ∷ 0x02  -- pattern_type_filter
    ∷ 0x00 ∷ 0x06 ∷ 0x55 ∷ 0x73 ∷ 0x65 ∷ 0x72 ∷ 0x3a ∷ 0x61  -- principal_filter
    ∷ 0x00 ∷ 0x01 ∷ 0x68  -- host_filter
    ∷ 0x08  -- operation
    ∷ 0x03  -- permission_type
    ∷ 0x03  -- resource_type_filter
    ∷ 0xff ∷ 0xff  -- resource_name_filter
    ∷ 0x03  -- pattern_type_filter
    ∷ 0xff ∷ 0xff  -- principal_filter
    ∷ 0xff ∷ 0xff  -- host_filter
    ∷ 0x0b  -- operation
    ∷ 0x01  -- permission_type
    ∷ 0x01  -- resource_type_filter
    ∷ 0x00 ∷ 0x00  -- resource_name_filter
    ∷ 0x04  -- pattern_type_filter
    ∷ 0x00 ∷ 0x00  -- principal_filter
    ∷ 0x00 ∷ 0x00  -- host_filter
    ∷ 0x02  -- operation
    ∷ 0x03  -- permission_type
    ∷ []

-- what the frame of a DeleteAcls is read as
abbrev pub DeleteAclsRequestFrame : Decoder → Type 0
DeleteAclsRequestFrame decode =
    decode delete_acls_request ≡ Ok (
      record {
        key = pos 31;
        version = pos 1;
        correlation = pos 0x0102030a;
        client = Some (text "c");
      },
      requests.DeleteAcls (record {
        filters = record {
          kind = pos 5;
          name = Some (text "x");
          pattern = pos 2;
          principal = Some (text "User:a");
          host = Some (text "h");
          operation = pos 8;
          permission = pos 3;
        }
            ∷ record {
              kind = pos 3;
              name = None;
              pattern = pos 3;
              principal = None;
              host = None;
              operation = pos 11;
              permission = pos 1;
            }
            ∷ record {
              kind = pos 1;
              name = Some [];
              pattern = pos 4;
              principal = Some [];
              host = Some [];
              operation = pos 2;
              permission = pos 3;
            }
            ∷ [];
      }),
    )

-- ---- DeleteAcls Response, version 1

-- a filter that picked two bindings, and one that is none
abbrev pub delete_acls_response : List ℕ
delete_acls_response =
    0x00 ∷ 0x00 ∷ 0x00 ∷ 0x4b  -- size
    ∷ 0x01 ∷ 0x02 ∷ 0x03 ∷ 0x0a  -- correlation_id
    ∷ 0x00 ∷ 0x00 ∷ 0x00 ∷ 0x05  -- throttle_time_ms
    ∷ 0x00 ∷ 0x00 ∷ 0x00 ∷ 0x02  -- [filter_results]
    ∷ 0x00 ∷ 0x00  -- error_code
    ∷ 0xff ∷ 0xff  -- error_message
    ∷ 0x00 ∷ 0x00 ∷ 0x00 ∷ 0x02  -- [matching_acls]
    ∷ 0x00 ∷ 0x00  -- error_code
    ∷ 0xff ∷ 0xff  -- error_message
    ∷ 0x05  -- resource_type
    ∷ 0x00 ∷ 0x01 ∷ 0x78  -- resource_name
    ∷ 0x04  -- resource_pattern_type
    ∷ 0x00 ∷ 0x06 ∷ 0x55 ∷ 0x73 ∷ 0x65 ∷ 0x72 ∷ 0x3a ∷ 0x61  -- principal
    ∷ 0x00 ∷ 0x01 ∷ 0x68  -- host
    ∷ 0x08  -- operation
    ∷ 0x02  -- permission_type
    ∷ 0x00 ∷ 0x1f  -- error_code
    ∷ 0x00 ∷ 0x01 ∷ 0x6d  -- error_message
    ∷ 0x02  -- resource_type
    ∷ 0x00 ∷ 0x01 ∷ 0x74  -- resource_name
    ∷ 0x03  -- resource_pattern_type
    ∷ 0x00 ∷ 0x06 ∷ 0x55 ∷ 0x73 ∷ 0x65 ∷ 0x72 ∷ 0x3a ∷ 0x62  -- principal
    ∷ 0x00 ∷ 0x01 ∷ 0x2a  -- host
    ∷ 0x03  -- operation
    ∷ 0x03  -- permission_type
    ∷ 0x00 ∷ 0x2a  -- error_code
    ∷ 0x00 ∷ 0x02 ∷ 0x6e ∷ 0x6f  -- error_message
    ∷ 0x00 ∷ 0x00 ∷ 0x00 ∷ 0x00  -- [matching_acls]
    ∷ []

-- what the answer to a DeleteAcls is sent as
abbrev pub DeleteAclsResponseFrame : Encoder → Type 0
DeleteAclsResponseFrame encode =
    encode (pos 0x0102030a)
    (replies.DeleteAcls (record {
      throttle = pos 5;
      results = record {
        error = errors.None;
        message = None;
        matches = record {
          error = errors.None;
          message = None;
          binding = record {
            kind = pos 5;
            name = text "x";
            pattern = pos 4;
            principal = text "User:a";
            host = text "h";
            operation = pos 8;
            permission = pos 2;
          };
        }
            ∷ record {
              error = errors.ClusterAuthorizationFailed;
              message = Some (text "m");
              binding = record {
                kind = pos 2;
                name = text "t";
                pattern = pos 3;
                principal = text "User:b";
                host = text "*";
                operation = pos 3;
                permission = pos 3;
              };
            }
            ∷ [];
      }
          ∷ record { error = errors.InvalidRequest; message = Some (text "no"); matches = [] }
          ∷ [];
    }))
    ≡ delete_acls_response
