-- DescribeAcls: the bindings that a filter picks, resource by resource (Kafka protocol guide,
-- "DescribeAcls API (Key: 29)").
use Rattle.std.specs.Prelude.{pos, Bool, ◌&&◌, ◌==◌, List, [], ◌∷◌, ◌++◌, map, filter, Option, Some, None, if◌then◌else◌}
use Rattle.std.specs.List.{list_any}
use Rattle.std.specs.Str.{bytes_eq}
use Rattle.wire_types.specs.declared.error_code.ErrorCode.{ErrorCode}
use Rattle.wire_types.specs.declared.error_code.ErrorCode.TheVariants as codes
use Rattle.msg_acl.specs.declared.describe_acls.DescribeAclsRequest.{DescribeAclsRequest}
use Rattle.msg_acl.specs.declared.describe_acls.DescribeAclsReply.{DescribeAclsReply}
use Rattle.msg_acl.specs.declared.describe_acls.DescribedResource.{DescribedResource}
use Rattle.msg_acl.specs.declared.describe_acls.DescribedAcl.{DescribedAcl}
use Rattle.acl_binding.specs.declared.question.Caller.{Caller}
use Rattle.acl_binding.specs.declared.question.Question.{Question}
use Rattle.acl_binding.specs.declared.words.Kind.TheVariants.{Cluster}
use Rattle.acl_binding.specs.declared.words.Operation.TheVariants.{Describe}
use Rattle.acl_binding.specs.declared.binding.Binding.{Binding}
use Rattle.acl_binding.specs.declared.filter.Filter.{Filter}
use Rattle.acl_binding.specs.Words.{kind_number, pattern_number}
use Rattle.acl_binding.specs.WireNumbers.{kind_code, pattern_code, operation_code, permission_code}
use Rattle.acl_binding.specs.Creatable.{cluster_name}
use Rattle.acl_binding.specs.Entries.{filter_of}
use Rattle.acl_binding.specs.Book.{BookValue}
use Rattle.acl_binding.specs.Filter.{matching_bindings}
use Rattle.acl_binding.specs.Verdict.{question_of}
use Rattle.msg_admin.specs.declared.reply.Reply.TheVariants as replies
use Rattle.broker_world.specs.World.{World}
use Rattle.broker_world.specs.HandlerResult.{HandlerResult}
use Rattle.broker_world.specs.Whole.{whole_outcome}

-- ---- bindings of one resource

-- equal in kind, name and pattern
abbrev pub same_resource : Binding → Binding → Bool
same_resource a b =
    (kind_number a.kind == kind_number b.kind)
    && ((pattern_number a.pattern == pattern_number b.pattern) && bytes_eq a.name b.name)

abbrev pub described_acl : Binding → DescribedAcl
described_acl b =
    record {
      principal = b.principal;
      host = b.host;
      operation = operation_code b.operation;
      permission = permission_code b.permission;
    }

-- the resource of a binding, with those of the bindings that are about it
abbrev pub described_resource : List Binding → Binding → DescribedResource
described_resource bs b =
    record {
      kind = kind_code b.kind;
      name = b.name;
      pattern = pattern_code b.pattern;
      acls = map described_acl (filter (same_resource b) bs);
    }

-- the first binding of each resource of which none was seen before
abbrev pub first_of_each : List Binding → List Binding → List Binding
first_of_each seen [] = []
first_of_each seen (b ∷ bs) =
    if list_any (same_resource b) seen then first_of_each (seen ++ b ∷ []) bs
    else b ∷ first_of_each (seen ++ b ∷ []) bs

-- the resources in the order of the first binding of each, the bindings of each in their order
abbrev pub described_resources : List Binding → List DescribedResource
described_resources bs = map (described_resource bs) (first_of_each [] bs)

-- ---- the request

-- to describe the cluster
abbrev pub describe_acls_questions : Caller → List Question
describe_acls_questions caller = question_of caller Describe Cluster cluster_name ∷ []

abbrev pub describe_acls_error : ErrorCode → DescribeAclsReply
describe_acls_error code = record { throttle = pos 0; error = code; message = None; resources = [] }

-- a faulty filter picks nothing, and is told
abbrev pub describe_acls_reply : BookValue → Option Filter → DescribeAclsReply
describe_acls_reply book None = describe_acls_error codes.InvalidRequest
describe_acls_reply book (Some f) =
    record {
      throttle = pos 0;
      error = codes.None;
      message = None;
      resources = described_resources (matching_bindings book.entries f);
    }

abbrev pub describe_acls_outcome : World → Caller → DescribeAclsRequest → HandlerResult
describe_acls_outcome w caller r =
    whole_outcome w (describe_acls_questions caller)
    (λ code. replies.DescribeAcls (describe_acls_error code))
    (record
    { world = w; reply = replies.DescribeAcls (describe_acls_reply w.book (filter_of r.filter)) })
