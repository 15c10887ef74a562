-- The code that a refused part is answered with (Kafka protocol guide, "Error Codes").
use Rattle.acl_binding.specs.declared.words.Kind.{Kind}
use Rattle.acl_binding.specs.declared.words.Kind.TheVariants as kinds
use Rattle.authorizer.specs.declared.answer.Refusal.{Refusal}
use Rattle.wire_types.specs.declared.error_code.ErrorCode.{ErrorCode}
use Rattle.wire_types.specs.declared.error_code.ErrorCode.TheVariants as codes

-- the code of a part that is refused for a question about a resource of this kind
abbrev pub permission_code : Kind → ErrorCode
permission_code kinds.Topic = codes.TopicAuthorizationFailed
permission_code kinds.Group = codes.GroupAuthorizationFailed
permission_code kinds.Cluster = codes.ClusterAuthorizationFailed
permission_code kinds.TransactionalId = codes.TransactionalIdAuthorizationFailed

abbrev pub refusal_code : Refusal → ErrorCode
refusal_code r = permission_code r.question.kind
