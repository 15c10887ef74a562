-- CreateAcls: bindings are added to the book, entry by entry (Kafka protocol guide, "CreateAcls API
-- (Key: 30)").
use Rattle.std.specs.Prelude.{pos, List, [], ◌∷◌, map, Option, Some, None}
use Rattle.wire_types.specs.declared.error_code.ErrorCode.{ErrorCode}
use Rattle.wire_types.specs.declared.error_code.ErrorCode.TheVariants as codes
use Rattle.msg_acl.specs.declared.entries.BindingEntry.{BindingEntry}
use Rattle.msg_acl.specs.declared.create_acls.CreateAclsRequest.{CreateAclsRequest}
use Rattle.msg_acl.specs.declared.create_acls.CreateAclsReply.{CreateAclsReply}
use Rattle.msg_acl.specs.declared.create_acls.CreatedAcl.{CreatedAcl}
use Rattle.acl_binding.specs.declared.question.Caller.{Caller}
use Rattle.acl_binding.specs.declared.question.Question.{Question}
use Rattle.acl_binding.specs.declared.words.Kind.TheVariants.{Cluster}
use Rattle.acl_binding.specs.declared.words.Operation.TheVariants.{Alter}
use Rattle.acl_binding.specs.declared.binding.Binding.{Binding}
use Rattle.acl_binding.specs.Creatable.{cluster_name}
use Rattle.acl_binding.specs.Entries.{binding_of}
use Rattle.acl_binding.specs.Book.{BookValue, with_binding}
use Rattle.acl_binding.specs.Verdict.{question_of}
use Rattle.msg_admin.specs.declared.reply.Reply.TheVariants as replies
use Rattle.broker_world.specs.World.{World}
use Rattle.broker_world.specs.HandlerResult.{HandlerResult}
use Rattle.broker_world.specs.Whole.{whole_outcome}

-- to alter the cluster
abbrev pub alter_questions : Caller → List Question
alter_questions caller = question_of caller Alter Cluster cluster_name ∷ []

-- an entry that is no binding changes nothing
abbrev pub book_with : BookValue → Option Binding → BookValue
book_with book None = book
book_with book (Some b) = with_binding book b

-- the book after the entries, one after the other
abbrev pub book_created : BookValue → List BindingEntry → BookValue
book_created book [] = book
book_created book (e ∷ es) = book_created (book_with book (binding_of e)) es

abbrev pub creation_result_with : ErrorCode → CreatedAcl
creation_result_with code = record { error = code; message = None }

abbrev pub creation_result_by : Option Binding → CreatedAcl
creation_result_by None = creation_result_with codes.InvalidRequest
creation_result_by (Some b) = creation_result_with codes.None

-- a binding that stands already is answered as one that is new
abbrev pub creation_result : BindingEntry → CreatedAcl
creation_result e = creation_result_by (binding_of e)

abbrev pub create_acls_reply : List CreatedAcl → CreateAclsReply
create_acls_reply results = record { throttle = pos 0; results = results }

-- refused, each entry is answered with the code
abbrev pub create_acls_outcome : World → Caller → CreateAclsRequest → HandlerResult
create_acls_outcome w caller r = whole_outcome w (alter_questions caller)
    (λ code. replies.CreateAcls
    (create_acls_reply (map (λ (e : BindingEntry). creation_result_with code) r.creations)))
    (record {
      world = record w { book = book_created w.book r.creations };
      reply = replies.CreateAcls (create_acls_reply (map creation_result r.creations));
    })
