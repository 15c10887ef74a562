-- DeleteAcls: what filters pick is taken out of the book, filter by filter (Kafka protocol guide,
-- "DeleteAcls API (Key: 31)").
use Rattle.std.specs.Prelude.{pos, List, [], ◌∷◌, map, Option, Some, None}
use Rattle.wire_types.specs.declared.error_code.ErrorCode.{ErrorCode}
use Rattle.wire_types.specs.declared.error_code.ErrorCode.TheVariants as codes
use Rattle.msg_acl.specs.declared.entries.BindingEntry.{BindingEntry}
use Rattle.msg_acl.specs.declared.entries.FilterEntry.{FilterEntry}
use Rattle.msg_acl.specs.declared.delete_acls.DeleteAclsRequest.{DeleteAclsRequest}
use Rattle.msg_acl.specs.declared.delete_acls.DeleteAclsReply.{DeleteAclsReply}
use Rattle.msg_acl.specs.declared.delete_acls.DeletedAcl.{DeletedAcl}
use Rattle.msg_acl.specs.declared.delete_acls.DeletedAcls.{DeletedAcls}
use Rattle.acl_binding.specs.declared.question.Caller.{Caller}
use Rattle.acl_binding.specs.declared.binding.Binding.{Binding}
use Rattle.acl_binding.specs.declared.filter.Filter.{Filter}
use Rattle.acl_binding.specs.WireNumbers.{kind_code, pattern_code, operation_code, permission_code}
use Rattle.acl_binding.specs.Entries.{filter_of}
use Rattle.acl_binding.specs.Book.{BookValue}
use Rattle.acl_binding.specs.Filter.{matching_bindings, without_matching}
use Rattle.msg_admin.specs.declared.reply.Reply.TheVariants as replies
use Rattle.broker_world.specs.World.{World}
use Rattle.broker_world.specs.HandlerResult.{HandlerResult}
use Rattle.broker_world.specs.Whole.{whole_outcome}
use Rattle.acl_handlers.specs.CreateAcls.{alter_questions}

-- ---- one filter

-- a faulty filter takes nothing out
abbrev pub book_without : BookValue → Option Filter → BookValue
book_without book None = book
book_without book (Some f) = without_matching book f

-- the binding as it stands in a message
abbrev pub entry_of_binding : Binding → BindingEntry
entry_of_binding b =
    record {
      kind = kind_code b.kind;
      name = b.name;
      pattern = pattern_code b.pattern;
      principal = b.principal;
      host = b.host;
      operation = operation_code b.operation;
      permission = permission_code b.permission;
    }

abbrev pub deleted_acl : Binding → DeletedAcl
deleted_acl b = record { error = codes.None; message = None; binding = entry_of_binding b }

abbrev pub deletion_error : ErrorCode → DeletedAcls
deletion_error code = record { error = code; message = None; matches = [] }

-- what the filter took out, in creation order
abbrev pub deletion_result : BookValue → Option Filter → DeletedAcls
deletion_result book None = deletion_error codes.InvalidRequest
deletion_result book (Some f) =
    record {
      error = codes.None;
      message = None;
      matches = map deleted_acl (matching_bindings book.entries f);
    }

-- ---- the filters, each on what the earlier ones left

abbrev pub book_deleted : BookValue → List FilterEntry → BookValue
book_deleted book [] = book
book_deleted book (e ∷ es) = book_deleted (book_without book (filter_of e)) es

abbrev pub deletion_results : BookValue → List FilterEntry → List DeletedAcls
deletion_results book [] = []
deletion_results book (e ∷ es) =
    deletion_result book (filter_of e) ∷ deletion_results (book_without book (filter_of e)) es

abbrev pub delete_acls_reply : List DeletedAcls → DeleteAclsReply
delete_acls_reply results = record { throttle = pos 0; results = results }

-- refused, each filter is answered with the code
abbrev pub delete_acls_outcome : World → Caller → DeleteAclsRequest → HandlerResult
delete_acls_outcome w caller r = whole_outcome w (alter_questions caller)
    (λ code. replies.DeleteAcls
    (delete_acls_reply (map (λ (e : FilterEntry). deletion_error code) r.filters)))
    (record {
      world = record w { book = book_deleted w.book r.filters };
      reply = replies.DeleteAcls (delete_acls_reply (deletion_results w.book r.filters));
    })
