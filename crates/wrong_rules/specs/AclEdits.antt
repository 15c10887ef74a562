-- What CreateAcls and DeleteAcls answer, entry by entry, by the numbers of the protocol (Kafka
-- protocol guide, "CreateAcls API (Key: 30)" and "DeleteAcls API (Key: 31)").
use Rattle.std.specs.Prelude.{◌≡◌, ℕ, ℤ, pos, List, [], ◌∷◌, map, reverse, codes as bytes, Option, Some, None}
use Rattle.wire_types.specs.declared.error_code.ErrorCode.{ErrorCode}
use Rattle.wire_types.specs.declared.error_code.ErrorCode.TheVariants as codes
use Rattle.msg_acl.specs.declared.entries.BindingEntry.{BindingEntry}
use Rattle.msg_acl.specs.declared.entries.FilterEntry.{FilterEntry}
use Rattle.msg_acl.specs.declared.create_acls.CreatedAcl.{CreatedAcl}
use Rattle.msg_acl.specs.declared.delete_acls.DeletedAcl.{DeletedAcl}
use Rattle.msg_acl.specs.declared.delete_acls.DeletedAcls.{DeletedAcls}
use Rattle.msg_admin.specs.declared.request.Request.TheVariants as requests
use Rattle.msg_admin.specs.declared.reply.Reply.{Reply}
use Rattle.msg_admin.specs.declared.reply.Reply.TheVariants as replies
use Rattle.audit_trail.specs.declared.event.Event.{Event}
use Rattle.api_dispatch.specs.Step.{outcome}
use Rattle.wrong_rules.specs.Steps.{StepRule, reply_after, with_reply, cluster, asks}

-- ---- the entries: TOPIC is 2, LITERAL is 3, READ is 3, WRITE is 4, ALLOW is 3; 1 is ANY, and
-- there is no operation 99

abbrev pub allows_on_a : List ℕ → ℤ → BindingEntry
allows_on_a principal operation = record {
  kind = pos 2;
  name = bytes "a";
  pattern = pos 3;
  principal = principal;
  host = bytes "*";
  operation = operation;
  permission = pos 3;
}

abbrev pub ann_reads : BindingEntry
ann_reads = allows_on_a (bytes "User:ann") (pos 3)

abbrev pub bob_writes : BindingEntry
bob_writes = allows_on_a (bytes "User:bob") (pos 4)

abbrev pub nothing : BindingEntry
nothing = allows_on_a (bytes "User:eve") (pos 99)

abbrev pub any_of : Option (List ℕ) → ℤ → FilterEntry
any_of principal operation = record {
  kind = pos 1;
  name = None;
  pattern = pos 1;
  principal = principal;
  host = None;
  operation = operation;
  permission = pos 1;
}

abbrev pub creates : List BindingEntry → Event
creates entries = asks (requests.CreateAcls (record { creations = entries }))

abbrev pub deletes : List FilterEntry → Event
deletes filters = asks (requests.DeleteAcls (record { filters = filters }))

-- ---- the answers

abbrev pub created : ErrorCode → CreatedAcl
created code = record { error = code; message = None }

abbrev pub deleted : BindingEntry → DeletedAcl
deleted entry = record { error = codes.None; message = None; binding = entry }

abbrev pub deleted_by : ErrorCode → List BindingEntry → DeletedAcls
deleted_by code entries = record { error = code; message = None; matches = map deleted entries }

-- each entry is answered at its place: INVALID_REQUEST to one that is no binding, no error to one
-- that is created, or stands there already
abbrev pub CreationsAreTold : StepRule → Type 0
CreationsAreTold rule =
    reply_after rule cluster (creates (ann_reads ∷ []) ∷ [])
    (creates (nothing ∷ ann_reads ∷ bob_writes ∷ []))
    ≡ replies.CreateAcls
    (record {
      throttle = pos 0;
      results = created codes.InvalidRequest ∷ created codes.None ∷ created codes.None ∷ [];
    })

-- each filter is answered at its place: INVALID_REQUEST to one that is none, else by the bindings
-- that it took of those that the filters before it left, in the order of their creation
abbrev pub DeletionsAreTold : StepRule → Type 0
DeletionsAreTold rule =
    reply_after rule cluster
    (creates (ann_reads ∷ bob_writes ∷ allows_on_a (bytes "User:ann") (pos 4) ∷ []) ∷ [])
    (deletes
    (any_of None (pos 99) ∷ any_of (Some (bytes "User:ann")) (pos 1) ∷ any_of None (pos 1) ∷ []))
    ≡ replies.DeleteAcls
    (record {
      throttle = pos 0;
      results = deleted_by codes.InvalidRequest []
          ∷ deleted_by codes.None (ann_reads ∷ allows_on_a (bytes "User:ann") (pos 4) ∷ [])
          ∷ deleted_by codes.None (bob_writes ∷ [])
          ∷ [];
    })

-- ---- wrong

abbrev pub tell_creations : (List CreatedAcl → List CreatedAcl) → Reply → Reply
tell_creations f (replies.CreateAcls reply) =
    replies.CreateAcls (record reply { results = f reply.results })
tell_creations f reply = reply

abbrev pub tell_deletions : (List DeletedAcls → List DeletedAcls) → Reply → Reply
tell_deletions f (replies.DeleteAcls reply) =
    replies.DeleteAcls (record reply { results = f reply.results })
tell_deletions f reply = reply

-- the last entry is answered first
abbrev pub step_creating_backwards : StepRule
step_creating_backwards w e = with_reply (tell_creations reverse) (outcome w e)

-- each entry is told as INVALID_REQUEST
abbrev pub step_creating_in_vain : StepRule
step_creating_in_vain w e =
    with_reply (tell_creations (map (λ (a : CreatedAcl). created codes.InvalidRequest)))
    (outcome w e)

-- no binding is told as deleted
abbrev pub step_deleting_silently : StepRule
step_deleting_silently w e =
    with_reply (tell_deletions (map (λ (a : DeletedAcls). record a { matches = [] })))
    (outcome w e)

-- the last binding that a filter took is told first
abbrev pub step_deleting_backwards : StepRule
step_deleting_backwards w e =
    with_reply
    (tell_deletions (map (λ (a : DeletedAcls). record a { matches = reverse a.matches })))
    (outcome w e)
