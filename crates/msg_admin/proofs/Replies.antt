-- Which replies are too long, and what the bytes of a response say.
use Rattle.std.proofs.Common.{◌≡◌, ℕ, ℤ, ◌+◌, ◌<◌, suc, ◌^◌, ◌⊎◌, Bool, true, false, ◌&&◌, ltb, leb, List, [], ◌∷◌, length, get_or, Option, Some, None, Result, Ok, Err, refl, sym, ap, ◌∙◌, arith, inl, inr}
use Rattle.std.specs.Prelude.{OnOk}
use Rattle.std.specs.List.{Any, list_all}
use Rattle.std.proofs.lemmas.Bool.{lt-ltb, ltb-true, lt-leb, cases_lt, le-leb}
use Rattle.std.proofs.lemmas.List.{length-append}
use Rattle.std.proofs.lemmas.List.Folds.{list_all_at}
use Rattle.wire_types.specs.declared.fault.WriteFault.{WriteFault}
use Rattle.wire_types.specs.declared.fault.WriteFault.TheVariants as faults
use Rattle.wire_types.specs.ListLaws.{and_parts}
use Rattle.wire_types.specs.Spelling.{int_written}
use Rattle.wire_types.specs.Schema.{int32}
use Rattle.msg_data.specs.Strings.{is_short}
use Rattle.msg_acl.proofs.ReplyStrings.{describe_acls_tells, create_acls_tells, delete_acls_tells}
use Rattle.msg_group.proofs.ReplyStrings.{offset_commit_tells, offset_fetch_tells, join_group_tells, heartbeat_tells, leave_group_tells, sync_group_tells}
use Rattle.msg_txn.specs.declared.end_txn.EndTxnReply.TheVariants as ended_as
use Rattle.msg_txn.proofs.ReplyStrings.{find_coordinator_tells, init_producer_id_tells, add_partitions_to_txn_tells, add_offsets_to_txn_tells, ended_tells, flexible_ended_tells, ended_with_pair_tells, txn_offset_commit_tells}
use Rattle.msg_data.proofs.ReplyStrings.{produce_tells, fetch_tells, list_offsets_tells, metadata_tells}
use Rattle.msg_login.proofs.ReplyStrings.{sasl_handshake_tells, sasl_authenticate_tells, api_versions_tells}
use Rattle.msg_admin.specs.declared.api.Api.{Api}
use Rattle.msg_admin.specs.declared.reply.Reply.{Reply}
use Rattle.msg_admin.specs.declared.reply.Reply.TheVariants as replies
use Rattle.msg_admin.specs.Header.{response_header}
use Rattle.msg_admin.specs.Bodies.{sent_as, strings_of, reply_body}
use Rattle.msg_admin.specs.Response.{response_text, IsTooLongAs, IsTooLong, sendable_as, is_sendable, GivesReply}
use Rattle.msg_admin.specs.Laws.{SendableIsShort}
use Rattle.msg_admin.proofs.Headers.{correlation_fits}

differ : (b : Bool) → b ≡ true → b ≡ false → ⊥
differ b p q = cc

either : (b : Bool) → (b ≡ true) ⊎ (b ≡ false)
either true = inl refl
either false = inr refl

-- ---- a long text, or none

any_later : (x : List ℕ) (xs : List (List ℕ)) → Any (λ text. 32767 < length text) xs → Any (λ text. 32767 < length text) (x ∷ xs)
any_later x xs (k, y, lt, is, long) = (suc k, y, omega (arith, lt), is, long)

long_somewhere : (xs : List (List ℕ)) → list_all is_short xs ≡ false → Any (λ text. 32767 < length text) xs
long_somewhere [] e = absurd cc
long_somewhere (x ∷ xs) e =
    elim (cases_lt 32767 (length x)) [
      | inl long ↦ (0, x, omega arith, refl, long)
      | inr short ↦ let t : leb (length x) 32767 ≡ true = le-leb _ _ short in any_later x xs (long_somewhere xs (sym (rw t refl) ∙ e))
    ]

short_everywhere : (xs : List (List ℕ)) → list_all is_short xs ≡ true → Any (λ text. 32767 < length text) xs → ⊥
short_everywhere xs all (k, x, lt, is, long) =
    let here : is_short (get_or xs k x) ≡ false = ap is_short is ∙ lt-leb _ _ long in
    differ (list_all is_short xs) all (list_all_at is_short xs k x lt here)

-- ---- the texts of each reply that is sent decide whether its answer fits

abbrev Decided : Option Api → Reply → Type 0
Decided None r = Unit {0}
Decided (Some api) r = ((reply_body api).fits r ≡ true → list_all is_short (strings_of r) ≡ true)
    × (list_all is_short (strings_of r) ≡ true → length ((reply_body api).written r) < 2 ^ 31 → (reply_body api).fits r ≡ true)

decided : (r : Reply) → Decided (sent_as r) r
unfolding reply_body
decided (replies.Produce m) = (produce_tells.short m, produce_tells.fits m)
decided (replies.SilentProduce m) = tt
decided (replies.Fetch m) = (fetch_tells.short m, fetch_tells.fits m)
decided (replies.ListOffsets m) = (list_offsets_tells.short m, list_offsets_tells.fits m)
decided (replies.Metadata m) = (metadata_tells.short m, metadata_tells.fits m)
decided (replies.OffsetCommit m) = (offset_commit_tells.short m, offset_commit_tells.fits m)
decided (replies.OffsetFetch m) = (offset_fetch_tells.short m, offset_fetch_tells.fits m)
decided (replies.FindCoordinator m) = (find_coordinator_tells.short m, find_coordinator_tells.fits m)
decided (replies.JoinGroup m) = (join_group_tells.short m, join_group_tells.fits m)
decided (replies.Heartbeat m) = (heartbeat_tells.short m, heartbeat_tells.fits m)
decided (replies.LeaveGroup m) = (leave_group_tells.short m, leave_group_tells.fits m)
decided (replies.SyncGroup m) = (sync_group_tells.short m, sync_group_tells.fits m)
decided (replies.SaslHandshake m) = (sasl_handshake_tells.short m, sasl_handshake_tells.fits m)
decided (replies.ApiVersions m) = (api_versions_tells.short m, api_versions_tells.fits m)
decided (replies.InitProducerId m) = (init_producer_id_tells.short m, init_producer_id_tells.fits m)
decided (replies.AddPartitionsToTxn m) = (add_partitions_to_txn_tells.short m, add_partitions_to_txn_tells.fits m)
decided (replies.AddOffsetsToTxn m) = (add_offsets_to_txn_tells.short m, add_offsets_to_txn_tells.fits m)
decided (replies.EndTxn (ended_as.Version0 m)) = (ended_tells.short m, ended_tells.fits m)
decided (replies.EndTxn (ended_as.Version1 m)) = (ended_tells.short m, ended_tells.fits m)
decided (replies.EndTxn (ended_as.Version2 m)) = (ended_tells.short m, ended_tells.fits m)
decided (replies.EndTxn (ended_as.Version3 m)) = (flexible_ended_tells.short m, flexible_ended_tells.fits m)
decided (replies.EndTxn (ended_as.Version4 m)) = (flexible_ended_tells.short m, flexible_ended_tells.fits m)
decided (replies.EndTxn (ended_as.Version5 m)) = (ended_with_pair_tells.short m, ended_with_pair_tells.fits m)
decided (replies.TxnOffsetCommit m) = (txn_offset_commit_tells.short m, txn_offset_commit_tells.fits m)
decided (replies.DescribeAcls m) = (describe_acls_tells.short m, describe_acls_tells.fits m)
decided (replies.CreateAcls m) = (create_acls_tells.short m, create_acls_tells.fits m)
decided (replies.DeleteAcls m) = (delete_acls_tells.short m, delete_acls_tells.fits m)
decided (replies.SaslAuthenticate m) = (sasl_authenticate_tells.short m, sasl_authenticate_tells.fits m)
decided (replies.Marked left) = tt
decided replies.Idle = tt
decided (replies.Ticked left) = tt

-- ---- too long, or not

pub int32_len : (z : ℤ) → length (int32.written z) ≡ 4
unfolding int_written
int32_len z = refl

text_len : (api : Api) (c : ℤ) (r : Reply) → length (response_text c api r) ≡ length ((response_header api).written c) + length ((reply_body api).written r)
text_len api c r = length-append ((response_header api).written c) ((reply_body api).written r)

not_long : (o : Option Api) (c : ℤ) (r : Reply) → Decided o r → sendable_as o c r ≡ true → IsTooLongAs o c r → ⊥
not_long None c r d e long = long
not_long (Some api) c r d e (inl long) =
    let both = (and_parts ((response_header api).fits c && (reply_body api).fits r) _ e).0 in
    short_everywhere (strings_of r) (d.0 (and_parts ((response_header api).fits c) _ both).1) long
not_long (Some api) c r d e (inr long) = absurd (omega (arith, long, ltb-true _ _ (and_parts ((response_header api).fits c && (reply_body api).fits r) _ e).1))

too_long : (o : Option Api) (c : ℤ) (r : Reply) → Decided o r → sendable_as o c r ≡ false → IsTooLongAs o c r
too_long None c r d e = absurd cc
too_long (Some api) c r d e =
    elim (either (list_all is_short (strings_of r))) [
      | inr long ↦ inl (long_somewhere (strings_of r) long)
      | inl short ↦
          elim (cases_lt 2147483647 (length (response_text c api r))) [
            | inl over ↦ inr over
            | inr within ↦
                let lt : ltb (length (response_text c api r)) (2 ^ 31) ≡ true = lt-ltb _ _ (omega arith) in
                let fits : (reply_body api).fits r ≡ true = d.1 short (omega (arith, text_len api c r)) in
                absurd (differ (sendable_as (Some api) c r) (rw (correlation_fits api c, fits, lt) refl) e)
          ]
    ]

pub within : (c : ℤ) (r : Reply) (result : Result (List ℕ) WriteFault) → GivesReply c r result → OnOk result (IsTooLong c r → ⊥)
unfolding is_sendable
within c r (Ok bytes) given = not_long (sent_as r) c r (decided r) given.0
within c r (Err e) given = tt

pub refused_long : (c : ℤ) (r : Reply) (result : Result (List ℕ) WriteFault) → GivesReply c r result → result ≡ Err faults.TooLong → IsTooLong c r
unfolding is_sendable
refused_long c r (Ok bytes) given e = absurd cc
refused_long c r (Err faults.NoMemory) given e = absurd cc
refused_long c r (Err faults.TooLong) given e = too_long (sent_as r) c r (decided r) given

-- what is not too long is sendable
pub sendable : (c : ℤ) (r : Reply) → (IsTooLong c r → ⊥) → sendable_as (sent_as r) c r ≡ true
sendable c r short =
    elim (either (sendable_as (sent_as r) c r)) [
      | inl so ↦ so
      | inr not_so ↦ absurd (short (too_long (sent_as r) c r (decided r) not_so))
    ]

pub sendable_is_short : SendableIsShort
unfolding is_sendable
sendable_is_short c r = (λ e. not_long (sent_as r) c r (decided r) e, sendable c r)
