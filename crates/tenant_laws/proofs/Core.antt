-- The plain broker's reply to a request depends on what the request asks about alone.
use Rattle.std.proofs.Common.{◌≡◌, ℕ, Bool, true, false, cond, List, [], ◌∷◌, ◌++◌, Option, Some, None, refl, sym, ap, ◌∙◌}
use Rattle.std.specs.List.{AllByRecursion, flat_map}
use Rattle.acl_binding.specs.declared.question.Caller.{Caller}
use Rattle.acl_binding.specs.declared.question.Question.{Question}
use Rattle.acl_binding.specs.declared.words.Kind.{Kind}
use Rattle.acl_binding.specs.declared.words.Kind.TheVariants.{Topic, Group, Cluster, TransactionalId}
use Rattle.acl_binding.specs.Book.{BookValue}
use Rattle.msg_admin.specs.declared.request.Request.{Request}
use Rattle.msg_admin.specs.declared.request.Request.TheVariants.{Produce, Fetch, ListOffsets, Metadata, OffsetCommit, OffsetFetch, FindCoordinator, JoinGroup, Heartbeat, LeaveGroup, SyncGroup, SaslHandshake, ApiVersions, InitProducerId, AddPartitionsToTxn, AddOffsetsToTxn, EndTxn, TxnOffsetCommit, DescribeAcls, CreateAcls, DeleteAcls, SaslAuthenticate}
use Rattle.broker_world.specs.World.{World, rules_of}
use Rattle.txn_handlers.specs.InitProducerId.{init_question, is_waived, init_questions}
use Rattle.api_laws.specs.Tenants.{SameOn, SameGranted}
use Rattle.api_dispatch.specs.Questions.{parts_of, wants_all}
use Rattle.tenant_laws.proofs.Answered.{agreed_answers}
use Rattle.plain_broker.specs.Plain.{unrestricted_world, plain_outcome}
use Rattle.plain_broker.specs.Plainness.{is_about_bindings}
use Rattle.plain_broker.proofs.Bare.{looks_at_no_book}
use Rattle.tenant_laws.specs.Replies.{SameNumbers, SameAbout}
use Rattle.tenant_laws.proofs.Moved.{moved, moved_same}

-- ---- what is asked in the plain broker's world

module _ (v w : World) (caller : Caller) where
  -- what an InitProducerId without an id asks is about the cluster
  about_cluster : (a b : Bool) → AllByRecursion (SameAbout v w) (cond a [] (init_question caller None ∷ []) ∷ []) → AllByRecursion (SameAbout v w) (cond b [] (init_question caller None ∷ []) ∷ [])
  about_cluster a true about = (tt, tt)
  about_cluster a false about = ((tt, tt), tt)

  init_free : (id : Option (List ℕ)) → AllByRecursion (SameAbout v w) (init_questions (rules_of w) caller id ∷ []) → AllByRecursion (SameAbout v w) (init_questions (rules_of (unrestricted_world w caller)) caller id ∷ [])
  init_free None about = about_cluster (is_waived (rules_of w) caller) (is_waived (rules_of (unrestricted_world w caller)) caller) about
  init_free (Some id) about = about

  about_free : (request : Request) → AllByRecursion (SameAbout v w) (parts_of (rules_of w) caller request) → AllByRecursion (SameAbout v w) (parts_of (rules_of (unrestricted_world w caller)) caller request)
  about_free (InitProducerId r) about = init_free r.transactional_id about
  about_free (Produce r) about = about
  about_free (Fetch r) about = about
  about_free (ListOffsets r) about = about
  about_free (Metadata r) about = about
  about_free (OffsetCommit r) about = about
  about_free (OffsetFetch r) about = about
  about_free (FindCoordinator r) about = about
  about_free (JoinGroup r) about = about
  about_free (Heartbeat r) about = about
  about_free (LeaveGroup r) about = about
  about_free (SyncGroup r) about = about
  about_free (AddPartitionsToTxn r) about = about
  about_free (AddOffsetsToTxn r) about = about
  about_free (EndTxn r) about = about
  about_free (TxnOffsetCommit r) about = about
  about_free (SaslHandshake r) about = about
  about_free ApiVersions about = about
  about_free (SaslAuthenticate r) about = about
  about_free (DescribeAcls r) about = about
  about_free (CreateAcls r) about = about
  about_free (DeleteAcls r) about = about

-- ---- the reply

module _ (v w : World) (caller : Caller) where
  -- the first world with the second's book, at its moment and with its owners
  abbrev near : World
  near = record v { book = w.book }

  abbrev nearer : World
  nearer = moved near w.moment w.coordinator.given

  same_on : (kind : Kind) (name : List ℕ) → SameOn v w kind name → SameOn (unrestricted_world nearer caller) (unrestricted_world w caller) kind name
  same_on Topic name same = same
  same_on Group name same = same
  same_on Cluster name same = same
  same_on TransactionalId name same = same

  granted_both : (qs rest : List Question) → SameAbout v w qs → SameGranted (unrestricted_world nearer caller) (unrestricted_world w caller) rest → SameGranted (unrestricted_world nearer caller) (unrestricted_world w caller) (qs ++ rest)
  granted_both [] rest about same = same
  granted_both (q ∷ qs) rest about same = (λ yes. same_on q.kind q.name about.0, granted_both qs rest about.1 same)

  granted_all : (parts : List (List Question)) → AllByRecursion (SameAbout v w) parts → SameGranted (unrestricted_world nearer caller) (unrestricted_world w caller) (flat_map (λ part. part) parts)
  granted_all [] about = tt
  granted_all (part ∷ parts) about = granted_both part (flat_map (λ part. part) parts) about.0 (granted_all parts about.1)

  booked : (request : Request) (b : Bool) → is_about_bindings request ≡ b → (is_about_bindings request ≡ true → v.book ≡ w.book) → (plain_outcome v caller request).reply ≡ (plain_outcome near caller request).reply
  booked request true is same = ap (λ (book : BookValue). (plain_outcome (record v { book = book }) caller request).reply) (same is)
  booked request false is same = sym (looks_at_no_book v w.book caller request is).reply

  pub plain_same : (request : Request) → SameNumbers v w → wants_all request ≡ false → (is_about_bindings request ≡ true → v.book ≡ w.book) → AllByRecursion (SameAbout v w) (parts_of (rules_of w) caller request)
      → (plain_outcome v caller request).reply ≡ (plain_outcome w caller request).reply
  plain_same request numbers named bindings about =
      booked request (is_about_bindings request) refl bindings
      ∙ sym (moved_same near caller w.moment w.coordinator.given (sym numbers.given) request)
      ∙ (agreed_answers (unrestricted_world nearer caller) (unrestricted_world w caller) caller None request (record {
        base = record { node = numbers.node; rules = refl; moment = refl; events = numbers.events; given = refl };
        granted = granted_all (parts_of (rules_of (unrestricted_world w caller)) caller request) (about_free v w caller request about);
        described = λ all. absurd (let clash : false ≡ true = sym named ∙ all in cc);
      })).reply
