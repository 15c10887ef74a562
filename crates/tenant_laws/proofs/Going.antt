-- Worlds that agree on what a request is granted go on agreeing, whatever their books are.
use Rattle.std.proofs.Common.{◌≡◌, ℕ, Bool, true, false, List, [], ◌∷◌, Option, refl, ap, subst, ◌+◌, sym, ◌∙◌}
use Rattle.acl_binding.specs.declared.question.Caller.{Caller}
use Rattle.acl_binding.specs.declared.question.Question.{Question}
use Rattle.acl_binding.specs.declared.words.Kind.{Kind}
use Rattle.acl_binding.specs.declared.words.Kind.TheVariants.{Topic, Group, Cluster, TransactionalId}
use Rattle.acl_binding.specs.Book.{BookValue}
use Rattle.authorizer.specs.Asking.{Rules}
use Rattle.msg_admin.specs.declared.request.Request.{Request}
use Rattle.msg_admin.specs.declared.request.Request.TheVariants.{Produce, Fetch, ListOffsets, Metadata, OffsetCommit, OffsetFetch, FindCoordinator, JoinGroup, Heartbeat, LeaveGroup, SyncGroup, SaslHandshake, ApiVersions, InitProducerId, AddPartitionsToTxn, AddOffsetsToTxn, EndTxn, TxnOffsetCommit, DescribeAcls, CreateAcls, DeleteAcls, SaslAuthenticate}
use Rattle.audit_trail.specs.declared.event.Event.{Event}
use Rattle.audit_trail.specs.declared.event.Event.TheVariants.{Ask}
use Rattle.broker_world.specs.World.{World, rules_of}
use Rattle.api_dispatch.specs.Questions.{questions_of, wants_all}
use Rattle.api_dispatch.specs.Step.{request_outcome, step, with_event_counted}
use Rattle.api_dispatch.proofs.Wholes.{offsets_keep}
use Rattle.plain_broker.specs.Plainness.{is_about_bindings}
use Rattle.api_laws.specs.Tenants.{SameBase, SameOn, SameGranted}
use Rattle.tenant_laws.specs.Laws.{SameButForBook, SameForRequest, AgreementGoesOn}
use Rattle.tenant_laws.proofs.Agreed.{counted_on, agreement}
use Rattle.tenant_laws.proofs.Booked.{near, step_near}

-- ---- a null list

-- a null list is one of a request that only reads
null_reads : (w : World) (caller : Caller) (request : Request) → wants_all request ≡ true → (request_outcome w caller request).world ≡ w
null_reads w caller (OffsetFetch r) null = offsets_keep w caller r
null_reads w caller (Metadata r) null = refl
null_reads w caller (Produce r) null = absurd (let clash : false ≡ true = null in cc)
null_reads w caller (Fetch r) null = refl
null_reads w caller (ListOffsets r) null = refl
null_reads w caller (OffsetCommit r) null = absurd (let clash : false ≡ true = null in cc)
null_reads w caller (FindCoordinator r) null = absurd (let clash : false ≡ true = null in cc)
null_reads w caller (JoinGroup r) null = absurd (let clash : false ≡ true = null in cc)
null_reads w caller (Heartbeat r) null = absurd (let clash : false ≡ true = null in cc)
null_reads w caller (LeaveGroup r) null = absurd (let clash : false ≡ true = null in cc)
null_reads w caller (SyncGroup r) null = absurd (let clash : false ≡ true = null in cc)
null_reads w caller (InitProducerId r) null = absurd (let clash : false ≡ true = null in cc)
null_reads w caller (AddPartitionsToTxn r) null = absurd (let clash : false ≡ true = null in cc)
null_reads w caller (AddOffsetsToTxn r) null = absurd (let clash : false ≡ true = null in cc)
null_reads w caller (EndTxn r) null = absurd (let clash : false ≡ true = null in cc)
null_reads w caller (TxnOffsetCommit r) null = absurd (let clash : false ≡ true = null in cc)
null_reads w caller (SaslHandshake r) null = absurd (let clash : false ≡ true = null in cc)
null_reads w caller ApiVersions null = absurd (let clash : false ≡ true = null in cc)
null_reads w caller (SaslAuthenticate r) null = absurd (let clash : false ≡ true = null in cc)
null_reads w caller (DescribeAcls r) null = absurd (let clash : false ≡ true = null in cc)
null_reads w caller (CreateAcls r) null = absurd (let clash : false ≡ true = null in cc)
null_reads w caller (DeleteAcls r) null = absurd (let clash : false ≡ true = null in cc)

-- ---- another book

but_for_book : (v w : World) → SameBase v w → SameButForBook v w
but_for_book v w base = record { node = base.node; supers = ap (λ (rules : Rules). rules.supers) base.rules; moment = base.moment; events = base.events; given = base.given }

with_book : (v w : World) (book : BookValue) (kind : Kind) (name : List ℕ) → SameOn v w kind name → SameOn (record v { book = book }) w kind name
with_book v w book Topic name same = same
with_book v w book Group name same = same
with_book v w book Cluster name same = same
with_book v w book TransactionalId name same = same

without_book : (v w : World) (book : BookValue) (kind : Kind) (name : List ℕ) → SameOn (record v { book = book }) w kind name → SameOn v w kind name
without_book v w book Topic name same = same
without_book v w book Group name same = same
without_book v w book Cluster name same = same
without_book v w book TransactionalId name same = same

-- ---- a request

-- the worlds x and y agree in what v and w agree in, but for the book
pub record Goes (v w x y : World) : Type 0 where
  pub base : SameButForBook x y
  pub resources : (kind : Kind) (name : List ℕ) → SameOn v w kind name → SameOn x y kind name

module _ (v w : World) (caller : Caller) (client : Option (List ℕ)) (request : Request) (same : SameForRequest v w caller request) where
  abbrev e : Event
  e = Ask caller client request

  -- a request about the book: the books are the same
  about_book : v.book ≡ w.book → wants_all request ≡ false → Goes v w (step v e) (step w e)
  about_book book named =
      let rules : rules_of v ≡ rules_of w = λ i. record { book = book i; supers = same.base.supers i } in
      let goes = agreement v w caller client request (record {
        base = record { node = same.base.node; rules = rules; moment = same.base.moment; events = same.base.events; given = same.base.given };
        granted = same.granted;
        described = λ all. absurd (let clash : false ≡ true = sym named ∙ all in cc);
      }) in
      record { base = but_for_book (step v e) (step w e) goes.base; resources = goes.resources }

  -- any other: the first world with the second's book is left as the first is
  near_granted : (qs : List Question) → SameGranted v w qs → SameGranted (near v w caller) w qs
  near_granted [] granted = tt
  near_granted (q ∷ qs) granted = (λ yes. with_book v w w.book q.kind q.name (granted.0 yes), near_granted qs granted.1)

  any_book : is_about_bindings request ≡ false → wants_all request ≡ false → Goes v w (step v e) (step w e)
  any_book is named =
      let left : step (near v w caller) e ≡ record (step v e) { book = w.book } = step_near v w caller client request same.base.supers same.questions same.verdicts is in
      let goes = agreement (near v w caller) w caller client request (record {
        base = record { node = same.base.node; rules = λ i. record { book = w.book; supers = same.base.supers i }; moment = same.base.moment; events = same.base.events; given = same.base.given };
        granted = near_granted (questions_of (rules_of w) caller request) same.granted;
        described = λ all. absurd (let clash : false ≡ true = sym named ∙ all in cc);
      }) in
      let base : SameButForBook (record (step v e) { book = w.book }) (step w e) = subst (λ (x : World). SameButForBook x (step w e)) left (but_for_book (step (near v w caller) e) (step w e) goes.base) in
      record {
        base = record { node = base.node; supers = base.supers; moment = base.moment; events = base.events; given = base.given };
        resources = λ kind name on.
            without_book (step v e) (step w e) w.book kind name
            (subst (λ (x : World). SameOn x (step w e) kind name) left (goes.resources kind name (with_book v w w.book kind name on)));
      }

  by_book : (b : Bool) → is_about_bindings request ≡ b → wants_all request ≡ false → Goes v w (step v e) (step w e)
  by_book true is named = about_book (same.bindings is) named
  by_book false is named = any_book is named

  counted_goes : Goes v w (with_event_counted v) (with_event_counted w)
  counted_goes = record {
    base = record { node = same.base.node; supers = same.base.supers; moment = same.base.moment; events = ap (λ (n : ℕ). n + 1) same.base.events; given = same.base.given };
    resources = λ kind name on. counted_on v w kind name on;
  }

  by_list : (b : Bool) → wants_all request ≡ b → Goes v w (step v e) (step w e)
  by_list true null =
      subst (λ (x : World). Goes v w (with_event_counted x) (step w e)) (sym (null_reads v caller request null))
      (subst (λ (y : World). Goes v w (with_event_counted v) (with_event_counted y)) (sym (null_reads w caller request null)) counted_goes)
  by_list false named = by_book (is_about_bindings request) refl named

  goes_on : Goes v w (step v e) (step w e)
  goes_on = by_list (wants_all request) refl

pub agreement_goes_on : AgreementGoesOn
agreement_goes_on v w caller client request same =
    let goes = goes_on v w caller client request same in
    record { base = goes.base; resources = goes.resources }
