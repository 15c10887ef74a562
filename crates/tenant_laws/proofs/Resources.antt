-- A resource that is the same in two worlds, and requests that are about one group or one transactional id.
use Rattle.std.proofs.Common.{◌≡◌, inl, ℕ, Bool, true, false, List, [], ◌∷◌, Option, Some, None, refl, sym, ap, subst, ◌∙◌}
use Rattle.std.specs.Str.{bytes_eq}
use Rattle.std.proofs.lemmas.Slice.Eq.{bytes_eq-Decides}
use Rattle.acl_binding.specs.declared.question.Caller.{Caller}
use Rattle.acl_binding.specs.declared.question.Question.{Question}
use Rattle.acl_binding.specs.declared.words.Kind.{Kind}
use Rattle.acl_binding.specs.declared.words.Kind.TheVariants.{Topic, Group, Cluster, TransactionalId}
use Rattle.authorizer.specs.declared.answer.Refusal.{Refusal}
use Rattle.authorizer.specs.Asking.{part_refusal}
use Rattle.wire_types.specs.declared.error_code.ErrorCode.{ErrorCode}
use Rattle.msg_admin.specs.declared.reply.Reply.{Reply}
use Rattle.txn_coordinator.specs.Coordinator.{CoordinatorValue, id_record}
use Rattle.group_offsets.specs.declared.group.Group.{Group as GroupValue}
use Rattle.group_offsets.specs.Groups.{find_group}
use Rattle.broker_world.specs.World.{World, TopicValue, rules_of, find_topic}
use Rattle.broker_world.specs.HandlerResult.{HandlerResult}
use Rattle.broker_world.specs.Whole.{Served, whole_outcome_by}
use Rattle.broker_world.specs.Questions.{read_question}
use Rattle.api_dispatch.specs.Step.{with_event_counted}
use Rattle.api_laws.specs.Tenants.{SameOn}
use Rattle.api_laws.specs.TxnLaws.{KeepsOtherIds}
use Rattle.api_laws.specs.GroupLaws.{KeepsOtherGroups}
use Rattle.tenant_laws.specs.Laws.{AsksAbout, NoPartIsGranted}

-- ---- a resource in two worlds

pub same_self : (w : World) (kind : Kind) (name : List ℕ) → SameOn w w kind name
same_self w Topic name = refl
same_self w Group name = refl
same_self w Cluster name = tt
same_self w TransactionalId name = refl

pub same_in : (w u : World) (kind : Kind) (name : List ℕ) → u ≡ w → SameOn w u kind name
same_in w u kind name is = subst (λ (x : World). SameOn w x kind name) (sym is) (same_self w kind name)

pub same_by : (w u : World) (kind : Kind) (name : List ℕ) → (kind ≡ Topic → find_topic u.topics name ≡ find_topic w.topics name) → (kind ≡ Group → find_group u.groups name ≡ find_group w.groups name)
    → (kind ≡ TransactionalId → id_record u.coordinator.transactions name ≡ id_record w.coordinator.transactions name) → SameOn w u kind name
same_by w u Topic name topic group id = sym (topic refl)
same_by w u Group name topic group id = sym (group refl)
same_by w u Cluster name topic group id = tt
same_by w u TransactionalId name topic group id = sym (id refl)

pub same_counted : (w u : World) (kind : Kind) (name : List ℕ) → SameOn w u kind name → SameOn w (with_event_counted u) kind name
same_counted w u Topic name same = same
same_counted w u Group name same = same
same_counted w u Cluster name same = same
same_counted w u TransactionalId name same = same

pub same_back : (u v : World) (kind : Kind) (name : List ℕ) → SameOn u v kind name → SameOn v u kind name
same_back u v Topic name same = sym same
same_back u v Group name same = sym same
same_back u v Cluster name same = tt
same_back u v TransactionalId name same = sym same

pub same_then : (u v w : World) (kind : Kind) (name : List ℕ) → SameOn u v kind name → SameOn v w kind name → SameOn u w kind name
same_then u v w Topic name first second = first ∙ second
same_then u v w Group name first second = first ∙ second
same_then u v w Cluster name first second = tt
same_then u v w TransactionalId name first second = first ∙ second

pub differ : (xs ys : List ℕ) → bytes_eq xs ys ≡ false → xs ≡ ys → ⊥
differ xs ys e same = let clash : false ≡ true = sym e ∙ (bytes_eq-Decides xs ys).1 same in cc

-- ---- a request that is one part

pub whole_same : (o : Option Refusal) (w : World) (refused : ErrorCode → Reply) (served : Served) (kind : Kind) (name : List ℕ) → SameOn w served.world kind name → SameOn w (whole_outcome_by o w refused served).world kind name
whole_same None w refused served kind name same = same
whole_same (Some r) w refused served kind name same = same_self w kind name

-- a request about one group, or about one transactional id
pub group_kept : (w : World) (group : List ℕ) (o : HandlerResult) → KeepsOtherGroups w group o → (kind : Kind) (name : List ℕ) → (kind ≡ Group → name ≡ group → find_group o.world.groups name ≡ find_group w.groups name) → SameOn w o.world kind name
group_kept w group o keeps kind name own =
    same_by w o.world kind name (λ is. ap (λ (ts : List TopicValue). find_topic ts name) keeps.topics) (by_name (bytes_eq name group) refl) (λ is. ap (λ (c : CoordinatorValue). id_record c.transactions name) keeps.coordinator) where
      by_name : (b : Bool) → bytes_eq name group ≡ b → kind ≡ Group → find_group o.world.groups name ≡ find_group w.groups name
      by_name true e is = own is ((bytes_eq-Decides name group).0 e)
      by_name false e is = keeps.others name (differ name group e)

pub id_kept : (w : World) (id : List ℕ) (o : HandlerResult) → KeepsOtherIds w id o → o.world.groups ≡ w.groups → (kind : Kind) (name : List ℕ) → (kind ≡ TransactionalId → name ≡ id → o.world ≡ w) → SameOn w o.world kind name
id_kept w id o keeps groups kind name own =
    same_by w o.world kind name (λ is. ap (λ (ts : List TopicValue). find_topic ts name) keeps.topics) (λ is. ap (λ (gs : List GroupValue). find_group gs name) groups) (by_name (bytes_eq name id) refl) where
      by_name : (b : Bool) → bytes_eq name id ≡ b → kind ≡ TransactionalId → id_record o.world.coordinator.transactions name ≡ id_record w.coordinator.transactions name
      by_name true e is = ap (λ (u : World). id_record u.coordinator.transactions name) (own is ((bytes_eq-Decides name id).0 e))
      by_name false e is = keeps.others name (differ name id e)

-- where its one part asks about the resource it was refused
pub one_refused : (w : World) (kind : Kind) (name : List ℕ) (part : List Question) (Same : Type 0) → ((r : Refusal) → part_refusal (rules_of w) part ≡ Some r → Same) → NoPartIsGranted w kind name (part ∷ []) → AsksAbout kind name part → Same
one_refused w kind name part Same refused none asks = by_refusal (part_refusal (rules_of w) part) refl where
  by_refusal : (o : Option Refusal) → part_refusal (rules_of w) part ≡ o → Same
  by_refusal None granted = absurd (none.0 asks granted)
  by_refusal (Some r) is = refused r is

pub member_kept : (w : World) (caller : Caller) (group : List ℕ) (o : HandlerResult) → KeepsOtherGroups w group o → ((r : Refusal) → part_refusal (rules_of w) (read_question caller group ∷ []) ≡ Some r → o.world ≡ w)
    → (kind : Kind) (name : List ℕ) → NoPartIsGranted w kind name ((read_question caller group ∷ []) ∷ []) → SameOn w o.world kind name
member_kept w caller group o keeps refused kind name none =
    group_kept w group o keeps kind name
    (λ is named. ap (λ (u : World). find_group u.groups name) (one_refused w kind name (read_question caller group ∷ []) (o.world ≡ w) refused none (inl (sym is, sym named))))
