-- Worlds that agree after a walk, and after a request that is one part.
use Rattle.std.proofs.Common.{◌≡◌, ℕ, List, [], ◌∷◌, Option, Some, None, refl, sym, subst}
use Rattle.std.specs.Prelude.{map, is_some}
use Rattle.acl_binding.specs.declared.question.Question.{Question}
use Rattle.acl_binding.specs.declared.words.Kind.{Kind}
use Rattle.acl_binding.specs.declared.words.Kind.TheVariants.{Topic, Group, Cluster, TransactionalId}
use Rattle.acl_binding.specs.Book.{BookValue}
use Rattle.authorizer.specs.declared.answer.Refusal.{Refusal}
use Rattle.authorizer.specs.Asking.{Rules, part_refusal}
use Rattle.wire_types.specs.declared.error_code.ErrorCode.{ErrorCode}
use Rattle.wire_types.specs.declared.topic.Topic.{Topic as TopicParts}
use Rattle.msg_admin.specs.declared.reply.Reply.{Reply}
use Rattle.walk.specs.Rule.{PartRule, refusal_of}
use Rattle.walk.specs.Walk.{world_after}
use Rattle.walk.specs.Steps.{world_by, part_world, parts_world, topics_world}
use Rattle.walk.specs.Alike.{AllParts, AllTopics}
use Rattle.walk.proofs.Weaving.{woven}
use Rattle.txn_coordinator.specs.Coordinator.{CoordinatorValue, id_record}
use Rattle.group_offsets.specs.declared.group.Group.{Group as GroupValue}
use Rattle.group_offsets.specs.Groups.{find_group}
use Rattle.broker_world.specs.World.{World, TopicValue, rules_of, find_topic}
use Rattle.broker_world.specs.Whole.{Served, whole_outcome_by}
use Rattle.api_laws.specs.Tenants.{SameBase, SameOn}

-- ---- a walk

-- where the part is granted, what agrees before it agrees after it
abbrev pub Goes : {P A W : Type 0} → PartRule P A W → PartRule P A W → Rules → (W → W → Type 0) → List ℕ → P → Type 0
Goes {W = W} f g rules Agree name p = refusal_of g rules name p ≡ None → (u v : W) → Agree u v → Agree (f.after u name p) (g.after v name p)

abbrev pub AskAlike : {P A W : Type 0} → PartRule P A W → PartRule P A W → Type 0
AskAlike {P = P} f g = (name : List ℕ) (p : P) → f.questions name p ≡ g.questions name p

part_goes : {P A W : Type 0} (f g : PartRule P A W) (rules : Rules) (Agree : W → W → Type 0) → AskAlike f g → (name : List ℕ) (p : P) → Goes f g rules Agree name p → (u v : W) → Agree u v → Agree (part_world f rules u name p) (part_world g rules v name p)
part_goes f g rules Agree asks name p goes u v agree = subst (λ (qs : List Question). Agree (world_by f (part_refusal rules qs) u name p) (part_world g rules v name p)) (sym (asks name p)) (by_refusal (refusal_of g rules name p) refl) where
  by_refusal : (o : Option Refusal) → refusal_of g rules name p ≡ o → Agree (world_by f o u name p) (world_by g o v name p)
  by_refusal None is = goes is u v agree
  by_refusal (Some r) is = agree

parts_go : {P A W : Type 0} (f g : PartRule P A W) (rules : Rules) (Agree : W → W → Type 0) → AskAlike f g → (name : List ℕ) (ps : List P) → AllParts (Goes f g rules Agree) name ps → (u v : W) → Agree u v → Agree (parts_world f rules u name ps) (parts_world g rules v name ps)
parts_go f g rules Agree asks name [] all u v agree = agree
parts_go f g rules Agree asks name (p ∷ ps) all u v agree = parts_go f g rules Agree asks name ps all.1 (part_world f rules u name p) (part_world g rules v name p) (part_goes f g rules Agree asks name p all.0 u v agree)

topics_go_on : {P A W : Type 0} (f g : PartRule P A W) (rules : Rules) (Agree : W → W → Type 0) → AskAlike f g → (ts : List (TopicParts P)) → AllTopics (Goes f g rules Agree) ts → (u v : W) → Agree u v → Agree (topics_world f rules u ts) (topics_world g rules v ts)
topics_go_on f g rules Agree asks [] all u v agree = agree
topics_go_on f g rules Agree asks (t ∷ ts) all u v agree =
    topics_go_on f g rules Agree asks ts all.1 (parts_world f rules u t.name t.partitions) (parts_world g rules v t.name t.partitions) (parts_go f g rules Agree asks t.name t.partitions all.0 u v agree)

pub walk_goes : {P A W : Type 0} (f g : PartRule P A W) (rules : Rules) (Agree : W → W → Type 0) → AskAlike f g → (ts : List (TopicParts P)) → AllTopics (Goes f g rules Agree) ts → (u v : W) → Agree u v → Agree (world_after f rules u ts) (world_after g rules v ts)
walk_goes {W = W} f g rules Agree asks ts all u v agree =
    subst (λ (x : W). Agree x (world_after g rules v ts)) (woven f rules u ts).world
    (subst (λ (y : W). Agree (topics_world f rules u ts) y) (woven g rules v ts).world (topics_go_on f g rules Agree asks ts all u v agree))

-- ---- two worlds

-- what v and w agree on their successors agree on
pub record AgreeAfter (v w new_v new_w : World) : Type 0 where
  pub base : SameBase new_v new_w
  pub resources : (kind : Kind) (name : List ℕ) → SameOn v w kind name → SameOn new_v new_w kind name

module _ (v w : World) (base : SameBase v w) where
  pub unchanged : AgreeAfter v w v w
  unchanged = record { base = base; resources = λ kind name same. same }

  pub unchanged_as : (x y : World) → x ≡ v → y ≡ w → AgreeAfter v w x y
  unchanged_as x y one two = subst (λ (a : World). AgreeAfter v w a y) (sym one) (subst (λ (b : World). AgreeAfter v w v b) (sym two) unchanged)

  pub by_topics : (us vs : List TopicValue) → ((name : List ℕ) → find_topic v.topics name ≡ find_topic w.topics name → find_topic us name ≡ find_topic vs name) → AgreeAfter v w (record v { topics = us }) (record w { topics = vs })
  by_topics us vs goes = record { base = record { node = base.node; rules = base.rules; moment = base.moment; events = base.events; given = base.given }; resources = on } where
    on : (kind : Kind) (name : List ℕ) → SameOn v w kind name → SameOn (record v { topics = us }) (record w { topics = vs }) kind name
    on Topic name same = goes name same
    on Group name same = same
    on Cluster name same = same
    on TransactionalId name same = same

  pub by_groups : (us vs : List GroupValue) → ((name : List ℕ) → find_group v.groups name ≡ find_group w.groups name → find_group us name ≡ find_group vs name) → AgreeAfter v w (record v { groups = us }) (record w { groups = vs })
  by_groups us vs goes = record { base = record { node = base.node; rules = base.rules; moment = base.moment; events = base.events; given = base.given }; resources = on } where
    on : (kind : Kind) (name : List ℕ) → SameOn v w kind name → SameOn (record v { groups = us }) (record w { groups = vs }) kind name
    on Topic name same = same
    on Group name same = goes name same
    on Cluster name same = same
    on TransactionalId name same = same

  pub by_coordinator : (c d : CoordinatorValue) → map is_some c.given ≡ map is_some d.given → ((name : List ℕ) → id_record v.coordinator.transactions name ≡ id_record w.coordinator.transactions name → id_record c.transactions name ≡ id_record d.transactions name)
      → AgreeAfter v w (record v { coordinator = c }) (record w { coordinator = d })
  by_coordinator c d given goes = record { base = record { node = base.node; rules = base.rules; moment = base.moment; events = base.events; given = given }; resources = on } where
    on : (kind : Kind) (name : List ℕ) → SameOn v w kind name → SameOn (record v { coordinator = c }) (record w { coordinator = d }) kind name
    on Topic name same = same
    on Group name same = same
    on Cluster name same = same
    on TransactionalId name same = goes name same

  pub by_book : (a b : BookValue) → a ≡ b → AgreeAfter v w (record v { book = a }) (record w { book = b })
  by_book a b is = record { base = record { node = base.node; rules = λ i. record { book = is i; supers = (base.rules i).supers }; moment = base.moment; events = base.events; given = base.given }; resources = on } where
    on : (kind : Kind) (name : List ℕ) → SameOn v w kind name → SameOn (record v { book = a }) (record w { book = b }) kind name
    on Topic name same = same
    on Group name same = same
    on Cluster name same = same
    on TransactionalId name same = same

  -- a request that is one part
  pub by_whole : (qs : List Question) (refused : ErrorCode → Reply) (a b : Served) → (part_refusal (rules_of w) qs ≡ None → AgreeAfter v w a.world b.world)
      → AgreeAfter v w (whole_outcome_by (part_refusal (rules_of v) qs) v refused a).world (whole_outcome_by (part_refusal (rules_of w) qs) w refused b).world
  by_whole qs refused a b goes =
      subst (λ (rules : Rules). AgreeAfter v w (whole_outcome_by (part_refusal rules qs) v refused a).world (whole_outcome_by (part_refusal (rules_of w) qs) w refused b).world) (sym base.rules) (by_refusal (part_refusal (rules_of w) qs) refl) where
        by_refusal : (o : Option Refusal) → part_refusal (rules_of w) qs ≡ o → AgreeAfter v w (whole_outcome_by o v refused a).world (whole_outcome_by o w refused b).world
        by_refusal None is = goes is
        by_refusal (Some r) is = unchanged
