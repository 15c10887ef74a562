-- What is told of all questions of a request, told of each part.
use Rattle.std.proofs.Common.{◌≡◌, inl, inr, ℕ, List, [], ◌∷◌, ◌++◌, map, None}
use Rattle.std.specs.List.{AllByRecursion, flat_map}
use Rattle.acl_binding.specs.declared.question.Question.{Question}
use Rattle.acl_binding.specs.declared.words.Kind.{Kind}
use Rattle.authorizer.specs.Policy.{verdict}
use Rattle.authorizer.specs.Asking.{part_refusal}
use Rattle.wire_types.specs.declared.topic.Topic.{Topic}
use Rattle.walk.specs.Alike.{AllParts, AllTopics}
use Rattle.broker_world.specs.World.{World, rules_of}
use Rattle.api_laws.specs.Tenants.{SameGranted}
use Rattle.api_laws.proofs.DataGrants.{yes_of, rest_of}
use Rattle.api_dispatch.specs.Questions.{partition_parts}
use Rattle.tenant_laws.specs.Laws.{AsksAbout, NoPartIsGranted, NoQuestionIsGranted}

-- ---- lists after one another

all_front : {A : Type 0} (Is : A → Type 0) (xs ys : List A) → AllByRecursion Is (xs ++ ys) → AllByRecursion Is xs
all_front Is [] ys all = tt
all_front Is (x ∷ xs) ys all = (all.0, all_front Is xs ys all.1)

all_back : {A : Type 0} (Is : A → Type 0) (xs ys : List A) → AllByRecursion Is (xs ++ ys) → AllByRecursion Is ys
all_back Is [] ys all = all
all_back Is (x ∷ xs) ys all = all_back Is xs ys all.1

granted_front : (v w : World) (xs ys : List Question) → SameGranted v w (xs ++ ys) → SameGranted v w xs
granted_front v w [] ys same = tt
granted_front v w (q ∷ qs) ys same = (same.0, granted_front v w qs ys same.1)

granted_back : (v w : World) (xs ys : List Question) → SameGranted v w (xs ++ ys) → SameGranted v w ys
granted_back v w [] ys same = same
granted_back v w (q ∷ qs) ys same = granted_back v w qs ys same.1

-- ---- each part

pub granted_each : (v w : World) (parts : List (List Question)) → SameGranted v w (flat_map (λ part. part) parts) → AllByRecursion (SameGranted v w) parts
granted_each v w [] same = tt
granted_each v w (part ∷ parts) same =
    let rest : List Question = flat_map (λ part. part) parts in
    (granted_front v w part rest same, granted_each v w parts (granted_back v w part rest same))

-- a part that asks about the resource has a question that is granted
about_granted : (w : World) (kind : Kind) (name : List ℕ) (qs : List Question) → NoQuestionIsGranted w kind name qs → AsksAbout kind name qs → part_refusal (rules_of w) qs ≡ None → ⊥
about_granted w kind name [] none asks granted = asks
about_granted w kind name (q ∷ qs) none (inl about) granted = none.0 about (yes_of (verdict w.book w.supers q) q (part_refusal (rules_of w) qs) granted)
about_granted w kind name (q ∷ qs) none (inr later) granted = about_granted w kind name qs none.1 later (rest_of (verdict w.book w.supers q) q (part_refusal (rules_of w) qs) granted)

pub no_part_granted : (w : World) (kind : Kind) (name : List ℕ) (parts : List (List Question)) → NoQuestionIsGranted w kind name (flat_map (λ part. part) parts) → NoPartIsGranted w kind name parts
no_part_granted w kind name [] none = tt
no_part_granted w kind name (part ∷ parts) none =
    let rest : List Question = flat_map (λ part. part) parts in
    (about_granted w kind name part (all_front _ part rest none), no_part_granted w kind name parts (all_back _ part rest none))

-- ---- each partition

-- what holds of what each partition asks, and what follows of the partition
pub each_partition : {P : Type 0} (asks : List ℕ → List Question) (Is : List Question → Type 0) (Has : List ℕ → P → Type 0) → ((name : List ℕ) (p : P) → Is (asks name) → Has name p)
    → (ts : List (Topic P)) → AllByRecursion Is (partition_parts asks ts) → AllTopics Has ts
each_partition asks Is Has to [] all = tt
each_partition {P = P} asks Is Has to (t ∷ ts) all =
    (by_parts t.partitions (all_front Is (map (λ (p : P). asks t.name) t.partitions) (partition_parts asks ts) all), each_partition asks Is Has to ts (all_back Is (map (λ (p : P). asks t.name) t.partitions) (partition_parts asks ts) all)) where
      by_parts : (ps : List P) → AllByRecursion Is (map (λ (p : P). asks t.name) ps) → AllParts Has t.name ps
      by_parts [] all = tt
      by_parts (p ∷ ps) all = (to t.name p all.0, by_parts ps all.1)

-- what holds of each partition, and what follows of it
pub more_topics : {P : Type 0} (Is Has : List ℕ → P → Type 0) → ((name : List ℕ) (p : P) → Is name p → Has name p) → (ts : List (Topic P)) → AllTopics Is ts → AllTopics Has ts
more_topics Is Has to [] all = tt
more_topics {P = P} Is Has to (t ∷ ts) all = (by_parts t.partitions all.0, more_topics Is Has to ts all.1) where
  by_parts : (ps : List P) → AllParts Is t.name ps → AllParts Has t.name ps
  by_parts [] all = tt
  by_parts (p ∷ ps) all = (to t.name p all.0, by_parts ps all.1)
