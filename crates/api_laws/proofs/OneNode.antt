-- One node is the whole cluster.
use Rattle.api_dispatch.specs.Step.{reply_to}
use Rattle.std.proofs.Common.{◌≡◌, ◌⊎◌, inl, inr, ℕ, zero, suc, ◌+◌, ℤ, pos, List, [], ◌∷◌, Option, Some, None, Bool, true, false, cond, refl, sym, ap, subst, ◌∙◌, arith}
use Rattle.std.specs.Prelude.{slice_get}
use Rattle.std.specs.List.{AllByRecursion}
use Rattle.std.specs.Option.{option_map}
use Rattle.std.specs.Ordering.{int_eq}
use Rattle.std.proofs.lemmas.Bool.Decides.{Decides-int_eq}
use Rattle.acl_binding.specs.declared.question.Caller.{Caller}
use Rattle.acl_binding.specs.declared.words.Kind.{Kind}
use Rattle.acl_binding.specs.declared.words.Kind.TheVariants as kinds
use Rattle.authorizer.specs.declared.answer.Refusal.{Refusal}
use Rattle.authorizer.specs.Asking.{Rules, part_refusal}
use Rattle.wire_types.specs.declared.error_code.ErrorCode.{ErrorCode}
use Rattle.wire_types.specs.declared.error_code.ErrorCode.TheVariants as codes
use Rattle.wire_types.specs.ErrorCode.{number_of}
use Rattle.msg_data.specs.declared.metadata.MetadataRequest.{MetadataRequest}
use Rattle.msg_data.specs.declared.metadata.MetadataReply.{MetadataReply}
use Rattle.msg_data.specs.declared.metadata.TopicInfo.{TopicInfo}
use Rattle.msg_data.specs.declared.metadata.PartitionInfo.{PartitionInfo}
use Rattle.msg_txn.specs.declared.find_coordinator.FindCoordinatorRequest.{FindCoordinatorRequest}
use Rattle.msg_txn.specs.declared.find_coordinator.FindCoordinatorReply.{FindCoordinatorReply}
use Rattle.msg_admin.specs.declared.reply.Reply.TheVariants as replies
use Rattle.walk.specs.Codes.{permission_code, refusal_code}
use Rattle.walk.specs.Weave.{weave}
use Rattle.broker_world.specs.World.{World, TopicValue, rules_of, find_topic}
use Rattle.broker_world.specs.Whole.{whole_outcome_by}
use Rattle.broker_world.specs.Questions.{topic_refusal}
use Rattle.broker_world.specs.Partitions.{partitions_from}
use Rattle.data_handlers.specs.Metadata.{topic_error, topic_found, plain_topics, allowed_topics, refused_topics, metadata_topics, metadata_answer}
use Rattle.group_handlers.specs.FindCoordinator.{kind_of, find_questions, find_error, find_reply}
use Rattle.api_laws.specs.OneNode.{IsLed, ListsTheNode, FindsTheNode, OneNodeIsAll}

-- ---- Metadata

abbrev AreLed : ℤ → TopicInfo → Type 0
AreLed node t = (j : ℕ) (p : PartitionInfo) → slice_get t.partitions j ≡ Some p → IsLed node j p

led_from : (node : ℤ) (k n j : ℕ) (p : PartitionInfo) → slice_get (partitions_from node k n) j ≡ Some p → IsLed node (k + j) p
unfolding number_of
led_from node k zero j p h = absurd (let clash : None ≡ Some p = h in cc)
led_from node k (suc n) zero p h =
    let same : record { error = codes.None; index = pos k; leader = node; replicas = node ∷ []; in_sync = node ∷ [] } ≡ p = cc in
    let own : k ≡ k + 0 = omega arith in
    record {
      error = ap (λ (x : PartitionInfo). number_of x.error) (sym same);
      index = ap (λ (x : PartitionInfo). x.index) (sym same) ∙ ap pos own;
      leader = ap (λ (x : PartitionInfo). x.leader) (sym same);
      replicas = ap (λ (x : PartitionInfo). x.replicas) (sym same);
      in_sync = ap (λ (x : PartitionInfo). x.in_sync) (sym same);
    }
led_from node k (suc n) (suc j) p h = let place : (k + 1) + j ≡ k + suc j = omega arith in subst (λ i. IsLed node i p) place (led_from node (k + 1) n j p h)

found_led : (node : ℤ) (name : List ℕ) (o : Option TopicValue) → AreLed node (topic_found node name o)
found_led node name None = λ j p h. absurd (let clash : None ≡ Some p = h in cc)
found_led node name (Some t) = λ j p h. let place : 0 + j ≡ j = omega arith in subst (λ i. IsLed node i p) place (led_from node 0 _ j p h)

plain_led : (w : World) (names : List (List ℕ)) → AllByRecursion (AreLed w.node.node_id) (plain_topics w names)
plain_led w [] = tt
plain_led w (name ∷ names) = (found_led w.node.node_id name (find_topic w.topics name), plain_led w names)

error_led : (node : ℤ) (code : ErrorCode) (name : List ℕ) → AreLed node (topic_error code name)
error_led node code name = λ j p h. absurd (let clash : None ≡ Some p = h in cc)

-- the refused parts put back
abbrev IsLedIf : ℤ → Option TopicInfo → Type 0
IsLedIf node None = Unit {0}
IsLedIf node (Some t) = AreLed node t

refused_led : (w : World) (caller : Caller) (names : List (List ℕ)) → AllByRecursion (IsLedIf w.node.node_id) (refused_topics (rules_of w) caller (Some names))
refused_led w caller [] = tt
refused_led w caller (name ∷ names) = (by_refusal (topic_refusal (rules_of w) caller name), refused_led w caller names) where
  by_refusal : (o : Option Refusal) → IsLedIf w.node.node_id (option_map (λ (r : Refusal). topic_error (refusal_code r) name) o)
  by_refusal None = tt
  by_refusal (Some r) = error_led w.node.node_id (refusal_code r) name

woven_led : (node : ℤ) (refused : List (Option TopicInfo)) (plain : List TopicInfo) → AllByRecursion (IsLedIf node) refused → AllByRecursion (AreLed node) plain → AllByRecursion (AreLed node) (weave refused plain)
woven_led node [] plain h k = k
woven_led node (Some t ∷ refused) plain h k = (h.0, woven_led node refused plain h.1 k)
woven_led node (None ∷ refused) [] h k = tt
woven_led node (None ∷ refused) (t ∷ plain) h k = (k.0, woven_led node refused plain h.1 k.1)

topics_led : (w : World) (caller : Caller) (topics : Option (List (List ℕ))) → AllByRecursion (AreLed w.node.node_id) (metadata_topics w caller topics)
topics_led w caller None = plain_led w (allowed_topics w caller None)
topics_led w caller (Some names) = woven_led w.node.node_id (refused_topics (rules_of w) caller (Some names)) _ (refused_led w caller names) (plain_led w (allowed_topics w caller (Some names)))

led_at : (node : ℤ) (ts : List TopicInfo) (i : ℕ) (t : TopicInfo) → AllByRecursion (AreLed node) ts → slice_get ts i ≡ Some t → AreLed node t
led_at node [] i t all h = absurd (let clash : None ≡ Some t = h in cc)
led_at node (x ∷ ts) zero t all h = subst (AreLed node) (let same : x ≡ t = cc in same) all.0
led_at node (x ∷ ts) (suc i) t all h = led_at node ts i t all.1 h

lists : (w : World) (caller : Caller) (m : MetadataRequest) → ListsTheNode w (metadata_answer w caller m)
lists w caller m = record { brokers = refl; controller = refl; partitions = λ i j t p here there. led_at w.node.node_id _ i t (topics_led w caller m.topics) here j p there }

-- ---- FindCoordinator

apart : (m n : ℕ) → pos m ≡ pos n → (m ≡ n → ⊥) → ⊥
apart m n h other = other (same_number m n h) where
  same_number : (m n : ℕ) → pos m ≡ pos n → m ≡ n
  same_number m n h = cc

-- a refused part is told neither 0 nor 42
refused_number : (k : Kind) → (number_of (permission_code k) ≡ pos 0 → ⊥) × (number_of (permission_code k) ≡ pos 42 → ⊥)
unfolding number_of
refused_number kinds.Topic = (λ h. apart 29 0 h (λ e. omega (arith, e)), λ h. apart 29 42 h (λ e. omega (arith, e)))
refused_number kinds.Group = (λ h. apart 30 0 h (λ e. omega (arith, e)), λ h. apart 30 42 h (λ e. omega (arith, e)))
refused_number kinds.Cluster = (λ h. apart 31 0 h (λ e. omega (arith, e)), λ h. apart 31 42 h (λ e. omega (arith, e)))
refused_number kinds.TransactionalId = (λ h. apart 53 0 h (λ e. omega (arith, e)), λ h. apart 53 42 h (λ e. omega (arith, e)))

abbrev answered : World → Option Refusal → Option Kind → FindCoordinatorReply
answered w (Some x) k = find_error (refusal_code x)
answered w None k = find_reply k w.node

by_answer : (w : World) (o : Option Refusal) (k : Option Kind)
    → (whole_outcome_by o w (λ code. replies.FindCoordinator (find_error code)) (record { world = w; reply = replies.FindCoordinator (find_reply k w.node) })).reply ≡ replies.FindCoordinator (answered w o k)
by_answer w None k = refl
by_answer w (Some x) k = refl

kind_typed : (n : ℤ) → (n ≡ pos 0) ⊎ (n ≡ pos 1) → kind_of n ≡ None → ⊥
kind_typed n (inl is) none = let clash : kind_of (pos 0) ≡ None = ap kind_of (sym is) ∙ none in cc
kind_typed n (inr is) none = let clash : kind_of (pos 1) ≡ None = ap kind_of (sym is) ∙ none in cc

kind_untyped : (n : ℤ) → (n ≡ pos 0 → ⊥) → (n ≡ pos 1 → ⊥) → kind_of n ≡ None
kind_untyped n not_zero not_one = by_tests (int_eq n (pos 0)) (int_eq n (pos 1)) refl refl where
  by_tests : (a b : Bool) → int_eq n (pos 0) ≡ a → int_eq n (pos 1) ≡ b → cond a (Some kinds.Group) (cond b (Some kinds.TransactionalId) None) ≡ None
  by_tests true b e f = absurd (not_zero ((Decides-int_eq n (pos 0)).0 e))
  by_tests false true e f = absurd (not_one ((Decides-int_eq n (pos 1)).0 f))
  by_tests false false e f = refl

-- where nothing is asked nothing is refused
refused_none : (rules : Rules) (caller : Caller) (k : Option Kind) (key : List ℕ) → k ≡ None → part_refusal rules (find_questions caller k key) ≡ None
refused_none rules caller None key is = refl
refused_none rules caller (Some kind) key is = absurd (let clash : Some kind ≡ None = is in cc)

finds : (w : World) (o : Option Refusal) (k : Option Kind) (r : FindCoordinatorRequest) → kind_of r.key_type ≡ k → (k ≡ None → o ≡ None) → FindsTheNode w r (answered w o k)
unfolding number_of
finds w (Some x) k r is only = record {
  found = λ h. absurd ((refused_number x.question.kind).0 h);
  failed = λ h. record { node = refl; host = refl; port = refl };
  typed = λ t h. (refused_number x.question.kind).1 h;
  untyped = λ a b. absurd (let clash : Some x ≡ None = only (sym is ∙ kind_untyped r.key_type a b) in cc);
}
finds w None None r is only = record {
  found = λ h. absurd (apart 42 0 h (λ e. omega (arith, e)));
  failed = λ h. record { node = refl; host = refl; port = refl };
  typed = λ t h. kind_typed r.key_type t is;
  untyped = λ a b. refl;
}
finds w None (Some kind) r is only = record {
  found = λ h. record { node = refl; host = refl; port = refl };
  failed = λ h. absurd (h refl);
  typed = λ t h. apart 0 42 h (λ e. omega (arith, e));
  untyped = λ a b. absurd (let clash : Some kind ≡ None = sym is ∙ kind_untyped r.key_type a b in cc);
}

-- ---- the law

same_found : (a b : FindCoordinatorReply) → replies.FindCoordinator a ≡ replies.FindCoordinator b → a ≡ b
same_found a b h = cc

same_listed : (a b : MetadataReply) → replies.Metadata a ≡ replies.Metadata b → a ≡ b
same_listed a b h = cc

pub one_node : OneNodeIsAll reply_to
one_node = record {
  first = λ s. record { id = refl; host = refl; port = refl };
  listed = λ w caller client m reply h. subst (ListsTheNode w) (same_listed (metadata_answer w caller m) reply h) (lists w caller m);
  found = λ w caller client r reply h.
      let k = kind_of r.key_type in
      let o = part_refusal (rules_of w) (find_questions caller k r.key) in
      subst (FindsTheNode w r) (same_found (answered w o k) reply (sym (by_answer w o k) ∙ h)) (finds w o k r refl (refused_none (rules_of w) caller k r.key));
}
