-- The world that settings begin with, in words of its own.
use Rattle.std.specs.Prelude.{◌≡◌, ℕ, ◌+◌, pos, List, [], ◌∷◌, length, map, None}
use Rattle.std.specs.List.{AllByRecursion}
use Rattle.acl_binding.specs.declared.binding.Binding.{Binding}
use Rattle.acl_binding.specs.declared.binding.Numbered.{Numbered}
use Rattle.settings.specs.declared.settings.Settings.{Settings}
use Rattle.settings.specs.declared.settings.TopicSetting.{TopicSetting}
use Rattle.settings.specs.Fault.{first_fault}
use Rattle.txn_laws.specs.Sound.{IsAmong}
use Rattle.broker_world.specs.World.{World, TopicValue, LogValue}

-- ---- the bindings

abbrev pub bindings_of : List Numbered → List Binding
bindings_of es = map (λ (e : Numbered). e.binding) es

abbrev pub AreAllDifferent : List Binding → Type 0
AreAllDifferent [] = Unit {0}
AreAllDifferent (b ∷ bs) = (IsAmong bs b → ⊥) × AreAllDifferent bs

-- numbered one after the other, from this number on
abbrev pub AreNumberedFrom : ℕ → List Numbered → Type 0
AreNumberedFrom n [] = Unit {0}
AreNumberedFrom n (e ∷ es) = (e.number ≡ n) × AreNumberedFrom (n + 1) es

-- all bindings of the settings and no other, each once, numbered from 1; where they are all
-- different, in their order
pub record AreFirstBindings (acls : List Binding) (es : List Numbered) : Type 0 where
  pub numbered : AreNumberedFrom 1 es
  pub all : (b : Binding) → IsAmong acls b → IsAmong (bindings_of es) b
  pub alone : (b : Binding) → IsAmong (bindings_of es) b → IsAmong acls b
  pub once : AreAllDifferent (bindings_of es)
  pub in_order : AreAllDifferent acls → bindings_of es ≡ acls

-- ---- the topics

-- by its name, with as many partitions as the settings say, of which each is empty
pub record IsFirstTopic (t : TopicSetting) (v : TopicValue) : Type 0 where
  pub named : v.name ≡ t.name
  pub as_many : pos (length v.partitions) ≡ t.partitions
  pub empty : AllByRecursion (λ (log : LogValue). log ≡ []) v.partitions

-- each of them in its place
abbrev pub AreFirstTopics : List TopicSetting → List TopicValue → Type 0
AreFirstTopics [] vs = vs ≡ []
AreFirstTopics (t ∷ ts) [] = ⊥
AreFirstTopics (t ∷ ts) (v ∷ vs) = IsFirstTopic t v × AreFirstTopics ts vs

-- ---- the world

pub record IsFirstWorld (s : Settings) (w : World) : Type 0 where
  pub bindings : AreFirstBindings s.acls w.book.entries
  pub topics : AreFirstTopics s.topics w.topics
  pub supers : w.supers ≡ s.supers
  pub no_group : w.groups ≡ []
  pub no_transaction : w.coordinator.transactions ≡ []
  pub no_marker : w.coordinator.warrants ≡ []
  pub no_producer_id : w.coordinator.given ≡ []
  pub no_event : w.events ≡ 0
  pub moment : w.moment ≡ 0
  pub next_number : w.book.next ≡ 1 + length w.book.entries
  pub max_batch : w.node.max_batch ≡ s.max_batch
  pub max_txn_timeout : w.node.max_txn_timeout ≡ s.max_txn_timeout

-- the world that settings begin with
abbrev pub FirstRule : Type 0
FirstRule = Settings → World

-- settings without a fault begin with what they say, and with nothing else
abbrev pub FirstWorldIsTheSettings : FirstRule → Type 0
FirstWorldIsTheSettings first_world =
    (s : Settings) → first_fault s ≡ None → IsFirstWorld s (first_world s)
