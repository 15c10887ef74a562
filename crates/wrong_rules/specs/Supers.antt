-- Who is a super user (Kafka documentation, `super.users`).
use Rattle.std.specs.Prelude.{◌≡◌, ◌⊎◌, ◌↔◌, true, ℕ, Bool, List, [], ◌∷◌, nat_eq, length, codes as bytes, false, Some, None, if◌then◌else◌}
use Rattle.std.specs.List.{list_any, starts_with}
use Rattle.msg_admin.specs.declared.request.Request.TheVariants as requests
use Rattle.audit_trail.specs.declared.event.Event.TheVariants.{Ask, Mark, Tick}
use Rattle.broker_world.specs.World.{World}
use Rattle.api_dispatch.specs.Step.{outcome}
use Rattle.wrong_rules.specs.Steps.{StepRule, cluster}

-- which of these names a super user has
abbrev pub SuperRule : Type 0
SuperRule = List (List ℕ) → List ℕ → Bool

-- the name is one of these
abbrev pub IsListed : List (List ℕ) → List ℕ → Type 0
IsListed [] who = ⊥
IsListed (name ∷ names) who = (name ≡ who) ⊎ IsListed names who

-- super users are exactly those that are listed
abbrev pub SupersAreListed : SuperRule → Type 0
SupersAreListed rule =
    (supers : List (List ℕ)) (who : List ℕ) → (rule supers who ≡ true) ↔ IsListed supers who

-- every rule under which super users are exactly those that are listed is this one
abbrev pub OnlyRuleOfSupers : SuperRule → Type 0
OnlyRuleOfSupers right =
    (rule : SuperRule) → SupersAreListed rule
    → (supers : List (List ℕ)) (who : List ℕ) → rule supers who ≡ right supers who

-- with `User:root` as a super user, `User:root2` may not describe a topic
abbrev pub LongerNameIsRefused : StepRule → Type 0
LongerNameIsRefused rule =
    length
    (rule cluster
    (Ask (record { who = bytes "User:root2"; host = bytes "h" }) None
    (requests.Metadata (record { topics = Some (bytes "a" ∷ []) })))).refusals
    ≡ 1

-- ---- wrong

-- everybody whose name begins with a super user's
abbrev pub super_by_prefix : SuperRule
super_by_prefix supers who = list_any (λ name. starts_with nat_eq who name) supers

-- everybody, once there is a super user
abbrev pub super_once_one_is : SuperRule
super_once_one_is [] who = false
super_once_one_is (name ∷ names) who = true

abbrev pub as_super : Bool → World → List ℕ → World
as_super is w who = if is then record w { supers = who ∷ [] } else w

-- whoever is super by the beginning of the name is served as a super user
abbrev pub step_super_by_prefix : StepRule
step_super_by_prefix w (Ask caller client request) =
    let o = outcome (as_super (super_by_prefix w.supers caller.who) w caller.who)
    (Ask caller client request) in
    record o { world = record o.world { supers = w.supers } }
step_super_by_prefix w Mark = outcome w Mark
step_super_by_prefix w (Tick moment) = outcome w (Tick moment)
