-- A group that isn't there yet: what it is found to be, and what its first call leaves.
use Rattle.std.proofs.Common.{◌≡◌, ℕ, ◌+◌, List, [], ◌∷◌, ◌++◌, Option, Some, None, Bool, true, false, cond, refl, sym, ap, ◌∙◌}
use Rattle.std.specs.Prelude.{Err, unwrap_or, is_ok}
use Rattle.std.specs.Option.{option_map}
use Rattle.std.specs.Str.{bytes_eq}
use Rattle.std.proofs.lemmas.Slice.Eq.{bytes_eq-Decides}
use Rattle.wire_types.specs.declared.error_code.ErrorCode.{ErrorCode}
use Rattle.wire_types.specs.declared.error_code.ErrorCode.TheVariants as codes
use Rattle.msg_group.specs.declared.sync_group.SyncGroupRequest.{SyncGroupRequest}
use Rattle.msg_group.specs.declared.heartbeat.HeartbeatRequest.{HeartbeatRequest}
use Rattle.msg_group.specs.declared.leave_group.LeaveGroupRequest.{LeaveGroupRequest}
use Rattle.group_offsets.specs.declared.group.Group.{Group}
use Rattle.group_offsets.specs.GroupTransition.{GroupTransition, Stays, Puts, answer_of, group_after}
use Rattle.group_offsets.specs.Group.{fresh_group, is_empty, sync_group, beat_group, leave_group}
use Rattle.group_offsets.specs.Groups.{find_group, group_of, groups_with, groups_after, unknown_group_error, place_of}

pub not_some : (o : Option ℕ) → option_map (λ j. j + 1) o ≡ None → o ≡ None
not_some None h = refl
not_some (Some n) h = absurd (let clash : Some (n + 1) ≡ None = h in cc)

-- ---- a name that no group has

pub none_at : (gs : List Group) (name : List ℕ) → place_of gs name ≡ None → find_group gs name ≡ None
none_at [] name none = refl
none_at (x ∷ xs) name none = by_test (none_at xs name) (bytes_eq x.name name) none where
  by_test : (place_of xs name ≡ None → find_group xs name ≡ None) → (b : Bool) → cond b (Some 0) (option_map (λ i. i + 1) (place_of xs name)) ≡ None → cond b (Some x) (find_group xs name) ≡ None
  by_test rest true h = absurd (let clash : Some 0 ≡ None = h in cc)
  by_test rest false h = rest (not_some (place_of xs name) h)

pub fresh_at : (gs : List Group) (name : List ℕ) → place_of gs name ≡ None → group_of gs name ≡ fresh_group name
fresh_at gs name none = ap (λ o. unwrap_or o (fresh_group name)) (none_at gs name none)

-- it has the name that was looked for
pub found_name : (gs : List Group) (g : Group) (name : List ℕ) → find_group gs name ≡ Some g → g.name ≡ name
found_name [] g name h = absurd (let clash : None ≡ Some g = h in cc)
found_name (x ∷ xs) g name h = by_test (found_name xs g name) (bytes_eq x.name name) refl h where
  by_test : (find_group xs name ≡ Some g → g.name ≡ name) → (b : Bool) → bytes_eq x.name name ≡ b → cond b (Some x) (find_group xs name) ≡ Some g → g.name ≡ name
  by_test rest true same e = let is : x ≡ g = cc in ap (λ (y : Group). y.name) (sym is) ∙ (bytes_eq-Decides x.name name).0 same
  by_test rest false same e = rest e

pushed : (gs : List Group) (new : Group) → place_of gs new.name ≡ None → gs ++ new ∷ [] ≡ groups_with gs new
pushed [] new none = refl
pushed (x ∷ xs) new none = by_test (λ h. pushed xs new h) (bytes_eq x.name new.name) none where
  by_test : (place_of xs new.name ≡ None → xs ++ new ∷ [] ≡ groups_with xs new) → (b : Bool) → cond b (Some 0) (option_map (λ i. i + 1) (place_of xs new.name)) ≡ None → x ∷ (xs ++ new ∷ []) ≡ cond b (new ∷ xs) (x ∷ groups_with xs new)
  by_test rest true h = absurd (let clash : Some 0 ≡ None = h in cc)
  by_test rest false h = ap (λ (l : List Group). x ∷ l) (rest (not_some (place_of xs new.name) h))

-- a group that begins stands after all others; one that is refused doesn't begin
pub kept_fresh : {A : Type 0} (gs : List Group) (new : Group) (name : List ℕ) (transition : Group → GroupTransition A) → place_of gs name ≡ None → new ≡ group_after (fresh_group name) (transition (fresh_group name)) → new.name ≡ name
    → cond (is_ok (answer_of (transition (fresh_group name)))) (gs ++ new ∷ []) gs ≡ groups_after gs (transition (group_of gs name))
kept_fresh {A = A} gs new name transition none made same = by_transition (transition (fresh_group name)) made ∙ ap (λ (x : Group). groups_after gs (transition x)) (sym (fresh_at gs name none)) where
  by_transition : (t : GroupTransition A) → new ≡ group_after (fresh_group name) t → cond (is_ok (answer_of t)) (gs ++ new ∷ []) gs ≡ groups_after gs t
  by_transition (Stays code) e = refl
  by_transition (Puts answer h) e = pushed gs new (ap (place_of gs) same ∙ none) ∙ ap (groups_with gs) e

pub answered_fresh : {A : Type 0} (gs : List Group) (name : List ℕ) (transition : Group → GroupTransition A) → place_of gs name ≡ None
    → answer_of (transition (fresh_group name)) ≡ answer_of (transition (group_of gs name))
answered_fresh gs name transition none = ap (λ (x : Group). answer_of (transition x)) (sym (fresh_at gs name none))

-- ---- a group that nobody joined yet

pub refused_fresh : {A : Type 0} (gs : List Group) (name : List ℕ) (transition : Group → GroupTransition A) → place_of gs name ≡ None → transition (fresh_group name) ≡ Stays (unknown_group_error name) → gs ≡ groups_after gs (transition (group_of gs name))
refused_fresh gs name transition none stays = ap (groups_after gs) (sym stays) ∙ ap (λ (x : Group). groups_after gs (transition x)) (sym (fresh_at gs name none))

pub refusal_fresh : {A : Type 0} (gs : List Group) (name : List ℕ) (transition : Group → GroupTransition A) → place_of gs name ≡ None → transition (fresh_group name) ≡ Stays (unknown_group_error name) → Err (unknown_group_error name) ≡ answer_of (transition (group_of gs name))
refusal_fresh gs name transition none stays = ap answer_of (sym stays) ∙ ap (λ (x : Group). answer_of (transition x)) (sym (fresh_at gs name none))

-- a member's call is refused by it
stays_either : {A : Type 0} (b : Bool) (x y : ErrorCode) (stays : ErrorCode → GroupTransition A) → cond b (stays x) (stays y) ≡ stays (cond b x y)
stays_either true x y stays = refl
stays_either false x y stays = refl

pub sync_fresh : (request : SyncGroupRequest) (moment : ℕ) → sync_group (fresh_group request.group) request moment ≡ Stays (unknown_group_error request.group)
sync_fresh request moment = stays_either {A = List ℕ} (is_empty request.group) codes.InvalidGroupId codes.UnknownMemberId (λ code. Stays code)

pub beat_fresh : (request : HeartbeatRequest) (moment : ℕ) → beat_group (fresh_group request.group) request moment ≡ Stays (unknown_group_error request.group)
beat_fresh request moment = stays_either {A = Unit {0}} (is_empty request.group) codes.InvalidGroupId codes.UnknownMemberId (λ code. Stays code)

pub leave_fresh : (request : LeaveGroupRequest) → leave_group (fresh_group request.group) request ≡ Stays (unknown_group_error request.group)
leave_fresh request = stays_either {A = Unit {0}} (is_empty request.group) codes.InvalidGroupId codes.UnknownMemberId (λ code. Stays code)
