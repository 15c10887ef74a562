-- The members of a group one after the other.
use Rattle.std.proofs.Common.{◌≡◌, ◌⊎◌, inl, inr, ℕ, List, [], ◌∷◌, Option, Some, None, refl, sym, ap, subst, ◌∙◌}
use Rattle.audit_trail.specs.declared.event.Event.{Event}
use Rattle.group_offsets.specs.declared.group.Group.{Group}
use Rattle.group_offsets.specs.declared.member.Member.{Member}
use Rattle.group_offsets.specs.Groups.{group_of}
use Rattle.broker_world.specs.World.{World}
use Rattle.api_dispatch.specs.Step.{step, reply_to}
use Rattle.broker_laws.specs.Rules.{world_after}
use Rattle.broker_laws.specs.Members.{group_in, IsJoin, MayChange, ComesNew, ComesBack, IsHeardOf, IsAsBefore, MembersGo, Ends, MembersInShort, EndsAmong, EndsBetween, IsFirst, MembersComeAndGo}
use Rattle.broker_laws.proofs.Membership.{members_go}

one_of : (o : Option Member) (a b : Member) → o ≡ Some a → o ≡ Some b → a ≡ b
one_of o a b h k = cc

not_both : (o : Option Member) (a : Member) → o ≡ None → o ≡ Some a → ⊥
not_both o a h k = let clash : None ≡ Some a = sym h ∙ k in cc

-- ---- one event

module _ (w : World) (e : Event) (g : List ℕ) (go : MembersGo step reply_to w e g) where
  kept_by : (IsJoin reply_to w e g → ⊥) → MayChange step reply_to w e g ⊎ IsAsBefore (group_in w g) (group_in (step w e) g) → (group_in (step w e) g).generation ≡ (group_in w g).generation
  kept_by none (inl (inl j)) = absurd (none j)
  kept_by none (inl (inr (inl s))) = (go.syncs s).generation
  kept_by none (inl (inr (inr (inl b)))) = (go.beats b).generation
  kept_by none (inl (inr (inr (inr (inl l))))) = (go.leaves l).left.generation
  kept_by none (inl (inr (inr (inr (inr x))))) = (go.lapses x).generation
  kept_by none (inr same) = same.generation

  comes_by : (m : Member) → (group_in w g).member ≡ None → (group_in (step w e) g).member ≡ Some m → MayChange step reply_to w e g ⊎ IsAsBefore (group_in w g) (group_in (step w e) g) → IsJoin reply_to w e g
  comes_by m none has (inl (inl j)) = j
  comes_by m none has (inl (inr (inl s))) = absurd (not_both (group_in w g).member (go.syncs s).heard.before none (go.syncs s).heard.had)
  comes_by m none has (inl (inr (inr (inl b)))) = absurd (not_both (group_in w g).member (go.beats b).heard.before none (go.beats b).heard.had)
  comes_by m none has (inl (inr (inr (inr (inl l))))) = absurd (not_both (group_in w g).member (go.leaves l).by.member none (go.leaves l).by.has)
  comes_by m none has (inl (inr (inr (inr (inr x))))) = absurd (not_both (group_in w g).member x.member none x.had)
  comes_by m none has (inr same) = absurd (not_both (group_in (step w e) g).member m (same.member ∙ none) has)

  goes_by : (m : Member) → (group_in w g).member ≡ Some m → (group_in (step w e) g).member ≡ None → MayChange step reply_to w e g ⊎ IsAsBefore (group_in w g) (group_in (step w e) g) → Ends step reply_to w e g m.id
  goes_by m had none (inl (inl j)) = absurd (not_both (group_in (step w e) g).member (go.joins j).member none (go.joins j).has)
  goes_by m had none (inl (inr (inl s))) = absurd (not_both (group_in (step w e) g).member (go.syncs s).heard.after none (go.syncs s).heard.has)
  goes_by m had none (inl (inr (inr (inl b)))) = absurd (not_both (group_in (step w e) g).member (go.beats b).heard.after none (go.beats b).heard.has)
  goes_by m had none (inl (inr (inr (inr (inl l))))) =
      let by = (go.leaves l).by in
      inl (record { leave = l; whose = sym by.named ∙ ap (λ (x : Member). x.id) (one_of (group_in w g).member by.member m by.has had) })
  goes_by m had none (inl (inr (inr (inr (inr x))))) = inr (record { lapse = x; whose = ap (λ (y : Member). y.id) (one_of (group_in w g).member x.member m x.had had) })
  goes_by m had none (inr same) = absurd (not_both (group_in (step w e) g).member m none (same.member ∙ had))

  heard_stays : (m n : Member) → (group_in w g).member ≡ Some m → (group_in (step w e) g).member ≡ Some n → IsHeardOf w (group_in w g) (group_in (step w e) g) → n.id ≡ m.id
  heard_stays m n had has h =
      ap (λ (x : Member). x.id) (one_of (group_in (step w e) g).member n h.after has h.has)
      ∙ h.same
      ∙ ap (λ (x : Member). x.id) (one_of (group_in w g).member h.before m h.had had)

  stays_by : (m n : Member) → (group_in w g).member ≡ Some m → (group_in (step w e) g).member ≡ Some n → MayChange step reply_to w e g ⊎ IsAsBefore (group_in w g) (group_in (step w e) g) → n.id ≡ m.id
  stays_by m n had has (inl (inl j)) = by_who (go.joins j).who where
    by_who : ComesNew w (group_in w g) j.request j.reply ⊎ ComesBack (group_in w g) j.request j.reply → n.id ≡ m.id
    by_who (inl c) = absurd (not_both (group_in w g).member m c.no_member had)
    by_who (inr c) =
        ap (λ (x : Member). x.id) (one_of (group_in (step w e) g).member n (go.joins j).member has (go.joins j).has)
        ∙ sym (go.joins j).named
        ∙ c.named
        ∙ sym c.was.named
        ∙ ap (λ (x : Member). x.id) (one_of (group_in w g).member c.was.member m c.was.has had)
  stays_by m n had has (inl (inr (inl s))) = heard_stays m n had has (go.syncs s).heard
  stays_by m n had has (inl (inr (inr (inl b)))) = heard_stays m n had has (go.beats b).heard
  stays_by m n had has (inl (inr (inr (inr (inl l))))) = absurd (not_both (group_in (step w e) g).member n (go.leaves l).left.no_member has)
  stays_by m n had has (inl (inr (inr (inr (inr x))))) = absurd (not_both (group_in (step w e) g).member n (go.lapses x).no_member has)
  stays_by m n had has (inr same) = ap (λ (x : Member). x.id) (one_of (group_in (step w e) g).member n m has (same.member ∙ had))

pub in_short : (w : World) (e : Event) (g : List ℕ) → MembersInShort step reply_to w e g
in_short w e g =
    let go = members_go w e g in
    record {
      raised = λ j. (go.joins j).raised;
      kept = λ none. kept_by w e g go none go.nothing_else;
      comes = λ m none has. comes_by w e g go m none has go.nothing_else;
      goes = λ m had none. goes_by w e g go m had none go.nothing_else;
      stays = λ m n had has. stays_by w e g go m n had has go.nothing_else;
    }

-- ---- events

-- the group has a member with this id
abbrev HasStill : World → List ℕ → List ℕ → Type 0
HasStill w g id = (n : Member) × ((group_in w g).member ≡ Some n) × (n.id ≡ id)

goes_or_stays : (w : World) (e : Event) (g : List ℕ) (m : Member) → (group_in w g).member ≡ Some m → Ends step reply_to w e g m.id ⊎ HasStill (step w e) g m.id
goes_or_stays w e g m had = by_after (group_in (step w e) g).member refl where
  by_after : (o : Option Member) → (group_in (step w e) g).member ≡ o → Ends step reply_to w e g m.id ⊎ HasStill (step w e) g m.id
  by_after None has = inl ((in_short w e g).goes m had has)
  by_after (Some n) has = inr (n, has, (in_short w e g).stays m n had has)

ends_later : (w : World) (e : Event) (es : List Event) (g id : List ℕ) → EndsAmong step reply_to (step w e) es g id ⊎ HasStill (world_after step (step w e) es) g id → EndsAmong step reply_to w (e ∷ es) g id ⊎ HasStill (world_after step w (e ∷ es)) g id
ends_later w e es g id (inl h) = inl (record { before = e ∷ h.before; event = h.event; after = h.after; parts = ap (λ l. e ∷ l) h.parts; ends = h.ends })
ends_later w e es g id (inr h) = inr h

ends_or_stays : (w : World) (es : List Event) (g id : List ℕ) (m : Member) → (group_in w g).member ≡ Some m → m.id ≡ id → EndsAmong step reply_to w es g id ⊎ HasStill (world_after step w es) g id
ends_or_stays w [] g id m had named = inr (m, had, named)
ends_or_stays w (e ∷ es) g id m had named = by_step (goes_or_stays w e g m had) (λ n has is. ends_or_stays (step w e) es g id n has is) where
  by_step : Ends step reply_to w e g m.id ⊎ HasStill (step w e) g m.id → ((n : Member) → (group_in (step w e) g).member ≡ Some n → n.id ≡ id → EndsAmong step reply_to (step w e) es g id ⊎ HasStill (world_after step (step w e) es) g id)
      → EndsAmong step reply_to w (e ∷ es) g id ⊎ HasStill (world_after step w (e ∷ es)) g id
  by_step (inl ends) rest = inl (record { before = []; event = e; after = es; parts = refl; ends = subst (Ends step reply_to w e g) named ends })
  by_step (inr (n, has, is)) rest = ends_later w e es g id (rest n has (is ∙ named))

ends_between : (w : World) → EndsBetween step reply_to w
ends_between w g e f between j k differ =
    let joins = (members_go w e g).joins j in
    by_end (ends_or_stays (step w e) between g j.reply.member joins.member joins.has (sym joins.named)) where
      by_who : HasStill (world_after step (step w e) between) g j.reply.member
          → ComesNew (world_after step (step w e) between) (group_in (world_after step (step w e) between) g) k.request k.reply ⊎ ComesBack (group_in (world_after step (step w e) between) g) k.request k.reply → ⊥
      by_who (n, has, is) (inl c) = not_both (group_in (world_after step (step w e) between) g).member n c.no_member has
      by_who (n, has, is) (inr c) =
          differ (sym is ∙ ap (λ (x : Member). x.id) (one_of (group_in (world_after step (step w e) between) g).member n c.was.member has c.was.has) ∙ c.was.named ∙ sym c.named)

      by_end : EndsAmong step reply_to (step w e) between g j.reply.member ⊎ HasStill (world_after step (step w e) between) g j.reply.member → EndsAmong step reply_to (step w e) between g j.reply.member
      by_end (inl h) = h
      by_end (inr h) = absurd (by_who h ((members_go (world_after step (step w e) between) f g).joins k).who)

first_is : (gs : List Group) (g : List ℕ) → gs ≡ [] → IsFirst (group_of gs g)
first_is gs g none = subst (λ (l : List Group). IsFirst (group_of l g)) (sym none) (record { no_member = refl; generation = refl; assignment = refl; offsets = refl })

pub members_come_and_go : MembersComeAndGo step reply_to
members_come_and_go w = record { first = λ none g. first_is w.groups g none; each = members_go w; short = in_short w; between = ends_between w }
