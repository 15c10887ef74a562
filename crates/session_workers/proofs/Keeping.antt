-- The keeper's receipts, one step more.
use Rattle.std.proofs.Common.{◌≡◌, ◌+◌, ℕ, List, [], ◌∷◌, ◌++◌, All, vec_len, Bool, true, false, not, Option, Some, None, Result, Ok, Err, arith, ap, refl, sym, subst, ◌∙◌}
use Rattle.std.proofs.lemmas.List.Elements.{All-nil, All-push}
use Rattle.request_handlers.specs.Receipt.{ReceiptValue}
use Rattle.request_handlers.specs.Seats.{SeatValue, fresh_seat}
use Rattle.session_pool.specs.declared.session.SessionEnd.{SessionEnd}
use Rattle.session_pool.specs.declared.end_reason.EndReason.{EndReason}
use Rattle.session_pool.specs.declared.end_reason.EndReason.TheVariants.{Closed}
use Rattle.session_pool.specs.declared.steps.Step.{Step}
use Rattle.session_pool.specs.declared.steps.Step.TheVariants as steps
use Rattle.session_pool.specs.Steps.{step_event, goes_on}
use Rattle.session_workers.specs.Ends.{IsOfKeeper, HasRisen, HasReceipt, Adds, Came, Begun, Taken, Untaken, Ran, NoStep, Halted, IsOfSteps, AsksNothing, AreEnds, markers_left, why_of}

-- what the receipt of a step adds
pub one_more : (step : Step) (r : ReceiptValue) (old new : List ReceiptValue) → r.event ≡ step_event step → new ≡ old ++ r ∷ [] → Adds step old new (Ok (markers_left r.reply))
one_more step r old new is grown = (r, grown, is, refl)

-- ---- one turn of the keeper's: a step is given, it is done, and its outcome is told

module _ {S : Type 0} (gives : S → Bool → Option Step → S → Type 0) (told : S → Result ℕ EndReason → S) (first : S) where
  pub came_more : (was given seen next : S) (done : Bool) (some : Option Step) (step : Step) (old new : List ReceiptValue) (outcome : Result ℕ EndReason)
      → Came gives told first old was → gives was done some given → some ≡ Some step → Adds step old new outcome → seen ≡ given → next ≡ told seen outcome → Came gives told first new next
  came_more was given seen next done some step old new (Ok left) came gave step_is (r, grown, is, left_is) same heard =
      subst (λ rs. Came gives told first rs next) (sym grown)
      (subst (Came gives told first (old ++ r ∷ [])) (ap (λ n. told given (Ok n)) (sym left_is) ∙ ap (λ s. told s (Ok left)) (sym same) ∙ sym heard)
      (Taken old r was given done step came (subst (λ o. gives was done o given) step_is gave) is))
  came_more was given seen next done some step old new (Err why) came gave step_is grown same heard =
      subst (λ rs. Came gives told first rs next) (sym grown)
      (subst (Came gives told first old) (ap (λ s. told s (Err why)) (sym same) ∙ sym heard) (Untaken old was given done step why came (subst (λ o. gives was done o given) step_is gave)))

  -- it halts after a step that wasn't taken
  pub halted : (halts : Bool) (was given : S) (done goes : Bool) (some : Option Step) (step : Step) (old new : List ReceiptValue) (outcome : Result ℕ EndReason) (why : EndReason)
      → Came gives told first old was → gives was done some given → some ≡ Some step → Adds step old new outcome → goes ≡ goes_on halts outcome → goes ≡ false → why ≡ why_of outcome → Ran gives told halts first new why
  halted halts was given done goes some step old new (Ok left) why came gave step_is added is stops why_is = absurd (let clash : true ≡ false = sym is ∙ stops in cc)
  halted halts was given done goes some step old new (Err reason) why came gave step_is grown is stops why_is =
      subst (λ rs. Ran gives told halts first rs why) (sym grown)
      (subst (Ran gives told halts first old) (sym why_is) (Halted old was given done step reason came (subst (λ o. gives was done o given) step_is gave) (by halts (sym is ∙ stops)))) where
        by : (b : Bool) → not b ≡ false → b ≡ true
        by true h = refl
        by false h = absurd (let clash : true ≡ false = h in cc)

  -- it begins without a receipt, and ends where no step is given
  pub begun : (rs : List ReceiptValue) → rs ≡ [] → Came gives told first rs first
  begun rs none = subst (λ l. Came gives told first l first) (sym none) Begun

  pub ended : (halts : Bool) (was later : S) (done : Bool) (given : Option Step) (rs : List ReceiptValue) → Came gives told first rs was → gives was done given later → given ≡ None → Ran gives told halts first rs Closed
  ended halts was later done given rs came gave none = NoStep rs was later done came (subst (λ o. gives was done o later) none gave)

-- ---- the ends

-- the keeper's end stands after the others
pub are_ends : (IsKeepers : SessionEnd SeatValue → Type 0) (sessions ends : List (SessionEnd SeatValue)) (keeper : SessionEnd SeatValue) (seat : SeatValue)
    → ends ≡ sessions ++ keeper ∷ [] → All HasRisen sessions → All HasReceipt sessions → seat ≡ fresh_seat → keeper.seat.count ≡ seat.count + vec_len keeper.receipts
    → IsKeepers keeper → AreEnds IsKeepers ends
are_ends IsKeepers sessions ends keeper seat are risen asked fresh grown kept = record {
  sessions = sessions;
  keeper = keeper;
  are = are;
  risen = risen;
  asked = asked;
  kept = (omega (arith, grown, ap (λ (s : SeatValue). s.count) fresh), kept);
}

-- whatever the steps, they ask nothing
of_keeper : (step : Step) → IsOfKeeper (step_event step)
of_keeper (steps.Tick moment) = tt
of_keeper steps.Mark = tt

came_asking_nothing : {S : Type 0} (gives : S → Bool → Option Step → S → Type 0) (told : S → Result ℕ EndReason → S) (first : S) (rs : List ReceiptValue) (s : S)
    → Came gives told first rs s → All (λ (r : ReceiptValue). IsOfKeeper r.event) rs
came_asking_nothing gives told first _ _ Begun = All-nil _
came_asking_nothing gives told first _ _ (Taken rs r was given done step came gave is) =
    All-push (λ (x : ReceiptValue). IsOfKeeper x.event) rs r (came_asking_nothing gives told first rs was came) (subst IsOfKeeper (sym is) (of_keeper step))
came_asking_nothing gives told first _ _ (Untaken rs was given done step why came gave) = came_asking_nothing gives told first rs was came

ran_asking_nothing : {S : Type 0} (gives : S → Bool → Option Step → S → Type 0) (told : S → Result ℕ EndReason → S) (halts : Bool) (first : S) (rs : List ReceiptValue) (why : EndReason)
    → Ran gives told halts first rs why → All (λ (r : ReceiptValue). IsOfKeeper r.event) rs
ran_asking_nothing gives told halts first rs _ (NoStep _ was later done came gave) = came_asking_nothing gives told first rs was came
ran_asking_nothing gives told halts first rs why (Halted _ was given done step _ came gave is) = came_asking_nothing gives told first rs was came

pub ask_nothing : {S : Type 0} (gives : S → Bool → Option Step → S → Type 0) (told : S → Result ℕ EndReason → S) (halts : Bool) (first : S) (ends : List (SessionEnd SeatValue))
    → AreEnds (IsOfSteps gives told halts first) ends → AreEnds AsksNothing ends
ask_nothing gives told halts first ends h = record {
  sessions = h.sessions;
  keeper = h.keeper;
  are = h.are;
  risen = h.risen;
  asked = h.asked;
  kept = (h.kept.0, ran_asking_nothing gives told halts first h.keeper.receipts.items h.keeper.why h.kept.1);
}
