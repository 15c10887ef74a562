-- What stands written of a script's answer, from line to line.
use Rattle.std.proofs.Common.{◌≡◌, ℕ, ◌+◌, Bool, true, ◌==◌, length, List, [], ◌∷◌, ◌++◌, refl, ap, sym, ◌∙◌, subst, append_assoc, append-nil, Option, Result, Ok, Err, IsOk, IfErr, IfSome, Some, None}
use Rattle.std.specs.Io.KnownBytes.{Appends}
use Rattle.std.proofs.lemmas.Bool.{eqb-true}
use Rattle.std.proofs.lemmas.List.{nil_from_length}
use Rattle.std.proofs.KnownBytes.{Appends-nil, Appends-trans}
use Rattle.byte_streams.specs.Device.{Wrote}
use Rattle.settings.specs.declared.settings.Settings.{Settings as SettingsValue}
use Rattle.audit_trail.specs.declared.event.Event.{Event}
use Rattle.commands.specs.Lines.{lines_of}
use Rattle.commands.specs.Replay.{Answer, Transition, goes, ends, line_transition, with_text_before, answer_after, script_answer}
use Rattle.commands.specs.declared.cause.Early.{Early}
use Rattle.commands.specs.declared.cause.Early.TheVariants.{Settings, Write}
use Rattle.commands.specs.Printed.{IsUnwritten, Printed, EndsEarly, Replayed, cut}

-- a text of two parts before an answer
with_text_before-after : (a b : List ℕ) (x : Answer) → with_text_before a (with_text_before b x) ≡ with_text_before (a ++ b) x
with_text_before-after a b x = ap (λ (t : List ℕ). let y : Answer = record { text = t; status = x.status } in y) (sym (append_assoc a b x.text))

-- a line that goes on, and one that ends the script
goes_on : (s : SettingsValue) (w v : List Event) (n : ℕ) (line t : List ℕ) (lines : List (List ℕ)) → line_transition s w n line ≡ goes v t
    → script_answer s w n (line ∷ lines) ≡ with_text_before t (script_answer s v (n + 1) lines)
goes_on s w v n line t lines h = ap (λ (x : Transition). answer_after x (λ u. script_answer s u (n + 1) lines)) h

ends_here : (s : SettingsValue) (w : List Event) (n : ℕ) (line t : List ℕ) (lines : List (List ℕ)) → line_transition s w n line ≡ ends t
    → script_answer s w n (line ∷ lines) ≡ record { text = t; status = 1 }
ends_here s w n line t lines h = ap (λ (x : Transition). answer_after x (λ u. script_answer s u (n + 1) lines)) h

module _ (s own : SettingsValue) (is : own ≡ s) (w : List Event) (n : ℕ) (rest line more done t : List ℕ) (all : Answer)
    (so_far : all ≡ with_text_before done (script_answer s w n (lines_of rest))) (first : lines_of rest ≡ line ∷ lines_of more) where
  same_turn : line_transition s w n line ≡ line_transition own w n line
  same_turn = ap (λ (x : SettingsValue). line_transition x w n line) (sym is)

  -- one line further
  pub line_further : (v : List Event) → line_transition own w n line ≡ goes v t → all ≡ with_text_before (done ++ t) (script_answer s v (n + 1) (lines_of more))
  line_further v turn =
      so_far ∙ ap (λ (ls : List (List ℕ)). with_text_before done (script_answer s w n ls)) first
      ∙ ap (with_text_before done) (goes_on s w v n line t (lines_of more) (same_turn ∙ turn)) ∙ with_text_before-after done t _

  -- the last line
  pub line_last : line_transition own w n line ≡ ends t → all ≡ with_text_before done (record { text = t; status = 1 })
  line_last turn =
      so_far ∙ ap (λ (ls : List (List ℕ)). with_text_before done (script_answer s w n ls)) first
      ∙ ap (with_text_before done) (ends_here s w n line t (lines_of more) (same_turn ∙ turn))

-- a text whose test says so is empty
pub empty_of : (text : List ℕ) (b : Bool) → b ≡ (length text == 0) → b ≡ true → text ≡ []
empty_of text b is holds = nil_from_length text (eqb-true (length text) 0 (sym is ∙ holds))

-- no line is left
pub script_over : (s : SettingsValue) (w : List Event) (n : ℕ) (rest done : List ℕ) (all : Answer) → rest ≡ [] → all ≡ with_text_before done (script_answer s w n (lines_of rest)) → (all.text ≡ done) × (all.status ≡ 0)
script_over s w n rest done all empty so_far =
    let over : all ≡ with_text_before done (record { text = []; status = 0 }) = so_far ∙ ap (λ (l : List ℕ). with_text_before done (script_answer s w n (lines_of l))) empty in
    (ap (λ (a : Answer). a.text) over ∙ append-nil done, ap (λ (a : Answer). a.status) over)

-- an Ok write appended the whole text
pub wrote_all : {A E : Type 0} (u v : Option (List ℕ)) (t : List ℕ) (r : Result A E) → Wrote u v t r → IsOk r → Appends u v t
wrote_all u v t (Ok x) w ok = subst (Appends u v) (sym (w.split ∙ ap (λ l. w.done ++ l) w.all ∙ append-nil w.done)) w.grew
wrote_all u v t (Err e) w ok = cc

-- only refused settings want that nothing was written
unwritten : (early : Early) (done : List ℕ) → early ≡ Write → IsUnwritten early done
unwritten early done write settings = absurd (let clash : Write ≡ Settings = sym write ∙ settings in cc)

-- a write that failed cut the answer's text
pub printed_cut : {A F : Type 0} (u v w : Option (List ℕ)) (all : Answer) (done t tail : List ℕ) (r : Result A F)
    → all.text ≡ done ++ (t ++ tail) → Appends u v done → Wrote v w t r → Printed u w all (Err Write)
printed_cut u v w all done t tail r split grew wrote = record {
  done = done ++ wrote.done;
  left = wrote.left ++ tail;
  split = split ∙ ap (λ l. done ++ (l ++ tail)) wrote.split ∙ ap (λ l. done ++ l) (append_assoc wrote.done wrote.left tail)
      ∙ sym (append_assoc done wrote.done (wrote.left ++ tail));
  grew = Appends-trans _ _ _ _ _ grew wrote.grew;
  all = tt;
  early = unwritten Write (done ++ wrote.done) refl;
}

-- the whole text stands written
pub printed_whole : (u v : Option (List ℕ)) (all : Answer) (status : ℕ) (done : List ℕ)
    → all.text ≡ done → status ≡ all.status → Appends u v done → Printed u v all (Ok status)
printed_whole u v all status done text same grew = record {
  done = done;
  left = [];
  split = text ∙ sym (append-nil done);
  grew = grew;
  all = (refl, same);
  early = tt;
}

-- a fact of the known bytes from another
pub if_some_then : {A : Type 0} (P Q : A → Type 0) (o : Option A) → IfSome o P → ((x : A) → P x → Q x) → IfSome o Q
if_some_then P Q None p step = tt
if_some_then P Q (Some x) p step = step x p

-- a run that ends early
pub ended_early : (u v w : Option (List ℕ)) (answer : Answer) (r : Result ℕ Early) (early : Early) → r ≡ Err early → Printed u v answer r → EndsEarly v w early → Replayed u w answer 1
ended_early u v w answer r early is p (last, is_last, grew) =
    let unwritten : IsUnwritten early p.done = subst (λ (x : Result ℕ Early). IfErr x (λ e. IsUnwritten e p.done)) is p.early in
    cut early p.done p.left last p.split unwritten is_last (Appends-trans _ _ _ _ _ p.grew grew) refl

-- a run that wrote nothing and fails
pub printed_nothing : (u : Option (List ℕ)) (answer : Answer) (early : Early) → Printed u u answer (Err early)
printed_nothing u answer early = record { done = []; left = answer.text; split = refl; grew = Appends-nil u; all = tt; early = λ settings. refl }
