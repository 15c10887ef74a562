-- What a turn asks and writes is what its frame asks and is told.
use Rattle.std.proofs.Common.{◌≡◌, ◌≤◌, ℕ, ℤ, suc, length, arith, Bool, true, false, List, [], ◌∷◌, ◌++◌, Option, Some, None, Result, Ok, Err, ◌⊎◌, inl, inr, refl, ap, sym, ◌∙◌, subst, append_assoc, append-nil}
use Rattle.std.proofs.KnownBytes.{Appends-nil, Appends-trans}
use Rattle.std.specs.Io.KnownBytes.{Appends}
use Rattle.msg_admin.specs.Response.{response, IsTooLong}
use Rattle.audit_trail.specs.declared.event.Event.{Event}
use Rattle.request_handlers.specs.Receipt.{ReceiptValue}
use Rattle.wire_types.specs.declared.fault.WriteFault.{WriteFault}
use Rattle.wire_types.specs.declared.fault.WriteFault.TheVariants as faults
use Rattle.request_handlers.specs.declared.stop.Stop.{Stop}
use Rattle.frame_streams.specs.declared.fault.FrameFault.{FrameFault}
use Rattle.frame_streams.specs.declared.fault.FrameFault.TheVariants as fault
use Rattle.frame_streams.specs.declared.frame.Came.{Came}
use Rattle.frame_streams.specs.Frames.{Front, Nothing, Part, Bad, Whole, front_of, Comes, Lacks, IsOf, Arrives}
use Rattle.frame_streams.specs.Reads.{Took, TookLast}
use Rattle.sasl_login.specs.declared.login.SessionState.{SessionState}
use Rattle.sasl_login.specs.declared.login.SessionState.TheVariants.{Known}
use Rattle.session_pool.specs.declared.respond.SessionAction.{SessionAction}
use Rattle.session_pool.specs.declared.respond.SessionAction.TheVariants as outcome
use Rattle.session_pool.specs.declared.end_reason.EndReason.{EndReason}
use Rattle.session_pool.specs.declared.end_reason.EndReason.TheVariants as why
use Rattle.session_pool.specs.Frames.{why_none_comes, Cut, frames_of, frames_by_front}
use Rattle.msg_admin.specs.Request.{request_at}
use Rattle.session_pool.specs.Asks.{Setting, Step, Tells, Submits, Refuses, Garbles, step_if_readable, step_of, events_then, text_then, why_then, asks_of, text_of, end_of, asked_events, text, ending_why, events_held, fresh_state}
use Rattle.session_pool.specs.Turns.{most_kept, CameOf, Says, Meant, Sends, SendsParts, Finishes, why_of}
use Rattle.session_pool.specs.Sessions.{is_cause, is_broken, HasCause, Served, Stands, Ended, Goes, Turned, TurnsOn, SessionOf}

-- what the session has by itself leaves the receipts
pub said : (may_stop : Event → Stop → Bool) (step : Step) (rs : List ReceiptValue) (o : SessionAction) → Says step o → Meant may_stop step rs rs o
said may_stop step rs (outcome.Tells b t) h = (h, refl)
said may_stop step rs (outcome.Answers b k) h = absurd h
said may_stop step rs (outcome.Refuses b) h = (h, refl)
said may_stop step rs outcome.Malformed h = (h, refl)
said may_stop step rs outcome.NoMemory h = refl
said may_stop step rs (outcome.Stopped s) h = absurd h
said may_stop step rs (outcome.Unsent f) h = absurd h

-- by what a frame's first bytes say it leads to
pub said_of : (g : Setting) (s : SessionState) (came : Came) (step : Step) (rs : List ReceiptValue) (o : SessionAction)
    → ((limit : ℕ) (frame : List ℕ) → CameOf g limit s came frame → step_of g s frame ≡ step) → Says step o
    → (limit : ℕ) (frame : List ℕ) → CameOf g limit s came frame → Meant g.may_stop (step_of g s frame) rs rs o
said_of g s came step rs o is says limit frame of = subst (λ (x : Step). Meant g.may_stop x rs rs o) (sym (is limit frame of)) (said g.may_stop step rs o says)

-- by its body
pub meant_of : (g : Setting) (s : SessionState) (came : Came) (old new : List ReceiptValue) (o : SessionAction)
    → ((limit : ℕ) (frame : List ℕ) → CameOf g limit s came frame → (came.kept ≡ frame) × (step_of g s frame ≡ step_if_readable g s (request_at frame)))
    → Meant g.may_stop (step_if_readable g s (request_at came.kept)) old new o
    → (limit : ℕ) (frame : List ℕ) → CameOf g limit s came frame → Meant g.may_stop (step_of g s frame) old new o
meant_of g s came old new o is meant limit frame of =
    let h = is limit frame of in
    let step : step_of g s frame ≡ step_if_readable g s (request_at came.kept) = h.1 ∙ ap (λ (f : List ℕ). step_if_readable g s (request_at f)) (sym h.0) in
    subst (λ (x : Step). Meant g.may_stop x old new o) (sym step) meant

-- ---- a frame comes

cut_whole : (n limit : ℕ) (input frame rest : List ℕ) → front_of limit input ≡ Whole frame rest
    → frames_of (suc n) limit input ≡ record { frames = frame ∷ (frames_of n limit rest).frames; why = (frames_of n limit rest).why }
cut_whole n limit input frame rest e = ap (λ f. frames_by_front f (frames_of n limit)) e

asks_at : (g : Setting) (n limit : ℕ) (s : SessionState) (input frame rest : List ℕ) (step : Step) → front_of limit input ≡ Whole frame rest → step_of g s frame ≡ step
    → asked_events g (suc n) limit s input ≡ events_then step (λ t. asked_events g n limit t rest)
asks_at g n limit s input frame rest step e is =
    ap (λ (c : Cut). asks_of g s c.frames) (cut_whole n limit input frame rest e) ∙ ap (λ x. events_then x (λ t. asked_events g n limit t rest)) is

text_at : (g : Setting) (n limit : ℕ) (s : SessionState) (input frame rest : List ℕ) (step : Step) (rs : List ReceiptValue) → front_of limit input ≡ Whole frame rest → step_of g s frame ≡ step
    → text g (suc n) limit s input rs ≡ text_then step (λ t. text g n limit t rest) rs
text_at g n limit s input frame rest step rs e is =
    ap (λ (c : Cut). text_of g s c.frames rs) (cut_whole n limit input frame rest e) ∙ ap (λ x. text_then x (λ t. text g n limit t rest) rs) is

ends_at : (g : Setting) (n limit : ℕ) (s : SessionState) (input frame rest : List ℕ) (step : Step) → front_of limit input ≡ Whole frame rest → step_of g s frame ≡ step
    → ending_why g (suc n) limit s input ≡ why_then step (λ t. ending_why g n limit t rest)
ends_at g n limit s input frame rest step e is =
    ap (λ (c : Cut). end_of g s c.frames c.why) (cut_whole n limit input frame rest e) ∙ ap (λ x. why_then x (λ t. ending_why g n limit t rest)) is

tells_on : (g : Setting) (limit : ℕ) (s : SessionState) (input frame rest b : List ℕ) (t : SessionState) → front_of limit input ≡ Whole frame rest → step_of g s frame ≡ Tells b t
    → Goes g limit s input [] b t rest
tells_on g limit s input frame rest b t e is = record {
  asked = λ n. asks_at g n limit s input frame rest (Tells b t) e is;
  wrote = λ n more. text_at g n limit s input frame rest (Tells b t) more e is;
  cause = λ n. ends_at g n limit s input frame rest (Tells b t) e is;
}

submits_on : (g : Setting) (limit : ℕ) (s : SessionState) (input frame rest : List ℕ) (c : ℤ) (r : ReceiptValue) (t : SessionState) → front_of limit input ≡ Whole frame rest → step_of g s frame ≡ Submits c r.event t
    → Goes g limit s input (r ∷ []) (response c r.reply) t rest
submits_on g limit s input frame rest c r t e is = record {
  asked = λ n. asks_at g n limit s input frame rest (Submits c r.event t) e is;
  wrote = λ n more. text_at g n limit s input frame rest (Submits c r.event t) (r ∷ more) e is;
  cause = λ n. ends_at g n limit s input frame rest (Submits c r.event t) e is;
}

-- ---- a turn that ends the session

-- what would go on, but that a part of it was not written
broken_off : (g : Setting) (n limit : ℕ) (s : SessionState) (input : List ℕ) (added : List ReceiptValue) (b done left : List ℕ) (t : SessionState) (rest : List ℕ) (w : EndReason)
    → Goes g limit s input added b t rest → b ≡ done ++ left → HasCause g (suc n) limit s input added (asked_events g n limit t rest) w → is_broken w ≡ true → Served g (suc n) limit s input added done w
broken_off g n limit s input added b done left t rest w goes split cause broken = record {
  later = asked_events g n limit t rest;
  asked = goes.asked n;
  cause = cause;
  left = left ++ text g n limit t rest [];
  wrote = ap (text g (suc n) limit s input) (sym (append-nil added)) ∙ goes.wrote n [] ∙ ap (λ x. x ++ text g n limit t rest []) split ∙ append_assoc done left (text g n limit t rest []);
  whole = λ h. absurd cc;
}

-- nothing was done, since an allocation failed
undone : (g : Setting) (n limit : ℕ) (s : SessionState) (input : List ℕ) → Served g n limit s input [] [] why.NoMemory
undone g n limit s input = record {
  later = asked_events g n limit s input;
  asked = refl;
  cause = tt;
  left = text g n limit s input [];
  wrote = refl;
  whole = λ h. absurd cc;
}

refused : (g : Setting) (n limit : ℕ) (s : SessionState) (input frame rest b done left : List ℕ) → front_of limit input ≡ Whole frame rest → step_of g s frame ≡ Refuses b
    → b ≡ done ++ left → left ≡ [] → Served g (suc n) limit s input [] done why.Login
refused g n limit s input frame rest b done left e is split none = record {
  later = [];
  asked = asks_at g n limit s input frame rest (Refuses b) e is;
  cause = (refl, ends_at g n limit s input frame rest (Refuses b) e is);
  left = left;
  wrote = text_at g n limit s input frame rest (Refuses b) [] e is ∙ split;
  whole = λ h. none;
}

refused_unsent : (g : Setting) (n limit : ℕ) (s : SessionState) (input frame rest b done left : List ℕ) → front_of limit input ≡ Whole frame rest → step_of g s frame ≡ Refuses b
    → b ≡ done ++ left → Served g (suc n) limit s input [] done why.WriteFault
refused_unsent g n limit s input frame rest b done left e is split = record {
  later = [];
  asked = asks_at g n limit s input frame rest (Refuses b) e is;
  cause = tt;
  left = left;
  wrote = text_at g n limit s input frame rest (Refuses b) [] e is ∙ split;
  whole = λ h. absurd cc;
}

garbled : (g : Setting) (n limit : ℕ) (s : SessionState) (input frame rest : List ℕ) → front_of limit input ≡ Whole frame rest → step_of g s frame ≡ Garbles
    → Served g (suc n) limit s input [] [] why.Malformed
garbled g n limit s input frame rest e is = record {
  later = [];
  asked = asks_at g n limit s input frame rest Garbles e is;
  cause = (refl, ends_at g n limit s input frame rest Garbles e is);
  left = [];
  wrote = text_at g n limit s input frame rest Garbles [] e is;
  whole = λ h. refl;
}

stopped_at : (g : Setting) (n limit : ℕ) (s : SessionState) (input frame rest : List ℕ) (c : ℤ) (v : Event) (t : SessionState) (x : Stop) → front_of limit input ≡ Whole frame rest → step_of g s frame ≡ Submits c v t
    → g.may_stop v x ≡ true → Served g (suc n) limit s input [] [] (why.Stopped x)
stopped_at g n limit s input frame rest c v t x e is may = record {
  later = v ∷ asked_events g n limit t rest;
  asked = asks_at g n limit s input frame rest (Submits c v t) e is;
  cause = may;
  left = [];
  wrote = text_at g n limit s input frame rest (Submits c v t) [] e is;
  whole = λ h. refl;
}

fault_broken : (f : WriteFault) → is_broken (why_of f) ≡ true
fault_broken faults.NoMemory = refl
fault_broken faults.TooLong = refl

-- the reply of the one receipt is too long, or memory was refused
fault_caused : (g : Setting) (n limit : ℕ) (s : SessionState) (input : List ℕ) (later : List Event) (c : ℤ) (x : ReceiptValue) (f : WriteFault) → (f ≡ faults.TooLong → IsTooLong c x.reply)
    → HasCause g n limit s input (x ∷ []) later (why_of f)
fault_caused g n limit s input later c x faults.NoMemory long = tt
fault_caused g n limit s input later c x faults.TooLong long = ([], x, c, refl, long refl)

-- a session that ends so, whatever follows what it read
caused : (g : Setting) (n limit : ℕ) (s : SessionState) (input : List ℕ) (receipts : List ReceiptValue) (later : List Event) (w : EndReason) → HasCause g n limit s input receipts later w → is_cause w ≡ true
    → (later ≡ []) × (ending_why g n limit s input ≡ w)
caused g n limit s input receipts later why.Closed h is = h
caused g n limit s input receipts later why.Cut h is = h
caused g n limit s input receipts later why.ReadFault h is = absurd cc
caused g n limit s input receipts later why.WriteFault h is = absurd cc
caused g n limit s input receipts later why.BadFrame h is = h
caused g n limit s input receipts later why.Malformed h is = h
caused g n limit s input receipts later why.Login h is = h
caused g n limit s input receipts later (why.Stopped x) h is = absurd cc
caused g n limit s input receipts later why.Limit h is = h
caused g n limit s input receipts later why.NoMemory h is = absurd cc
caused g n limit s input receipts later why.TooLong h is = absurd cc

stands_of : (g : Setting) (n limit : ℕ) (s : SessionState) (input : List ℕ) (receipts : List ReceiptValue) (done : List ℕ) (w : EndReason) → Served g n limit s input receipts done w → Stands g n limit s input receipts w
stands_of g n limit s input receipts done w served = record {
  asked = λ h. served.asked ∙ ap (λ es. events_held receipts ++ es) (caused g n limit s input receipts served.later w served.cause h).0 ∙ append-nil (events_held receipts);
  cause = λ h. (caused g n limit s input receipts served.later w served.cause h).1;
}

ended_of : (g : Setting) (n limit : ℕ) (s : SessionState) (p rest : List ℕ) (receipts : List ReceiptValue) (done : List ℕ) (w : EndReason) → ((tail : List ℕ) → Served g n limit s (p ++ tail) receipts done w)
    → Ended g n limit s p rest receipts done w
ended_of g n limit s p rest receipts done w served =
    (subst (λ x. Served g n limit s x receipts done w) (append-nil p) (served []), stands_of g n limit s (p ++ rest) receipts done w (served rest))

-- where no frame comes
lacking : (g : Setting) (n limit : ℕ) (s : SessionState) (input : List ℕ) (w v : EndReason) → (f : Front) → front_of limit input ≡ f → frames_by_front f (frames_of n limit) ≡ record { frames = []; why = w }
    → (ending_why g (suc n) limit s input ≡ w → HasCause g (suc n) limit s input [] [] v) → Served g (suc n) limit s input [] [] v
lacking g n limit s input w v f e is caused =
    let none : frames_of (suc n) limit input ≡ record { frames = []; why = w } = ap (λ x. frames_by_front x (frames_of n limit)) e ∙ is in
    record {
      later = [];
      asked = ap (λ (c : Cut). asks_of g s c.frames) none;
      cause = caused (ap (λ (c : Cut). end_of g s c.frames c.why) none);
      left = [];
      wrote = ap (λ (c : Cut). text_of g s c.frames []) none;
      whole = λ h. refl;
    }

-- ... and nothing follows
lacking_last : (g : Setting) (n limit : ℕ) (s : SessionState) (p rest : List ℕ) (w : EndReason) → (f : Front) → front_of limit p ≡ f → frames_by_front f (frames_of n limit) ≡ record { frames = []; why = w }
    → (ending_why g (suc n) limit s p ≡ w → HasCause g (suc n) limit s p [] [] w) → rest ≡ [] → Ended g (suc n) limit s p rest [] [] w
lacking_last g n limit s p rest w f e is caused none =
    let same : p ++ rest ≡ p = ap (λ x. p ++ x) none ∙ append-nil p in
    let served = lacking g n limit s p w w f e is caused in
    (served, subst (λ x. Stands g (suc n) limit s x [] w) (sym same) (stands_of g (suc n) limit s p [] [] w served))

-- another cause than those of the input
not_cause : (g : Setting) (n limit : ℕ) (s : SessionState) (input : List ℕ) (receipts : List ReceiptValue) (w : EndReason) → is_cause w ≡ false → Stands g n limit s input receipts w
not_cause g n limit s input receipts w quiet = record { asked = λ h. absurd cc; cause = λ h. absurd cc }

-- a read failed before a frame came
unread : (g : Setting) (n limit : ℕ) (s : SessionState) (p rest : List ℕ) (w : EndReason) → (f : Front) → front_of limit p ≡ f → frames_by_front f (frames_of n limit) ≡ record { frames = []; why = w }
    → (ending_why g (suc n) limit s p ≡ w → HasCause g (suc n) limit s p [] [] why.ReadFault) → Ended g (suc n) limit s p rest [] [] why.ReadFault
unread g n limit s p rest w f e is caused = (lacking g n limit s p w why.ReadFault f e is caused, not_cause g (suc n) limit s (p ++ rest) [] why.ReadFault refl)

no_frame : (g : Setting) (n limit : ℕ) (s : SessionState) (f : FrameFault) (p rest : List ℕ) → Lacks limit f p rest → Ended g (suc n) limit s p rest [] [] (why_none_comes f)
no_frame g n limit s fault.Closed p rest h = lacking_last g n limit s p rest why.Closed Nothing h.0 refl (λ e. (refl, e)) h.1
no_frame g n limit s fault.Cut p rest h = lacking_last g n limit s p rest why.Cut Part h.0 refl (λ e. (refl, e)) h.1
no_frame g n limit s fault.BadFrame p rest h =
    ended_of g (suc n) limit s p rest [] [] why.BadFrame (λ tail. lacking g n limit s (p ++ tail) why.BadFrame why.BadFrame Bad (h tail) refl (λ e. (refl, e)))
no_frame g n limit s fault.ReadFault p rest (inl h) = unread g n limit s p rest why.Closed Nothing h refl (λ e. (refl, inl e))
no_frame g n limit s fault.ReadFault p rest (inr h) = unread g n limit s p rest why.Cut Part h refl (λ e. (refl, inr e))
no_frame g n limit s fault.NoMemory p rest h = (undone g (suc n) limit s p, not_cause g (suc n) limit s (p ++ rest) [] why.NoMemory refl)

-- ---- a turn

-- one that went on, or broke off as it wrote
sent : (g : Setting) (limit : ℕ) (s : SessionState) (p rest : List ℕ) (held held' : Option (List ℕ)) (old new added : List ReceiptValue) (b : List ℕ) (t : SessionState) (r : Result SessionState EndReason)
    → new ≡ old ++ added → ((tail : List ℕ) → Goes g limit s (p ++ tail) added b t tail) → SendsParts held held' b (Ok t) r → TurnsOn g limit s held held' old new r p rest
sent g limit s p rest held held' old new added b t r grown goes (done, over, split, grew, inl (is, none)) =
    let whole : b ≡ done = split ∙ ap (λ x. done ++ x) none ∙ append-nil done in
    (added, done, grown, grew, subst (Turned g limit s p rest added done) (sym is) (λ tail. subst (λ x. Goes g limit s (p ++ tail) added x t tail) whole (goes tail)))
sent g limit s p rest held held' old new added b t r grown goes (done, over, split, grew, inr (inl is)) = (
  added,
  done,
  grown,
  grew,
  subst (Turned g limit s p rest added done) (sym is)
      (λ n. ended_of g (suc n) limit s p rest added done why.WriteFault (λ tail. broken_off g n limit s (p ++ tail) added b done over t tail why.WriteFault (goes tail) split tt refl)),
)
sent g limit s p rest held held' old new added b t r grown goes (done, over, split, grew, inr (inr is)) = (
  added,
  done,
  grown,
  grew,
  subst (Turned g limit s p rest added done) (sym is)
      (λ n. ended_of g (suc n) limit s p rest added done why.NoMemory (λ tail. broken_off g n limit s (p ++ tail) added b done over t tail why.NoMemory (goes tail) split tt refl)),
)

-- what was made as a whole
as_parts : (held held' : Option (List ℕ)) (b : List ℕ) (next r : Result SessionState EndReason) → Sends held held' b next r → SendsParts held held' b next r
as_parts held held' b next r (done, over, split, grew, inl h) = (done, over, split, grew, inl h)
as_parts held held' b next r (done, over, split, grew, inr h) = (done, over, split, grew, inr (inl h))

-- one that ends and wrote nothing
silent : (g : Setting) (limit : ℕ) (s : SessionState) (p rest : List ℕ) (held held' : Option (List ℕ)) (old new added : List ReceiptValue) (w : EndReason) (r : Result SessionState EndReason)
    → held' ≡ held → r ≡ Err w → new ≡ old ++ added → ((n : ℕ) → Ended g (suc n) limit s p rest added [] w) → TurnsOn g limit s held held' old new r p rest
silent g limit s p rest held held' old new added w r same is grown served =
    (added, [], grown, subst (λ x. Appends held x []) (sym same) (Appends-nil held), subst (Turned g limit s p rest added []) (sym is) served)

turned : (g : Setting) (limit : ℕ) (s : SessionState) (frame p rest : List ℕ) (held held' : Option (List ℕ)) (old new : List ReceiptValue) (o : SessionAction) (r : Result SessionState EndReason)
    → Comes limit frame p rest → Meant g.may_stop (step_of g s frame) old new o → Finishes held held' o r → TurnsOn g limit s held held' old new r p rest
turned g limit s frame p rest held held' old new (outcome.Tells b t) r e meant fin =
    sent g limit s p rest held held' old new [] b t r (meant.1 ∙ sym (append-nil old)) (λ tail. tells_on g limit s (p ++ tail) frame tail b t (e tail) meant.0) (as_parts held held' b (Ok t) r fin)
turned g limit s frame p rest held held' old new (outcome.Answers b k) r e (c, x, is, spelled, grown) fin =
    sent g limit s p rest held held' old new (x ∷ []) b (Known k) r grown
    (λ tail. subst (λ y. Goes g limit s (p ++ tail) (x ∷ []) y (Known k) tail) (sym spelled) (submits_on g limit s (p ++ tail) frame tail c x (Known k) (e tail) is)) fin
turned g limit s frame p rest held held' old new (outcome.Refuses b) r e meant (done, over, split, grew, inl (is, none)) = (
  [],
  done,
  meant.1 ∙ sym (append-nil old),
  grew,
  subst (Turned g limit s p rest [] done) (sym is)
      (λ n. ended_of g (suc n) limit s p rest [] done why.Login (λ tail. refused g n limit s (p ++ tail) frame tail b done over (e tail) meant.0 split none)),
)
turned g limit s frame p rest held held' old new (outcome.Refuses b) r e meant (done, over, split, grew, inr is) = (
  [],
  done,
  meant.1 ∙ sym (append-nil old),
  grew,
  subst (Turned g limit s p rest [] done) (sym is)
      (λ n. ended_of g (suc n) limit s p rest [] done why.WriteFault (λ tail. refused_unsent g n limit s (p ++ tail) frame tail b done over (e tail) meant.0 split)),
)
turned g limit s frame p rest held held' old new outcome.Malformed r e meant fin =
    silent g limit s p rest held held' old new [] why.Malformed r fin.0 fin.1 (meant.1 ∙ sym (append-nil old))
    (λ n. ended_of g (suc n) limit s p rest [] [] why.Malformed (λ tail. garbled g n limit s (p ++ tail) frame tail (e tail) meant.0))
turned g limit s frame p rest held held' old new outcome.NoMemory r e meant fin =
    silent g limit s p rest held held' old new [] why.NoMemory r fin.0 fin.1 (meant ∙ sym (append-nil old))
    (λ n. ended_of g (suc n) limit s p rest [] [] why.NoMemory (λ tail. undone g (suc n) limit s (p ++ tail)))
turned g limit s frame p rest held held' old new (outcome.Stopped x) r e (c, v, t, is, same, may) fin =
    silent g limit s p rest held held' old new [] (why.Stopped x) r fin.0 fin.1 (same ∙ sym (append-nil old))
    (λ n. ended_of g (suc n) limit s p rest [] [] (why.Stopped x) (λ tail. stopped_at g n limit s (p ++ tail) frame tail c v t x (e tail) is may))
turned g limit s frame p rest held held' old new (outcome.Unsent f) r e (c, x, t, is, grown, long) fin =
    silent g limit s p rest held held' old new (x ∷ []) (why_of f) r fin.0 fin.1 grown
    (λ n. ended_of g (suc n) limit s p rest (x ∷ []) [] (why_of f)
    (λ tail. broken_off g n limit s (p ++ tail) (x ∷ []) (response c x.reply) [] (response c x.reply) t tail (why_of f) (submits_on g limit s (p ++ tail) frame tail c x t (e tail) is) refl
    (fault_caused g (suc n) limit s (p ++ tail) (asked_events g n limit t tail) c x f long) (fault_broken f)))

-- with what is known of a reader's bytes
pub turned_on : (g : Setting) (limit most : ℕ) (s : SessionState) (a b held held' : Option (List ℕ)) (came : Came) (old new : List ReceiptValue) (o : SessionAction) (r : Result SessionState EndReason)
    → most ≡ most_kept g.users limit s → came.size ≤ limit → Took a b (Arrives limit most came)
    → ((l : ℕ) (frame : List ℕ) → CameOf g l s came frame → Meant g.may_stop (step_of g s frame) old new o) → Finishes held held' o r → Took a b (TurnsOn g limit s held held' old new r)
turned_on g limit most s None b held held' came old new o r is within h meant fin = tt
turned_on g limit most s (Some input) b held held' came old new o r is within (p, rest, whole, after, (frame, of, comes)) meant fin =
    let short : length frame ≤ limit = omega (arith, within, of.1) in
    let came_of : CameOf g limit s came frame = (short, subst (λ (m : ℕ). IsOf m came frame) is of) in
    (p, rest, whole, after, turned g limit s frame p rest held held' old new o r comes (meant limit frame came_of) fin)

-- no frame came
pub turned_off : (g : Setting) (limit : ℕ) (s : SessionState) (a b held : Option (List ℕ)) (old : List ReceiptValue) (f : FrameFault) (w : EndReason)
    → w ≡ why_none_comes f → Took a b (Lacks limit f) → Took a b (TurnsOn g limit s held held old old (Err w))
turned_off g limit s None b held old f w is h = tt
turned_off g limit s (Some input) b held old f w is (p, rest, whole, after, h) =
    (p, rest, whole, after, silent g limit s p rest held held old old [] (why_none_comes f) (Err w) refl (ap Err is) (sym (append-nil old)) (λ n. no_frame g n limit s f p rest h))

-- ---- the turns one after the other

events_append : (xs ys : List ReceiptValue) → events_held (xs ++ ys) ≡ events_held xs ++ events_held ys
events_append [] ys = refl
events_append (x ∷ xs) ys = ap (λ es. x.event ∷ es) (events_append xs ys)

-- what was asked and written so far, and what the rest asks and writes, are what the input asks and writes
pub record Along (g : Setting) (all limit : ℕ) (first : SessionState) (input : List ℕ) (n : ℕ) (s : SessionState) (rest : List ℕ) (held : List ReceiptValue) (done : List ℕ) : Type 0 where
  pub asked : asked_events g all limit first input ≡ events_held held ++ asked_events g n limit s rest
  pub wrote : (more : List ReceiptValue) → text g all limit first input (held ++ more) ≡ done ++ text g n limit s rest more
  pub cause : ending_why g all limit first input ≡ ending_why g n limit s rest

along_more : (g : Setting) (all limit n : ℕ) (first s t : SessionState) (input rest rest' done done' : List ℕ) (held added : List ReceiptValue)
    → Along g all limit first input (suc n) s rest held done → Goes g limit s rest added done' t rest' → Along g all limit first input n t rest' (held ++ added) (done ++ done')
along_more g all limit n first s t input rest rest' done done' held added before goes = record {
  asked = before.asked ∙ ap (λ es. events_held held ++ es) (goes.asked n) ∙ sym (append_assoc (events_held held) (events_held added) (asked_events g n limit t rest'))
      ∙ ap (λ es. es ++ asked_events g n limit t rest') (sym (events_append held added));
  wrote = λ more. ap (text g all limit first input) (append_assoc held added more) ∙ before.wrote (added ++ more) ∙ ap (λ x. done ++ x) (goes.wrote n more)
      ∙ sym (append_assoc done done' (text g n limit t rest' more));
  cause = before.cause ∙ goes.cause n;
}

either_along : (x y w v : EndReason) → x ≡ y → (y ≡ w) ⊎ (y ≡ v) → (x ≡ w) ⊎ (x ≡ v)
either_along x y w v same (inl e) = inl (same ∙ e)
either_along x y w v same (inr e) = inr (same ∙ e)

cause_along : (g : Setting) (all limit n : ℕ) (first s : SessionState) (input rest : List ℕ) (held added : List ReceiptValue) (later : List Event) (w : EndReason)
    → ending_why g all limit first input ≡ ending_why g n limit s rest → HasCause g n limit s rest added later w → HasCause g all limit first input (held ++ added) later w
cause_along g all limit n first s input rest held added later why.Closed same h = (h.0, same ∙ h.1)
cause_along g all limit n first s input rest held added later why.Cut same h = (h.0, same ∙ h.1)
cause_along g all limit n first s input rest held added later why.ReadFault same h = (h.0, either_along (ending_why g all limit first input) (ending_why g n limit s rest) why.Closed why.Cut same h.1)
cause_along g all limit n first s input rest held added later why.WriteFault same h = tt
cause_along g all limit n first s input rest held added later why.BadFrame same h = (h.0, same ∙ h.1)
cause_along g all limit n first s input rest held added later why.Malformed same h = (h.0, same ∙ h.1)
cause_along g all limit n first s input rest held added later why.Login same h = (h.0, same ∙ h.1)
cause_along g all limit n first s input rest held added later (why.Stopped x) same h = h
cause_along g all limit n first s input rest held added later why.Limit same h = (h.0, same ∙ h.1)
cause_along g all limit n first s input rest held added later why.NoMemory same h = tt
cause_along g all limit n first s input rest held added later why.TooLong same (front, r, c, is, long) = (held ++ front, r, c, ap (λ rs. held ++ rs) is ∙ sym (append_assoc held front (r ∷ [])), long)

along_end : (g : Setting) (all limit n : ℕ) (first s : SessionState) (input rest done done' : List ℕ) (held added : List ReceiptValue) (w : EndReason)
    → Along g all limit first input n s rest held done → Served g n limit s rest added done' w → Served g all limit first input (held ++ added) (done ++ done') w
along_end g all limit n first s input rest done done' held added w before last = record {
  later = last.later;
  asked = before.asked ∙ ap (λ es. events_held held ++ es) last.asked ∙ sym (append_assoc (events_held held) (events_held added) last.later)
      ∙ ap (λ es. es ++ last.later) (sym (events_append held added));
  cause = cause_along g all limit n first s input rest held added last.later w before.cause last.cause;
  left = last.left;
  wrote = before.wrote added ∙ ap (λ x. done ++ x) last.wrote ∙ sym (append_assoc done done' last.left);
  whole = last.whole;
}

along_stands : (g : Setting) (all limit n : ℕ) (first s : SessionState) (input rest done : List ℕ) (held added : List ReceiptValue) (w : EndReason)
    → Along g all limit first input n s rest held done → Stands g n limit s rest added w → Stands g all limit first input (held ++ added) w
along_stands g all limit n first s input rest done held added w before last = record {
  asked = λ h. before.asked ∙ ap (λ es. events_held held ++ es) (last.asked h) ∙ sym (events_append held added);
  cause = λ h. before.cause ∙ last.cause h;
}

-- ---- with what is known of the reader's and the writer's bytes

-- so far, whatever follows what was read
abbrev pub SoFar : Setting → ℕ → ℕ → Option (List ℕ) → Option (List ℕ) → ℕ → SessionState → List ReceiptValue → List ℕ → List ℕ → Type 0
SoFar g all limit held held' n s receipts read rest =
    (done : List ℕ) × Appends held held' done × ((tail : List ℕ) → Along g all limit fresh_state (read ++ tail) n s tail receipts done)

at_first : (g : Setting) (all limit : ℕ) (start held : Option (List ℕ)) → Took start start (SoFar g all limit held held all fresh_state [])
at_first g all limit None held = tt
at_first g all limit (Some input) held = ([], input, refl, refl, ([], Appends-nil held, λ tail. record { asked = refl; wrote = λ more. refl; cause = refl }))

pub at_start : (g : Setting) (all limit m : ℕ) (start held : Option (List ℕ)) (receipts : List ReceiptValue) → m ≡ all → receipts ≡ [] → Took start start (SoFar g all limit held held m fresh_state receipts)
at_start g all limit m start held receipts whole none =
    subst (λ k. Took start start (SoFar g all limit held held k fresh_state receipts)) (sym whole)
    (subst (λ rs. Took start start (SoFar g all limit held held all fresh_state rs)) (sym none) (at_first g all limit start held))

pub session_more : (g : Setting) (all limit m n : ℕ) (start held : Option (List ℕ)) (s t : SessionState) (a b w v : Option (List ℕ)) (old new : List ReceiptValue) (r : Result SessionState EndReason)
    → m ≡ suc n → r ≡ Ok t → Took start a (SoFar g all limit held w m s old) → Took a b (TurnsOn g limit s w v old new r) → Took start b (SoFar g all limit held v n t new)
session_more g all limit m n None held s t a b w v old new r one is before turns = tt
session_more g all limit m n (Some input) held s t a b w v old new r one is (read, rest, whole, at, (done, grew, along)) turns =
    let (p, rest', split, after, (added, more, grown, grew', turned')) = subst (λ x. Took x b (TurnsOn g limit s w v old new r)) at turns in
    let goes = subst (Turned g limit s p rest' added more) is turned' in (
      read ++ p,
      rest',
      whole ∙ ap (λ x. read ++ x) split ∙ sym (append_assoc read p rest'),
      after,
      (
        done ++ more,
        Appends-trans held w v done more grew grew',
        λ tail.
            let before' = subst (λ k. Along g all limit fresh_state (read ++ (p ++ tail)) k s (p ++ tail) old done) one (along (p ++ tail)) in
            let here = along_more g all limit n fresh_state s t (read ++ (p ++ tail)) (p ++ tail) tail done more old added before' (goes tail) in
            subst (λ x. Along g all limit fresh_state x n t tail new (done ++ more)) (sym (append_assoc read p tail))
            (subst (λ rs. Along g all limit fresh_state (read ++ (p ++ tail)) n t tail rs (done ++ more)) (sym grown) here),
      ),
    )

pub session_ends : (g : Setting) (all limit m n : ℕ) (start held : Option (List ℕ)) (s : SessionState) (a b w v : Option (List ℕ)) (old new : List ReceiptValue) (r : Result SessionState EndReason) (why : EndReason)
    → m ≡ suc n → r ≡ Err why → Took start a (SoFar g all limit held w m s old) → Took a b (TurnsOn g limit s w v old new r)
    → Took start b (SessionOf g all limit held v new why)
session_ends g all limit m n None held s a b w v old new r why one is before turns = tt
session_ends g all limit m n (Some input) held s a b w v old new r why one is (read, rest, whole, at, (done, grew, along)) turns =
    let (p, rest', split, after, (added, more, grown, grew', turned')) = subst (λ x. Took x b (TurnsOn g limit s w v old new r)) at turns in
    let last = subst (Turned g limit s p rest' added more) is turned' n in
    let here : Along g all limit fresh_state (read ++ p) (suc n) s p old done = subst (λ k. Along g all limit fresh_state (read ++ p) k s p old done) one (along p) in
    let there : Along g all limit fresh_state (read ++ (p ++ rest')) (suc n) s (p ++ rest') old done = subst (λ k. Along g all limit fresh_state (read ++ (p ++ rest')) k s (p ++ rest') old done) one (along (p ++ rest')) in
    let served = along_end g all limit (suc n) fresh_state s (read ++ p) p done more old added why here last.0 in
    let stands = along_stands g all limit (suc n) fresh_state s (read ++ (p ++ rest')) (p ++ rest') done old added why there last.1 in (
      read ++ p,
      rest',
      whole ∙ ap (λ x. read ++ x) split ∙ sym (append_assoc read p rest'),
      after,
      (
        done ++ more,
        Appends-trans held w v done more grew grew',
        (
          subst (λ rs. Served g all limit fresh_state (read ++ p) rs (done ++ more) why) (sym grown) served,
          subst (λ x. Stands g all limit fresh_state x new why) (sym (append_assoc read p rest'))
              (subst (λ rs. Stands g all limit fresh_state (read ++ (p ++ rest')) rs why) (sym grown) stands),
        ),
      ),
    )

-- all frames were served
full : (g : Setting) (all limit : ℕ) (s : SessionState) (input tail done : List ℕ) (receipts : List ReceiptValue) → Along g all limit fresh_state input 0 s tail receipts done → Served g all limit fresh_state input receipts done why.Limit
full g all limit s input tail done receipts here = record {
  later = [];
  asked = here.asked;
  cause = (refl, here.cause);
  left = [];
  wrote = ap (text g all limit fresh_state input) (sym (append-nil receipts)) ∙ here.wrote [];
  whole = λ h. refl;
}

pub session_full : (g : Setting) (all limit m : ℕ) (start held : Option (List ℕ)) (s : SessionState) (a w : Option (List ℕ)) (receipts : List ReceiptValue)
    → m ≡ 0 → Took start a (SoFar g all limit held w m s receipts) → Took start a (SessionOf g all limit held w receipts why.Limit)
session_full g all limit m None held s a w receipts none before = tt
session_full g all limit m (Some input) held s a w receipts none (read, rest, whole, at, (done, grew, along)) = (
  read,
  rest,
  whole,
  at,
  (
    done,
    grew,
    ended_of g all limit fresh_state read rest receipts done why.Limit
        (λ tail. full g all limit s (read ++ tail) tail done receipts (subst (λ k. Along g all limit fresh_state (read ++ tail) k s tail receipts done) none (along tail))),
  ),
)

-- nothing was read, since an allocation failed
pub nothing_done : (g : Setting) (all limit : ℕ) (start held : Option (List ℕ)) (receipts : List ReceiptValue) → receipts ≡ [] → TookLast start (SessionOf g all limit held held receipts why.NoMemory)
nothing_done g all limit None held receipts none = tt
nothing_done g all limit (Some input) held receipts none =
    subst (λ rs. TookLast (Some input) (SessionOf g all limit held held rs why.NoMemory)) (sym none)
    ([], input, refl, ([], Appends-nil held, (undone g all limit fresh_state [], not_cause g all limit fresh_state input [] why.NoMemory refl)))
