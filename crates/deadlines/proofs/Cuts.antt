-- Cutting on, as bytes come.
use Rattle.std.proofs.Common.{◌≡◌, ◌∙◌, ◌+◌, ◌-◌, ◌≤◌, ◌<◌, ◌++◌, ℕ, zero, suc, List, [], ◌∷◌, length, take, get_or, ap, refl, sym, subst, arith, append-nil, append_assoc, drop, length-append, length-drop, take-add}
use Rattle.std.specs.Prelude.{All, IfSome}
use Rattle.std.specs.Int.{from_be_bytes, w32}
use Rattle.std.proofs.lemmas.List.{length-map, map-append, take-append-le}
use Rattle.std.proofs.lemmas.List.Elements.{All-append}
use Rattle.std.proofs.lemmas.Grind.{common_steps}
use Rattle.std.specs.declared.time.Duration.{Duration}
use Rattle.deadlines.specs.declared.progress.Part.{Part}
use Rattle.deadlines.specs.declared.progress.Part.TheVariants.{Nothing, One, Two, Three, Body}
use Rattle.deadlines.specs.declared.progress.Progress.{Progress}
use Rattle.deadlines.specs.Progress.{Came, IsCut, IsFrame, IsPart, bytes_at, frame_start, bytes_of, all_bytes, part_of, size_of}

joined_more : (frames : List (List Came)) (part more : List Came) → all_bytes frames part ++ more ≡ all_bytes frames (part ++ more)
joined_more [] part more = refl
joined_more (f ∷ fs) part more = append_assoc f (all_bytes fs part) more ∙ ap (λ (l : List Came). f ++ l) (joined_more fs part more)

joined_end : (frames : List (List Came)) (frame : List Came) → all_bytes (frames ++ frame ∷ []) [] ≡ all_bytes frames frame
joined_end [] frame = append-nil frame
joined_end (f ∷ fs) frame = ap (λ (l : List Came). f ++ l) (joined_end fs frame)

-- a frame that has begun began when it did
begun_kept : (part more : List Came) (since : Duration) → 0 < length part → IfSome (frame_start part) (λ m. since ≡ m) → IfSome (frame_start (part ++ more)) (λ m. since ≡ m)
begun_kept [] more since some is = absurd (no some)
  where
    no : 0 < 0 → ⊥
    no less = omega arith
begun_kept (c ∷ cs) more since some is = is

size_kept : (part more : List Came) → 4 ≤ length part → size_of (part ++ more) ≡ size_of part
size_kept part more long = ap (λ (l : List Came). from_be_bytes w32 (bytes_of l)) (take-append-le 4 part more long)

alone : (frame : List Came) → IsFrame frame → All IsFrame (frame ∷ [])
alone frame is = each
  where
    no : (k : ℕ) → suc k < 1 → ⊥
    no k less = omega arith

    each : (k : ℕ) (d : List Came) → k < 1 → IsFrame (get_or (frame ∷ []) k d)
    each zero d less = is
    each (suc k) d less = absurd (no k less)

-- ---- what came, once more has

grown : (came more : List Came) (old new : Progress) (cut : IsCut came old) → IsPart new.part (cut.part ++ more) → IfSome (frame_start (cut.part ++ more)) (λ m. new.since ≡ m) → IsCut (came ++ more) new
grown came more old new cut part since = record {
  frames = cut.frames;
  part = cut.part ++ more;
  joined = ap (λ (l : List Came). l ++ more) cut.joined ∙ joined_more cut.frames cut.part more;
  whole = cut.whole;
  part_of = part;
  since = since;
}

ended : (came more : List Came) (old new : Progress) (cut : IsCut came old) → IsFrame (cut.part ++ more) → IsPart new.part [] → IsCut (came ++ more) new
ended came more old new cut frame part = record {
  frames = cut.frames ++ (cut.part ++ more) ∷ [];
  part = [];
  joined = ap (λ (l : List Came). l ++ more) cut.joined ∙ joined_more cut.frames cut.part more ∙ sym (joined_end cut.frames (cut.part ++ more));
  whole = All-append IsFrame cut.frames ((cut.part ++ more) ∷ []) cut.whole (alone (cut.part ++ more) frame);
  part_of = part;
  since = tt;
}

-- the size field has come, and so many bytes of the body are to come
sized : (came more : List Came) (old new : Progress) (to_come : ℕ) (cut : IsCut came old) → 4 ≤ length (cut.part ++ more) → length (cut.part ++ more) + to_come ≡ 4 + size_of (cut.part ++ more) → new.part ≡ part_of to_come → IfSome (frame_start (cut.part ++ more)) (λ m. new.since ≡ m) → IsCut (came ++ more) new
sized came more old new zero cut long whole is since =
    ended came more old new cut (long, (omega (arith, whole))) (subst (λ (p : Part). IsPart p []) (sym is) refl)
sized came more old new (suc n) cut long whole is since =
    grown came more old new cut (subst (λ (p : Part). IsPart p (cut.part ++ more)) (sym is) (long, (omega (arith, whole)))) since

-- ---- bytes of the size field

pub one_byte : (came : List Came) (now : Duration) (bytes : List ℕ) (new : Progress) → 0 < length bytes → IsCut (came ++ bytes_at now (get_or bytes 0 0 ∷ [])) new → IsCut (came ++ bytes_at now (take 1 bytes)) new
one_byte came now [] new some is = absurd (no some)
  where
    no : 0 < 0 → ⊥
    no less = omega arith
one_byte came now (b ∷ bs) new some is = is

some_bytes : (part : List Came) (n : ℕ) → length (bytes_of part) ≡ suc n → 0 < length part
some_bytes part n is = omega (arith, is, length-map part (λ c. c.byte))

pub first : (came : List Came) (old : Progress) (now : Duration) (byte : ℕ) → old.part ≡ Nothing → IsCut came old → IsCut (came ++ bytes_at now (byte ∷ [])) (record { part = One byte; since = now })
first came old now byte is cut =
    let none : cut.part ≡ [] = subst (λ (p : Part). IsPart p cut.part) is cut.part_of in
    grown came (bytes_at now (byte ∷ [])) old (record { part = One byte; since = now }) cut
    (rw none refl) (rw none refl)

pub second : (came : List Came) (old : Progress) (now : Duration) (a byte : ℕ) → old.part ≡ One a → IsCut came old → IsCut (came ++ bytes_at now (byte ∷ [])) (record { part = Two a byte; since = old.since })
second came old now a byte is cut =
    let one : bytes_of cut.part ≡ a ∷ [] = subst (λ (p : Part). IsPart p cut.part) is cut.part_of in
    grown came (bytes_at now (byte ∷ [])) old (record { part = Two a byte; since = old.since }) cut
    (map-append (λ (c : Came). c.byte) cut.part (bytes_at now (byte ∷ [])) ∙ ap (λ (l : List ℕ). l ++ byte ∷ []) one)
    (begun_kept cut.part (bytes_at now (byte ∷ [])) old.since (some_bytes cut.part 0 (ap length one)) cut.since)

pub third : (came : List Came) (old : Progress) (now : Duration) (a b byte : ℕ) → old.part ≡ Two a b → IsCut came old → IsCut (came ++ bytes_at now (byte ∷ [])) (record { part = Three a b byte; since = old.since })
third came old now a b byte is cut =
    let two : bytes_of cut.part ≡ a ∷ b ∷ [] = subst (λ (p : Part). IsPart p cut.part) is cut.part_of in
    grown came (bytes_at now (byte ∷ [])) old (record { part = Three a b byte; since = old.since }) cut
    (map-append (λ (c : Came). c.byte) cut.part (bytes_at now (byte ∷ [])) ∙ ap (λ (l : List ℕ). l ++ byte ∷ []) two)
    (begun_kept cut.part (bytes_at now (byte ∷ [])) old.since (some_bytes cut.part 1 (ap length two)) cut.since)

take_four : (part : List Came) → length part ≡ 4 → take 4 part ≡ part
take_four part is = grind (arith, common_steps)

pub fourth : (came : List Came) (old : Progress) (now : Duration) (a b c byte size : ℕ) (new : Part) → old.part ≡ Three a b c → size ≡ from_be_bytes w32 (a ∷ b ∷ c ∷ byte ∷ []) → new ≡ part_of size → IsCut came old → IsCut (came ++ bytes_at now (byte ∷ [])) (record { part = new; since = old.since })
fourth came old now a b c byte size new is number becomes cut =
    let three : bytes_of cut.part ≡ a ∷ b ∷ c ∷ [] = subst (λ (p : Part). IsPart p cut.part) is cut.part_of in
    let more : List Came = bytes_at now (byte ∷ []) in
    let four : bytes_of (cut.part ++ more) ≡ a ∷ b ∷ c ∷ byte ∷ [] = map-append (λ (c : Came). c.byte) cut.part more ∙ ap (λ (l : List ℕ). l ++ byte ∷ []) three in
    let long : length (cut.part ++ more) ≡ 4 = sym (length-map (cut.part ++ more) (λ (c : Came). c.byte)) ∙ ap length four in
    let says : size_of (cut.part ++ more) ≡ size = ap (λ (l : List Came). from_be_bytes w32 (bytes_of l)) (take_four (cut.part ++ more) long) ∙ ap (from_be_bytes w32) four ∙ sym number in
    sized came more old (record { part = new; since = old.since }) size cut (omega (arith, long)) (omega (arith, long, says)) becomes
    (begun_kept cut.part more old.since (some_bytes cut.part 2 (ap length three)) cut.since)

-- ---- bytes of the body

pub further : (came : List Came) (old : Progress) (now : Duration) (more to_come : ℕ) (bytes : List ℕ) (new : Part) → old.part ≡ Body more → length bytes + to_come ≡ more + 1 → new ≡ part_of to_come → IsCut came old → IsCut (came ++ bytes_at now bytes) (record { part = new; since = old.since })
further came old now more to_come bytes new is count becomes cut =
    let part : IsPart (Body more) cut.part = subst (λ (p : Part). IsPart p cut.part) is cut.part_of in
    let xs : List Came = bytes_at now bytes in
    let long : length (cut.part ++ xs) ≡ length cut.part + length bytes = length-append cut.part xs ∙ ap (λ (n : ℕ). length cut.part + n) (length-map bytes _) in
    let says : size_of (cut.part ++ xs) ≡ size_of cut.part = size_kept cut.part xs part.0 in
    sized came xs old (record { part = new; since = old.since }) to_come cut (omega (arith, long, part.0)) (omega (arith, long, says, count, part.1)) becomes
    (begun_kept cut.part xs old.since (omega (arith, part.0)) cut.since)

-- ---- one read, piece by piece

two_pieces : (xs : List ℕ) (n m : ℕ) → take (n + m) xs ≡ take n xs ++ take m (take (length xs - n) (drop n xs))
two_pieces xs n m = take-add n m xs ∙ ap (λ (l : List ℕ). take n xs ++ take m l) (sym (all (drop n xs) (length xs - n) (length-drop n xs)))
  where
    all : (l : List ℕ) (k : ℕ) → length l ≡ k → take k l ≡ l
    all l k is = grind (arith, common_steps)

pub more_passed : (came : List Came) (now : Duration) (bytes : List ℕ) (n m : ℕ) (new : Progress) → IsCut ((came ++ bytes_at now (take n bytes)) ++ bytes_at now (take m (take (length bytes - n) (drop n bytes)))) new → IsCut (came ++ bytes_at now (take (n + m) bytes)) new
more_passed came now bytes n m new cut =
    let front : List ℕ = take n bytes in
    let back : List ℕ = take m (take (length bytes - n) (drop n bytes)) in
    let joined : came ++ bytes_at now (take (n + m) bytes) ≡ (came ++ bytes_at now front) ++ bytes_at now back = ap (λ (l : List ℕ). came ++ bytes_at now l) (two_pieces bytes n m) ∙ ap (λ (l : List Came). came ++ l) (map-append _ front back) ∙ sym (append_assoc came (bytes_at now front) (bytes_at now back)) in
    subst (λ (l : List Came). IsCut l new) (sym joined) cut
