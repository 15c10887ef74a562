-- Known bytes over several reads.
use Rattle.std.proofs.Common.{◌≡◌, ℕ, ◌+◌, ◌-◌, ◌<◌, ◌≤◌, List, [], ◌++◌, refl, Option, Some, None, ap, sym, ◌∙◌, length, take, arith, subst, le_refl, drop_at, slice_range, length-take-le, take_all, append_assoc, length-append}
use Rattle.std.proofs.lemmas.Slice.{take-put_mid_below, take-put_mid}
use Rattle.std.specs.Io.KnownBytes.{Consumes, IsAtEnd}
use Rattle.std.proofs.KnownBytes.{Consumes-nil, Consumes-trans}
use Rattle.frame_streams.specs.declared.fault.FrameFault.{FrameFault}
use Rattle.frame_streams.specs.declared.fault.FrameFault.TheVariants as fault
use Rattle.frame_streams.specs.Reads.{Took, StopsShort, HeadLacks, BodyLacks, ReadsOn, Passes, ReadsPast}
use borrow.Rule.Slice.PartMut.{put_mid, post_of}
use lib.Seq.{take-add, take-append-le}

-- the part that was read lies after what was there
slice_range-put_mid : (a k n : ℕ) (xs ys : List ℕ) → a ≤ length xs → n ≤ length ys → slice_range (put_mid a k xs ys) a (a + n) ≡ take n ys
slice_range-put_mid a k n xs ys within fits =
    let same : (a + n) - a ≡ n = omega arith in
    let after = post_of a k xs in
    ap (take ((a + n) - a)) (drop_at (take a xs) (ys ++ after) a (length-take-le a xs within)) ∙ ap (λ m. take m (ys ++ after)) same ∙ take-append-le n ys after fits

take_split : (a b : ℕ) (old new : List ℕ) → a ≤ b → take a new ≡ take a old → take a old ++ slice_range new a b ≡ take b new
take_split a b old new h front =
    let same : a + (b - a) ≡ b = omega arith in
    ap (λ l. l ++ slice_range new a b) (sym front) ∙ sym (take-add a (b - a) new) ∙ ap (λ n. take n new) same

-- what a buffer was filled with by another read into its rest
pub consumes_more : (a b c : Option (List ℕ)) (at k n : ℕ) (xs ys : List ℕ)
    → at ≤ length xs → n ≤ length ys → Consumes a b (take at xs) → Consumes b c (take n ys)
    → Consumes a c (take (at + n) (put_mid at k xs ys))
consumes_more a b c at k n xs ys within fits old new =
    let part = slice_range-put_mid at k n xs ys within fits in
    let joined = take_split at (at + n) xs (put_mid at k xs ys) (omega arith) (take-put_mid_below _ _ _ _ _ (le_refl _) within) in
    subst (Consumes _ _) (ap (λ l. take at xs ++ l) (sym part) ∙ joined) (Consumes-trans _ _ _ _ _ old new)

-- a reader at its end gave all that it had
took_end : (P : List ℕ → List ℕ → Type 0) (a b : Option (List ℕ)) (n : ℕ) (bs : List ℕ) → n ≤ length bs → Consumes a b (take n bs) → IsAtEnd b
    → ((read : List ℕ) → length read ≡ n → P read []) → Took a b P
took_end P None b n bs within read end h = tt
took_end P (Some xs) None n bs within read end h = absurd read
took_end P (Some xs) (Some ys) n bs within read end h = (take n bs, [], read ∙ ap (λ l. take n bs ++ l) end, ap Some end, h (take n bs) (length-take-le n bs within))

took_short : (P : List ℕ → List ℕ → Type 0) (a b : Option (List ℕ)) (n : ℕ) → StopsShort a b n → ((read rest : List ℕ) → length read < n → P read rest) → Took a b P
took_short P None b n short h = tt
took_short P (Some xs) None n short h = absurd short.1
took_short P (Some xs) (Some ys) n short h = (short.0, ys, short.1, refl, h short.0 ys short.2)

pub head_closed : (a b : Option (List ℕ)) (n : ℕ) (bs : List ℕ) → n ≡ 0 → n ≤ length bs → Consumes a b (take n bs) → IsAtEnd b → Took a b (HeadLacks fault.Closed)
head_closed a b n bs none within read end = took_end (HeadLacks fault.Closed) a b n bs within read end (λ p l. (l ∙ none, refl))

pub head_cut : (a b : Option (List ℕ)) (n : ℕ) (bs : List ℕ) → 0 < n → n < 4 → n ≤ length bs → Consumes a b (take n bs) → IsAtEnd b → Took a b (HeadLacks fault.Cut)
head_cut a b n bs some few within read end = took_end (HeadLacks fault.Cut) a b n bs within read end (λ p l. (omega arith, omega arith, refl))

pub head_fault : (a b : Option (List ℕ)) (n : ℕ) (w : FrameFault) → n ≡ 4 → w ≡ fault.ReadFault → StopsShort a b n → Took a b (HeadLacks w)
head_fault a b n w four is short = subst (λ x. Took a b (HeadLacks x)) (sym is) (took_short (HeadLacks fault.ReadFault) a b n short (λ p rest l. omega arith))

pub body_cut : (a b : Option (List ℕ)) (n size : ℕ) (bs : List ℕ) → n < size → n ≤ length bs → Consumes a b (take n bs) → IsAtEnd b → Took a b (BodyLacks size fault.Cut)
body_cut a b n size bs few within read end = took_end (BodyLacks size fault.Cut) a b n bs within read end (λ p l. (omega arith, refl))

pub body_fault : (a b : Option (List ℕ)) (n size : ℕ) (w : FrameFault) → n ≡ size → w ≡ fault.ReadFault → StopsShort a b n → Took a b (BodyLacks size w)
body_fault a b n size w all is short = subst (λ x. Took a b (BodyLacks size x)) (sym is) (took_short (BodyLacks size fault.ReadFault) a b n short (λ p rest l. omega arith))

-- ---- a body in pieces

-- there is no room for more
pub unread : (a b : Option (List ℕ)) (size : ℕ) (front : List ℕ) → Consumes a b front → Took a b (BodyLacks size fault.NoMemory)
unread None b size front h = tt
unread (Some xs) None size front h = absurd h
unread (Some xs) (Some ys) size front h = (front, ys, h, refl, tt)

-- there is no room for the first
pub none_read : (a : Option (List ℕ)) (size : ℕ) → Took a a (BodyLacks size fault.NoMemory)
none_read a size = unread a a size [] (Consumes-nil a)

lacks_more : (old m size : ℕ) (w : FrameFault) (front read rest : List ℕ) → length front ≡ old → old + m ≤ size → BodyLacks m w read rest → BodyLacks size w (front ++ read) rest
lacks_more old m size fault.Cut front read rest is within h = let l = length-append front read in (omega (arith, l, h.0), h.1)
lacks_more old m size fault.ReadFault front read rest is within h = let l = length-append front read in omega (arith, l, h)
lacks_more old m size fault.NoMemory front read rest is within h = tt
lacks_more old m size fault.Closed front read rest is within h = absurd h
lacks_more old m size fault.BadFrame front read rest is within h = absurd h

-- the next piece lacks, and so the body does
pub piece_lacks : (a b c : Option (List ℕ)) (m size : ℕ) (front : List ℕ) (w : FrameFault) → length front + m ≤ size → Consumes a b front → Took b c (BodyLacks m w) → Took a c (BodyLacks size w)
piece_lacks None b c m size front w within h lacks = tt
piece_lacks (Some xs) None c m size front w within h lacks = absurd h
piece_lacks (Some xs) (Some ys) c m size front w within h (read, rest, whole, after, lacks) = (
  front ++ read,
  rest,
  h ∙ ap (λ t. front ++ t) whole ∙ sym (append_assoc front read rest),
  after,
  lacks_more (length front) m size w front read rest refl within lacks,
)

-- what is read from one place on stands after what was there
pub rest_read : (b c : Option (List ℕ)) (len held : ℕ) (xs ys rest : List ℕ) → length xs ≡ len → held ≤ len → length ys ≡ len - held → Consumes b c ys
    → ReadsOn b c (take held xs) (take len (put_mid held (len - held) xs ys ++ rest))
rest_read b c len held xs ys rest all within fits read =
    let seam : len ≡ held + length ys = omega (arith, within, fits) in
    let before : held ≤ length xs = omega (arith, all, within) in
    let front : take len (put_mid held (len - held) xs ys) ≡ take held xs ++ ys = take-put_mid held (len - held) xs ys len seam before in
    let long : len ≤ length (put_mid held (len - held) xs ys) =
    omega (arith, seam, length-append (take held xs) (ys ++ post_of held (len - held) xs), length-append ys (post_of held (len - held) xs), length-take-le held xs before) in
    (ys, take-append-le len _ rest long ∙ front, read)

pub read_on : (a b c : Option (List ℕ)) (held more : List ℕ) → Consumes a b held → ReadsOn b c held more → Consumes a c more
read_on a b c held more first (read, whole, next) = subst (Consumes a c) (sym whole) (Consumes-trans a b c held read first next)

-- room for more is taken after what is there
pub front_kept : (n end : ℕ) (xs more : List ℕ) → length xs ≡ n → n ≤ end → take n (take end xs ++ more) ≡ xs
front_kept n end xs more all within =
    ap (λ l. take n (l ++ more)) (take_all end xs (omega (arith, all, within))) ∙ take-append-le n xs more (omega (arith, all)) ∙ take_all n xs (omega (arith, all))

-- ---- what is read past

pub none_passed : (a : Option (List ℕ)) (n : ℕ) → n ≡ 0 → Passes a a n
none_passed a n none = ([], sym none, Consumes-nil a)

pub more_passed : (a b c : Option (List ℕ)) (n m : ℕ) (piece : List ℕ) → Passes a b n → length piece ≡ m → Consumes b c piece → Passes a c (n + m)
more_passed a b c n m piece (read, long, first) is next =
    (read ++ piece, length-append read piece ∙ (λ i. long i + is i), Consumes-trans a b c read piece first next)

-- the next piece lacks
pub passing_lacks : (a b c : Option (List ℕ)) (n m size : ℕ) (w : FrameFault) → n + m ≤ size → Passes a b n → Took b c (BodyLacks m w) → Took a c (BodyLacks size w)
passing_lacks a b c n m size w within (read, long, first) lacks = piece_lacks a b c m size read w (omega (arith, within, long)) first lacks

-- a front lacks, and so does the whole
lacks_front : (kept size : ℕ) (w : FrameFault) (read rest : List ℕ) → kept ≤ size → BodyLacks kept w read rest → BodyLacks size w read rest
lacks_front kept size w read rest within h = lacks_more 0 kept size w [] read rest refl (omega (arith, within)) h

pub front_lacks : (a b : Option (List ℕ)) (kept size : ℕ) (w : FrameFault) → kept ≤ size → Took a b (BodyLacks kept w) → Took a b (BodyLacks size w)
front_lacks None b kept size w within h = tt
front_lacks (Some xs) b kept size w within (read, rest, whole, after, lacks) = (read, rest, whole, after, lacks_front kept size w read rest within lacks)

pub some_kept : (a b c : Option (List ℕ)) (kept size : ℕ) (body : List ℕ) → kept ≤ size → length body ≡ kept → Consumes a b body → Passes b c (size - kept) → ReadsPast a c body size
some_kept a b c kept size body within long first (read, more, next) = (read, omega (arith, within, long, more), Consumes-trans a b c body read first next)

-- what lacks after a front
pub rest_lacks : (a b c : Option (List ℕ)) (kept size : ℕ) (body : List ℕ) (w : FrameFault) → kept ≤ size → length body ≡ kept → Consumes a b body → Took b c (BodyLacks (size - kept) w) → Took a c (BodyLacks size w)
rest_lacks a b c kept size body w within long first lacks = piece_lacks a b c (size - kept) size body w (omega (arith, within, long)) first lacks
