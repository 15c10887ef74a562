-- The longest name of a table is that of the bindings whose table it is, and nothing stands under a longer one.
use Rattle.std.proofs.Common.{◌≡◌, ℕ, suc, ◌+◌, ◌<◌, ◌≤◌, List, [], ◌∷◌, ◌++◌, length, length-append, map, filter, get_or, swap_remove, position, sum_by, count_by, Option, Some, None, is_some, Bool, true, false, ◌&&◌, cond, refl, sym, ap, subst, ◌∙◌, arith}
use Rattle.std.specs.Prelude.{nat_lt, nat_eq, ◌==◌}
use Rattle.std.specs.List.{AllByRecursion, starts_with}
use Rattle.std.specs.Option.{unwrap_or, option_map_or}
use Rattle.std.specs.Map.{keys_of, lookup}
use Rattle.std.specs.Str.{bytes_eq}
use Rattle.std.specs.String.{string_bytes, string_eq}
use Rattle.std.specs.declared.string.String.{String}
use Rattle.std.specs.declared.alloc.Global.{Global}
use Rattle.std.proofs.lemmas.Bool.Decides.{Decides-ltb}
use Rattle.std.proofs.lemmas.List.{length-map}
use Rattle.std.proofs.lemmas.List.Quantifiers.{position-Some}
use Rattle.std.proofs.lemmas.List.Sums.{sum_by-cons, sum_by-swap_remove, count_by-le-length}
use Rattle.std.proofs.lemmas.Slice.Eq.{bytes_eq-Decides}
use Rattle.indexmap.specs.IndexMap.{insert_entry, swap_remove_entry}
use Rattle.indexmap.proofs.MapLemmas.{some_index}
use Rattle.indexmap.proofs.SetLemmas.{map-swap_remove}
use Rattle.acl_binding.specs.declared.words.Kind.{Kind}
use Rattle.acl_binding.specs.declared.words.Pattern.{Pattern}
use Rattle.acl_binding.specs.declared.words.Pattern.TheVariants.{Prefixed}
use Rattle.acl_binding.specs.declared.binding.Numbered.{Numbered}
use Rattle.acl_binding.specs.Words.{kind_number, pattern_number}
use Rattle.authorizer.specs.AnyTopic.{is_of}
use Rattle.authorizer.specs.Index.{rows, named_bindings, bindings_under, nonempty}
use Rattle.authorizer.specs.Longest.{greatest, lengths, longest_name, IsLongest}
use Rattle.authorizer.specs.declared.index.longest.Longest.{Longest}
use Rattle.authorizer.specs.LookUps.{longest_prefix}
use Rattle.authorizer.specs.Looking.{is_at, is_longer, bindings_about, IsTableOf}
use Rattle.authorizer.proofs.Longest.{own_le, rest_le, both_le, HasLeft}
use Rattle.authorizer.proofs.Tables.{is_text, same_bytes}

-- the rows' names are the table's keys
pub key_lengths : (es : List (String Global × List Numbered)) → map (λ (row : List ℕ × List Numbered). length row.0) (rows es) ≡ lengths (keys_of es)
key_lengths [] = refl
key_lengths (e ∷ es) = ap (λ (ns : List ℕ). length (string_bytes e.0) ∷ ns) (key_lengths es)

-- ---- what stands in a table

found_within : (table : List (List ℕ × List Numbered)) (name : List ℕ) (held : List Numbered) → named_bindings table name ≡ Some held → length name ≤ longest_name table
found_within [] name held is = absurd (let clash : None ≡ Some held = is in cc)
found_within (row ∷ table) name held is = by (bytes_eq name row.0) refl is (λ h. found_within table name held h) where
  by : (r : Bool) → bytes_eq name row.0 ≡ r → cond r (Some row.1) (named_bindings table name) ≡ Some held → (named_bindings table name ≡ Some held → length name ≤ longest_name table) → length name ≤ longest_name (row ∷ table)
  by true e h among = let same : length name ≡ length row.0 = ap length (same_bytes name row.0 e) in let own = own_le (length row.0) (map (λ (r : List ℕ × List Numbered). length r.0) table) in omega arith
  by false e h among = let rest = among h in let more = rest_le (length row.0) (map (λ (r : List ℕ × List Numbered). length r.0) table) in omega arith

-- nothing stands under a longer name
pub too_long : (table : List (List ℕ × List Numbered)) (name : List ℕ) → longest_name table < length name → named_bindings table name ≡ None
too_long table name long = by (named_bindings table name) refl where
  by : (o : Option (List Numbered)) → named_bindings table name ≡ o → o ≡ None
  by None e = refl
  by (Some held) e = absurd (let le = found_within table name held e in omega arith)

pub none_held : (table : List (List ℕ × List Numbered)) (name : List ℕ) → longest_name table < length name → bindings_under table name ≡ []
none_held table name long = ap (λ (o : Option (List Numbered)). unwrap_or o []) (too_long table name long)

table_within : (b : ℕ) (table : List (List ℕ × List Numbered)) → ((name : List ℕ) (held : List Numbered) → named_bindings table name ≡ Some held → length name ≤ b) → longest_name table ≤ b
table_within b [] within = omega arith
table_within b (row ∷ table) within =
    both_le b (length row.0) (map (λ (r : List ℕ × List Numbered). length r.0) table)
    (within row.0 row.1 (ap (λ (r : Bool). cond r (Some row.1) (named_bindings table row.0)) ((bytes_eq-Decides row.0 row.0).1 refl)))
    (table_within b table (λ name held is. by name held is (bytes_eq name row.0) refl)) where
      by : (name : List ℕ) (held : List Numbered) → named_bindings table name ≡ Some held → (r : Bool) → bytes_eq name row.0 ≡ r → length name ≤ b
      by name held is true e = within name row.1 (ap (λ (r : Bool). cond r (Some row.1) (named_bindings table name)) e)
      by name held is false e = within name held (ap (λ (r : Bool). cond r (Some row.1) (named_bindings table name)) e ∙ is)

-- ---- what stands among bindings

abbrev size : Numbered → ℕ
size e = length e.binding.name

-- the two tests of a binding at a name
parted : (kind : Kind) (pattern : Pattern) (name : List ℕ) (e : Numbered) → is_at kind pattern name e ≡ true → (is_of kind pattern e ≡ true) × (bytes_eq e.binding.name name ≡ true)
parted kind pattern name e is = by (kind_number e.binding.kind == kind_number kind) (pattern_number e.binding.pattern == pattern_number pattern) (bytes_eq e.binding.name name) is where
  by : (a b c : Bool) → (a && (b && c)) ≡ true → ((a && b) ≡ true) × (c ≡ true)
  by true true c h = (refl, h)
  by true false c h = absurd (let clash : false ≡ true = h in cc)
  by false b c h = absurd (let clash : false ≡ true = h in cc)

own_key : (kind : Kind) (pattern : Pattern) (e : Numbered) → is_of kind pattern e ≡ true → is_at kind pattern e.binding.name e ≡ true
own_key kind pattern e is = by (kind_number e.binding.kind == kind_number kind) (pattern_number e.binding.pattern == pattern_number pattern) (bytes_eq e.binding.name e.binding.name) is ((bytes_eq-Decides e.binding.name e.binding.name).1 refl) where
  by : (a b c : Bool) → (a && b) ≡ true → c ≡ true → (a && (b && c)) ≡ true
  by true true c h k = k
  by true false c h k = absurd (let clash : false ≡ true = h in cc)
  by false b c h k = absurd (let clash : false ≡ true = h in cc)

about_within : (kind : Kind) (pattern : Pattern) (name : List ℕ) (es : List Numbered) (held : List Numbered) → nonempty (bindings_about kind pattern name es) ≡ Some held → length name ≤ greatest (map size (filter (is_of kind pattern) es))
about_within kind pattern name [] held is = absurd (let clash : None ≡ Some held = is in cc)
about_within kind pattern name (e ∷ es) held is = by (is_at kind pattern name e) refl is (λ h. about_within kind pattern name es held h) where
  some : ℕ
  some = greatest (map size (filter (is_of kind pattern) es))

  rest : (r : Bool) → length name ≤ some → length name ≤ greatest (map size (cond r (e ∷ filter (is_of kind pattern) es) (filter (is_of kind pattern) es)))
  rest true more = let le = rest_le (size e) (map size (filter (is_of kind pattern) es)) in omega arith
  rest false more = more

  by : (r : Bool) → is_at kind pattern name e ≡ r → nonempty (cond r (e ∷ bindings_about kind pattern name es) (bindings_about kind pattern name es)) ≡ Some held → (nonempty (bindings_about kind pattern name es) ≡ Some held → length name ≤ some) →
      length name ≤ greatest (map size (filter (is_of kind pattern) (e ∷ es)))
  by true at h among =
      let parts = parted kind pattern name e at in
      let same : size e ≡ length name = ap length (same_bytes e.binding.name name parts.1) in
      let own = own_le (size e) (map size (filter (is_of kind pattern) es)) in
      let kept : greatest (map size (filter (is_of kind pattern) (e ∷ es))) ≡ greatest (size e ∷ map size (filter (is_of kind pattern) es)) =
      ap (λ (r : Bool). greatest (map size (cond r (e ∷ filter (is_of kind pattern) es) (filter (is_of kind pattern) es)))) parts.0 in
      omega arith
  by false at h among = rest (is_of kind pattern e) (among h)

-- each that has the kind and the pattern is no longer than b
abbrev pub AreWithin : Kind → Pattern → ℕ → List Numbered → Type 0
AreWithin kind pattern b es = AllByRecursion (λ (e : Numbered). is_of kind pattern e ≡ true → length e.binding.name ≤ b) es

each_within : (kind : Kind) (pattern : Pattern) (b : ℕ) (es : List Numbered) → ((name : List ℕ) (held : List Numbered) → nonempty (bindings_about kind pattern name es) ≡ Some held → length name ≤ b) → AreWithin kind pattern b es
each_within kind pattern b [] within = tt
each_within kind pattern b (e ∷ es) within = (
  λ is. within e.binding.name (e ∷ bindings_about kind pattern e.binding.name es) (ap (λ (r : Bool). nonempty (cond r (e ∷ bindings_about kind pattern e.binding.name es) (bindings_about kind pattern e.binding.name es))) (own_key kind pattern e is)),
  each_within kind pattern b es (λ name held is. by name held is (is_at kind pattern name e) refl),
) where
  by : (name : List ℕ) (held : List Numbered) → nonempty (bindings_about kind pattern name es) ≡ Some held → (r : Bool) → is_at kind pattern name e ≡ r → length name ≤ b
  by name held is true at = within name (e ∷ bindings_about kind pattern name es) (ap (λ (r : Bool). nonempty (cond r (e ∷ bindings_about kind pattern name es) (bindings_about kind pattern name es))) at)
  by name held is false at = within name held (ap (λ (r : Bool). nonempty (cond r (e ∷ bindings_about kind pattern name es) (bindings_about kind pattern name es))) at ∙ is)

greatest_within : (kind : Kind) (pattern : Pattern) (b : ℕ) (es : List Numbered) → AreWithin kind pattern b es → greatest (map size (filter (is_of kind pattern) es)) ≤ b
greatest_within kind pattern b [] within = omega arith
greatest_within kind pattern b (e ∷ es) within = by (is_of kind pattern e) refl (greatest_within kind pattern b es within.1) where
  by : (r : Bool) → is_of kind pattern e ≡ r → greatest (map size (filter (is_of kind pattern) es)) ≤ b → greatest (map size (cond r (e ∷ filter (is_of kind pattern) es) (filter (is_of kind pattern) es))) ≤ b
  by true is rest = both_le b (size e) (map size (filter (is_of kind pattern) es)) (within.0 is) rest
  by false is rest = rest

-- ---- both

pub all_within : (table : List (List ℕ × List Numbered)) (kind : Kind) (pattern : Pattern) (es : List Numbered) → IsTableOf table kind pattern es → AreWithin kind pattern (longest_name table) es
all_within table kind pattern es is = each_within kind pattern (longest_name table) es (λ name held some. found_within table name held (is name ∙ some))

pub same_longest : (table : List (List ℕ × List Numbered)) (kind : Kind) (es : List Numbered) → IsTableOf table kind Prefixed es → longest_name table ≡ longest_prefix kind es
same_longest table kind es is =
    let le : longest_name table ≤ greatest (map size (filter (is_of kind Prefixed) es)) = table_within _ table (λ name held some. about_within kind Prefixed name es held (sym (is name) ∙ some)) in
    let ge : greatest (map size (filter (is_of kind Prefixed) es)) ≤ longest_name table = greatest_within kind Prefixed (longest_name table) es (all_within table kind Prefixed es is) in
    omega arith

-- no prefixed binding is longer than k, where the longest is not
pub none_longer : (kind : Kind) (name : List ℕ) (b k : ℕ) (es : List Numbered) → b ≤ k → AreWithin kind Prefixed b es → filter (is_longer kind name k) es ≡ []
none_longer kind name b k [] le within = refl
none_longer kind name b k (e ∷ es) le within =
    ap (λ (r : Bool). cond r (e ∷ filter (is_longer kind name k) es) (filter (is_longer kind name k) es))
    (by (kind_number e.binding.kind == kind_number kind) (pattern_number e.binding.pattern == 4) (starts_with nat_eq name e.binding.name) (nat_lt k (size e)) refl within.0)
    ∙ none_longer kind name b k es le within.1 where
      by : (x y s r : Bool) → nat_lt k (size e) ≡ r → ((x && y) ≡ true → size e ≤ b) → (x && (y && (s && r))) ≡ false
      by true true true true lt own = absurd (let long : k < size e = (Decides-ltb k (size e)).0 lt in let short = own refl in omega arith)
      by true true true false lt own = refl
      by true true false r lt own = refl
      by true false s r lt own = refl
      by false y s r lt own = refl

-- no more names are as long as the longest than there are
pub fewer : (l : Longest) (old new : List (String Global × List Numbered)) (n : ℕ) → IsLongest l (lengths (keys_of old)) → lengths (keys_of new) ≡ lengths (keys_of old) ++ n ∷ [] → l.names < length new
fewer l old new n is more =
    let le = count_by-le-length (nat_eq l.bytes) (lengths (keys_of old)) in
    let names = is.names in
    let size : length new ≡ length (lengths (keys_of new)) = size_of new in
    let one : length (lengths (keys_of new)) ≡ length (lengths (keys_of old)) + 1 = ap length more ∙ length-append (lengths (keys_of old)) (n ∷ []) in
    omega arith where
      size_of : (es : List (String Global × List Numbered)) → length es ≡ length (lengths (keys_of es))
      size_of [] = refl
      size_of (e ∷ es) = ap suc (size_of es)

count_lengths : (p : ℕ → Bool) (ks : List (String Global)) → count_by p (lengths ks) ≡ sum_by (λ (k : String Global). cond (p (length (string_bytes k))) 1 0) ks
count_lengths p [] = refl
count_lengths p (k ∷ ks) =
    sum_by-cons (λ (n : ℕ). cond (p n) 1 0) (length (string_bytes k)) (lengths ks)
    ∙ ap (λ (n : ℕ). cond (p (length (string_bytes k))) 1 0 + n) (count_lengths p ks)
    ∙ sym (sum_by-cons (λ (k : String Global). cond (p (length (string_bytes k))) 1 0) k ks)

-- what is left once a name was taken out
pub has_left : (es : List (String Global × List Numbered)) (name : List ℕ) (held : List Numbered) → Some held ≡ lookup (is_text name) es →
    HasLeft (lengths (keys_of es)) (lengths (keys_of (swap_remove_entry (is_text name) es))) (length name)
has_left [] name held some = absurd (let clash : Some held ≡ None = some in cc)
has_left (e ∷ es) name held some = by (position (is_text name) (keys_of (e ∷ es))) refl where
  keys : List (String Global)
  keys = keys_of (e ∷ es)

  by : (o : Option ℕ) → position (is_text name) keys ≡ o → HasLeft (lengths keys) (lengths (keys_of (option_map_or (λ i. swap_remove (e ∷ es) i e) o (e ∷ es)))) (length name)
  by None none = absurd (let clash : true ≡ false = ap is_some some ∙ sym (some_index (is_text name) (e ∷ es)) ∙ ap is_some none in cc)
  by (Some i) first = λ p.
      let at = position-Some (is_text name) keys i e.0 first in
      let width : length (string_bytes (get_or keys i e.0)) ≡ length name = ap length (sym (same_bytes name (string_bytes (get_or keys i e.0)) at.1)) in
      let f : String Global → ℕ = (λ k. cond (p (length (string_bytes k))) 1 0) in
      let sums = sum_by-swap_remove f keys i e.0 at.0 in
      let after : keys_of (swap_remove (e ∷ es) i e) ≡ swap_remove keys i e.0 = map-swap_remove (λ (r : String Global × List Numbered). r.0) (e ∷ es) i e (omega arith) in
      ap (λ (ks : List (String Global)). count_by p (lengths ks) + cond (p (length name)) 1 0) after
      ∙ ap (λ (n : ℕ). n + cond (p (length name)) 1 0) (count_lengths p (swap_remove keys i e.0))
      ∙ ap (λ (n : ℕ). sum_by f (swap_remove keys i e.0) + cond (p n) 1 0) (sym width)
      ∙ sums ∙ sym (count_lengths p keys)

-- ---- a name that is new goes last

inserted : (es : List (String Global × List Numbered)) (k : String Global) (v : List Numbered) → lookup (is_text (string_bytes k)) es ≡ None → lengths (keys_of (insert_entry string_eq es k v)) ≡ lengths (keys_of es) ++ length (string_bytes k) ∷ []
inserted [] k v none = refl
inserted (e ∷ es) k v none = by (bytes_eq (string_bytes k) (string_bytes e.0)) none (λ h. inserted es k v h) where
  by : (r : Bool) → cond r (Some e.1) (lookup (is_text (string_bytes k)) es) ≡ None →
      (lookup (is_text (string_bytes k)) es ≡ None → lengths (keys_of (insert_entry string_eq es k v)) ≡ lengths (keys_of es) ++ length (string_bytes k) ∷ []) →
      lengths (keys_of (cond r ((e.0, v) ∷ es) (e ∷ insert_entry string_eq es k v))) ≡ lengths (keys_of (e ∷ es)) ++ length (string_bytes k) ∷ []
  by true h rest = absurd (let clash : Some e.1 ≡ None = h in cc)
  by false h rest = ap (λ (ns : List ℕ). length (string_bytes e.0) ∷ ns) (rest h)

pub pushed_name : (es new : List (String Global × List Numbered)) (k : String Global) (v : List Numbered) (name : List ℕ) → string_bytes k ≡ name → lookup (is_text name) es ≡ None → new ≡ insert_entry string_eq es k v →
    lengths (keys_of new) ≡ lengths (keys_of es) ++ length name ∷ []
pushed_name es new k v name is none made =
    ap (λ (l : List (String Global × List Numbered)). lengths (keys_of l)) made
    ∙ inserted es k v (ap (λ (n : List ℕ). lookup (is_text n) es) is ∙ none)
    ∙ ap (λ (n : List ℕ). lengths (keys_of es) ++ length n ∷ []) is

-- what stands under a name after a write
pub written : (es new : List (String Global × List Numbered)) (name : List ℕ) (held : List Numbered) →
    ((other : List ℕ) → lookup (is_text other) new ≡ cond (bytes_eq name other) (Some held) (lookup (is_text other) es)) → Some held ≡ lookup (is_text name) new
written es new name held changed = sym (changed name ∙ ap (λ (r : Bool). cond r (Some held) (lookup (is_text name) es)) ((bytes_eq-Decides name name).1 refl))

-- ---- names taken one after the other

lengths_push : (ks : List (String Global)) (k : String Global) → lengths (ks ++ k ∷ []) ≡ lengths ks ++ length (string_bytes k) ∷ []
lengths_push [] k = refl
lengths_push (x ∷ xs) k = ap (λ (ns : List ℕ). length (string_bytes x) ∷ ns) (lengths_push xs k)

pub longest_push : (l : Longest) (ks : List (String Global)) (k : String Global) (n : ℕ) → n ≡ length (string_bytes k) → IsLongest l (lengths ks ++ n ∷ []) → IsLongest l (lengths (ks ++ k ∷ []))
longest_push l ks k n is longest = subst (IsLongest l) (ap (λ (m : ℕ). lengths ks ++ m ∷ []) is ∙ sym (lengths_push ks k)) longest

pub few_names : (l : Longest) (before left : List (String Global)) (es : List (String Global × List Numbered)) → IsLongest l (lengths before) → before ++ left ≡ keys_of es → l.names ≤ length es
few_names l before left es is all =
    let le = count_by-le-length (nat_eq l.bytes) (lengths before) in
    let names = is.names in
    let size : length (lengths before) ≡ length before = length-map before (λ (k : String Global). length (string_bytes k)) in
    let sum : length (before ++ left) ≡ length before + length left = length-append before left in
    let whole : length (before ++ left) ≡ length es = ap length all ∙ length-map es (λ (e : String Global × List Numbered). e.0) in
    omega arith
