-- How many beginnings of a text are no longer than some number of bytes.
use Rattle.std.proofs.Common.{◌≡◌, ℕ, ◌+◌, ◌-◌, ◌<◌, ◌≤◌, List, [], ◌∷◌, ◌++◌, length, filter, take, drop, Bool, true, false, cond, refl, sym, ap, ◌∙◌, inl, inr, arith}
use Rattle.std.specs.List.{AllByRecursion}
use Rattle.std.specs.Char.{len_utf8, encode_utf8}
use Rattle.std.specs.Str.{chars, IsUtf8, IsCharBoundary}
use Rattle.std.proofs.lemmas.Bool.Decides.{leb_tells}
use Rattle.std.proofs.lemmas.Str.{IsUtf8-drop, len_utf8_bounds, chars_past_char}
use Rattle.acl_binding.specs.declared.words.Pattern.TheVariants.{Prefixed}
use Rattle.acl_binding.specs.declared.binding.Numbered.{Numbered}
use Rattle.acl_binding.specs.declared.question.Question.{Question}
use Rattle.authorizer.specs.Index.{bindings_under}
use Rattle.authorizer.specs.Longest.{longest_name}
use Rattle.authorizer.specs.LookUps.{beginnings_within, look_ups, longest_prefix, LookUpsAreFew}
use Rattle.authorizer.specs.Looking.{finding_of, combined_finding, is_longer, IsNamed, IsTableOf}
use Rattle.authorizer.specs.Policy.{PolicyValue, is_super}
use Rattle.authorizer.specs.declared.looking.Finding.{Finding}
use Rattle.authorizer.proofs.Findings.{joined_nothing}
use Rattle.authorizer.proofs.LongestNames.{all_within, none_held, none_longer}
use Rattle.authorizer.proofs.Looked.{look_step}
use Rattle.authorizer.proofs.Prefixes.{rest_past}

pub one_more : (most c : ℕ) (cs : List ℕ) → len_utf8 c ≤ most → beginnings_within most (c ∷ cs) ≡ beginnings_within (most - len_utf8 c) cs + 1
one_more most c cs le = elim (leb_tells (len_utf8 c) most) [
  | inl h ↦ ap (λ (b : Bool). cond b (beginnings_within (most - len_utf8 c) cs + 1) 0) h.0
  | inr h ↦ absurd (let lt : most < len_utf8 c = h.1 in omega arith)
]

pub no_more : (most c : ℕ) (cs : List ℕ) → most < len_utf8 c → beginnings_within most (c ∷ cs) ≡ 0
no_more most c cs lt = elim (leb_tells (len_utf8 c) most) [
  | inl h ↦ absurd (let le : len_utf8 c ≤ most = h.1 in omega arith)
  | inr h ↦ ap (λ (b : Bool). cond b (beginnings_within (most - len_utf8 c) cs + 1) 0) h.0
]

pub as_characters : (most : ℕ) (cs : List ℕ) → beginnings_within most cs ≤ length cs
as_characters most [] = omega arith
as_characters most (c ∷ cs) =
    let rest = as_characters (most - len_utf8 c) cs in
    elim (leb_tells (len_utf8 c) most) [
      | inl h ↦ let one = one_more most c cs h.1 in omega arith
      | inr h ↦ let none = no_more most c cs h.1 in omega arith
    ]

pub as_bytes : (most : ℕ) (cs : List ℕ) → beginnings_within most cs ≤ most
as_bytes most [] = omega arith
as_bytes most (c ∷ cs) =
    let rest = as_bytes (most - len_utf8 c) cs in
    let wide = (len_utf8_bounds c).0 in
    elim (leb_tells (len_utf8 c) most) [
      | inl h ↦ let le : len_utf8 c ≤ most = h.1 in let one = one_more most c cs le in omega arith
      | inr h ↦ let none = no_more most c cs h.1 in omega arith
    ]

pub few : (policy : PolicyValue) (q : Question) → LookUpsAreFew policy q
few policy q = by (is_super policy.supers q.who) refl where
  longest : ℕ
  longest = longest_prefix q.kind policy.book.entries

  by : (r : Bool) → is_super policy.supers q.who ≡ r → LookUpsAreFew policy q
  by true e = let none : look_ups policy q ≡ 0 = ap (λ (b : Bool). cond b 0 (beginnings_within longest (chars q.name) + 2)) e in record { by_name = omega arith; by_prefix = omega arith }
  by false e =
      let some : look_ups policy q ≡ beginnings_within longest (chars q.name) + 2 = ap (λ (b : Bool). cond b 0 (beginnings_within longest (chars q.name) + 2)) e in
      record {
        by_name = let le = as_characters longest (chars q.name) in omega arith;
        by_prefix = let le = as_bytes longest (chars q.name) in omega arith;
      }

-- ---- the walk over beginnings

pub first_char : (name rest : List ℕ) (k c : ℕ) → IsUtf8 name → IsCharBoundary name k → drop k name ≡ encode_utf8 c ++ rest → chars (drop k name) ≡ c ∷ chars (drop (k + len_utf8 c) name)
first_char name rest k c text boundary next = chars_past_char (drop k name) rest c (IsUtf8-drop name k text boundary) next ∙ ap (λ (l : List ℕ). c ∷ chars l) (rest_past name rest k c next)

-- one beginning more was looked up
pub counted_in : (name rest : List ℕ) (longest k c : ℕ) → IsUtf8 name → IsCharBoundary name k → drop k name ≡ encode_utf8 c ++ rest → k + len_utf8 c ≤ longest →
    beginnings_within (longest - k) (chars (drop k name)) ≡ beginnings_within (longest - (k + len_utf8 c)) (chars (drop (k + len_utf8 c) name)) + 1
counted_in name rest longest k c text boundary next le =
    let less : (longest - k) - len_utf8 c ≡ longest - (k + len_utf8 c) = omega arith in
    ap (beginnings_within (longest - k)) (first_char name rest k c text boundary next)
    ∙ one_more (longest - k) c (chars (drop (k + len_utf8 c) name)) (omega arith)
    ∙ ap (λ (n : ℕ). beginnings_within n (chars (drop (k + len_utf8 c) name)) + 1) less

-- the next is too long
pub counted_out : (name rest : List ℕ) (longest k c : ℕ) → IsUtf8 name → IsCharBoundary name k → drop k name ≡ encode_utf8 c ++ rest → longest < k + len_utf8 c →
    beginnings_within (longest - k) (chars (drop k name)) ≡ 0
counted_out name rest longest k c text boundary next lt =
    let wide = (len_utf8_bounds c).0 in
    ap (beginnings_within (longest - k)) (first_char name rest k c text boundary next) ∙ no_more (longest - k) c (chars (drop (k + len_utf8 c) name)) (omega arith)

-- what is longer than the longest name says nothing
pub look_past : (table : List (List ℕ × List Numbered)) (es : List Numbered) (q : Question) (f : Finding) (rest : List ℕ) (k c : ℕ) →
    AllByRecursion IsNamed es → IsTableOf table q.kind Prefixed es → IsCharBoundary q.name k → drop k q.name ≡ encode_utf8 c ++ rest →
    length (take (k + len_utf8 c) q.name) ≡ k + len_utf8 c → longest_name table < k + len_utf8 c →
    combined_finding f (finding_of (filter (is_longer q.kind q.name k) es) q) ≡ f
look_past table es q f rest k c named is boundary next whole lt =
    let far : List Numbered = bindings_under table (take (k + len_utf8 c) q.name) in
    let none : far ≡ [] = none_held table (take (k + len_utf8 c) q.name) (omega arith) in
    let longer : filter (is_longer q.kind q.name (k + len_utf8 c)) es ≡ [] = none_longer q.kind q.name (longest_name table) (k + len_utf8 c) es (omega arith) (all_within table q.kind Prefixed es is) in
    sym (look_step table es q f rest k c named is boundary next)
    ∙ ap (λ (h : List Numbered). combined_finding (combined_finding f (finding_of h q)) (finding_of (filter (is_longer q.kind q.name (k + len_utf8 c)) es) q)) none
    ∙ ap (λ (l : List Numbered). combined_finding (combined_finding f (finding_of [] q)) (finding_of l q)) longer
    ∙ joined_nothing (combined_finding f (finding_of [] q)) ∙ joined_nothing f
