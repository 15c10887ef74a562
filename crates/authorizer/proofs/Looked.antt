-- One look-up more in the walk over a name's beginnings.
use Rattle.std.proofs.Common.{◌≡◌, ℕ, ◌+◌, ◌-◌, ◌≤◌, List, [], ◌++◌, length, filter, take, drop, Option, None, Bool, true, false, ◌&&◌, ◌||◌, refl, ap, ◌∙◌, arith, length-drop}
use Rattle.std.specs.Prelude.{◌==◌}
use Rattle.std.specs.List.{AllByRecursion}
use Rattle.std.specs.Option.{unwrap_or}
use Rattle.std.specs.Str.{IsUtf8, IsCharBoundary}
use Rattle.std.specs.Char.{len_utf8, encode_utf8}
use Rattle.acl_binding.specs.declared.words.Kind.{Kind}
use Rattle.acl_binding.specs.declared.words.Pattern.TheVariants.{Prefixed}
use Rattle.acl_binding.specs.declared.words.Pattern.{Pattern}
use Rattle.acl_binding.specs.declared.binding.Numbered.{Numbered}
use Rattle.acl_binding.specs.declared.question.Question.{Question}
use Rattle.acl_binding.specs.Words.{kind_number, pattern_number}
use Rattle.authorizer.specs.Index.{bindings_under}
use Rattle.authorizer.specs.Looking.{finding_of, combined_finding, is_at, is_longer, bindings_about, IsNamed, IsTableOf}
use Rattle.authorizer.specs.declared.looking.Finding.{Finding}
use Rattle.authorizer.proofs.Findings.{joined_assoc, joined_nothing, joined_parts, same_filter, no_filter, each_of}
use Rattle.authorizer.proofs.Indexing.{unwrapped}
use Rattle.authorizer.proofs.Prefixes.{longer_step, not_longer}

pub held_about : (table : List (List ℕ × List Numbered)) (kind : Kind) (pattern : Pattern) (es : List Numbered) (name : List ℕ) → IsTableOf table kind pattern es → bindings_under table name ≡ bindings_about kind pattern name es
held_about table kind pattern es name is = ap (λ (o : Option (List Numbered)). unwrap_or o []) (is name) ∙ unwrapped (bindings_about kind pattern name es)

and_or : (a b x y : Bool) → ((a && (b && x)) || (a && (b && y))) ≡ (a && (b && (x || y)))
and_or true true x y = refl
and_or true false x y = refl
and_or false b x y = refl

and_same : (a b x y : Bool) → x ≡ y → (a && (b && x)) ≡ (a && (b && y))
and_same a b x y h = ap (λ (z : Bool). a && (b && z)) h

pub one_longer : (kind : Kind) (name rest : List ℕ) (k c : ℕ) (e : Numbered) → IsUtf8 e.binding.name → IsCharBoundary name k → drop k name ≡ encode_utf8 c ++ rest →
    (is_at kind Prefixed (take (k + len_utf8 c) name) e || is_longer kind name (k + len_utf8 c) e) ≡ is_longer kind name k e
one_longer kind name rest k c e text boundary next =
    and_or (kind_number e.binding.kind == kind_number kind) (pattern_number e.binding.pattern == 4) _ _
    ∙ and_same (kind_number e.binding.kind == kind_number kind) (pattern_number e.binding.pattern == 4) _ _ (longer_step name e.binding.name rest k c text boundary next)

pub look_step : (table : List (List ℕ × List Numbered)) (es : List Numbered) (q : Question) (f : Finding) (rest : List ℕ) (k c : ℕ) →
    AllByRecursion IsNamed es → IsTableOf table q.kind Prefixed es → IsCharBoundary q.name k → drop k q.name ≡ encode_utf8 c ++ rest →
    combined_finding (combined_finding f (finding_of (bindings_under table (take (k + len_utf8 c) q.name)) q)) (finding_of (filter (is_longer q.kind q.name (k + len_utf8 c)) es) q) ≡ combined_finding f (finding_of (filter (is_longer q.kind q.name k) es) q)
look_step table es q f rest k c named is boundary next =
    joined_assoc f _ _
    ∙ ap (combined_finding f) (
    ap (λ (h : List Numbered). combined_finding (finding_of h q) (finding_of (filter (is_longer q.kind q.name (k + len_utf8 c)) es) q)) (held_about table q.kind Prefixed es (take (k + len_utf8 c) q.name) is)
    ∙ joined_parts (is_at q.kind Prefixed (take (k + len_utf8 c) q.name)) (is_longer q.kind q.name (k + len_utf8 c)) es q
    ∙ ap (λ (l : List Numbered). finding_of l q) (same_filter _ (is_longer q.kind q.name k) es (each_of IsNamed _ es (λ e n. one_longer q.kind q.name rest k c e n.text boundary next) named)))

-- nothing is longer than the name
pub look_end : (es : List Numbered) (q : Question) (f : Finding) (k : ℕ) → length q.name ≤ k → combined_finding f (finding_of (filter (is_longer q.kind q.name k) es) q) ≡ f
look_end es q f k le = ap (λ (l : List Numbered). combined_finding f (finding_of l q)) (no_filter (is_longer q.kind q.name k) es (λ e. not_longer (kind_number e.binding.kind == kind_number q.kind) (pattern_number e.binding.pattern == 4) q.name e.binding.name k le)) ∙ joined_nothing f

pub look_begin : (es : List Numbered) (q : Question) (f : Finding) → f ≡ record { denied = None; allowed = false } → combined_finding f (finding_of (filter (is_longer q.kind q.name 0) es) q) ≡ finding_of (filter (is_longer q.kind q.name 0) es) q
look_begin es q f is = ap (λ (g : Finding). combined_finding g (finding_of (filter (is_longer q.kind q.name 0) es) q)) is

pub end_reached : (name : List ℕ) (k : ℕ) → length (drop k name) ≡ 0 → length name ≤ k
end_reached name k h = let size : length (drop k name) ≡ length name - k = length-drop k name in omega arith
