-- The names that are looked up are all that can cover.
use Rattle.std.proofs.Common.{◌≡◌, ℕ, ◌<◌, List, [], ◌∷◌, ◌++◌, length, filter, Bool, true, false, cond, ◌&&◌, ◌||◌, refl, sym, ap, subst, ◌∙◌}
use Rattle.std.specs.Prelude.{nat_eq, nat_lt, ◌==◌}
use Rattle.std.specs.List.{AllByRecursion, starts_with}
use Rattle.std.proofs.lemmas.Bool.Decides.{Decides-ltb}
use Rattle.acl_binding.specs.declared.words.Kind.{Kind}
use Rattle.acl_binding.specs.declared.words.Kind.TheVariants.{Topic, Group, Cluster, TransactionalId}
use Rattle.acl_binding.specs.declared.words.Pattern.{Pattern}
use Rattle.acl_binding.specs.declared.words.Pattern.TheVariants.{Literal, Prefixed}
use Rattle.acl_binding.specs.declared.binding.Numbered.{Numbered}
use Rattle.acl_binding.specs.declared.question.Question.{Question}
use Rattle.acl_binding.specs.Words.{kind_number, pattern_number}
use Rattle.acl_binding.specs.Binding.{name_covers, star}
use Rattle.acl_binding.specs.Book.{IsRising}
use Rattle.acl_binding.proofs.Kept.{rising_filter}
use Rattle.std.specs.Str.{bytes_eq}
use Rattle.authorizer.specs.Index.{bindings_under}
use Rattle.authorizer.specs.Looking.{finding_of, combined_finding, is_at, is_longer, bindings_about, kind_index, IsNamed, IsTableOf, IsKindIndexed, IsIndexed}
use Rattle.authorizer.specs.declared.index.KindIndex.{KindIndex}
use Rattle.authorizer.specs.declared.index.Index.{Index}
use Rattle.authorizer.proofs.Findings.{joined_parts, covering, each_of}
use Rattle.authorizer.proofs.Looked.{held_about}

pub kind_indexed : (index : Index) (es : List Numbered) → IsIndexed index es → (kind : Kind) → IsKindIndexed (kind_index index kind) kind es
kind_indexed index es is Topic = is.topics
kind_indexed index es is Group = is.groups
kind_indexed index es is Cluster = is.cluster
kind_indexed index es is TransactionalId = is.ids

-- what a table holds of a name rises as the book does
pub held_rising : (table : List (List ℕ × List Numbered)) (kind : Kind) (pattern : Pattern) (es : List Numbered) → IsTableOf table kind pattern es → IsRising 1 es → (name : List ℕ) → IsRising 1 (bindings_under table name)
held_rising table kind pattern es is rising name = subst (IsRising 1) (sym (held_about table kind pattern es name is)) (rising_filter (is_at kind pattern name) es 1 rising)

with_false : (a b : Bool) → (a || b) ≡ true → (a || (b || false)) ≡ true
with_false true b h = refl
with_false false true h = refl
with_false false false h = h

and_true : (a b : Bool) → a ≡ true → b ≡ true → (a && b) ≡ true
and_true true b h k = k
and_true false b h k = h

covered : (k : Bool) (pattern : Pattern) (own name : List ℕ) → (pattern ≡ Prefixed → 0 < length own) → (k && name_covers pattern own name) ≡ true →
    ((k && ((pattern_number pattern == 3) && bytes_eq own name)) || ((k && ((pattern_number pattern == 3) && bytes_eq own star)) || (k && ((pattern_number pattern == 4) && (starts_with nat_eq name own && nat_lt 0 (length own)))))) ≡ true
covered true Literal own name some h = with_false (bytes_eq own name) (bytes_eq own star) h
covered true Prefixed own name some h = and_true (starts_with nat_eq name own) (nat_lt 0 (length own)) h ((Decides-ltb 0 (length own)).1 (some refl))
covered false pattern own name some h = h

pub found_all : (k : KindIndex) (es : List Numbered) (q : Question) → IsKindIndexed k q.kind es → AllByRecursion IsNamed es →
    combined_finding (finding_of (bindings_under k.literal q.name) q) (combined_finding (finding_of (bindings_under k.literal star) q) (finding_of (filter (is_longer q.kind q.name 0) es) q)) ≡ finding_of es q
found_all k es q is named =
    ap (λ (h : List Numbered). combined_finding (finding_of h q) (combined_finding (finding_of (bindings_under k.literal star) q) (finding_of (filter (is_longer q.kind q.name 0) es) q))) (held_about k.literal q.kind Literal es q.name is.literal)
    ∙ ap (λ (h : List Numbered). combined_finding (finding_of (bindings_about q.kind Literal q.name es) q) (combined_finding (finding_of h q) (finding_of (filter (is_longer q.kind q.name 0) es) q))) (held_about k.literal q.kind Literal es star is.literal)
    ∙ ap (combined_finding (finding_of (bindings_about q.kind Literal q.name es) q)) (joined_parts (is_at q.kind Literal star) (is_longer q.kind q.name 0) es q)
    ∙ joined_parts (is_at q.kind Literal q.name) (λ e. is_at q.kind Literal star e || is_longer q.kind q.name 0 e) es q
    ∙ covering _ es q (each_of IsNamed _ es (λ e n cover. covered (kind_number e.binding.kind == kind_number q.kind) e.binding.pattern e.binding.name q.name n.some cover) named)

-- ---- what a policy keeps

pub named_push : (es : List Numbered) (e : Numbered) → AllByRecursion IsNamed es → IsNamed e → AllByRecursion IsNamed (es ++ e ∷ [])
named_push [] e all n = (n, tt)
named_push (x ∷ es) e all n = (all.0, named_push es e all.1 n)

pub named_filter : (p : Numbered → Bool) (es : List Numbered) → AllByRecursion IsNamed es → AllByRecursion IsNamed (filter p es)
named_filter p [] all = tt
named_filter p (e ∷ es) all = by (p e) (named_filter p es all.1) where
  by : (b : Bool) → AllByRecursion IsNamed (filter p es) → AllByRecursion IsNamed (cond b (e ∷ filter p es) (filter p es))
  by true rest = (all.0, rest)
  by false rest = rest
