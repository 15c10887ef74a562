use Rattle.authorizer.specs.declared.index.KindIndex.{KindIndex}
use Rattle.std.proofs.Common.{◌≡◌, ℕ, List, ap, ◌∙◌, arith}
use Rattle.std.specs.Str.{chars}
use Rattle.std.specs.Map.{values_of}
use Rattle.acl_binding.specs.declared.words.Pattern.TheVariants.{Literal, Prefixed}
use Rattle.acl_binding.specs.Binding.{star}
use Rattle.authorizer.specs.Index.{bindings_under}
use Rattle.authorizer.specs.Longest.{longest_name}
use Rattle.authorizer.specs.LookUps.{beginnings_within, longest_prefix}
use Rattle.authorizer.specs.Looking.{finding_of, combined_finding, kind_index}
use Rattle.authorizer.proofs.LongestNames.{same_longest}
use Rattle.authorizer.proofs.Covering.{kind_indexed, held_rising, found_all}
use Rattle.authorizer.proofs.indexed.IndexedBook.found.Goals as goal

pub look_up_name-own-requires-clause-rising : goal.look_up_name-own-requires-clause-rising
look_up_name-own-requires-clause-rising c =
    let k = kind_indexed c.self.inside.index _ c.self.invariant.indexed c.args.question.now.kind in
    rw c.of-names.ensures (held_rising _ _ Literal _ k.literal c.self.invariant.book.rising _)

pub look_up_name-any-requires-clause-rising : goal.look_up_name-any-requires-clause-rising
look_up_name-any-requires-clause-rising c =
    let k = kind_indexed c.self.inside.index _ c.self.invariant.indexed c.args.question.now.kind in
    rw c.of-names.ensures (held_rising _ _ Literal _ k.literal c.self.invariant.book.rising star)

pub look_up_prefixes-prefixed-requires-clause-rising : goal.look_up_prefixes-prefixed-requires-clause-rising
look_up_prefixes-prefixed-requires-clause-rising c =
    let k = kind_indexed c.self.inside.index _ c.self.invariant.indexed c.args.question.now.kind in
    rw c.of-names.ensures (held_rising _ _ Prefixed _ k.prefixed c.self.invariant.book.rising)

pub returns-clause-finding : goal.returns-clause-finding
returns-clause-finding c =
    let index = kind_index c.self.inside.index c.args.question.now.kind in
    let k = kind_indexed c.self.inside.index _ c.self.invariant.indexed c.args.question.now.kind in
    let names : c.of-names.result.now ≡ index = c.of-names.ensures in
    let own : c.look_up_name-own.result ≡ finding_of (bindings_under index.literal c.args.question.now.name) c.args.question.now =
    c.look_up_name-own.ensures.finding ∙ ap (λ (n : List ℕ). finding_of (bindings_under c.of-names.result.now.literal n) c.args.question.now) c.as_str.ensures ∙ ap (λ (x : KindIndex). finding_of (bindings_under x.literal c.args.question.now.name) c.args.question.now) names in
    let every : c.look_up_name-any.result ≡ finding_of (bindings_under index.literal star) c.args.question.now = c.look_up_name-any.ensures.finding ∙ ap (λ (x : KindIndex). finding_of (bindings_under x.literal star) c.args.question.now) names in
    let longer = c.look_up_prefixes-prefixed.ensures.finding (values_of c.self.inside.entries.entries) c.self.invariant.named (rw names k.prefixed) in
    rw (← c.self.view_is) (
    c.joined-2.ensures ∙ ap (combined_finding c.look_up_name-own.result) c.joined.ensures
    ∙ (λ i. combined_finding (own i) (combined_finding (every i) (longer i)))
    ∙ found_all index (values_of c.self.inside.entries.entries) c.args.question.now k c.self.invariant.named)

pub returns-clause-looked : goal.returns-clause-looked
returns-clause-looked c =
    let kind = c.args.question.now.kind in
    let text = chars c.args.question.now.name in
    let es = values_of c.self.inside.entries.entries in
    let k = kind_indexed c.self.inside.index _ c.self.invariant.indexed kind in
    let names : c.of-names.result.now ≡ kind_index c.self.inside.index kind = c.of-names.ensures in
    let same : longest_name c.of-names.result.now.prefixed ≡ longest_prefix kind es =
    ap (λ (x : KindIndex). longest_name x.prefixed) names ∙ same_longest (kind_index c.self.inside.index kind).prefixed kind es k.prefixed in
    let within : beginnings_within (longest_name c.of-names.result.now.prefixed) text ≡ beginnings_within (longest_prefix kind es) text = ap (λ (n : ℕ). beginnings_within n text) same in
    rw (← c.self.view_is) (omega arith)
