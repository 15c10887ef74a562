use Rattle.std.proofs.Common.{Bool, ◌&&◌, ◌||◌, sym, ap, ◌∙◌}
use Rattle.std.specs.List.{list_any}
use Rattle.std.proofs.lemmas.Bool.{or_left}
use Rattle.acl_binding.specs.declared.words.Kind.TheVariants.{Topic}
use Rattle.acl_binding.specs.declared.words.Pattern.TheVariants.{Literal, Prefixed}
use Rattle.acl_binding.specs.declared.binding.Numbered.{Numbered}
use Rattle.authorizer.specs.AnyTopic.{is_of, is_unbarred}
use Rattle.authorizer.specs.Looking.{IsKindIndexed}
use Rattle.authorizer.proofs.Unbarred.{any_of_both}
use Rattle.authorizer.proofs.indexed.IndexedBook.any_topic.Goals as goal

pub returns-then-any_not_overridden : goal.returns-then-any_not_overridden
returns-then-any_not_overridden c =
    let es = c.args.self.now.entries in
    let is : IsKindIndexed c.of-topics.result.now Topic es = rw c.of-topics.ensures c.index.ensures.indexed.topics in
    c.if-any_not_overridden.true
    ∙ sym (or_left _ (list_any (λ (e : Numbered). is_of Topic Prefixed e && is_unbarred es c.args.who.now c.args.host.now e) es) (sym (c.any_not_overridden.ensures Topic Literal es is.literal) ∙ c.if-any_not_overridden.true))
    ∙ any_of_both (is_unbarred es c.args.who.now c.args.host.now) es

pub returns-else-any_not_overridden : goal.returns-else-any_not_overridden
returns-else-any_not_overridden c =
    let es = c.args.self.now.entries in
    let is : IsKindIndexed c.of-topics.result.now Topic es = rw c.of-topics.ensures c.index.ensures.indexed.topics in
    c.any_not_overridden-else-any_not_overridden.ensures Topic Prefixed es is.prefixed
    ∙ sym (ap (λ (x : Bool). x || list_any (λ (e : Numbered). is_of Topic Prefixed e && is_unbarred es c.args.who.now c.args.host.now e) es) (sym (c.any_not_overridden.ensures Topic Literal es is.literal) ∙ c.if-any_not_overridden.false))
    ∙ any_of_both (is_unbarred es c.args.who.now c.args.host.now) es
