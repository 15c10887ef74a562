use Rattle.std.proofs.Common.{Bool, not, ◌&&◌, ◌||◌, sym, ap, ◌∙◌}
use Rattle.std.proofs.lemmas.Bool.{or_left}
use Rattle.acl_binding.specs.declared.words.Kind.TheVariants.{Topic}
use Rattle.authorizer.specs.AnyTopic.{is_star, is_overridden_by_name}
use Rattle.authorizer.specs.Looking.{IsKindIndexed}
use Rattle.authorizer.proofs.Unbarred.{barred_by}
use Rattle.authorizer.proofs.indexed.IndexedBook.is_overridden_by_deny.Goals as goal

pub returns-then-bar_write : goal.returns-then-bar_write
returns-then-bar_write c =
    let is : IsKindIndexed c.of-topics.result.now Topic c.args.self.now.entries = rw c.of-topics.ensures c.index.ensures.indexed.topics in
    c.if-bar_write.true
    ∙ sym (or_left _ (not (is_star c.args.binding.now) && is_overridden_by_name c.args.self.now.entries c.args.who.now c.args.host.now c.args.binding.now) (rw c.held.ensures at (sym c.bar_write.ensures ∙ c.if-bar_write.true)))
    ∙ barred_by c.of-topics.result.now c.args.self.now.entries c.args.who.now c.args.host.now c.args.binding.now is

pub returns-then-not-is_star : goal.returns-then-not-is_star
returns-then-not-is_star c =
    let is : IsKindIndexed c.of-topics.result.now Topic c.args.self.now.entries = rw c.of-topics.ensures c.index.ensures.indexed.topics in
    let named = is_overridden_by_name c.args.self.now.entries c.args.who.now c.args.host.now c.args.binding.now in
    c.is_overridden_by_name.ensures
    ∙ sym (ap (λ (x : Bool). x && named) (ap (λ (x : Bool). not x) (sym c.is_star.ensures ∙ c.if-not-is_star.true)))
    ∙ sym (ap (λ (x : Bool). x || (not (is_star c.args.binding.now) && named)) (rw c.held.ensures at (sym c.bar_write.ensures ∙ c.if-bar_write.false)))
    ∙ barred_by c.of-topics.result.now c.args.self.now.entries c.args.who.now c.args.host.now c.args.binding.now is

pub returns-else-not-is_star : goal.returns-else-not-is_star
returns-else-not-is_star c =
    let is : IsKindIndexed c.of-topics.result.now Topic c.args.self.now.entries = rw c.of-topics.ensures c.index.ensures.indexed.topics in
    let named = is_overridden_by_name c.args.self.now.entries c.args.who.now c.args.host.now c.args.binding.now in
    ap (λ (x : Bool). not x) c.if-not-is_star.false
    ∙ sym (ap (λ (x : Bool). x && named) (ap (λ (x : Bool). not x) (sym c.is_star.ensures ∙ c.if-not-is_star.false)))
    ∙ sym (ap (λ (x : Bool). x || (not (is_star c.args.binding.now) && named)) (rw c.held.ensures at (sym c.bar_write.ensures ∙ c.if-bar_write.false)))
    ∙ barred_by c.of-topics.result.now c.args.self.now.entries c.args.who.now c.args.host.now c.args.binding.now is
