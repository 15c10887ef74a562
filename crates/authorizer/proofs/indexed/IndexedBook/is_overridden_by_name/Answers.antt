use Rattle.std.proofs.Common.{filter, Bool, ◌||◌, sym, ap, ◌∙◌}
use Rattle.std.specs.List.{list_any}
use Rattle.std.proofs.lemmas.Bool.{or_left}
use Rattle.acl_binding.specs.declared.words.Kind.TheVariants.{Topic}
use Rattle.acl_binding.specs.declared.binding.Numbered.{Numbered}
use Rattle.authorizer.specs.AnyTopic.{bars_write}
use Rattle.authorizer.specs.Looking.{is_longer, IsKindIndexed}
use Rattle.authorizer.proofs.Unbarred.{barred_by_name}
use Rattle.authorizer.proofs.indexed.IndexedBook.is_overridden_by_name.Goals as goal

pub returns-then-own_name_bars : goal.returns-then-own_name_bars
returns-then-own_name_bars c =
    let is : IsKindIndexed c.of-topics.result.now Topic c.args.self.now.entries = rw c.of-topics.ensures c.index.ensures.indexed.topics in
    c.if-own_name_bars.true
    ∙ sym (or_left _ (list_any (λ (e : Numbered). bars_write c.args.who.now c.args.host.now e.binding) (filter (is_longer Topic c.args.binding.now.name 0) c.args.self.now.entries)) (sym c.own_name_bars.ensures ∙ c.if-own_name_bars.true))
    ∙ barred_by_name c.of-topics.result.now c.args.self.now.entries c.args.who.now c.args.host.now c.args.binding.now is c.index.ensures.named

pub returns-else-own_name_bars : goal.returns-else-own_name_bars
returns-else-own_name_bars c =
    let is : IsKindIndexed c.of-topics.result.now Topic c.args.self.now.entries = rw c.of-topics.ensures c.index.ensures.indexed.topics in
    c.prefixes_deny_write.ensures c.args.self.now.entries c.index.ensures.named is.prefixed
    ∙ sym (ap (λ (x : Bool). x || list_any (λ (e : Numbered). bars_write c.args.who.now c.args.host.now e.binding) (filter (is_longer Topic c.args.binding.now.name 0) c.args.self.now.entries)) (sym c.own_name_bars.ensures ∙ c.if-own_name_bars.false))
    ∙ barred_by_name c.of-topics.result.now c.args.self.now.entries c.args.who.now c.args.host.now c.args.binding.now is c.index.ensures.named
