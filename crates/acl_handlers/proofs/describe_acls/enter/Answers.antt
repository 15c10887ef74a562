use Rattle.std.proofs.Common.{sym, ◌∙◌}
use Rattle.acl_handlers.proofs.Groups.{groups_joined, groups_begun, same_key}
use Rattle.indexmap.proofs.CallerLemmas.{insert_entry-new}
use Rattle.acl_handlers.proofs.describe_acls.enter.Goals as goal

pub returns-in_ok-push-in-Some : goal.returns-in_ok-push-in-Some
returns-in_ok-push-in-Some c = λ seen is.
    let writes = (c.get_mut.follows.holds (record c.in-Some.group.now { acls = c.push.new.self })).0 in
    groups_joined c.args.binding.now c.in_ok-resource.resource seen c.args.groups.now.entries _ c.in-Some.group.now c.in_ok-described_acl-in-Some.field-0 c.push.new.self
    c.in_ok-resource.ensures c.get_mut.ensures.unique c.in-Some.ensures.value c.in_ok-described_acl-in-Some.ensures c.in_ok-push-in-Some.ensures.ok writes is

pub returns-in_ok-insert-in-None : goal.returns-in_ok-insert-in-None
returns-in_ok-insert-in-None c = λ seen is.
    let entries = rw c.get_mut.follows.holds-at-none at c.in_ok-insert-in-None.ensures.entries in
    groups_begun c.args.binding.now c.in_ok-resource.resource seen c.args.groups.now.entries _ c.in_ok-begun-in-None.field-0
    c.in_ok-resource.ensures c.in-None.ensures.value c.in_ok-begun-in-None.ensures
    (entries ∙ insert_entry-new same_key c.args.groups.now c.in_ok-resource.resource c.in_ok-begun-in-None.field-0 (sym c.in-None.ensures.value)) is
