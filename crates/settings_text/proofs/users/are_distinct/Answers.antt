use Rattle.std.proofs.Common.{rules, ◌≡◌, false, true, sym, get_or}
use Rattle.settings_text.proofs.UserNames.{new_name, known_name, names_more, has_name}
use Rattle.settings_text.proofs.users.are_distinct.Goals as goal

pub returns-then-not-branch : goal.returns-then-not-branch
returns-then-not-branch c =
    let has : has_name c.loop-user.names c.as_str.result ≡ true = search rules in
    sym (known_name c.args.users.now c.loop-user.user-index c.user-item.result c.loop-user-test.true c.loop-user.names c.as_str.result (search rules) c.loop-user.invariant.0 c.loop-user.invariant.1 has)

pub loop-user-preserved : goal.loop-user-preserved
loop-user-preserved c =
    let lacks : has_name c.loop-user.names c.as_str.result ≡ false = search rules in
    let is : c.as_str.result.now ≡ (get_or c.args.users.now c.loop-user.user-index c.user-item.result).name = search rules in (
      new_name c.args.users.now c.loop-user.user-index c.user-item.result c.loop-user-test.true c.loop-user.names c.as_str.result is c.loop-user.invariant.0 c.loop-user.invariant.1 lacks,
      names_more c.args.users.now c.loop-user.user-index c.user-item.result c.loop-user-test.true c.loop-user.names c.insert.new.self c.as_str.result is c.loop-user.invariant.1 c.in_ok-insert.ensures.updates,
    )
