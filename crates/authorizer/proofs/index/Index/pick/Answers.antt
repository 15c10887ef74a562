use Rattle.std.proofs.lemmas.List.{drop_all}
use Rattle.authorizer.proofs.Picks.{picked_key, picked_nowhere}
use Rattle.authorizer.proofs.index.Index.pick.Goals as goal

pub loop-acl_key-init : goal.loop-acl_key-init
loop-acl_key-init c = λ es all rising indexed rest. rest

pub loop-acl_key-preserved : goal.loop-acl_key-preserved
loop-acl_key-preserved c = λ es all rising indexed rest.
    c.loop-acl_key.invariant es all rising indexed
    (picked_key c.args.acl_keys.now c.loop-acl_key.acl_key-index _ c.args.filter.now es c.loop-acl_key.picked.entries c.pick_from.new.picked.entries all c.held.result.now c.loop-acl_key-test.true rising (c.held.ensures es indexed) c.in_ok-pick_from.ensures rest)

pub returns : goal.returns
returns c = λ es rising indexed. c.loop-acl_key.invariant es _ rising indexed (picked_nowhere _ c.args.filter.now es _ (drop_all c.loop-acl_key.acl_key-index c.args.acl_keys.now c.loop-acl_key-test.false))
