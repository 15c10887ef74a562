use Rattle.std.proofs.Common.{List, filter, subst}
use Rattle.std.proofs.lemmas.List.{take_all}
use Rattle.authorizer.specs.Looking.{IsIndexed}
use Rattle.authorizer.specs.Picking.{is_left, stands_in}
use Rattle.authorizer.specs.declared.acl_key.AclKey.{AclKey}
use Rattle.authorizer.proofs.Leaving.{left_nowhere, left_key}
use Rattle.authorizer.proofs.index.Index.clean_keys.Goals as goal

pub loop-acl_key-init : goal.loop-acl_key-init
loop-acl_key-init c = λ es indexed. left_nowhere c.args.self.now c.args.filter.now es indexed

pub loop-acl_key-preserved : goal.loop-acl_key-preserved
loop-acl_key-preserved c = λ es indexed.
    left_key c.clean_at.new.self c.args.filter.now c.args.acl_keys.now c.loop-acl_key.acl_key-index _ es c.loop-acl_key-test.true (c.clean_at.ensures _ (c.loop-acl_key.invariant es indexed))

pub returns : goal.returns
returns c = λ es indexed.
    subst (λ (ps : List AclKey). IsIndexed c.loop-acl_key.self (filter (is_left c.args.filter.now (stands_in ps)) es)) (take_all c.loop-acl_key.acl_key-index c.args.acl_keys.now c.loop-acl_key-test.false) (c.loop-acl_key.invariant es indexed)
