use Rattle.authorizer.proofs.AclKeys.{stands_of_kind, stands_of_kinds}
use Rattle.authorizer.proofs.acl_key.keys_under.Goals as goal

pub returns-in-Some : goal.returns-in-Some
returns-in-Some c = stands_of_kind c.args.filter.now c.in-Some.kind c.args.name.now _ c.add_keys.new.acl_keys c.requires c.in-Some.is c.in_ok-add_keys.ensures

pub returns : goal.returns
returns c =
    stands_of_kinds c.args.filter.now c.args.name.now _ c.add_keys-2.new.acl_keys c.add_keys-3.new.acl_keys c.add_keys-4.new.acl_keys c.add_keys-5.new.acl_keys c.requires
    c.in_ok-add_keys-2.ensures c.in_ok-add_keys-3.ensures c.in_ok-add_keys-4.ensures c.in_ok-add_keys-5.ensures
