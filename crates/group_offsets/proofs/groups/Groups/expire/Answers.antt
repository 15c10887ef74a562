use Rattle.std.proofs.Common.{List, map, sym, subst, ap, ◌∙◌}
use Rattle.std.specs.Map.{values_of}
use Rattle.group_offsets.specs.declared.group.Group.{Group}
use Rattle.group_offsets.specs.Group.{without_lapsed}
use Rattle.group_offsets.specs.Named.{AreNamed}
use Rattle.keyed_tables.proofs.Tables.{changed_in}
use Rattle.group_offsets.proofs.Named.{named_expired}
use Rattle.group_offsets.proofs.groups.Groups.expire.Goals as goal

pub invariant_of-self : goal.invariant_of-self
invariant_of-self c = record {
  named = subst AreNamed (sym c.expire_all.ensures) (named_expired c.args.moment c.self.inside.table.entries c.self.invariant.named);
  empty = c.self.invariant.empty;
}

pub returns : goal.returns
returns c =
    ap values_of c.expire_all.ensures
    ∙ changed_in (without_lapsed c.args.moment) c.self.inside.table.entries
    ∙ ap (λ (gs : List Group). map (without_lapsed c.args.moment) gs) c.self.view_is
