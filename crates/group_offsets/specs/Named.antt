-- What is kept of the groups: each stands under its name.
use Rattle.std.specs.Prelude.{◌≡◌, ℕ, List, []}
use Rattle.std.specs.declared.string.String.{String}
use Rattle.std.specs.declared.alloc.Global.{Global}
use Rattle.keyed_tables.specs.Keyed.{AreKeyed, each_changed}
use Rattle.group_offsets.specs.declared.event.OffsetEvent.{OffsetEvent}
use Rattle.group_offsets.specs.declared.group.Group.{Group}
use Rattle.group_offsets.specs.Group.{without_lapsed}

abbrev pub name_of : Group → List ℕ
name_of g = g.name

-- each group stands under its name
abbrev pub AreNamed : List (String Global × Group) → Type 0
AreNamed es = AreKeyed name_of es

-- and what a group holds that didn't begin is nothing
pub record IsKept (table : List (String Global × Group)) (nothing : List OffsetEvent) : Type 0 where
  pub named : AreNamed table
  pub empty : nothing ≡ []

-- the groups, each under its name, once the members are let go that were not heard of in time
abbrev pub all_expired : ℕ → List (String Global × Group) → List (String Global × Group)
all_expired moment es = each_changed (without_lapsed moment) es
