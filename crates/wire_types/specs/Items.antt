-- The values of a list.
use Rattle.std.specs.Prelude.{List}
use Rattle.wire_types.specs.declared.items.Held.{Held}
use Rattle.wire_types.specs.declared.items.Held.TheVariants.{One, Many}

module _ {T : Type 0} where
  -- one that stands by itself, or those of a vector
  abbrev pub items_held : Held T → List T
  items_held (One one) = one
  items_held (Many items) = items.items
