-- What a policy keeps true of its tables.
use Rattle.std.specs.Prelude.{◌≡◌, ℕ, List}
use Rattle.std.specs.List.{AllByRecursion}
use Rattle.std.specs.Map.{values_of}
use Rattle.acl_binding.specs.declared.binding.Numbered.{Numbered}
use Rattle.acl_binding.specs.Book.{BookValue, IsBook}
use Rattle.authorizer.specs.Contents.{IsContentsOf}
use Rattle.authorizer.specs.Looking.{IsIndexed, IsNamed}
use Rattle.authorizer.specs.Picking.{under_numbers}
use Rattle.authorizer.specs.declared.index.Index.{Index}

-- the book of the bindings that stand under their numbers
abbrev pub book_of : List (ℕ × Numbered) → ℕ → BookValue
book_of table next = record { entries = values_of table; next = next }

-- The table is that of a book's bindings under their numbers, the contents tell the number of each,
-- and the index is that of them; each has a name.
pub record IsKept (index : Index) (told : List (Numbered × ℕ)) (table : List (ℕ × Numbered))
    (next : ℕ) : Type 0 where
  pub book : IsBook (book_of table next)
  pub numbers : table ≡ under_numbers (values_of table)
  pub contents : IsContentsOf told (values_of table)
  pub indexed : IsIndexed index (values_of table)
  pub named : AllByRecursion IsNamed (values_of table)
