-- The book of bindings: each once, under a creation number that is never used again.
use Rattle.std.specs.Prelude.{◌≡◌, ℕ, ◌+◌, ◌<◌, ◌≤◌, List, [], ◌∷◌, ◌++◌, is_some, if◌then◌else◌, Option, Some, None}
use Rattle.acl_binding.specs.declared.binding.Binding.{Binding}
use Rattle.acl_binding.specs.declared.binding.Numbered.{Numbered}
use Rattle.acl_binding.specs.Binding.{same_binding}

-- the bindings in creation order, and the number that the next new one gets
pub record BookValue : Type 0 where
  pub entries : List Numbered
  pub next : ℕ

-- a book without bindings
abbrev pub empty_book : BookValue
empty_book = record { entries = []; next = 1 }

-- the number under which the binding stands in the list
abbrev pub number_of : List Numbered → Binding → Option ℕ
number_of [] b = None
number_of (e ∷ es) b = if same_binding e.binding b then Some e.number else number_of es b

-- the book with the binding under its next number
abbrev pub with_new_binding : BookValue → Binding → BookValue
with_new_binding book b =
    record {
      entries = book.entries ++ record { number = book.next; binding = b } ∷ [];
      next = book.next + 1;
    }

-- the book with the binding: one that stands there already changes nothing
abbrev pub with_binding : BookValue → Binding → BookValue
with_binding book b = if is_some (number_of book.entries b) then book else with_new_binding book b

-- ---- what holds of every book

-- numbers rise, from low on
abbrev pub IsRising : ℕ → List Numbered → Type 0
IsRising low [] = Unit {0}
IsRising low (e ∷ es) = (low ≤ e.number) × IsRising (e.number + 1) es

-- each number is below high
abbrev pub AreBelow : ℕ → List Numbered → Type 0
AreBelow high [] = Unit {0}
AreBelow high (e ∷ es) = (e.number < high) × AreBelow high es

-- no binding stands in the list twice
abbrev pub AreDistinct : List Numbered → Type 0
AreDistinct [] = Unit {0}
AreDistinct (e ∷ es) = (number_of es e.binding ≡ None) × AreDistinct es

-- numbers begin at 1, rise and are below the next; the bindings are distinct
pub record IsBook (book : BookValue) : Type 0 where
  pub rising : IsRising 1 book.entries
  pub below : AreBelow book.next book.entries
  pub first : 1 ≤ book.next
  pub distinct : AreDistinct book.entries
