-- What adding a binding answers.
use Rattle.std.specs.Prelude.{ℕ, Option, Some, None}
use Rattle.acl_binding.specs.declared.binding.Binding.{Binding}
use Rattle.acl_binding.specs.declared.book.Added.{Added}
use Rattle.acl_binding.specs.declared.book.Added.TheVariants as answers
use Rattle.acl_binding.specs.Book.{BookValue, number_of}

abbrev pub answer_by : BookValue → Option ℕ → Added
answer_by book (Some n) = answers.There n
answer_by book None = answers.Added book.next

-- the number that the binding has, or gets
abbrev pub adding_answer : BookValue → Binding → Added
adding_answer book b = answer_by book (number_of book.entries b)
