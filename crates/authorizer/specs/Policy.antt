-- A policy: the book of bindings, the super users, and how often the book was changed. A permit: a
-- question that it granted, with the number of changes at that moment. (Kafka documentation,
-- 'Authorization and ACLs': super.users.)
use Rattle.std.specs.Prelude.{◌≡◌, ℕ, ◌+◌, ◌*◌, ◌<◌, ◌≤◌, Bool, List, length, nat_eq, is_some, None, if◌then◌else◌}
use Rattle.std.specs.List.{list_any}
use Rattle.std.specs.Str.{bytes_eq}
use Rattle.acl_binding.specs.declared.binding.Binding.{Binding}
use Rattle.acl_binding.specs.declared.question.Question.{Question}
use Rattle.acl_binding.specs.declared.question.Verdict.{Verdict}
use Rattle.acl_binding.specs.declared.question.Verdict.TheVariants.{Yes}
use Rattle.acl_binding.specs.Book.{BookValue, empty_book, with_binding, number_of}
use Rattle.acl_binding.specs.declared.filter.Filter.{Filter}
use Rattle.acl_binding.specs.Filter.{matching_bindings, without_matching}
use Rattle.acl_binding.specs.Verdict.{verdict_of}

pub record PolicyValue : Type 0 where
  pub book : BookValue
  pub supers : List (List ℕ)
  pub edit : ℕ

-- Each change adds a binding that was not there, or takes out at least one that was added before.
-- So there are fewer changes than creation numbers, counted twice.
abbrev pub IsCounted : ℕ → BookValue → Type 0
IsCounted edit book = edit + length book.entries + 2 ≤ 2 * book.next

-- before the first binding
abbrev pub first_policy : List (List ℕ) → PolicyValue
first_policy supers = record { book = empty_book; supers = supers; edit = 0 }

-- the principal is among the super users; none of them stands for all
abbrev pub is_super : List (List ℕ) → List ℕ → Bool
is_super supers who = list_any (λ name. bytes_eq name who) supers

-- a super user may do everything; for all others the bindings answer, deny before allow
abbrev pub verdict : BookValue → List (List ℕ) → Question → Verdict
verdict book supers q = if is_super supers q.who then Yes else verdict_of book.entries q

-- what the policy answers to the question
abbrev pub policy_verdict : PolicyValue → Question → Verdict
policy_verdict policy q = verdict policy.book policy.supers q

-- the edit number after adding the binding: it rises exactly where the book changes
abbrev pub edit_after_adding : PolicyValue → Binding → ℕ
edit_after_adding policy b =
    if is_some (number_of policy.book.entries b) then policy.edit else policy.edit + 1

-- the policy with the binding added
abbrev pub policy_added : PolicyValue → Binding → PolicyValue
policy_added policy b =
    record policy { book = with_binding policy.book b; edit = edit_after_adding policy b }

-- the edit number after taking out what the filter picks: it rises exactly where that is anything
abbrev pub edit_after_removing : PolicyValue → Filter → ℕ
edit_after_removing policy f =
    if nat_eq (length (matching_bindings policy.book.entries f)) 0 then policy.edit
    else policy.edit + 1

-- the policy without the bindings that the filter picks
abbrev pub policy_removed : PolicyValue → Filter → PolicyValue
policy_removed policy f =
    record policy { book = without_matching policy.book f; edit = edit_after_removing policy f }

-- ---- permits

-- the edit number at which it was given, and the question
pub record PermitValue : Type 0 where
  pub edit : ℕ
  pub question : Question

-- the permit may be spent under this policy: the book wasn't changed since, and the verdict is Yes
pub record IsGood (policy : PolicyValue) (permit : PermitValue) : Type 0 where
  pub current : permit.edit ≡ policy.edit
  pub granted : policy_verdict policy permit.question ≡ Yes

-- the permit is good under this policy, and for this question
pub record IsGranted (policy : PolicyValue) (question : Question) (permit : PermitValue)
    : Type 0 where
  pub good : IsGood policy permit
  pub asked : permit.question ≡ question

-- no permit of before a change of the book is good after it
pub record PermitEndsWithEdit : Type 0 where
  pub added : (policy : PolicyValue) (b : Binding) (permit : PermitValue) → IsGood policy permit
      → number_of policy.book.entries b ≡ None → ¬ IsGood (policy_added policy b) permit
  pub taken_out : (policy : PolicyValue) (f : Filter) (permit : PermitValue) → IsGood policy permit
      → 0 < length (matching_bindings policy.book.entries f)
      → ¬ IsGood (policy_removed policy f) permit
