-- What the edits of the book come to, in the subject's words, and what the three answers depend on.
use Rattle.std.specs.Prelude.{◌≡◌, ◌⊎◌, true, false, is_some, List, [], ◌∷◌, ◌++◌, Some, None, IfSome}
use Rattle.std.specs.List.{AllByRecursion}
use Rattle.msg_acl.specs.declared.entries.BindingEntry.{BindingEntry}
use Rattle.msg_acl.specs.declared.entries.FilterEntry.{FilterEntry}
use Rattle.msg_acl.specs.declared.create_acls.CreateAclsRequest.{CreateAclsRequest}
use Rattle.msg_acl.specs.declared.delete_acls.DeleteAclsRequest.{DeleteAclsRequest}
use Rattle.msg_acl.specs.declared.describe_acls.DescribeAclsRequest.{DescribeAclsRequest}
use Rattle.acl_binding.specs.declared.binding.Binding.{Binding}
use Rattle.acl_binding.specs.declared.binding.Numbered.{Numbered}
use Rattle.acl_binding.specs.declared.question.Caller.{Caller}
use Rattle.acl_binding.specs.Entries.{binding_of, filter_of}
use Rattle.acl_binding.specs.Book.{number_of}
use Rattle.acl_binding.specs.Filter.{matches, matching_bindings}
use Rattle.authorizer.specs.declared.answer.Refusal.{Refusal}
use Rattle.authorizer.specs.Asking.{part_refusal}
use Rattle.broker_world.specs.World.{World, rules_of}
use Rattle.broker_world.specs.HandlerResult.{HandlerResult}
use Rattle.acl_handlers.specs.CreateAcls.{alter_questions}
use Rattle.acl_handlers.specs.DeleteAcls.{delete_acls_outcome}
use Rattle.api_laws.specs.Tenants.{SameBase}
use Rattle.api_laws.specs.DataTenants.{SameAnswer}

-- an entry is this binding
abbrev pub IsOfEntry : List BindingEntry → Binding → Type 0
IsOfEntry [] b = ⊥
IsOfEntry (e ∷ es) b = (binding_of e ≡ Some b) ⊎ IsOfEntry es b

-- each entry that is a binding stands in the book, whatever the other entries are; all that stood
-- there stands before what is new, and each that is new is an entry
pub record AreCreated (entries : List BindingEntry) (old new : List Numbered) : Type 0 where
  pub each : AllByRecursion (λ e. IfSome (binding_of e) (λ b. is_some (number_of new b) ≡ true))
      entries
  pub more : List Numbered
  pub kept : new ≡ old ++ more
  pub sent : AllByRecursion (λ (n : Numbered). IsOfEntry entries n.binding) more

-- what CreateAcls and DeleteAcls come to
abbrev pub CreateRule : Type 0
CreateRule = World → Caller → CreateAclsRequest → HandlerResult

abbrev pub DeleteRule : Type 0
DeleteRule = World → Caller → DeleteAclsRequest → HandlerResult

-- after a CreateAcls that is granted each of its bindings stands in the book
abbrev pub CreatesEach : CreateRule → Type 0
CreatesEach create_acls_outcome =
    (w : World) (caller : Caller) (r : CreateAclsRequest)
    → part_refusal (rules_of w) (alter_questions caller) ≡ None
    → AreCreated r.creations w.book.entries (create_acls_outcome w caller r).world.book.entries

-- a binding stands in the book with its number
abbrev pub StandsIn : List Numbered → Numbered → Type 0
StandsIn [] n = ⊥
StandsIn (x ∷ xs) n = (x ≡ n) ⊎ StandsIn xs n

-- no filter picks anything any more; a binding that none picks stands there as before, and nothing
-- else does
pub record AreDeleted (filters : List FilterEntry) (old new : List Numbered) : Type 0 where
  pub each : AllByRecursion (λ e. IfSome (filter_of e) (λ f. matching_bindings new f ≡ [])) filters
  pub kept : (n : Numbered) → StandsIn old n
      → AllByRecursion (λ e. IfSome (filter_of e) (λ f. matches f n.binding ≡ false)) filters
      → StandsIn new n
  pub alone : (n : Numbered) → StandsIn new n → StandsIn old n

-- after a DeleteAcls that is granted no filter takes anything, and all others stand as before
abbrev pub DeletesEach : DeleteRule → Type 0
DeletesEach delete_acls_outcome =
    (w : World) (caller : Caller) (r : DeleteAclsRequest)
    → part_refusal (rules_of w) (alter_questions caller) ≡ None
    → AreDeleted r.filters w.book.entries (delete_acls_outcome w caller r).world.book.entries

-- a request that is refused by the book of before changes nothing, and its refusal is the only one
pub record IsRefusedWhole (w : World) (r : Refusal) (outcome : HandlerResult) : Type 0 where
  pub world : outcome.world ≡ w
  pub refusals : outcome.refusals ≡ r ∷ []

-- a CreateAcls and a DeleteAcls that the book of before doesn't allow change nothing
pub record RefusedEditNothing (create_acls_outcome : CreateRule) (delete_acls_outcome : DeleteRule)
    : Type 0 where
  pub create : (w : World) (caller : Caller) (q : CreateAclsRequest) (r : Refusal)
      → part_refusal (rules_of w) (alter_questions caller) ≡ Some r
      → IsRefusedWhole w r (create_acls_outcome w caller q)
  pub delete : (w : World) (caller : Caller) (q : DeleteAclsRequest) (r : Refusal)
      → part_refusal (rules_of w) (alter_questions caller) ≡ Some r
      → IsRefusedWhole w r (delete_acls_outcome w caller q)

-- worlds of one book give the same answer, and leave one book
pub record SameEdit (a b : HandlerResult) : Type 0 where
  pub answer : SameAnswer a b
  pub book : a.world.book ≡ b.world.book

-- what a DescribeAcls comes to
abbrev pub DescribeAclsRule : Type 0
DescribeAclsRule = World → Caller → DescribeAclsRequest → HandlerResult

-- what is answered about ACLs, and which there are, depends on the book alone
pub record AclsDependOnTheBook (describe_acls_outcome : DescribeAclsRule)
    (create_acls_outcome : CreateRule) : Type 0 where
  pub describe : (v w : World) (caller : Caller) (r : DescribeAclsRequest) → SameBase v w
      → SameEdit (describe_acls_outcome v caller r) (describe_acls_outcome w caller r)
  pub create : (v w : World) (caller : Caller) (r : CreateAclsRequest) → SameBase v w
      → SameEdit (create_acls_outcome v caller r) (create_acls_outcome w caller r)
  pub delete : (v w : World) (caller : Caller) (r : DeleteAclsRequest) → SameBase v w
      → SameEdit (delete_acls_outcome v caller r) (delete_acls_outcome w caller r)

-- an edit of ACLs touches no log
pub record AclsKeepTopics (create_acls_outcome : CreateRule) : Type 0 where
  pub create : (w : World) (caller : Caller) (r : CreateAclsRequest)
      → (create_acls_outcome w caller r).world.topics ≡ w.topics
  pub delete : (w : World) (caller : Caller) (r : DeleteAclsRequest)
      → (delete_acls_outcome w caller r).world.topics ≡ w.topics
