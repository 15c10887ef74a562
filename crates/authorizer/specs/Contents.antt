-- A binding of the book as a key, told from others by what it says and not by its number.
use Rattle.std.specs.Prelude.{◌≡◌, ℕ, pos, Bool, List, ◌++◌, None, if◌then◌else◌}
use Rattle.std.specs.Cmp.{IsEquivalence, and_equiv, on_equiv, nat_eq_equiv, unsigned_Decides}
use Rattle.std.specs.Cmp.Lexicographic.{nat_list_eq_equiv, bytes_decides}
use Rattle.std.specs.Hash as fed
use Rattle.std.specs.Hash.{HashWrites, Alike, and-Alike, on_Alike, same_Alike}
use Rattle.std.specs.List.{list_any}
use Rattle.std.specs.Map.{lookup}
use Rattle.acl_binding.specs.declared.binding.Numbered.{Numbered}
use Rattle.acl_binding.specs.Words.{kind_number, pattern_number, operation_number, permission_number}
use Rattle.acl_binding.specs.WireNumbers.{kind_code, pattern_code, operation_code, permission_code}
use Rattle.acl_binding.specs.Binding.{same_binding}
use Rattle.acl_binding.specs.Book.{number_of}

-- both say the same
abbrev pub says_same : Numbered → Numbered → Bool
says_same a b = same_binding a.binding b.binding

-- for whatever a binding says, the table has the number of the one among these that says the same
abbrev pub IsContentsOf : List (Numbered × ℕ) → List Numbered → Type 0
IsContentsOf table es = (e : Numbered) → lookup (says_same e) table ≡ number_of es e.binding

-- the table no longer has what these say
abbrev pub HasForgotten : List (Numbered × ℕ) → List (Numbered × ℕ) → List Numbered → Type 0
HasForgotten old new these =
    (e : Numbered)
    → lookup (says_same e) new
    ≡ (if list_any (λ x. says_same x e) these then None else lookup (says_same e) old)

pub says_same_laws : IsEquivalence says_same
says_same_laws =
    and_equiv (on_equiv (λ (e : Numbered). kind_number e.binding.kind) nat_eq_equiv)
    (and_equiv (on_equiv (λ (e : Numbered). e.binding.name) nat_list_eq_equiv)
    (and_equiv (on_equiv (λ (e : Numbered). pattern_number e.binding.pattern) nat_eq_equiv)
    (and_equiv (on_equiv (λ (e : Numbered). e.binding.principal) nat_list_eq_equiv)
    (and_equiv (on_equiv (λ (e : Numbered). e.binding.host) nat_list_eq_equiv)
    (and_equiv (on_equiv (λ (e : Numbered). operation_number e.binding.operation) nat_eq_equiv)
    (on_equiv (λ (e : Numbered). permission_number e.binding.permission) nat_eq_equiv))))))

-- what is hashed of it: the words by their numbers, and the texts
abbrev pub hash_writes_of : Numbered → HashWrites
hash_writes_of e =
    fed.i8 (kind_code e.binding.kind)
    ++ (fed.str e.binding.name ++ (fed.i8 (pattern_code e.binding.pattern)
    ++ (fed.str e.binding.principal
    ++ (fed.str e.binding.host
    ++ (fed.i8 (operation_code e.binding.operation)
    ++ fed.i8 (permission_code e.binding.permission))))))

pub said_alike : Alike says_same hash_writes_of
unfolding kind_code pattern_code operation_code permission_code
said_alike =
    and-Alike
    (on_Alike (λ (e : Numbered). kind_number e.binding.kind)
    (same_Alike (λ (n : ℕ). fed.i8 (pos n)) unsigned_Decides))
    (and-Alike (on_Alike (λ (e : Numbered). e.binding.name) (same_Alike fed.str bytes_decides))
    (and-Alike
    (on_Alike (λ (e : Numbered). pattern_number e.binding.pattern)
    (same_Alike (λ (n : ℕ). fed.i8 (pos n)) unsigned_Decides))
    (and-Alike (on_Alike (λ (e : Numbered). e.binding.principal) (same_Alike fed.str bytes_decides))
    (and-Alike (on_Alike (λ (e : Numbered). e.binding.host) (same_Alike fed.str bytes_decides))
    (and-Alike
    (on_Alike (λ (e : Numbered). operation_number e.binding.operation)
    (same_Alike (λ (n : ℕ). fed.i8 (pos n)) unsigned_Decides))
    (on_Alike (λ (e : Numbered). permission_number e.binding.permission)
    (same_Alike (λ (n : ℕ). fed.i8 (pos n)) unsigned_Decides)))))))
