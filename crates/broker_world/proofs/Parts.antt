-- One part more: what is answered for it comes first, and then what the rest gives.
use Rattle.std.proofs.Common.{◌≡◌, ℕ, suc, ◌+◌, ◌-◌, ◌<◌, ℤ, List, [], ◌∷◌, ◌++◌, length, get_or, drop, drop-cons, add-one, Bool, true, false, ◌&&◌, Some, refl, sym, ap, ◌∙◌, append_assoc, arith}
use Rattle.std.specs.Prelude.{slice_get}
use Rattle.std.specs.List.{list_all}
use Rattle.std.proofs.lemmas.Option.{slice_get_within, get_or_from_slice_get}
use Rattle.acl_binding.specs.declared.binding.Binding.{Binding}
use Rattle.acl_binding.specs.declared.words.Kind.{Kind}
use Rattle.acl_binding.specs.declared.words.Kind.TheVariants.{Topic, Group, Cluster, TransactionalId}
use Rattle.acl_binding.specs.Book.{BookValue, with_binding}
use Rattle.acl_binding.specs.Creatable.{is_creatable, is_resource_name}
use Rattle.authorizer.specs.Policy.{PolicyValue, policy_added}
use Rattle.broker_world.specs.First.{with_bindings}
use Rattle.broker_world.specs.Partitions.{partition_info, partitions_from}

-- one more at the end of what is done, one less at the front of what is left
pub one_more : {A : Type 0} (done : List A) (a : A) (left rest whole : List A) → left ≡ a ∷ rest → done ++ left ≡ whole → (done ++ a ∷ []) ++ rest ≡ whole
one_more done a left rest whole split all = append_assoc done (a ∷ []) rest ∙ ap (λ l. done ++ l) (sym split) ∙ all

-- some more at the end of what is done
pub some_more : {A : Type 0} (done more left rest whole : List A) → left ≡ more ++ rest → done ++ left ≡ whole → (done ++ more) ++ rest ≡ whole
some_more done more left rest whole split all = append_assoc done more rest ∙ ap (λ l. done ++ l) (sym split) ∙ all

-- a read at i splits what is left
pub drop_at : {A : Type 0} (xs : List A) (i : ℕ) (x : A) → i < length xs → x ≡ get_or xs i x → drop i xs ≡ x ∷ drop (i + 1) xs
drop_at xs i x lt is = drop-cons xs i x lt ∙ ap (λ y. y ∷ drop (suc i) xs) (sym is) ∙ ap (λ n. x ∷ drop n xs) (sym (add-one i))

pub drop_get : {A : Type 0} (xs : List A) (i : ℕ) (x : A) → slice_get xs i ≡ Some x → drop i xs ≡ x ∷ drop (i + 1) xs
drop_get xs i x h = drop_at xs i x (slice_get_within xs i x h) (sym (get_or_from_slice_get xs i x x h))

and_second : (a b : Bool) → (a && b) ≡ true → b ≡ true
and_second true b h = h
and_second false b h = absurd cc

-- what holds of all that is left holds of the rest
pub all_rest : {A : Type 0} (p : A → Bool) (xs : List A) (i : ℕ) (x : A) → i < length xs → x ≡ get_or xs i x → list_all p (drop i xs) ≡ true → list_all p (drop (i + 1) xs) ≡ true
all_rest p xs i x lt is all = and_second (p x) (list_all p (drop (i + 1) xs)) (sym (ap (list_all p) (drop_at xs i x lt is)) ∙ all)

-- the partition at a place
pub partitions_at : (node : ℤ) (n i : ℕ) → i < n → partitions_from node i (n - i) ≡ partition_info node i ∷ partitions_from node (i + 1) (n - (i + 1))
partitions_at node n i lt = let more : n - i ≡ suc (n - (i + 1)) = omega arith in ap (partitions_from node i) more

-- ---- bindings in their order

and_first : (a b : Bool) → (a && b) ≡ true → a ≡ true
and_first true b h = refl
and_first false b h = absurd cc

resource_named : (kind : Kind) (name : List ℕ) → is_resource_name kind name ≡ true → 0 < length name
resource_named kind (c ∷ cs) h = omega arith
resource_named Topic [] h = absurd cc
resource_named Group [] h = absurd cc
resource_named Cluster [] h = absurd cc
resource_named TransactionalId [] h = absurd cc

-- a binding that may be created has a name
pub next_named : (acls : List Binding) (i : ℕ) (b : Binding) → i < length acls → b ≡ get_or acls i b → list_all is_creatable (drop i acls) ≡ true → 0 < length b.name
next_named acls i b lt is all =
    let next : is_creatable b ≡ true = and_first (is_creatable b) (list_all is_creatable (drop (i + 1) acls)) (sym (ap (list_all is_creatable) (drop_at acls i b lt is)) ∙ all) in
    resource_named b.kind b.name (and_first (is_resource_name b.kind b.name) _ next)

-- one more binding was added
pub book_goes_on : (acls : List Binding) (i : ℕ) (b copy : Binding) (policy new : PolicyValue) (whole : BookValue) → i < length acls → b ≡ get_or acls i b → copy ≡ b → new ≡ policy_added policy copy
    → with_bindings policy.book (drop i acls) ≡ whole → with_bindings new.book (drop (i + 1) acls) ≡ whole
book_goes_on acls i b copy policy new whole lt is same after so_far =
    ap (λ p. with_bindings p.book (drop (i + 1) acls)) after ∙ ap (λ x. with_bindings (with_binding policy.book x) (drop (i + 1) acls)) same
    ∙ sym (ap (with_bindings policy.book) (drop_at acls i b lt is)) ∙ so_far
