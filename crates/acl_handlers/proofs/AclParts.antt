-- Entry by entry: what was done of a list comes first, and then what the rest gives.
use Rattle.std.proofs.Common.{◌≡◌, ℕ, ◌+◌, ◌<◌, List, [], ◌∷◌, ◌++◌, length, get_or, map, drop, sym, ap, ◌∙◌}
use Rattle.msg_acl.specs.declared.entries.BindingEntry.{BindingEntry}
use Rattle.msg_acl.specs.declared.entries.FilterEntry.{FilterEntry}
use Rattle.msg_acl.specs.declared.delete_acls.DeletedAcls.{DeletedAcls}
use Rattle.acl_binding.specs.Entries.{binding_of, filter_of}
use Rattle.acl_binding.specs.Book.{BookValue}
use Rattle.acl_handlers.specs.CreateAcls.{book_with, book_created}
use Rattle.acl_handlers.specs.DeleteAcls.{book_without, book_deleted, deletion_result, deletion_results}
use Rattle.broker_world.proofs.Parts.{one_more, drop_at}

-- one answer more
pub map_further : {A B : Type 0} (f : A → B) (xs : List A) (i : ℕ) (x : A) (done : List B) (b : B) (whole : List B) → i < length xs → x ≡ get_or xs i x → b ≡ f x
    → done ++ map f (drop i xs) ≡ whole → (done ++ b ∷ []) ++ map f (drop (i + 1) xs) ≡ whole
map_further f xs i x done b whole lt is answer so_far =
    one_more done b (map f (drop i xs)) (map f (drop (i + 1) xs)) whole (ap (map f) (drop_at xs i x lt is) ∙ ap (λ y. y ∷ map f (drop (i + 1) xs)) (sym answer)) so_far

-- ---- CreateAcls

pub created_further : (es : List BindingEntry) (i : ℕ) (e : BindingEntry) (old new whole : BookValue) → i < length es → e ≡ get_or es i e → new ≡ book_with old (binding_of e)
    → book_created old (drop i es) ≡ whole → book_created new (drop (i + 1) es) ≡ whole
created_further es i e old new whole lt is after so_far =
    ap (λ (b : BookValue). book_created b (drop (i + 1) es)) after ∙ sym (ap (book_created old) (drop_at es i e lt is)) ∙ so_far

-- ---- DeleteAcls

pub removed_further : (es : List FilterEntry) (i : ℕ) (e : FilterEntry) (old new whole : BookValue) → i < length es → e ≡ get_or es i e → new ≡ book_without old (filter_of e)
    → book_deleted old (drop i es) ≡ whole → book_deleted new (drop (i + 1) es) ≡ whole
removed_further es i e old new whole lt is after so_far =
    ap (λ (b : BookValue). book_deleted b (drop (i + 1) es)) after ∙ sym (ap (book_deleted old) (drop_at es i e lt is)) ∙ so_far

pub deleted_further : (es : List FilterEntry) (i : ℕ) (e : FilterEntry) (old new : BookValue) (done : List DeletedAcls) (d : DeletedAcls) (whole : List DeletedAcls) → i < length es → e ≡ get_or es i e
    → new ≡ book_without old (filter_of e) → d ≡ deletion_result old (filter_of e) → done ++ deletion_results old (drop i es) ≡ whole → (done ++ d ∷ []) ++ deletion_results new (drop (i + 1) es) ≡ whole
deleted_further es i e old new done d whole lt is after answer so_far =
    let rest = drop (i + 1) es in
    let split : deletion_results old (drop i es) ≡ d ∷ deletion_results new rest =
    ap (deletion_results old) (drop_at es i e lt is) ∙ ap (λ (x : DeletedAcls). x ∷ deletion_results (book_without old (filter_of e)) rest) (sym answer)
    ∙ ap (λ (b : BookValue). d ∷ deletion_results b rest) (sym after) in
    one_more done d (deletion_results old (drop i es)) (deletion_results new rest) whole split so_far
