-- The keys of a table, and reading a list item by item.
use Rattle.std.proofs.Common.{◌≡◌, ℕ, ◌+◌, ◌<◌, List, [], ◌∷◌, ◌++◌, length, get_or, drop, refl, ap, sym, ◌∙◌, Option, Some, None, option_map, String, Global, string_bytes, Bor, append_assoc, append-nil, ◌≤◌, drop_of_length-le}
use Rattle.std.specs.List.{list_any, list_all}
use Rattle.std.specs.Map.{keys_of}
use Rattle.std.specs.Str.{bytes_eq}
use Rattle.toml.specs.declared.value.Value.{Value}
use Rattle.toml.specs.Data.{Data}
use Rattle.toml.specs.View.{view, items_view, members_view}
use Rattle.toml.proofs.Views.{items_view-drop}
use Rattle.settings_text.specs.Fields.{texts, is_one_of, has_only, values_of_each}

among_map : (key : List ℕ) (known : List (Bor (List ℕ))) → is_one_of known key ≡ list_any (bytes_eq key) (texts known)
among_map key [] = refl
among_map key (k ∷ ks) = rw (among_map key ks) refl

pub has_only_keys : (known : List (Bor (List ℕ))) (es : List (String Global × Value))
    → list_all (λ key. is_one_of known (string_bytes key)) (keys_of es) ≡ has_only (texts known) (members_view es)
has_only_keys known [] = refl
has_only_keys known (e ∷ es) = rw (among_map (string_bytes e.0) known, has_only_keys known es) refl

-- some items before those that are still to be read
abbrev pub with_front : {A : Type 0} → List A → Option (List A) → Option (List A)
with_front front o = option_map (λ rest. front ++ rest) o

pub with_front-nil : {A : Type 0} (o : Option (List A)) → o ≡ with_front [] o
with_front-nil None = refl
with_front-nil (Some xs) = refl

with_front-more : {A : Type 0} (front : List A) (x : A) (o : Option (List A)) → with_front front (option_map (λ xs. x ∷ xs) o) ≡ with_front (front ++ x ∷ []) o
with_front-more front x None = refl
with_front-more front x (Some xs) = ap Some (sym (append_assoc front (x ∷ []) xs))

-- one more item was read, or it can't be
module _ {A : Type 0} (read : Data → Option A) (vs : List Value) (i : ℕ) (d : Value) (within : i < length vs) (front : List A)
    (so_far : values_of_each read (items_view vs) ≡ with_front front (values_of_each read (items_view (drop i vs)))) where
  pub item_read : (x : A) → read (view (get_or vs i d)) ≡ Some x → values_of_each read (items_view vs) ≡ with_front (front ++ x ∷ []) (values_of_each read (items_view (drop (i + 1) vs)))
  item_read x here =
      so_far ∙ rw (items_view-drop vs i d within, here) (with_front-more front x (values_of_each read (items_view (drop (i + 1) vs))))

  pub item_bad : read (view (get_or vs i d)) ≡ None → values_of_each read (items_view vs) ≡ None
  item_bad here = so_far ∙ rw (items_view-drop vs i d within, here) refl

pub all_read : {A : Type 0} (read : Data → Option A) (vs : List Value) (i : ℕ) (front : List A) → length vs ≤ i
    → values_of_each read (items_view vs) ≡ with_front front (values_of_each read (items_view (drop i vs))) → values_of_each read (items_view vs) ≡ Some front
all_read read vs i front far so_far = so_far ∙ rw (drop_of_length-le vs {i = i} far) (ap Some (append-nil front))
