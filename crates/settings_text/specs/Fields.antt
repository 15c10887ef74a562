-- The fields of a TOML table.
use Rattle.std.specs.Prelude.{◌≡◌, ℕ, ℤ, Bool, true, ◌&&◌, List, [], ◌∷◌, map, Option, Some, None, option_map, option_and_then, Result, Ok, Err}
use denote.Ref.{Bor}
use Rattle.std.specs.List.{list_any}
use Rattle.std.specs.Str.{bytes_eq}
use Rattle.toml.specs.Data.{Data, array, Items, no_items, item, Members, no_members, member, get_member, as_integer, as_str}
use Rattle.settings_text.specs.declared.fields.FieldFault.{FieldFault}
use Rattle.settings_text.specs.declared.fields.FieldFault.TheVariants.{Key, NoMemory}

-- what was read is what is due: nothing is due at `Key`, and nothing is said where memory was
-- refused
abbrev pub Reads : {A B : Type 0} → (A → B) → Option B → Result A FieldFault → Type 0
Reads see due (Ok x) = due ≡ Some (see x)
Reads see due (Err Key) = due ≡ None
Reads see due (Err NoMemory) = Unit {0}

-- the bytes of texts that were lent
abbrev pub texts : List (Bor (List ℕ)) → List (List ℕ)
texts known = map (λ k. k.now) known

-- the key is one of these
abbrev pub is_one_of : List (Bor (List ℕ)) → List ℕ → Bool
is_one_of known key = list_any (λ k. bytes_eq key k.now) known

-- each key is one of these
abbrev pub has_only : List (List ℕ) → Members → Bool
has_only keys no_members = true
has_only keys (member k d ms) = list_any (bytes_eq k) keys && has_only keys ms

-- a required number, and one that may be left out
abbrev pub number_field : List ℕ → Members → Option ℤ
number_field key ms = option_and_then as_integer (get_member key ms)

abbrev present_or : ℤ → Option Data → Option ℤ
present_or default None = Some default
present_or default (Some d) = as_integer d

abbrev pub number_or : ℤ → List ℕ → Members → Option ℤ
number_or default key ms = present_or default (get_member key ms)

-- a required text
abbrev pub text_field : List ℕ → Members → Option (List ℕ)
text_field key ms = option_and_then as_str (get_member key ms)

-- a required text that is a name, as it is read
abbrev pub word_field : {A : Type 0} → (List ℕ → Option A) → List ℕ → Members → Option A
word_field named key ms = option_and_then named (text_field key ms)

-- each item read; nothing where one can't be
abbrev pub values_of_each : {A : Type 0} → (Data → Option A) → Items → Option (List A)
values_of_each read no_items = Some []
values_of_each read (item d ds) =
    option_and_then (λ x. option_map (λ xs. x ∷ xs) (values_of_each read ds)) (read d)

abbrev items_or_none : Option Data → Option Items
items_or_none None = Some no_items
items_or_none (Some (array ds)) = Some ds
items_or_none (Some d) = None

-- the items of a list, which may be left out
abbrev pub items_field : List ℕ → Members → Option Items
items_field key ms = items_or_none (get_member key ms)

-- a list of which each item is read
abbrev pub list_field : {A : Type 0} → (Data → Option A) → List ℕ → Members → Option (List A)
list_field read key ms = option_and_then (values_of_each read) (items_field key ms)
