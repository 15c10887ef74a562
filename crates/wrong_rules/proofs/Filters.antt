-- A filter takes what is wanted, and wrong ones take more.
use Rattle.std.proofs.Common.{◌≡◌, ◌==◌, ℕ, Bool, true, false, ◌&&◌, List, Option, Some, None, refl, codes as bytes, sym, ap, ◌∙◌}
use Rattle.std.proofs.lemmas.Bool.{and_from}
use Rattle.std.specs.Str.{bytes_eq}
use Rattle.acl_binding.specs.declared.words.Kind.{Kind}
use Rattle.acl_binding.specs.declared.words.Kind.TheVariants as kinds
use Rattle.acl_binding.specs.declared.words.Pattern.{Pattern}
use Rattle.acl_binding.specs.declared.words.Pattern.TheVariants as patterns
use Rattle.acl_binding.specs.declared.words.Operation.{Operation}
use Rattle.acl_binding.specs.declared.words.Operation.TheVariants as operations
use Rattle.acl_binding.specs.declared.words.Permission.{Permission}
use Rattle.acl_binding.specs.declared.words.Permission.TheVariants as permissions
use Rattle.acl_binding.specs.declared.binding.Binding.{Binding}
use Rattle.acl_binding.specs.declared.filter.Filter.{Filter}
use Rattle.acl_binding.specs.declared.filter.FilterPattern.{FilterPattern}
use Rattle.acl_binding.specs.declared.filter.FilterPattern.TheVariants as wanted
use Rattle.acl_binding.specs.Words.{kind_number, pattern_number, operation_number, permission_number}
use Rattle.acl_binding.specs.Binding.{name_covers}
use Rattle.acl_binding.specs.Filter.{kind_fits, text_fits, operation_fits, permission_fits, name_fits, matches}
use Rattle.acl_binding.proofs.Relations.{tests_are}
use Rattle.acl_binding.proofs.Same.{both, same_number, itself_number, same_bytes, itself_bytes, kind_one, pattern_one, operation_one, permission_one}
use Rattle.wrong_rules.specs.Filters.{IsWanted, IsNamed, Takes, TakesWhatIsWanted, OnlyRuleOfFilters, taking_any_host, taking_any_permission, taking_by_prefix}
use Rattle.wrong_rules.proofs.Supers.{same_truth}

-- ---- one field

kind_wanted : (o : Option Kind) (own : Kind) → kind_fits o own ≡ true → IsWanted o own
kind_wanted None own h = tt
kind_wanted (Some k) own h = kind_one k own (same_number (kind_number k) (kind_number own) h)

fits_kind : (o : Option Kind) (own : Kind) → IsWanted o own → kind_fits o own ≡ true
fits_kind None own h = refl
fits_kind (Some k) own h = ap (λ (x : Kind). kind_number k == kind_number x) (sym h) ∙ itself_number (kind_number k)

text_wanted : (o : Option (List ℕ)) (own : List ℕ) → text_fits o own ≡ true → IsWanted o own
text_wanted None own h = tt
text_wanted (Some t) own h = same_bytes t own h

fits_text : (o : Option (List ℕ)) (own : List ℕ) → IsWanted o own → text_fits o own ≡ true
fits_text None own h = refl
fits_text (Some t) own h = ap (bytes_eq t) (sym h) ∙ itself_bytes t

operation_wanted : (o : Option Operation) (own : Operation) → operation_fits o own ≡ true → IsWanted o own
operation_wanted None own h = tt
operation_wanted (Some op) own h = operation_one op own (same_number (operation_number op) (operation_number own) h)

fits_operation : (o : Option Operation) (own : Operation) → IsWanted o own → operation_fits o own ≡ true
fits_operation None own h = refl
fits_operation (Some op) own h = ap (λ (x : Operation). operation_number op == operation_number x) (sym h) ∙ itself_number (operation_number op)

permission_wanted : (o : Option Permission) (own : Permission) → permission_fits o own ≡ true → IsWanted o own
permission_wanted None own h = tt
permission_wanted (Some p) own h = permission_one p own (same_number (permission_number p) (permission_number own) h)

fits_permission : (o : Option Permission) (own : Permission) → IsWanted o own → permission_fits o own ≡ true
fits_permission None own h = refl
fits_permission (Some p) own h = ap (λ (x : Permission). permission_number p == permission_number x) (sym h) ∙ itself_number (permission_number p)

-- ---- the name

of_pattern : (own p : Pattern) → (pattern_number own == pattern_number p) ≡ true → own ≡ p
of_pattern own p h = pattern_one own p (same_number (pattern_number own) (pattern_number p) h)

has_pattern : (own p : Pattern) → own ≡ p → (pattern_number own == pattern_number p) ≡ true
has_pattern own p same = ap (λ (x : Pattern). pattern_number own == pattern_number x) (sym same) ∙ itself_number (pattern_number own)

name_wanted : (pattern : FilterPattern) (name : Option (List ℕ)) (b : Binding) → name_fits pattern name b ≡ true → IsNamed pattern name b
name_wanted wanted.Any name b h = text_wanted name b.name h
name_wanted wanted.Match None b h = tt
name_wanted wanted.Match (Some n) b h =
    ((tests_are.covering b b.kind n).0 (and_from (kind_number b.kind == kind_number b.kind) (name_covers b.pattern b.name n) (itself_number (kind_number b.kind)) h)).1
name_wanted wanted.Literal name b h =
    let parts = both (pattern_number b.pattern == pattern_number patterns.Literal) (text_fits name b.name) h in
    (of_pattern b.pattern patterns.Literal parts.0, text_wanted name b.name parts.1)
name_wanted wanted.Prefixed name b h =
    let parts = both (pattern_number b.pattern == pattern_number patterns.Prefixed) (text_fits name b.name) h in
    (of_pattern b.pattern patterns.Prefixed parts.0, text_wanted name b.name parts.1)

fits_name : (pattern : FilterPattern) (name : Option (List ℕ)) (b : Binding) → IsNamed pattern name b → name_fits pattern name b ≡ true
fits_name wanted.Any name b h = fits_text name b.name h
fits_name wanted.Match None b h = refl
fits_name wanted.Match (Some n) b h =
    (both (kind_number b.kind == kind_number b.kind) (name_covers b.pattern b.name n) ((tests_are.covering b b.kind n).1 (refl, h))).1
fits_name wanted.Literal name b h =
    and_from (pattern_number b.pattern == pattern_number patterns.Literal) (text_fits name b.name) (has_pattern b.pattern patterns.Literal h.0) (fits_text name b.name h.1)
fits_name wanted.Prefixed name b h =
    and_from (pattern_number b.pattern == pattern_number patterns.Prefixed) (text_fits name b.name) (has_pattern b.pattern patterns.Prefixed h.0) (fits_text name b.name h.1)

-- ---- the filter

takes : (f : Filter) (b : Binding) → matches f b ≡ true → Takes f b
takes f b h =
    let halves = both (kind_fits f.kind b.kind && name_fits f.pattern f.name b) ((text_fits f.principal b.principal && text_fits f.host b.host) && (operation_fits f.operation b.operation && permission_fits f.permission b.permission)) h in
    let about = both (kind_fits f.kind b.kind) (name_fits f.pattern f.name b) halves.0 in
    let rest = both (text_fits f.principal b.principal && text_fits f.host b.host) (operation_fits f.operation b.operation && permission_fits f.permission b.permission) halves.1 in
    let whose = both (text_fits f.principal b.principal) (text_fits f.host b.host) rest.0 in
    let what = both (operation_fits f.operation b.operation) (permission_fits f.permission b.permission) rest.1 in
    record {
      kind = kind_wanted f.kind b.kind about.0;
      name = name_wanted f.pattern f.name b about.1;
      principal = text_wanted f.principal b.principal whose.0;
      host = text_wanted f.host b.host whose.1;
      operation = operation_wanted f.operation b.operation what.0;
      permission = permission_wanted f.permission b.permission what.1;
    }

is_taken : (f : Filter) (b : Binding) → Takes f b → matches f b ≡ true
is_taken f b h =
    and_from (kind_fits f.kind b.kind && name_fits f.pattern f.name b) ((text_fits f.principal b.principal && text_fits f.host b.host) && (operation_fits f.operation b.operation && permission_fits f.permission b.permission))
    (and_from (kind_fits f.kind b.kind) (name_fits f.pattern f.name b) (fits_kind f.kind b.kind h.kind) (fits_name f.pattern f.name b h.name))
    (and_from (text_fits f.principal b.principal && text_fits f.host b.host) (operation_fits f.operation b.operation && permission_fits f.permission b.permission)
    (and_from (text_fits f.principal b.principal) (text_fits f.host b.host) (fits_text f.principal b.principal h.principal) (fits_text f.host b.host h.host))
    (and_from (operation_fits f.operation b.operation) (permission_fits f.permission b.permission) (fits_operation f.operation b.operation h.operation) (fits_permission f.permission b.permission h.permission)))

pub takes_what_is_wanted : TakesWhatIsWanted matches
takes_what_is_wanted f b = (takes f b, is_taken f b)

pub only_rule : OnlyRuleOfFilters matches
only_rule rule law f b = same_truth (rule f b) (matches f b)
    (λ h. is_taken f b ((law f b).0 h))
    (λ h. (law f b).1 (takes f b h))

-- ---- wrong ones: an ALLOW for `User:annex` from the host `h` is no binding for another host, no DENY, and none of `User:ann`

abbrev b : Binding
b = record { kind = kinds.Topic; name = bytes "a"; pattern = patterns.Literal; principal = bytes "User:annex"; host = bytes "h"; operation = operations.Read; permission = permissions.Allow }

abbrev any : Filter
any = record { kind = None; name = None; pattern = wanted.Any; principal = None; host = None; operation = None; permission = None }

pub not_any_host : ¬ TakesWhatIsWanted taking_any_host
not_any_host law = let clash : ◌≡◌ {A = Bool} false true = ap (bytes_eq (bytes "h")) ((law (record any { host = Some (bytes "g") }) b).0 refl).host in cc

pub not_any_permission : ¬ TakesWhatIsWanted taking_any_permission
not_any_permission law = let clash : permissions.Deny ≡ permissions.Allow = ((law (record any { permission = Some permissions.Deny }) b).0 refl).permission in cc

pub not_by_beginning : ¬ TakesWhatIsWanted taking_by_prefix
not_by_beginning law = let clash : ◌≡◌ {A = Bool} false true = ap (bytes_eq (bytes "User:annex")) ((law (record any { principal = Some (bytes "User:ann") }) b).0 refl).principal in cc
