-- What a filter picks (Kafka, AclBindingFilter; KIP-290 for the patterns ANY, MATCH, LITERAL and
-- PREFIXED).
use Rattle.std.specs.Prelude.{ℕ, Bool, true, ◌&&◌, not, List, [], ◌∷◌, filter, ◌==◌, if◌then◌else◌, Option, Some, None}
use Rattle.std.specs.Str.{bytes_eq}
use Rattle.acl_binding.specs.declared.words.Pattern.TheVariants.{Literal, Prefixed}
use Rattle.acl_binding.specs.declared.words.Kind.{Kind}
use Rattle.acl_binding.specs.declared.words.Operation.{Operation}
use Rattle.acl_binding.specs.declared.words.Permission.{Permission}
use Rattle.acl_binding.specs.declared.binding.Binding.{Binding}
use Rattle.acl_binding.specs.declared.binding.Numbered.{Numbered}
use Rattle.acl_binding.specs.declared.filter.Filter.{Filter}
use Rattle.acl_binding.specs.declared.filter.FilterPattern.{FilterPattern}
use Rattle.acl_binding.specs.declared.filter.FilterPattern.TheVariants as wanted
use Rattle.acl_binding.specs.Words.{kind_number, pattern_number, operation_number, permission_number}
use Rattle.acl_binding.specs.Binding.{name_covers}
use Rattle.acl_binding.specs.Book.{BookValue}

abbrev pub kind_fits : Option Kind → Kind → Bool
kind_fits None kind = true
kind_fits (Some wanted) kind = kind_number wanted == kind_number kind

-- no text is any, else the equal one
abbrev pub text_fits : Option (List ℕ) → List ℕ → Bool
text_fits None own = true
text_fits (Some wanted) own = bytes_eq wanted own

abbrev pub operation_fits : Option Operation → Operation → Bool
operation_fits None op = true
operation_fits (Some wanted) op = operation_number wanted == operation_number op

abbrev pub permission_fits : Option Permission → Permission → Bool
permission_fits None permission = true
permission_fits (Some wanted) permission = permission_number wanted == permission_number permission

-- the binding covers the name; without a name any does
abbrev pub covering_fits : Option (List ℕ) → Binding → Bool
covering_fits None b = true
covering_fits (Some name) b = name_covers b.pattern b.name name

-- LITERAL and PREFIXED want that pattern and an equal name, ANY an equal name, MATCH a binding that
-- covers the name
abbrev pub name_fits : FilterPattern → Option (List ℕ) → Binding → Bool
name_fits wanted.Any name b = text_fits name b.name
name_fits wanted.Match name b = covering_fits name b
name_fits wanted.Literal name b =
    (pattern_number b.pattern == pattern_number Literal) && text_fits name b.name
name_fits wanted.Prefixed name b =
    (pattern_number b.pattern == pattern_number Prefixed) && text_fits name b.name

-- each field of the binding is what is wanted
abbrev pub matches : Filter → Binding → Bool
matches f b = (kind_fits f.kind b.kind && name_fits f.pattern f.name b)
    && ((text_fits f.principal b.principal && text_fits f.host b.host)
    && (operation_fits f.operation b.operation && permission_fits f.permission b.permission))

-- the filter doesn't pick the binding
abbrev pub is_not_matched : Filter → Numbered → Bool
is_not_matched f e = not (matches f e.binding)

-- the bindings that the filter picks, in creation order
abbrev pub matching_bindings : List Numbered → Filter → List Binding
matching_bindings [] f = []
matching_bindings (e ∷ es) f =
    if matches f e.binding then e.binding ∷ matching_bindings es f else matching_bindings es f

-- the book without them; the next number stays, so that none is used again
abbrev pub without_matching : BookValue → Filter → BookValue
without_matching book f = record book { entries = filter (is_not_matched f) book.entries }
