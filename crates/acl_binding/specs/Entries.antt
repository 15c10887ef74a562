-- Which entries of a message are bindings and filters (Kafka protocol guide, "CreateAcls API (Key:
-- 30)", "DescribeAcls API (Key: 29)").
use Rattle.std.specs.Prelude.{ℤ, Option, Some, None, if◌then◌else◌}
use Rattle.std.specs.Ordering.{int_eq}
use Rattle.std.specs.Option.{option_map}
use Rattle.msg_acl.specs.declared.entries.BindingEntry.{BindingEntry}
use Rattle.msg_acl.specs.declared.entries.FilterEntry.{FilterEntry}
use Rattle.acl_binding.specs.declared.words.Kind.{Kind}
use Rattle.acl_binding.specs.declared.words.Pattern.{Pattern}
use Rattle.acl_binding.specs.declared.words.Operation.{Operation}
use Rattle.acl_binding.specs.declared.words.Permission.{Permission}
use Rattle.acl_binding.specs.declared.binding.Binding.{Binding}
use Rattle.acl_binding.specs.declared.filter.Filter.{Filter}
use Rattle.acl_binding.specs.declared.filter.FilterPattern.{FilterPattern}
use Rattle.acl_binding.specs.WireNumbers.{any_number, kind_at, pattern_at, operation_at, permission_at, filter_pattern_at}
use Rattle.acl_binding.specs.Creatable.{is_creatable}

-- ---- bindings

-- the binding that an entry with these words is, where all of them are known
abbrev pub binding_by : BindingEntry → Option Kind → Option Pattern → Option Operation
    → Option Permission → Option Binding
binding_by e (Some kind) (Some pattern) (Some operation) (Some permission) =
    Some
    (record {
      kind = kind;
      name = e.name;
      pattern = pattern;
      principal = e.principal;
      host = e.host;
      operation = operation;
      permission = permission;
    })
binding_by e _ _ _ _ = None

-- the binding, if it may be created
abbrev pub creatable : Option Binding → Option Binding
creatable None = None
creatable (Some b) = if is_creatable b then Some b else None

-- the binding that the entry is, if it is one
abbrev pub binding_of : BindingEntry → Option Binding
binding_of e =
    creatable
    (binding_by e (kind_at e.kind) (pattern_at e.pattern) (operation_at e.operation)
    (permission_at e.permission))

-- ---- filters

-- the word of a number, or any
abbrev pub or_any : {A : Type 0} → (ℤ → Option A) → ℤ → Option (Option A)
or_any word_at n =
    if int_eq n any_number then Some None else option_map (λ word. Some word) (word_at n)

abbrev pub filter_by : FilterEntry → Option (Option Kind) → Option FilterPattern
    → Option (Option Operation) → Option (Option Permission) → Option Filter
filter_by e (Some kind) (Some pattern) (Some operation) (Some permission) =
    Some
    (record {
      kind = kind;
      name = e.name;
      pattern = pattern;
      principal = e.principal;
      host = e.host;
      operation = operation;
      permission = permission;
    })
filter_by e _ _ _ _ = None

-- the filter that the entry is, if it is one
abbrev pub filter_of : FilterEntry → Option Filter
filter_of e =
    filter_by e (or_any kind_at e.kind) (filter_pattern_at e.pattern)
    (or_any operation_at e.operation) (or_any permission_at e.permission)
