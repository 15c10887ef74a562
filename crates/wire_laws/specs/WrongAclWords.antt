-- Wrong readings of the words of a binding and of a filter: each is the right one, but that two
-- words are taken for each other.
use Rattle.std.specs.Prelude.{List, [], map, Option, Some, None}
use Rattle.std.specs.Option.{option_map}
use Rattle.msg_acl.specs.declared.entries.BindingEntry.{BindingEntry}
use Rattle.acl_binding.specs.declared.words.Operation.{Operation}
use Rattle.acl_binding.specs.declared.words.Operation.TheVariants as operation
use Rattle.acl_binding.specs.declared.binding.Binding.{Binding}
use Rattle.acl_binding.specs.declared.filter.Filter.{Filter}
use Rattle.acl_binding.specs.Entries.{binding_by}
use Rattle.acl_binding.specs.WireNumbers.{kind_at, pattern_at, operation_at, permission_at}
use Rattle.msg_admin.specs.declared.request.Request.{Request}
use Rattle.msg_admin.specs.declared.request.Request.TheVariants as requests
use Rattle.msg_admin.specs.Request.{request_at}
use Rattle.wire_laws.specs.WrongFrames.{each}
use Rattle.wire_laws.specs.WrongAclNumbers.{other_of_deny_and_allow, other_of_read_and_write, other_of_group_and_transactional, other_of_literal_and_prefixed, other_of_any_and_match}
use Rattle.wire_laws.specs.AclWords.{BindingsRule, FiltersRule, asked_by, bindings_asked, filters_asked}

-- ---- bindings

-- another binding is read
abbrev with_binding : (Binding → Binding) → BindingsRule
with_binding f bytes = each (bindings_asked bytes) (option_map f)

-- DENY is read as ALLOW, and the other way round
abbrev pub deny_is_allow : BindingsRule
deny_is_allow =
    with_binding (λ b. record b { permission = other_of_deny_and_allow b.permission })

-- READ is read as WRITE, and the other way round
abbrev pub read_is_write : BindingsRule
read_is_write = with_binding (λ b. record b { operation = other_of_read_and_write b.operation })

-- GROUP is read as TRANSACTIONAL_ID, and the other way round
abbrev pub group_is_transactional_id : BindingsRule
group_is_transactional_id =
    with_binding (λ b. record b { kind = other_of_group_and_transactional b.kind })

-- LITERAL is read as PREFIXED, and the other way round
abbrev pub literal_is_prefixed : BindingsRule
literal_is_prefixed =
    with_binding (λ b. record b { pattern = other_of_literal_and_prefixed b.pattern })

-- the binding that an entry in known words is, whatever names they have
abbrev any_binding : BindingEntry → Option Binding
any_binding e =
    binding_by e (kind_at e.kind) (pattern_at e.pattern) (operation_at e.operation)
    (permission_at e.permission)

-- the bindings that a request asks for, whatever names they have
abbrev any_bindings : Request → List (Option Binding)
any_bindings (requests.CreateAcls r) = map any_binding r.creations
any_bindings r = []

-- a binding without a name, a host or a user is one
abbrev pub any_names_are_taken : BindingsRule
any_names_are_taken bytes = asked_by any_bindings (request_at bytes)

-- ---- filters

-- another filter is read
abbrev with_filter : (Filter → Filter) → FiltersRule
with_filter f bytes = each (filters_asked bytes) (option_map f)

-- a filter for DENY is read as one for ALLOW, and the other way round
abbrev pub filtered_deny_is_allow : FiltersRule
filtered_deny_is_allow =
    with_filter (λ f. record f { permission = option_map other_of_deny_and_allow f.permission })

-- a filter for READ is read as one for WRITE, and the other way round
abbrev pub filtered_read_is_write : FiltersRule
filtered_read_is_write =
    with_filter (λ f. record f { operation = option_map other_of_read_and_write f.operation })

-- 1 (ANY) is read as 2 (MATCH), and the other way round
abbrev pub any_is_match : FiltersRule
any_is_match = with_filter (λ f. record f { pattern = other_of_any_and_match f.pattern })

-- any operation is ALL
abbrev all_for_any : Option Operation → Option Operation
all_for_any None = Some operation.All
all_for_any wanted = wanted

-- 1 (ANY), which any operation fits, is read as 2 (ALL)
abbrev pub any_is_all : FiltersRule
any_is_all = with_filter (λ f. record f { operation = all_for_any f.operation })
