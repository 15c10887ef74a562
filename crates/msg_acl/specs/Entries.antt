-- Bindings and filters in the messages about access control (Kafka protocol guide, "CreateAcls API
-- (Key: 30)", "DescribeAcls API (Key: 29)").
use Rattle.std.specs.Prelude.{ℕ, List, [], ◌∷◌, refl}
use Rattle.wire_types.specs.Grammar.{Grammar}
use Rattle.wire_types.specs.Combinators.{◌⨟◌, struct}
use Rattle.wire_types.specs.Schema.{int8, string, nullable_string}
use Rattle.msg_acl.specs.declared.entries.BindingEntry.{BindingEntry}
use Rattle.msg_acl.specs.declared.entries.FilterEntry.{FilterEntry}

-- creations => resource_type resource_name resource_pattern_type principal host operation
-- permission_type
abbrev pub binding_entry : Grammar BindingEntry
binding_entry = struct
    (λ (kind, (name, (pattern, (principal, (host, (operation, permission)))))).
    record {
      kind = kind;
      name = name;
      pattern = pattern;
      principal = principal;
      host = host;
      operation = operation;
      permission = permission;
    })
    (λ b. (b.kind, (b.name, (b.pattern, (b.principal, (b.host, (b.operation, b.permission)))))))
    (λ x. refl) (λ b. refl)
    (int8  -- resource_type
    ⨟ string  -- resource_name
    ⨟ int8  -- resource_pattern_type
    ⨟ string  -- principal
    ⨟ string  -- host
    ⨟ int8  -- operation
    ⨟ int8)  -- permission_type

-- filters => resource_type_filter resource_name_filter pattern_type_filter principal_filter
-- host_filter operation permission_type
abbrev pub filter_entry : Grammar FilterEntry
filter_entry = struct
    (λ (kind, (name, (pattern, (principal, (host, (operation, permission)))))).
    record {
      kind = kind;
      name = name;
      pattern = pattern;
      principal = principal;
      host = host;
      operation = operation;
      permission = permission;
    })
    (λ f. (f.kind, (f.name, (f.pattern, (f.principal, (f.host, (f.operation, f.permission)))))))
    (λ x. refl) (λ f. refl)
    (int8  -- resource_type_filter
    ⨟ nullable_string  -- resource_name_filter
    ⨟ int8  -- pattern_type_filter
    ⨟ nullable_string  -- principal_filter
    ⨟ nullable_string  -- host_filter
    ⨟ int8  -- operation
    ⨟ int8)  -- permission_type

-- the texts after a length of two bytes
abbrev pub binding_strings : BindingEntry → List (List ℕ)
binding_strings b = b.name ∷ b.principal ∷ b.host ∷ []
