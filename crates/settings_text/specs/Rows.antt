-- What a document says, if each key is there that must be, none is unknown and each is of its kind.
use Rattle.std.specs.Prelude.{ℕ, pos, Bool, if◌then◌else◌, List, [], ◌∷◌, codes, Option, Some, None, option_and_then}
use Rattle.toml.specs.Data.{Data, Members, as_table, as_str}
use Rattle.acl_binding.specs.declared.binding.Binding.{Binding}
use Rattle.acl_binding.specs.declared.words.Kind.{Kind}
use Rattle.acl_binding.specs.declared.words.Pattern.{Pattern}
use Rattle.acl_binding.specs.declared.words.Operation.{Operation}
use Rattle.acl_binding.specs.declared.words.Permission.{Permission}
use Rattle.acl_binding.specs.Names.{kind_named, pattern_named, operation_named, permission_named}
use Rattle.settings.specs.declared.settings.Settings.{Settings}
use Rattle.settings.specs.declared.settings.TopicSetting.{TopicSetting}
use Rattle.settings_text.specs.Fields.{has_only, number_field, number_or, text_field, word_field, list_field}
use Rattle.settings_text.specs.declared.document.User.{User}
use Rattle.settings_text.specs.declared.document.Document.{Document}

infixl 10 ◌>>=◌
abbrev ◌>>=◌ : {A B : Type 0} → Option A → (A → Option B) → Option B
o >>= f = option_and_then f o

-- the fact holds, or nothing is read
abbrev when : {A : Type 0} → Bool → Option A → Option A
when b o = if b then o else None

-- a table of no keys but these
abbrev pub row_of : List (List ℕ) → Data → Option Members
row_of keys d = as_table d >>= (λ ms. when (has_only keys ms) (Some ms))

abbrev user_keys : List (List ℕ)
user_keys = codes "name" ∷ codes "password" ∷ []

abbrev pub user_of : Data → Option User
user_of d =
    row_of user_keys d >>= (λ ms.
    text_field (codes "name") ms >>= (λ name. text_field (codes "password") ms >>= (λ password.
    Some (record { name = name; password = password }))))

abbrev topic_keys : List (List ℕ)
topic_keys = codes "name" ∷ codes "partitions" ∷ []

abbrev pub topic_of : Data → Option TopicSetting
topic_of d =
    row_of topic_keys d >>= (λ ms.
    text_field (codes "name") ms
    >>= (λ name. number_field (codes "partitions") ms >>= (λ partitions.
    Some (record { name = name; partitions = partitions }))))

-- ---- bindings

abbrev acl_keys : List (List ℕ)
acl_keys =
    codes "kind" ∷ codes "name" ∷ codes "pattern" ∷ codes "principal" ∷ codes "host"
    ∷ codes "operation" ∷ codes "permission" ∷ []

-- the words of a binding, by name
abbrev pub kind_field : Members → Option Kind
kind_field ms = word_field kind_named (codes "kind") ms

abbrev pub pattern_field : Members → Option Pattern
pattern_field ms = word_field pattern_named (codes "pattern") ms

abbrev pub operation_field : Members → Option Operation
operation_field ms = word_field operation_named (codes "operation") ms

abbrev pub permission_field : Members → Option Permission
permission_field ms = word_field permission_named (codes "permission") ms

abbrev pub binding_of : Data → Option Binding
binding_of d =
    row_of acl_keys d >>= (λ ms.
    kind_field ms
    >>= (λ kind. text_field (codes "name") ms >>= (λ name. pattern_field ms >>= (λ pattern.
    text_field (codes "principal") ms >>= (λ principal. text_field (codes "host") ms >>= (λ host.
    operation_field ms >>= (λ operation. permission_field ms >>= (λ permission.
    Some (record {
      kind = kind;
      name = name;
      pattern = pattern;
      principal = principal;
      host = host;
      operation = operation;
      permission = permission;
    })))))))))

-- ---- the document

abbrev pub settings_of : Members → Option Settings
settings_of ms =
    number_field (codes "node_id") ms >>= (λ node_id. text_field (codes "host") ms >>= (λ host.
    number_field (codes "port") ms >>= (λ port. list_field as_str (codes "supers") ms >>= (λ supers.
    number_or (pos 1048576) (codes "trail_limit") ms >>= (λ trail_limit.
    number_or (pos 1048588) (codes "max_batch") ms >>= (λ max_batch.
    number_or (pos 900000) (codes "max_txn_timeout") ms >>= (λ max_txn_timeout.
    list_field topic_of (codes "topic") ms
    >>= (λ topics. list_field binding_of (codes "acl") ms >>= (λ acls.
    Some (record {
      node_id = node_id;
      host = host;
      port = port;
      supers = supers;
      trail_limit = trail_limit;
      max_batch = max_batch;
      max_txn_timeout = max_txn_timeout;
      topics = topics;
      acls = acls;
    }))))))))))

abbrev top_keys : List (List ℕ)
top_keys =
    codes "node_id" ∷ codes "host" ∷ codes "port" ∷ codes "supers" ∷ codes "trail_limit"
    ∷ codes "max_batch"
    ∷ codes "max_txn_timeout" ∷ codes "user" ∷ codes "topic" ∷ codes "acl" ∷ []

abbrev pub document_of : Members → Option Document
document_of ms = when (has_only top_keys ms)
    (list_field user_of (codes "user") ms >>= (λ users. settings_of ms >>= (λ settings.
    Some (record { users = users; settings = settings }))))
