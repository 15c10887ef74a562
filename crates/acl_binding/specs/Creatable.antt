-- Which bindings may be created (Kafka, AclAuthorizer and KafkaPrincipal; Kafka documentation,
-- "Authorization and ACLs").
use Rattle.std.specs.Prelude.{ℕ, Bool, not, ◌&&◌, ◌==◌, nat_le, List, length, take, codes}
use Rattle.std.specs.Str.{bytes_eq}
use Rattle.acl_binding.specs.declared.binding.Binding.{Binding}
use Rattle.acl_binding.specs.declared.words.Kind.{Kind}
use Rattle.acl_binding.specs.declared.words.Kind.TheVariants.{Cluster}

-- `User:` and at least one character
abbrev pub is_principal : List ℕ → Bool
is_principal text = nat_le 6 (length text) && bytes_eq (take 5 text) (codes "User:")

-- the one name that the cluster has
abbrev pub cluster_name : List ℕ
cluster_name = codes "kafka-cluster"

abbrev pub is_resource_name : Kind → List ℕ → Bool
is_resource_name Cluster name = bytes_eq name cluster_name
is_resource_name kind name = not (length name == 0)

-- a binding that may be created: its name and host aren't empty, the cluster has its one name, and
-- its principal is a user
abbrev pub is_creatable : Binding → Bool
is_creatable b =
    is_resource_name b.kind b.name && (is_principal b.principal && not (length b.host == 0))
