-- How the bindings that were read stand resource by resource, while an answer is put together.
use Rattle.std.specs.Prelude.{List, [], ◌∷◌, ◌++◌, map}
use Rattle.msg_acl.specs.declared.describe_acls.DescribedResource.{DescribedResource}
use Rattle.acl_binding.specs.declared.binding.Binding.{Binding}
use Rattle.acl_binding.specs.WireNumbers.{kind_code, pattern_code}
use Rattle.acl_handlers.specs.declared.resource.Resource.{Resource}
use Rattle.acl_handlers.specs.DescribeAcls.{described_acl, described_resource, first_of_each}

-- what a binding is about, as a key
abbrev pub resource_of : Binding → Resource
resource_of b = record { kind = kind_code b.kind; pattern = pattern_code b.pattern; name = b.name }

-- the resource of a binding, with those of the bindings that are about it, under its key
abbrev pub group_of : List Binding → Binding → Resource × DescribedResource
group_of seen b = (resource_of b, described_resource seen b)

-- the resources of the bindings, in the order of the first binding of each
abbrev pub groups_of : List Binding → List (Resource × DescribedResource)
groups_of seen = map (group_of seen) (first_of_each [] seen)

-- a resource with its first binding, and with one more, the last
abbrev pub resource_with : Binding → DescribedResource
resource_with b =
    record {
      kind = kind_code b.kind;
      name = b.name;
      pattern = pattern_code b.pattern;
      acls = described_acl b ∷ [];
    }

abbrev pub resource_with_next : DescribedResource → Binding → DescribedResource
resource_with_next r b = record r { acls = r.acls ++ described_acl b ∷ [] }
