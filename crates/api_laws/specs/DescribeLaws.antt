-- What a DescribeAcls tells, in the subject's words: each binding of the book that its filter
-- picks, once, in groups by kind, name and pattern.
use Rattle.std.specs.Prelude.{◌≢◌, Bool, ◌&&◌, List, [], map, flat_map, IsPermutation, Option, Some}
use Rattle.std.specs.Ordering.{int_eq}
use Rattle.std.specs.List.{IsDistinct, AllByRecursion}
use Rattle.std.specs.Str.{bytes_eq}
use Rattle.msg_acl.specs.declared.entries.BindingEntry.{BindingEntry}
use Rattle.msg_acl.specs.declared.describe_acls.DescribeAclsReply.{DescribeAclsReply}
use Rattle.msg_acl.specs.declared.describe_acls.DescribedAcl.{DescribedAcl}
use Rattle.msg_acl.specs.declared.describe_acls.DescribedResource.{DescribedResource}
use Rattle.acl_binding.specs.declared.filter.Filter.{Filter}
use Rattle.acl_binding.specs.Book.{BookValue, IsBook}
use Rattle.acl_binding.specs.Filter.{matching_bindings}
use Rattle.acl_handlers.specs.DeleteAcls.{entry_of_binding}

-- what a filter is answered
abbrev pub DescribeRule : Type 0
DescribeRule = BookValue → Option Filter → DescribeAclsReply

-- the groups that a filter is answered with
abbrev pub groups_of : DescribeRule → BookValue → Filter → List DescribedResource
groups_of describe_acls_reply book f = (describe_acls_reply book (Some f)).resources

-- one of a group's bindings, whole
abbrev pub described_entry : DescribedResource → DescribedAcl → BindingEntry
described_entry r a =
    record {
      kind = r.kind;
      name = r.name;
      pattern = r.pattern;
      principal = a.principal;
      host = a.host;
      operation = a.operation;
      permission = a.permission;
    }

-- the bindings that are told, one group after the other
abbrev pub described_entries : List DescribedResource → List BindingEntry
described_entries rs = flat_map (λ r. map (described_entry r) r.acls) rs

-- equal in all seven fields
abbrev pub same_entry : BindingEntry → BindingEntry → Bool
same_entry a b = int_eq a.kind b.kind && (bytes_eq a.name b.name && (int_eq a.pattern b.pattern
    && (bytes_eq a.principal b.principal
    && (bytes_eq a.host b.host
    && (int_eq a.operation b.operation && int_eq a.permission b.permission)))))

-- equal in kind, name and pattern
abbrev pub same_group : DescribedResource → DescribedResource → Bool
same_group r s = int_eq r.kind s.kind && (int_eq r.pattern s.pattern && bytes_eq r.name s.name)

-- each binding that the filter picks is told, once, in groups by kind, name and pattern
pub record DescribesEach (describe_acls_reply : DescribeRule) : Type 0 where
  -- what is told is what the filter picks, each as often, in some order
  pub each : (book : BookValue) (f : Filter)
      → IsPermutation (map entry_of_binding (matching_bindings book.entries f))
      (described_entries (groups_of describe_acls_reply book f))
  -- no binding is told twice
  pub once : (book : BookValue) (f : Filter) → IsBook book
      → IsDistinct same_entry (described_entries (groups_of describe_acls_reply book f))
  -- no two groups have one kind, name and pattern
  pub apart : (book : BookValue) (f : Filter)
      → IsDistinct same_group (groups_of describe_acls_reply book f)
  -- no group is without a binding
  pub some : (book : BookValue) (f : Filter)
      → AllByRecursion (λ r. r.acls ≢ []) (groups_of describe_acls_reply book f)
