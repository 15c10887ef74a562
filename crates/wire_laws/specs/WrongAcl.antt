-- Wrong decoders and encoders of the messages about access control: each is the right one, but for
-- one mistake.
use Rattle.std.specs.Prelude.{ℤ, pos, map, if◌then◌else◌}
use Rattle.std.specs.Ordering.{int_eq}
use Rattle.msg_acl.specs.declared.entries.BindingEntry.{BindingEntry}
use Rattle.msg_acl.specs.declared.entries.FilterEntry.{FilterEntry}
use Rattle.msg_acl.specs.declared.describe_acls.DescribedResource.{DescribedResource}
use Rattle.msg_acl.specs.declared.delete_acls.DeletedAcl.{DeletedAcl}
use Rattle.msg_admin.specs.declared.request.Request.{Request}
use Rattle.msg_admin.specs.declared.reply.Reply.{Reply}
use Rattle.msg_admin.specs.Request.{request_at}
use Rattle.msg_admin.specs.Response.{response}
use Rattle.wire_laws.specs.Frames.{Decoder, Encoder}
use Rattle.wire_laws.specs.WrongFrames.{null_is_empty, with_request, each}
use Rattle.msg_admin.specs.declared.request.Request.TheVariants as requests
use Rattle.msg_admin.specs.declared.reply.Reply.TheVariants as replies

-- the next mistake, in a BindingEntry
abbrev exchange_binding : BindingEntry → BindingEntry
exchange_binding b = record b { operation = b.permission; permission = b.operation }

-- the next mistake, in a FilterEntry
abbrev exchange_filter : FilterEntry → FilterEntry
exchange_filter f = record f { operation = f.permission; permission = f.operation }

-- the next mistake, in a Request
abbrev exchange_permissions : Request → Request
exchange_permissions (requests.CreateAcls r) =
    requests.CreateAcls (record { creations = map exchange_binding r.creations })
exchange_permissions (requests.DescribeAcls r) =
    requests.DescribeAcls (record { filter = exchange_filter r.filter })
exchange_permissions (requests.DeleteAcls r) =
    requests.DeleteAcls (record { filters = map exchange_filter r.filters })
exchange_permissions r = r

-- the operation and the permission_type of a binding and of a filter are exchanged
abbrev pub operation_and_permission_exchanged : Decoder
operation_and_permission_exchanged = with_request exchange_permissions request_at

-- the next mistake, in a Request
abbrev exchange_who : Request → Request
exchange_who (requests.CreateAcls r) =
    requests.CreateAcls
    (record {
      creations = each r.creations (λ b. record b { principal = b.host; host = b.principal });
    })
exchange_who (requests.DescribeAcls r) =
    requests.DescribeAcls
    (record { filter = record r.filter { principal = r.filter.host; host = r.filter.principal } })
exchange_who (requests.DeleteAcls r) =
    requests.DeleteAcls
    (record {
      filters = each r.filters (λ f. record f { principal = f.host; host = f.principal });
    })
exchange_who r = r

-- the principal and the host of a binding and of a filter are exchanged
abbrev pub principal_and_host_exchanged : Decoder
principal_and_host_exchanged = with_request exchange_who request_at

-- the next mistake, in a FilterEntry
abbrev fill_name : FilterEntry → FilterEntry
fill_name f = record f { name = null_is_empty f.name }

-- the next mistake, in a Request
abbrev fill_names : Request → Request
fill_names (requests.DescribeAcls r) =
    requests.DescribeAcls (record { filter = fill_name r.filter })
fill_names (requests.DeleteAcls r) =
    requests.DeleteAcls (record { filters = map fill_name r.filters })
fill_names r = r

-- a filter whose resource_name_filter is null, so that any name fits, is read as one for an empty
-- name
abbrev pub null_names_are_empty : Decoder
null_names_are_empty = with_request fill_names request_at

-- the next mistake, in a number
abbrev other_permission : ℤ → ℤ
other_permission n =
    if int_eq n (pos 2) then pos 3 else if int_eq n (pos 3) then pos 2 else n

-- the next mistake, in a DescribedResource
abbrev swap_described : DescribedResource → DescribedResource
swap_described r =
    record r { acls = each r.acls (λ a. record a { permission = other_permission a.permission }) }

-- the next mistake, in a DeletedAcl
abbrev swap_deleted : DeletedAcl → DeletedAcl
swap_deleted d =
    record d {
      binding = record d.binding { permission = other_permission d.binding.permission };
    }

-- the next mistake, in a Reply
abbrev swap_permissions : Reply → Reply
swap_permissions (replies.DescribeAcls r) =
    replies.DescribeAcls (record r { resources = map swap_described r.resources })
swap_permissions (replies.DeleteAcls r) =
    replies.DeleteAcls
    (record r { results = each r.results (λ d. record d { matches = map swap_deleted d.matches }) })
swap_permissions r = r

-- 2 (DENY) is told as 3 (ALLOW), and the other way round
abbrev pub permissions_swapped : Encoder
permissions_swapped correlation r = response correlation (swap_permissions r)

-- the next mistake, in a Reply
abbrev exchange_kinds : Reply → Reply
exchange_kinds (replies.DescribeAcls r) =
    replies.DescribeAcls
    (record r {
      resources = each r.resources (λ x. record x { kind = x.pattern; pattern = x.kind });
    })
exchange_kinds r = r

-- the resource_type and the pattern_type of a resource are exchanged
abbrev pub kind_and_pattern_exchanged : Encoder
kind_and_pattern_exchanged correlation r = response correlation (exchange_kinds r)

-- the next mistake, in a Reply
abbrev fill_messages : Reply → Reply
fill_messages (replies.CreateAcls r) =
    replies.CreateAcls
    (record r { results = each r.results (λ c. record c { message = null_is_empty c.message }) })
fill_messages (replies.DescribeAcls r) =
    replies.DescribeAcls (record r { message = null_is_empty r.message })
fill_messages r = r

-- an error_message that is null is told as an empty one
abbrev pub null_messages_are_empty : Encoder
null_messages_are_empty correlation r = response correlation (fill_messages r)
