-- The texts of each answer decide whether it fits.
use Rattle.wire_types.proofs.StringLaws.{TellsStrings, int8_strings, int32_strings, both_strings, front_strings, struct_strings, error_code_strings, string_strings, nullable_strings, array_strings}
use Rattle.msg_acl.specs.Entries.{binding_entry, binding_strings}
use Rattle.msg_acl.specs.DescribeAcls.{described_acl, described_resource, describe_acls_reply, described_acl_strings, described_resource_strings, describe_acls_strings}
use Rattle.msg_acl.specs.CreateAcls.{created_acl, create_acls_reply, created_acl_strings, create_acls_strings}
use Rattle.msg_acl.specs.DeleteAcls.{deleted_acl, deleted_acls, delete_acls_reply, deleted_acl_strings, deleted_acls_strings, delete_acls_strings}

binding_tells : TellsStrings binding_entry binding_strings
binding_tells = struct_strings _ _ _ _ _ _ (both_strings int8_strings (both_strings string_strings (both_strings int8_strings (both_strings string_strings (front_strings string_strings (both_strings int8_strings int8_strings))))))

described_acl_tells : TellsStrings described_acl described_acl_strings
described_acl_tells = struct_strings _ _ _ _ _ _ (both_strings string_strings (front_strings string_strings (both_strings int8_strings int8_strings)))

described_resource_tells : TellsStrings described_resource described_resource_strings
described_resource_tells = struct_strings _ _ _ _ _ _ (both_strings int8_strings (both_strings string_strings (both_strings int8_strings (array_strings described_acl_tells))))

pub describe_acls_tells : TellsStrings describe_acls_reply describe_acls_strings
describe_acls_tells = struct_strings _ _ _ _ _ _ (both_strings int32_strings (both_strings error_code_strings (both_strings nullable_strings (array_strings described_resource_tells))))

created_acl_tells : TellsStrings created_acl created_acl_strings
created_acl_tells = struct_strings _ _ _ _ _ _ (both_strings error_code_strings nullable_strings)

pub create_acls_tells : TellsStrings create_acls_reply create_acls_strings
create_acls_tells = struct_strings _ _ _ _ _ _ (both_strings int32_strings (array_strings created_acl_tells))

deleted_acl_tells : TellsStrings deleted_acl deleted_acl_strings
deleted_acl_tells = struct_strings _ _ _ _ _ _ (both_strings error_code_strings (both_strings nullable_strings binding_tells))

deleted_acls_tells : TellsStrings deleted_acls deleted_acls_strings
deleted_acls_tells = struct_strings _ _ _ _ _ _ (both_strings error_code_strings (both_strings nullable_strings (array_strings deleted_acl_tells)))

pub delete_acls_tells : TellsStrings delete_acls_reply delete_acls_strings
delete_acls_tells = struct_strings _ _ _ _ _ _ (both_strings int32_strings (array_strings deleted_acls_tells))
