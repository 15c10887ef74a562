use Rattle.std.proofs.Common.{◌≡◌, refl, sym, ap, ◌∙◌, rules, w16, to_z, of_z}
use Rattle.std.proofs.lemmas.Int.{to_z-of_z}
use Rattle.std.specs.Int.RustNames.{FitsSigned}
use Rattle.msg_admin.specs.declared.api_key.ApiKey.{ApiKey}
use Rattle.msg_admin.specs.declared.api_key.ApiKey.TheVariants as keys
use Rattle.msg_admin.specs.ApiKey.{number_of, is_served}
use Rattle.msg_admin.specs.Api.{api_at-own}
use Rattle.msg_admin.proofs.header.Header.new.Goals as goal

number_again : (key : ApiKey) → to_z w16 (of_z w16 (number_of key)) ≡ number_of key
number_again keys.Produce = refl
number_again keys.Fetch = refl
number_again keys.ListOffsets = refl
number_again keys.Metadata = refl
number_again keys.OffsetCommit = refl
number_again keys.OffsetFetch = refl
number_again keys.FindCoordinator = refl
number_again keys.JoinGroup = refl
number_again keys.Heartbeat = refl
number_again keys.LeaveGroup = refl
number_again keys.SyncGroup = refl
number_again keys.SaslHandshake = refl
number_again keys.ApiVersions = refl
number_again keys.InitProducerId = refl
number_again keys.AddPartitionsToTxn = refl
number_again keys.AddOffsetsToTxn = refl
number_again keys.EndTxn = refl
number_again keys.TxnOffsetCommit = refl
number_again keys.DescribeAcls = refl
number_again keys.CreateAcls = refl
number_again keys.DeleteAcls = refl
number_again keys.SaslAuthenticate = refl

pub returns-clause-served : goal.returns-clause-served
returns-clause-served c =
    let fits : FitsSigned w16 c.version.result = search rules in
    let version = to_z-of_z w16 c.version.result fits ∙ c.version.ensures.value in
    let served = ap (is_served c.args.api.key) (sym c.version.ensures.value) ∙ c.version.ensures.served in
    rw (c.number.ensures, c.key.ensures, number_again c.args.api.key, version) (api_at-own c.args.api.key c.args.api.version served)
