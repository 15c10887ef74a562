-- The apis that are served, and the table of them (Kafka protocol guide, "Api Keys"). From the
-- first flexible version on the messages of an api have tagged sections (KIP-482, "The Kafka
-- Protocol should Support Optional Tagged Fields").
use Rattle.std.specs.Prelude.{◌≡◌, ℤ, pos, int_le, Bool, true, ◌&&◌, List, [], ◌∷◌, Option, Some, None, refl}
use Rattle.std.specs.List.{find}
use Rattle.std.specs.Ordering.{int_eq}
use Rattle.msg_admin.specs.declared.api_key.ApiKey.{ApiKey}
use Rattle.msg_admin.specs.declared.api_key.ApiKey.TheVariants as keys
use Rattle.msg_admin.specs.declared.api_key.ServedApi.{ServedApi}

-- an api in a version
pub record VersionedKey : Type 0 where
  pub key : ApiKey
  pub version : ℤ

-- number, first and last version, and the first flexible one
abbrev pub row : ℤ → ℤ → ℤ → Option ℤ → ServedApi
row number first last flexible_from =
    record { number = number; first = first; last = last; flexible_from = flexible_from }

abbrev pub served_api : ApiKey → ServedApi
served_api keys.Produce = row (pos 0) (pos 3) (pos 3) None
served_api keys.Fetch = row (pos 1) (pos 4) (pos 4) None
served_api keys.ListOffsets = row (pos 2) (pos 2) (pos 2) None
served_api keys.Metadata = row (pos 3) (pos 1) (pos 1) None
served_api keys.OffsetCommit = row (pos 8) (pos 2) (pos 2) None
served_api keys.OffsetFetch = row (pos 9) (pos 7) (pos 7) (Some (pos 6))
served_api keys.FindCoordinator = row (pos 10) (pos 1) (pos 1) None
served_api keys.JoinGroup = row (pos 11) (pos 2) (pos 2) None
served_api keys.Heartbeat = row (pos 12) (pos 1) (pos 1) None
served_api keys.LeaveGroup = row (pos 13) (pos 1) (pos 1) None
served_api keys.SyncGroup = row (pos 14) (pos 1) (pos 1) None
served_api keys.SaslHandshake = row (pos 17) (pos 1) (pos 1) None
served_api keys.ApiVersions = row (pos 18) (pos 0) (pos 0) None
served_api keys.InitProducerId = row (pos 22) (pos 0) (pos 0) None
served_api keys.AddPartitionsToTxn = row (pos 24) (pos 0) (pos 0) None
served_api keys.AddOffsetsToTxn = row (pos 25) (pos 0) (pos 0) None
served_api keys.EndTxn = row (pos 26) (pos 0) (pos 5) (Some (pos 3))
served_api keys.TxnOffsetCommit = row (pos 28) (pos 3) (pos 3) (Some (pos 3))
served_api keys.DescribeAcls = row (pos 29) (pos 1) (pos 1) None
served_api keys.CreateAcls = row (pos 30) (pos 1) (pos 1) None
served_api keys.DeleteAcls = row (pos 31) (pos 1) (pos 1) None
served_api keys.SaslAuthenticate = row (pos 36) (pos 0) (pos 0) None

-- the number under which a request names an api
abbrev pub number_of : ApiKey → ℤ
number_of key = (served_api key).number

-- an api is served in each version from the first to the last
abbrev pub is_served : ApiKey → ℤ → Bool
is_served key version =
    int_le (served_api key).first version && int_le version (served_api key).last

unfoldable pub all_keys : List ApiKey
all_keys =
    keys.Produce ∷ keys.Fetch ∷ keys.ListOffsets ∷ keys.Metadata ∷ keys.OffsetCommit
    ∷ keys.OffsetFetch ∷ keys.FindCoordinator ∷ keys.JoinGroup ∷ keys.Heartbeat ∷ keys.LeaveGroup
    ∷ keys.SyncGroup ∷ keys.SaslHandshake ∷ keys.ApiVersions ∷ keys.InitProducerId
    ∷ keys.AddPartitionsToTxn ∷ keys.AddOffsetsToTxn ∷ keys.EndTxn ∷ keys.TxnOffsetCommit
    ∷ keys.DescribeAcls ∷ keys.CreateAcls ∷ keys.DeleteAcls ∷ keys.SaslAuthenticate ∷ []

-- the api of a number
unfoldable pub key_at : ℤ → Option ApiKey
key_at number = find (λ key. int_eq (number_of key) number) all_keys

-- each api is found under its own number
pub key_at-own : (key : ApiKey) → key_at (number_of key) ≡ Some key
unfolding key_at all_keys
key_at-own keys.Produce = refl
key_at-own keys.Fetch = refl
key_at-own keys.ListOffsets = refl
key_at-own keys.Metadata = refl
key_at-own keys.OffsetCommit = refl
key_at-own keys.OffsetFetch = refl
key_at-own keys.FindCoordinator = refl
key_at-own keys.JoinGroup = refl
key_at-own keys.Heartbeat = refl
key_at-own keys.LeaveGroup = refl
key_at-own keys.SyncGroup = refl
key_at-own keys.SaslHandshake = refl
key_at-own keys.ApiVersions = refl
key_at-own keys.InitProducerId = refl
key_at-own keys.AddPartitionsToTxn = refl
key_at-own keys.AddOffsetsToTxn = refl
key_at-own keys.EndTxn = refl
key_at-own keys.TxnOffsetCommit = refl
key_at-own keys.DescribeAcls = refl
key_at-own keys.CreateAcls = refl
key_at-own keys.DeleteAcls = refl
key_at-own keys.SaslAuthenticate = refl

-- each is served in the last version
pub is_served-last : (key : ApiKey) → is_served key (served_api key).last ≡ true
is_served-last keys.Produce = refl
is_served-last keys.Fetch = refl
is_served-last keys.ListOffsets = refl
is_served-last keys.Metadata = refl
is_served-last keys.OffsetCommit = refl
is_served-last keys.OffsetFetch = refl
is_served-last keys.FindCoordinator = refl
is_served-last keys.JoinGroup = refl
is_served-last keys.Heartbeat = refl
is_served-last keys.LeaveGroup = refl
is_served-last keys.SyncGroup = refl
is_served-last keys.SaslHandshake = refl
is_served-last keys.ApiVersions = refl
is_served-last keys.InitProducerId = refl
is_served-last keys.AddPartitionsToTxn = refl
is_served-last keys.AddOffsetsToTxn = refl
is_served-last keys.EndTxn = refl
is_served-last keys.TxnOffsetCommit = refl
is_served-last keys.DescribeAcls = refl
is_served-last keys.CreateAcls = refl
is_served-last keys.DeleteAcls = refl
is_served-last keys.SaslAuthenticate = refl
