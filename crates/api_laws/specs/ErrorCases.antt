-- No number of the table is idle: each of them is answered for a request of its api in some world.
use Rattle.std.specs.Prelude.{◌≡◌, ℕ, ℤ, pos, true, None}
use Rattle.std.specs.List.{list_any, AllByRecursion}
use Rattle.std.specs.Ordering.{int_eq}
use Rattle.acl_binding.specs.declared.question.Caller.{Caller}
use Rattle.msg_admin.specs.declared.request.Request.{Request}
use Rattle.msg_admin.specs.declared.request.Request.TheVariants as requests
use Rattle.audit_trail.specs.declared.event.Event.TheVariants.{Ask}
use Rattle.broker_world.specs.World.{World}
use Rattle.api_laws.specs.AskedTable.{AnswerRule}
use Rattle.api_laws.specs.ToldErrors.{all_errors}
use Rattle.api_laws.specs.ErrorTable.{errors_of}

-- the key of its api (Kafka protocol guide, "Api Keys")
abbrev pub api_key : Request → ℕ
api_key (requests.Produce r) = 0
api_key (requests.Fetch r) = 1
api_key (requests.ListOffsets r) = 2
api_key (requests.Metadata r) = 3
api_key (requests.OffsetCommit r) = 8
api_key (requests.OffsetFetch r) = 9
api_key (requests.FindCoordinator r) = 10
api_key (requests.JoinGroup r) = 11
api_key (requests.Heartbeat r) = 12
api_key (requests.LeaveGroup r) = 13
api_key (requests.SyncGroup r) = 14
api_key (requests.SaslHandshake r) = 17
api_key requests.ApiVersions = 18
api_key (requests.InitProducerId r) = 22
api_key (requests.AddPartitionsToTxn r) = 24
api_key (requests.AddOffsetsToTxn r) = 25
api_key (requests.EndTxn r) = 26
api_key (requests.TxnOffsetCommit r) = 28
api_key (requests.DescribeAcls r) = 29
api_key (requests.CreateAcls r) = 30
api_key (requests.DeleteAcls r) = 31
api_key (requests.SaslAuthenticate r) = 36

-- somebody is told the number for a request of this api in some world
pub record IsToldFor (reply_to : AnswerRule) (key number : ℕ) : Type 0 where
  pub world : World
  pub caller : Caller
  pub request : Request
  pub api : api_key request ≡ key
  pub told : list_any (λ (error : ℤ). int_eq error (pos number))
      (all_errors (reply_to world (Ask caller None request)))
      ≡ true

-- each number that the table lists for a request is told for one of the same api
abbrev pub ErrorsAreAnswered : AnswerRule → Type 0
ErrorsAreAnswered reply_to =
    (request : Request)
    → AllByRecursion (IsToldFor reply_to (api_key request)) (errors_of request)
