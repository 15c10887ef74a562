-- The part of a request that the binding list allows, by what the parts ask and by the verdicts
-- alone.
use Rattle.std.specs.Prelude.{ℕ, List, [], ◌∷◌, map, filter, Option, Some, None, is_none}
use Rattle.std.specs.Option.{option_map}
use Rattle.acl_binding.specs.declared.question.Caller.{Caller}
use Rattle.authorizer.specs.declared.answer.Refusal.{Refusal}
use Rattle.authorizer.specs.Asking.{Rules, part_refusal}
use Rattle.wire_types.specs.declared.error_code.ErrorCode.{ErrorCode}
use Rattle.wire_types.specs.declared.topic.Topic.{Topic}
use Rattle.msg_txn.specs.declared.add_partitions.AddPartitionsToTxnRequest.{AddPartitionsToTxnRequest}
use Rattle.msg_admin.specs.declared.request.Request.{Request}
use Rattle.msg_admin.specs.declared.request.Request.TheVariants as requests
use Rattle.walk.specs.Codes.{refusal_code}
use Rattle.api_dispatch.specs.Questions.{asks_itself, asks_at}
use Rattle.api_dispatch.specs.Refusals.{request_refusals}

-- What is left of a request.
pub data Allowed : Type 0 where
  -- the request without its refused parts
  Rest : Request → Allowed
  -- an AddPartitionsToTxn of which a part is refused, without its refused parts: nothing may be
  -- added
  Cut : AddPartitionsToTxnRequest → Allowed
  -- nothing: the request itself is refused, with this code
  Nothing : ErrorCode → Allowed

-- ---- what is refused

-- the refusal of the request itself
abbrev pub refused_itself : Rules → Caller → Request → Option Refusal
refused_itself rules caller request = part_refusal rules (asks_itself rules caller request)

-- the refusal of each of its parts that is of the topic of this name
abbrev pub refused_at : Rules → Caller → Request → List ℕ → Option Refusal
refused_at rules caller request name = part_refusal rules (asks_at caller request name)

-- ---- a request without what is refused at its topics

abbrev pub unrefused_names : (List ℕ → Option Refusal) → List (List ℕ) → List (List ℕ)
unrefused_names refused names = filter (λ (name : List ℕ). is_none (refused name)) names

-- a topic keeps its place, also without partitions
abbrev pub unrefused_topic : {P : Type 0} → (List ℕ → Option Refusal) → Topic P → Topic P
unrefused_topic {P} refused t =
    record { name = t.name; partitions = filter (λ (p : P). is_none (refused t.name)) t.partitions }

abbrev pub unrefused_topics : {P : Type 0} → (List ℕ → Option Refusal) → List (Topic P)
    → List (Topic P)
unrefused_topics refused ts = map (unrefused_topic refused) ts

-- a null list stays null
abbrev pub unrefused_request : (List ℕ → Option Refusal) → Request → Request
unrefused_request refused (requests.Produce r) =
    requests.Produce (record r { topics = unrefused_topics refused r.topics })
unrefused_request refused (requests.Fetch r) =
    requests.Fetch (record r { topics = unrefused_topics refused r.topics })
unrefused_request refused (requests.ListOffsets r) =
    requests.ListOffsets (record r { topics = unrefused_topics refused r.topics })
unrefused_request refused (requests.Metadata r) =
    requests.Metadata (record r { topics = option_map (unrefused_names refused) r.topics })
unrefused_request refused (requests.OffsetCommit r) =
    requests.OffsetCommit (record r { topics = unrefused_topics refused r.topics })
unrefused_request refused (requests.OffsetFetch r) =
    requests.OffsetFetch (record r { topics = option_map (unrefused_topics refused) r.topics })
unrefused_request refused (requests.TxnOffsetCommit r) =
    requests.TxnOffsetCommit (record r { topics = unrefused_topics refused r.topics })
unrefused_request refused request = request

-- ---- what is allowed of a request

-- by the refusal of the request itself
abbrev pub rest_or_nothing : Request → Option Refusal → Allowed
rest_or_nothing request None = Rest request
rest_or_nothing request (Some r) = Nothing (refusal_code r)

-- an AddPartitionsToTxn is done whole or not at all, by its refusals
abbrev pub whole_or_cut : Request → AddPartitionsToTxnRequest → List Refusal → Allowed
whole_or_cut request cut [] = Rest request
whole_or_cut request cut (r ∷ rs) = Cut cut

abbrev pub allowed_part : Rules → Caller → Request → Allowed
allowed_part rules caller (requests.AddPartitionsToTxn r) =
    whole_or_cut (requests.AddPartitionsToTxn r)
    (record r {
      topics = unrefused_topics (refused_at rules caller (requests.AddPartitionsToTxn r))
          r.topics;
    })
    (request_refusals rules caller (requests.AddPartitionsToTxn r))
allowed_part rules caller request =
    rest_or_nothing (unrefused_request (refused_at rules caller request) request)
    (refused_itself rules caller request)
