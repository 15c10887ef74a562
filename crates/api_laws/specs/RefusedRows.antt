-- What the refusals of a request are of, as the audit tells them: for each refused part the first
-- row that isn't granted.
use Rattle.std.specs.Prelude.{◌≡◌, ℕ, ℤ, List, [], ◌∷◌, map, Option, Some, None}
use Rattle.std.specs.List.{flat_map, filter_map}
use Rattle.acl_binding.specs.declared.question.Caller.{Caller}
use Rattle.acl_binding.specs.declared.question.Verdict.{Verdict}
use Rattle.acl_binding.specs.declared.question.Verdict.TheVariants.{Yes, Denied, Nothing}
use Rattle.authorizer.specs.declared.answer.DenyReason.{DenyReason}
use Rattle.authorizer.specs.declared.answer.DenyReason.TheVariants as why
use Rattle.authorizer.specs.declared.answer.Refusal.{Refusal}
use Rattle.authorizer.specs.Policy.{verdict}
use Rattle.wire_types.specs.declared.topic.Topic.{Topic}
use Rattle.msg_admin.specs.declared.request.Request.{Request}
use Rattle.msg_admin.specs.declared.request.Request.TheVariants as requests
use Rattle.audit_trail.specs.declared.event.Event.{Event}
use Rattle.audit_trail.specs.declared.event.Event.TheVariants.{Ask}
use Rattle.broker_world.specs.World.{World}
use Rattle.api_laws.specs.AskedTable.{Row, row_question, request_rows, topic_rows, first_refused}

-- ---- what each part asks, in order; a null list has no part

abbrev pub rows_of_parts : {P : Type 0} → (List ℕ → List Row) → List (Topic P) → List (List Row)
rows_of_parts {P} rows ts = flat_map (λ (t : Topic P). map (λ (p : P). rows t.name) t.partitions) ts

abbrev pub rows_of_names : (List ℕ → List Row) → Option (List (List ℕ)) → List (List Row)
rows_of_names rows None = []
rows_of_names rows (Some names) = map rows names

abbrev pub rows_of_offsets : (List ℕ → List Row) → Option (List (Topic ℤ)) → List (List Row)
rows_of_offsets rows None = []
rows_of_offsets rows (Some ts) = rows_of_parts rows ts

abbrev pub part_rows : Request → List (List Row)
part_rows (requests.Produce r) = rows_of_parts (topic_rows (requests.Produce r)) r.topics
part_rows (requests.Fetch r) = rows_of_parts (topic_rows (requests.Fetch r)) r.topics
part_rows (requests.ListOffsets r) = rows_of_parts (topic_rows (requests.ListOffsets r)) r.topics
part_rows (requests.Metadata r) = rows_of_names (topic_rows (requests.Metadata r)) r.topics
part_rows (requests.OffsetCommit r) = rows_of_parts (topic_rows (requests.OffsetCommit r)) r.topics
part_rows (requests.OffsetFetch r) = rows_of_offsets (topic_rows (requests.OffsetFetch r)) r.topics
part_rows (requests.AddPartitionsToTxn r) =
    rows_of_parts (topic_rows (requests.AddPartitionsToTxn r)) r.topics
part_rows (requests.TxnOffsetCommit r) =
    rows_of_parts (topic_rows (requests.TxnOffsetCommit r)) r.topics
part_rows request = []

-- ---- what is refused of it

-- the request itself alone, if it is refused, and else its parts
abbrev pub itself_or : Option Row → List Row → List Row
itself_or (Some r) parts = r ∷ []
itself_or None parts = parts

abbrev pub refused_rows : World → Caller → Request → List Row
refused_rows w caller request =
    itself_or (first_refused w caller (request_rows w caller request))
    (filter_map (first_refused w caller) (part_rows request))

-- by its verdict: the binding that denies it, or that nothing allows it
abbrev pub reason : Verdict → DenyReason
reason (Denied n) = why.Denied n
reason Nothing = why.Nothing
reason Yes = why.Nothing

abbrev pub row_refusal : World → Caller → Row → Refusal
row_refusal w caller r =
    record {
      question = row_question caller r;
      why = reason (verdict w.book w.supers (row_question caller r));
    }

-- the refusals that the trail keeps of an event
abbrev pub RefusalsRule : Type 0
RefusalsRule = World → Event → List Refusal

-- the refusals of a request are one for each of its refused rows, in order, and no other
abbrev pub RefusalsByTable : RefusalsRule → Type 0
RefusalsByTable refusals_of =
    (w : World) (caller : Caller) (client : Option (List ℕ)) (request : Request)
    → refusals_of w (Ask caller client request)
    ≡ map (row_refusal w caller) (refused_rows w caller request)
