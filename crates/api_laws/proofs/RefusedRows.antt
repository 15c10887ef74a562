-- The refusals of a request are of the first row that isn't granted of each of its parts.
use Rattle.std.proofs.Common.{◌≡◌, ℕ, ℤ, List, [], ◌∷◌, ◌++◌, map, cond, Option, Some, None, refl, sym, ap, ◌∙◌}
use Rattle.std.specs.List.{cons_option, filter_map}
use Rattle.std.specs.Option.{option_map}
use Rattle.acl_binding.specs.declared.question.Caller.{Caller}
use Rattle.acl_binding.specs.declared.question.Question.{Question}
use Rattle.acl_binding.specs.declared.question.Verdict.{Verdict}
use Rattle.acl_binding.specs.declared.question.Verdict.TheVariants.{Yes, Denied, Nothing}
use Rattle.authorizer.specs.declared.answer.Refusal.{Refusal}
use Rattle.authorizer.specs.Policy.{verdict}
use Rattle.authorizer.specs.Asking.{refusal_by, first_of, part_refusal}
use Rattle.wire_types.specs.declared.topic.Topic.{Topic}
use Rattle.msg_data.specs.declared.metadata.MetadataRequest.{MetadataRequest}
use Rattle.msg_group.specs.declared.offset_fetch.OffsetFetchRequest.{OffsetFetchRequest}
use Rattle.msg_admin.specs.declared.request.Request.{Request}
use Rattle.msg_admin.specs.declared.request.Request.TheVariants as requests
use Rattle.broker_world.specs.World.{World, rules_of}
use Rattle.api_dispatch.specs.Questions.{asks_itself, asks_at, partition_parts, topic_parts, offset_parts}
use Rattle.api_dispatch.specs.Refusals.{refusals_in, refusal_or_rest, request_refusals}
use Rattle.api_dispatch.specs.Step.{refusals_of}
use Rattle.api_dispatch.proofs.Told.{refusals_are_of_parts}
use Rattle.api_laws.specs.Headline.{is_yes}
use Rattle.api_laws.specs.AskedTable.{Row, row_question, request_rows, topic_rows, first_refused}
use Rattle.api_laws.specs.RefusedRows.{rows_of_parts, rows_of_names, rows_of_offsets, part_rows, itself_or, refused_rows, reason, row_refusal, RefusalsByTable}
use Rattle.api_laws.proofs.AskedTable.{same_itself, same_of_topic}

-- ---- lists

map_append : {X Y : Type 0} (f : X → Y) (xs ys : List X) → map f (xs ++ ys) ≡ map f xs ++ map f ys
map_append f [] ys = refl
map_append f (x ∷ xs) ys = ap (λ l. f x ∷ l) (map_append f xs ys)

-- the request itself, or its parts
itself_same : (f : Row → Refusal) (x : Option Row) (rows : List Row) → refusal_or_rest (option_map f x) (map f rows) ≡ map f (itself_or x rows)
itself_same f None rows = refl
itself_same f (Some r) rows = refl

one_same : (f : Row → Refusal) (x : Option Row) → cons_option (option_map f x) [] ≡ map f (itself_or x [])
one_same f None = refl
one_same f (Some r) = refl

cons_same : (f : Row → Refusal) (x : Option Row) (rows : List Row) → cons_option (option_map f x) (map f rows) ≡ map f (cons_option x rows)
cons_same f None rows = refl
cons_same f (Some r) rows = refl

module _ (caller : Caller) where
  -- ---- what the parts ask

  parts_same : {P : Type 0} (asks : List ℕ → List Question) (rows : List ℕ → List Row) → ((name : List ℕ) → asks name ≡ map (row_question caller) (rows name)) → (name : List ℕ) (ps : List P) → map (λ (p : P). asks name) ps ≡ map (λ (l : List Row). map (row_question caller) l) (map (λ (p : P). rows name) ps)
  parts_same asks rows same name [] = refl
  parts_same asks rows same name (p ∷ ps) = let here = same name in let rest = parts_same asks rows same name ps in λ i. here i ∷ rest i

  topics_same : {P : Type 0} (asks : List ℕ → List Question) (rows : List ℕ → List Row) → ((name : List ℕ) → asks name ≡ map (row_question caller) (rows name)) → (ts : List (Topic P)) → partition_parts asks ts ≡ map (λ (l : List Row). map (row_question caller) l) (rows_of_parts rows ts)
  topics_same asks rows same [] = refl
  topics_same {P = P} asks rows same (t ∷ ts) =
      let here = parts_same asks rows same t.name t.partitions in
      let rest = topics_same asks rows same ts in
      (λ i. here i ++ rest i) ∙ sym (map_append (λ (l : List Row). map (row_question caller) l) (map (λ (p : P). rows t.name) t.partitions) (rows_of_parts rows ts))

  names_same : (r : MetadataRequest) (topics : Option (List (List ℕ))) → topic_parts caller topics ≡ map (λ (l : List Row). map (row_question caller) l) (rows_of_names (topic_rows (requests.Metadata r)) topics)
  names_same r None = refl
  names_same r (Some []) = refl
  names_same r (Some (name ∷ names)) = ap (λ (l : List (List Question)). asks_at caller (requests.Metadata r) name ∷ l) (names_same r (Some names))

  offsets_same : (r : OffsetFetchRequest) (topics : Option (List (Topic ℤ))) → offset_parts caller topics ≡ map (λ (l : List Row). map (row_question caller) l) (rows_of_offsets (topic_rows (requests.OffsetFetch r)) topics)
  offsets_same r None = refl
  offsets_same r (Some ts) = topics_same (asks_at caller (requests.OffsetFetch r)) (topic_rows (requests.OffsetFetch r)) (λ name. refl) ts

-- ---- what is refused

module _ (w : World) (caller : Caller) where
  first_same : (rows : List Row) → part_refusal (rules_of w) (map (row_question caller) rows) ≡ option_map (row_refusal w caller) (first_refused w caller rows)
  first_same [] = refl
  first_same (r ∷ rows) = by_verdict (verdict w.book w.supers (row_question caller r)) refl (first_same rows) where
    by_verdict : (x : Verdict) → verdict w.book w.supers (row_question caller r) ≡ x → part_refusal (rules_of w) (map (row_question caller) rows) ≡ option_map (row_refusal w caller) (first_refused w caller rows)
        → first_of (refusal_by x (row_question caller r)) (part_refusal (rules_of w) (map (row_question caller) rows)) ≡ option_map (row_refusal w caller) (cond (is_yes x) (first_refused w caller rows) (Some r))
    by_verdict Yes is rest = rest
    by_verdict (Denied n) is rest = ap (λ (v : Verdict). Some (record { question = row_question caller r; why = reason v })) (sym is)
    by_verdict Nothing is rest = ap (λ (v : Verdict). Some (record { question = row_question caller r; why = reason v })) (sym is)

  in_order : (parts : List (List Row)) → refusals_in (rules_of w) (map (λ (l : List Row). map (row_question caller) l) parts) ≡ map (row_refusal w caller) (filter_map (first_refused w caller) parts)
  in_order [] = refl
  in_order (rows ∷ parts) =
      let here = first_same rows in
      let rest = in_order parts in
      (λ i. cons_option (here i) (rest i)) ∙ cons_same (row_refusal w caller) (first_refused w caller rows) (filter_map (first_refused w caller) parts)

  -- those of a request whose parts ask
  of_parts : (parts : List (List Question)) (rows : List (List Row)) → parts ≡ map (λ (l : List Row). map (row_question caller) l) rows → refusals_in (rules_of w) parts ≡ map (row_refusal w caller) (filter_map (first_refused w caller) rows)
  of_parts parts rows same = ap (λ (l : List (List Question)). refusals_in (rules_of w) l) same ∙ in_order rows

  -- and of one that asks itself
  of_itself : (request : Request) → cons_option (part_refusal (rules_of w) (asks_itself (rules_of w) caller request)) [] ≡ map (row_refusal w caller) (itself_or (first_refused w caller (request_rows w caller request)) [])
  of_itself request =
      ap (λ (o : Option Refusal). cons_option o []) (same_itself w caller request ∙ first_same (request_rows w caller request)) ∙ one_same (row_refusal w caller) (first_refused w caller (request_rows w caller request))

  of_request : (request : Request) → request_refusals (rules_of w) caller request ≡ map (row_refusal w caller) (refused_rows w caller request)
  of_request (requests.Produce r) = of_parts _ (part_rows (requests.Produce r)) (topics_same caller (asks_at caller (requests.Produce r)) (topic_rows (requests.Produce r)) (same_of_topic caller (requests.Produce r)) r.topics)
  of_request (requests.Fetch r) = of_parts _ (part_rows (requests.Fetch r)) (topics_same caller (asks_at caller (requests.Fetch r)) (topic_rows (requests.Fetch r)) (same_of_topic caller (requests.Fetch r)) r.topics)
  of_request (requests.ListOffsets r) = of_parts _ (part_rows (requests.ListOffsets r)) (topics_same caller (asks_at caller (requests.ListOffsets r)) (topic_rows (requests.ListOffsets r)) (same_of_topic caller (requests.ListOffsets r)) r.topics)
  of_request (requests.Metadata r) = of_parts _ (part_rows (requests.Metadata r)) (names_same caller r r.topics)
  of_request (requests.OffsetCommit r) = of_parts _ (part_rows (requests.OffsetCommit r)) (topics_same caller (asks_at caller (requests.OffsetCommit r)) (topic_rows (requests.OffsetCommit r)) (same_of_topic caller (requests.OffsetCommit r)) r.topics)
  of_request (requests.OffsetFetch r) =
      let here = first_same (request_rows w caller (requests.OffsetFetch r)) in
      let rest = of_parts (offset_parts caller r.topics) (part_rows (requests.OffsetFetch r)) (offsets_same caller r r.topics) in
      (λ i. refusal_or_rest (here i) (rest i)) ∙ itself_same (row_refusal w caller) (first_refused w caller (request_rows w caller (requests.OffsetFetch r))) (filter_map (first_refused w caller) (part_rows (requests.OffsetFetch r)))
  of_request (requests.FindCoordinator r) = of_itself (requests.FindCoordinator r)
  of_request (requests.JoinGroup r) = of_itself (requests.JoinGroup r)
  of_request (requests.Heartbeat r) = of_itself (requests.Heartbeat r)
  of_request (requests.LeaveGroup r) = of_itself (requests.LeaveGroup r)
  of_request (requests.SyncGroup r) = of_itself (requests.SyncGroup r)
  of_request (requests.SaslHandshake r) = refl
  of_request requests.ApiVersions = refl
  of_request (requests.InitProducerId r) = of_itself (requests.InitProducerId r)
  of_request (requests.AddPartitionsToTxn r) =
      of_parts _ (part_rows (requests.AddPartitionsToTxn r)) (topics_same caller (asks_at caller (requests.AddPartitionsToTxn r)) (topic_rows (requests.AddPartitionsToTxn r)) (same_of_topic caller (requests.AddPartitionsToTxn r)) r.topics)
  of_request (requests.AddOffsetsToTxn r) = of_itself (requests.AddOffsetsToTxn r)
  of_request (requests.EndTxn r) = of_itself (requests.EndTxn r)
  of_request (requests.TxnOffsetCommit r) = of_parts _ (part_rows (requests.TxnOffsetCommit r)) (topics_same caller (asks_at caller (requests.TxnOffsetCommit r)) (topic_rows (requests.TxnOffsetCommit r)) (same_of_topic caller (requests.TxnOffsetCommit r)) r.topics)
  of_request (requests.DescribeAcls r) = of_itself (requests.DescribeAcls r)
  of_request (requests.CreateAcls r) = of_itself (requests.CreateAcls r)
  of_request (requests.DeleteAcls r) = of_itself (requests.DeleteAcls r)
  of_request (requests.SaslAuthenticate r) = refl

pub refusals_by_table : RefusalsByTable refusals_of
refusals_by_table w caller client request = refusals_are_of_parts w caller client request ∙ of_request w caller request
