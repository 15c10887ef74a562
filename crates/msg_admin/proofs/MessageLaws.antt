-- The laws between bytes, requests and replies.
use Rattle.std.proofs.Common.{◌≡◌, ℕ, ℤ, pos, ◌+◌, ◌≤◌, ◌^◌, ◌⊎◌, inl, inr, true, ◌&&◌, ltb, List, [], ◌++◌, length, drop, Option, Some, None, Result, Ok, Err, refl, sym, ap, subst, ◌∙◌, arith}
use Rattle.std.specs.Prelude.{int_le, IfOk}
use Rattle.std.specs.Option.{IsSomeAnd}
use Rattle.std.proofs.lemmas.Bool.{lt-ltb}
use Rattle.std.proofs.lemmas.Int.{ints}
use Rattle.std.proofs.lemmas.List.{length-append, drop_at}
use Rattle.wire_types.specs.declared.fault.ReadFault.{ReadFault}
use Rattle.wire_types.specs.Grammar.{Grammar, IsBytes}
use Rattle.wire_types.specs.ListLaws.{and_parts}
use Rattle.wire_types.specs.NumberLaws.{ok_is, IsBytes-front, IsBytes-rest}
use Rattle.wire_types.specs.Combinators.{◌⨟◌}
use Rattle.wire_types.specs.Schema.{int32}
use Rattle.msg_data.specs.Produce.{produce_request}
use Rattle.msg_data.specs.Fetch.{fetch_request}
use Rattle.msg_data.specs.ListOffsets.{list_offsets_request}
use Rattle.msg_data.specs.Metadata.{metadata_request}
use Rattle.msg_acl.specs.DescribeAcls.{describe_acls_request}
use Rattle.msg_acl.specs.CreateAcls.{create_acls_request}
use Rattle.msg_acl.specs.DeleteAcls.{delete_acls_request}
use Rattle.msg_txn.specs.InitProducerId.{init_producer_id_request}
use Rattle.msg_group.specs.OffsetCommit.{offset_commit_request}
use Rattle.msg_group.specs.OffsetFetch.{offset_fetch_request}
use Rattle.msg_txn.specs.FindCoordinator.{find_coordinator_request}
use Rattle.msg_group.specs.JoinGroup.{join_group_request}
use Rattle.msg_group.specs.Heartbeat.{heartbeat_request}
use Rattle.msg_group.specs.LeaveGroup.{leave_group_request}
use Rattle.msg_group.specs.SyncGroup.{sync_group_request}
use Rattle.msg_txn.specs.AddPartitions.{add_partitions_to_txn_request}
use Rattle.msg_txn.specs.AddOffsets.{add_offsets_to_txn_request}
use Rattle.msg_txn.specs.declared.end_txn.EndTxnRequest.{EndTxnRequest}
use Rattle.msg_txn.specs.declared.end_txn.EndTxnRequest.TheVariants as endings
use Rattle.msg_txn.specs.EndTxn.{version_asked, end_txn, flexible_end_txn, end_txn_request, asked_in_0, asked_in_0-only, asked_in_1, asked_in_1-only, asked_in_2, asked_in_2-only, asked_in_3, asked_in_3-only, asked_in_4, asked_in_4-only, asked_in_5, asked_in_5-only}
use Rattle.msg_txn.specs.TxnOffsetCommit.{txn_offset_commit_request}
use Rattle.msg_login.specs.SaslHandshake.{sasl_handshake_request}
use Rattle.msg_login.specs.SaslAuthenticate.{sasl_authenticate_request}
use Rattle.msg_admin.specs.declared.api_key.ApiKey.{ApiKey}
use Rattle.msg_admin.specs.declared.api_key.ApiKey.TheVariants as keys
use Rattle.msg_admin.specs.declared.api.Api.{Api}
use Rattle.msg_admin.specs.declared.header.Header.{Header}
use Rattle.msg_admin.specs.declared.request.Request.{Request}
use Rattle.msg_admin.specs.declared.request.Request.TheVariants as requests
use Rattle.msg_admin.specs.declared.reply.Reply.{Reply}
use Rattle.msg_admin.specs.ApiKey.{is_served}
use Rattle.msg_admin.specs.Api.{api_in, api_at, is_flexible}
use Rattle.msg_admin.specs.Header.{header, request_header, response_header, least_header}
use Rattle.msg_admin.specs.Bodies.{api_of, sent_as, request_form, request_body, reply_body, asked_produce, produce-asked, asked_fetch, fetch-asked, asked_list_offsets, list_offsets-asked, asked_metadata, metadata-asked, asked_offset_commit, offset_commit-asked, asked_offset_fetch, offset_fetch-asked, asked_find_coordinator, find_coordinator-asked, asked_join_group, join_group-asked, asked_heartbeat, heartbeat-asked, asked_leave_group, leave_group-asked, asked_sync_group, sync_group-asked, asked_init_producer_id, init_producer_id-asked, asked_add_partitions_to_txn, add_partitions_to_txn-asked, asked_add_offsets_to_txn, add_offsets_to_txn-asked, asked_end_txn, end_txn-asked, asked_txn_offset_commit, txn_offset_commit-asked, asked_describe_acls, describe_acls-asked, asked_create_acls, create_acls-asked, asked_delete_acls, delete_acls-asked, asked_sasl_handshake, sasl_handshake-asked, asked_sasl_authenticate, sasl_authenticate-asked}
use Rattle.msg_admin.specs.Frame.{frame_bytes}
use Rattle.msg_admin.specs.Request.{IsRequest, Fits, request_text, is_writable}
use Rattle.msg_admin.specs.Response.{response_as, response_text, IsResponse, sendable_as}
use Rattle.msg_admin.specs.Laws.{OneRequest, FoundIsRequest, WrittenIsRead, SpellsFitting, FitsIsWritable, OneReply, OneResponse, WrittenReplyIsRead}
use Rattle.msg_admin.proofs.Served.{one_version, api_at-served}
use Rattle.msg_admin.proofs.Headers.{with_header_tags-in_type, with_header_tags-fits, header_len, least_len, least_fits}
use Rattle.msg_admin.proofs.Readings.{request-found, request-again}
use Rattle.msg_admin.proofs.Replies.{sendable, int32_len}

pub one_request : OneRequest
one_request bytes g h q r i j =
    let same : (g, q) ≡ (h, r) = ok_is (g, q) (h, r) (sym (request-again bytes g q i) ∙ request-again bytes h r j) in
    (ap (λ (x : Header × Request). x.0) same, ap (λ (x : Header × Request). x.1) same)

pub found_is_request : FoundIsRequest
found_is_request bytes h r = (request-found bytes (h, r), request-again bytes h r)

pub written_is_read : WrittenIsRead
unfolding is_writable
written_is_read h r types served writable =
    let head = request_header (api_of r) in
    let fits = and_parts (head.fits h) ((request_body (api_of r)).fits r) (and_parts (head.fits h && (request_body (api_of r)).fits r) _ writable).0 in
    (head.written h, (request_body (api_of r)).written r, api_of r, refl, head.canonical h (with_header_tags-in_type header (is_flexible (api_of r)) h types.0) fits.0, served, (request_body (api_of r)).canonical r types.1 fits.1)

-- ---- what was read fits

of_variant : {X S : Type 0} (make : X → S) (asked : S → Option X) (P : X → Type 0) (r : S) → ((x : X) → asked r ≡ Some x → make x ≡ r) → (o : Option X) → asked r ≡ o → IsSomeAnd o P → (x : X) × (make x ≡ r) × P x
of_variant make asked P r tells None e h = absurd h
of_variant make asked P r tells (Some x) e h = (x, tells x e, h)

-- the six versions
abbrev IsVersion : ℤ → Type 0
IsVersion version = (version ≡ pos 0) ⊎ ((version ≡ pos 1) ⊎ ((version ≡ pos 2) ⊎ ((version ≡ pos 3) ⊎ ((version ≡ pos 4) ⊎ (version ≡ pos 5)))))

from_0_to_5 : (version : ℤ) → (int_le (pos 0) version && int_le version (pos 5)) ≡ true → IsVersion version
from_0_to_5 version served = grind (arith, ints)

abbrev SpellsVersion : ℤ → Type 0
SpellsVersion version = (text : List ℕ) (r : EndTxnRequest) → (end_txn_request version).Spells text r → version_asked r ≡ version

spells_0 : SpellsVersion (pos 0)
spells_0 text r h = ap version_asked (sym (of_variant endings.Version0 asked_in_0 (end_txn.Spells text) r (asked_in_0-only r) (asked_in_0 r) refl h).1)

spells_1 : SpellsVersion (pos 1)
spells_1 text r h = ap version_asked (sym (of_variant endings.Version1 asked_in_1 (end_txn.Spells text) r (asked_in_1-only r) (asked_in_1 r) refl h).1)

spells_2 : SpellsVersion (pos 2)
spells_2 text r h = ap version_asked (sym (of_variant endings.Version2 asked_in_2 (end_txn.Spells text) r (asked_in_2-only r) (asked_in_2 r) refl h).1)

spells_3 : SpellsVersion (pos 3)
spells_3 text r h = ap version_asked (sym (of_variant endings.Version3 asked_in_3 (flexible_end_txn.Spells text) r (asked_in_3-only r) (asked_in_3 r) refl h).1)

spells_4 : SpellsVersion (pos 4)
spells_4 text r h = ap version_asked (sym (of_variant endings.Version4 asked_in_4 (flexible_end_txn.Spells text) r (asked_in_4-only r) (asked_in_4 r) refl h).1)

spells_5 : SpellsVersion (pos 5)
spells_5 text r h = ap version_asked (sym (of_variant endings.Version5 asked_in_5 (flexible_end_txn.Spells text) r (asked_in_5-only r) (asked_in_5 r) refl h).1)

spells_version : (version : ℤ) → IsVersion version → SpellsVersion version
spells_version version (inl is) = subst SpellsVersion (sym is) spells_0
spells_version version (inr (inl is)) = subst SpellsVersion (sym is) spells_1
spells_version version (inr (inr (inl is))) = subst SpellsVersion (sym is) spells_2
spells_version version (inr (inr (inr (inl is)))) = subst SpellsVersion (sym is) spells_3
spells_version version (inr (inr (inr (inr (inl is))))) = subst SpellsVersion (sym is) spells_4
spells_version version (inr (inr (inr (inr (inr is))))) = subst SpellsVersion (sym is) spells_5

-- EndTxn's body in a version is a request in that version
spelled_in : (version : ℤ) (text : List ℕ) (r : EndTxnRequest) → is_served keys.EndTxn version ≡ true → (end_txn_request version).Spells text r → version_asked r ≡ version
spelled_in version text r served = spells_version version (from_0_to_5 version served) text r

-- where an api has one version, the api in a version that is served is the api in its last
in_one : (key : ApiKey) (only version : ℤ) (r : Request) → (int_le only version && int_le version only) ≡ true → api_of r ≡ api_in key only → api_of r ≡ api_in key version
in_one key only version r served is = is ∙ ap (api_in key) (one_version only version served)

-- the body of an api in a version that is served is a request to that api in that version
spelled_form : (key : ApiKey) (version : ℤ) (text : List ℕ) (r : Request) → is_served key version ≡ true → (request_form key version).Spells text r → api_of r ≡ api_in key version
spelled_form keys.Produce version text r served h = in_one keys.Produce (pos 3) version r served (ap api_of (sym (of_variant requests.Produce asked_produce (produce_request.Spells text) r (produce-asked r) (asked_produce r) refl h).1))
spelled_form keys.Fetch version text r served h = in_one keys.Fetch (pos 4) version r served (ap api_of (sym (of_variant requests.Fetch asked_fetch (fetch_request.Spells text) r (fetch-asked r) (asked_fetch r) refl h).1))
spelled_form keys.ListOffsets version text r served h = in_one keys.ListOffsets (pos 2) version r served (ap api_of (sym (of_variant requests.ListOffsets asked_list_offsets (list_offsets_request.Spells text) r (list_offsets-asked r) (asked_list_offsets r) refl h).1))
spelled_form keys.Metadata version text r served h = in_one keys.Metadata (pos 1) version r served (ap api_of (sym (of_variant requests.Metadata asked_metadata (metadata_request.Spells text) r (metadata-asked r) (asked_metadata r) refl h).1))
spelled_form keys.OffsetCommit version text r served h = in_one keys.OffsetCommit (pos 2) version r served (ap api_of (sym (of_variant requests.OffsetCommit asked_offset_commit (offset_commit_request.Spells text) r (offset_commit-asked r) (asked_offset_commit r) refl h).1))
spelled_form keys.OffsetFetch version text r served h = in_one keys.OffsetFetch (pos 7) version r served (ap api_of (sym (of_variant requests.OffsetFetch asked_offset_fetch (offset_fetch_request.Spells text) r (offset_fetch-asked r) (asked_offset_fetch r) refl h).1))
spelled_form keys.FindCoordinator version text r served h = in_one keys.FindCoordinator (pos 1) version r served (ap api_of (sym (of_variant requests.FindCoordinator asked_find_coordinator (find_coordinator_request.Spells text) r (find_coordinator-asked r) (asked_find_coordinator r) refl h).1))
spelled_form keys.JoinGroup version text r served h = in_one keys.JoinGroup (pos 2) version r served (ap api_of (sym (of_variant requests.JoinGroup asked_join_group (join_group_request.Spells text) r (join_group-asked r) (asked_join_group r) refl h).1))
spelled_form keys.Heartbeat version text r served h = in_one keys.Heartbeat (pos 1) version r served (ap api_of (sym (of_variant requests.Heartbeat asked_heartbeat (heartbeat_request.Spells text) r (heartbeat-asked r) (asked_heartbeat r) refl h).1))
spelled_form keys.LeaveGroup version text r served h = in_one keys.LeaveGroup (pos 1) version r served (ap api_of (sym (of_variant requests.LeaveGroup asked_leave_group (leave_group_request.Spells text) r (leave_group-asked r) (asked_leave_group r) refl h).1))
spelled_form keys.SyncGroup version text r served h = in_one keys.SyncGroup (pos 1) version r served (ap api_of (sym (of_variant requests.SyncGroup asked_sync_group (sync_group_request.Spells text) r (sync_group-asked r) (asked_sync_group r) refl h).1))
spelled_form keys.SaslHandshake version text r served h = in_one keys.SaslHandshake (pos 1) version r served (ap api_of (sym (of_variant requests.SaslHandshake asked_sasl_handshake (sasl_handshake_request.Spells text) r (sasl_handshake-asked r) (asked_sasl_handshake r) refl h).1))
spelled_form keys.ApiVersions version text r served h = in_one keys.ApiVersions (pos 0) version r served (ap api_of h.1)
spelled_form keys.InitProducerId version text r served h = in_one keys.InitProducerId (pos 0) version r served (ap api_of (sym (of_variant requests.InitProducerId asked_init_producer_id (init_producer_id_request.Spells text) r (init_producer_id-asked r) (asked_init_producer_id r) refl h).1))
spelled_form keys.AddPartitionsToTxn version text r served h = in_one keys.AddPartitionsToTxn (pos 0) version r served (ap api_of (sym (of_variant requests.AddPartitionsToTxn asked_add_partitions_to_txn (add_partitions_to_txn_request.Spells text) r (add_partitions_to_txn-asked r) (asked_add_partitions_to_txn r) refl h).1))
spelled_form keys.AddOffsetsToTxn version text r served h = in_one keys.AddOffsetsToTxn (pos 0) version r served (ap api_of (sym (of_variant requests.AddOffsetsToTxn asked_add_offsets_to_txn (add_offsets_to_txn_request.Spells text) r (add_offsets_to_txn-asked r) (asked_add_offsets_to_txn r) refl h).1))
spelled_form keys.EndTxn version text r served h =
    let found = of_variant requests.EndTxn asked_end_txn ((end_txn_request version).Spells text) r (end_txn-asked r) (asked_end_txn r) refl h in
    ap api_of (sym found.1) ∙ ap (api_in keys.EndTxn) (spelled_in version text found.0 served found.2)
spelled_form keys.TxnOffsetCommit version text r served h = in_one keys.TxnOffsetCommit (pos 3) version r served (ap api_of (sym (of_variant requests.TxnOffsetCommit asked_txn_offset_commit (txn_offset_commit_request.Spells text) r (txn_offset_commit-asked r) (asked_txn_offset_commit r) refl h).1))
spelled_form keys.DescribeAcls version text r served h = in_one keys.DescribeAcls (pos 1) version r served (ap api_of (sym (of_variant requests.DescribeAcls asked_describe_acls (describe_acls_request.Spells text) r (describe_acls-asked r) (asked_describe_acls r) refl h).1))
spelled_form keys.CreateAcls version text r served h = in_one keys.CreateAcls (pos 1) version r served (ap api_of (sym (of_variant requests.CreateAcls asked_create_acls (create_acls_request.Spells text) r (create_acls-asked r) (asked_create_acls r) refl h).1))
spelled_form keys.DeleteAcls version text r served h = in_one keys.DeleteAcls (pos 1) version r served (ap api_of (sym (of_variant requests.DeleteAcls asked_delete_acls (delete_acls_request.Spells text) r (delete_acls-asked r) (asked_delete_acls r) refl h).1))
spelled_form keys.SaslAuthenticate version text r served h = in_one keys.SaslAuthenticate (pos 0) version r served (ap api_of (sym (of_variant requests.SaslAuthenticate asked_sasl_authenticate (sasl_authenticate_request.Spells text) r (sasl_authenticate-asked r) (asked_sasl_authenticate r) refl h).1))

spelled_api : (api : Api) (text : List ℕ) (r : Request) → is_served api.key api.version ≡ true → (request_body api).Spells text r → api_of r ≡ api
unfolding request_body
spelled_api api text r served h = spelled_form api.key api.version text r served h

pub read_fits : (bytes : List ℕ) → IsBytes bytes → SpellsFitting bytes
read_fits bytes are within h r i =
    let parts : IsBytes (i.0 ++ i.1) = subst IsBytes i.3 are in
    let head = (request_header i.2).shortest i.0 h (IsBytes-front i.0 i.1 parts) i.4 in
    let body = (request_body i.2).shortest i.1 r (IsBytes-rest i.0 i.1 parts) i.6 in
    let lens : length bytes ≡ length i.0 + length i.1 = ap length i.3 ∙ length-append i.0 i.1 in
    let short : least_header (is_flexible i.2) + length ((request_body i.2).written r) ≤ 104857600 = omega (arith, head.2, body.2, header_len (is_flexible i.2) h, lens) in
    subst (λ (api : Api). ((request_body api).fits r ≡ true) × (least_header (is_flexible api) + length ((request_body api).written r) ≤ 104857600)) (sym (spelled_api i.2 i.1 r (api_at-served h.key h.version i.2 i.5) i.6)) (body.1, short)

-- ---- what fits can be written

pub fits_is_writable : FitsIsWritable
unfolding is_writable
fits_is_writable h r none fits =
    let head = request_header (api_of r) in
    let body = request_body (api_of r) in
    let fits_head : head.fits h ≡ true = with_header_tags-fits header (is_flexible (api_of r)) h (least_fits h none) in
    let len : length (request_text h r) ≡ length (head.written h) + length (body.written r) = length-append (head.written h) (body.written r) in
    let short : ltb (length (request_text h r)) (2 ^ 31) ≡ true = lt-ltb _ _ (omega (arith, len, least_len (is_flexible (api_of r)) h none, fits.1)) in
    rw (fits_head, fits.0, short) refl

-- ---- what was written fixes the reply

-- two values with one spelling are one
one_value : {A : Type 0} (g : Grammar A) (x y : A) → g.InType x → g.InType y → g.fits x ≡ true → g.fits y ≡ true → g.written x ≡ g.written y → x ≡ y
one_value {A} g x y tx ty fx fy e =
    let a : g.reading (g.written x ++ []) ≡ Ok (x, []) = g.complete (g.written x) [] x (g.canonical x tx fx) in
    let b : g.reading (g.written y ++ []) ≡ Ok (y, []) = g.complete (g.written y) [] y (g.canonical y ty fy) in
    ap (λ (z : A × List ℕ). z.0) (ok_is (x, []) (y, []) (sym a ∙ ap (λ (t : List ℕ). g.reading (t ++ [])) e ∙ b))

-- the bytes after the size field
after_size : (text : List ℕ) → drop 4 (frame_bytes text) ≡ text
after_size text = drop_at (int32.written (pos (length text))) text 4 (int32_len (pos (length text)))

as_api : (o : Option Api) (api : Api) (c : ℤ) (r : Reply) → o ≡ Some api → response_as o c r ≡ frame_bytes (response_text c api r)
as_api o api c r e = ap (λ (x : Option Api). response_as x c r) e

fits_as : (o : Option Api) (api : Api) (c : ℤ) (r : Reply) → o ≡ Some api → sendable_as o c r ≡ true → ((response_header api).fits c && (reply_body api).fits r) ≡ true
fits_as o api c r e all = (and_parts ((response_header api).fits c && (reply_body api).fits r) _ (sym (ap (λ (x : Option Api). sendable_as x c r) e) ∙ all)).0

pub one_reply : OneReply
one_reply api c d q r as_q as_r type_q type_r short_q short_r e =
    let both : Grammar (ℤ × Reply) = response_header api ⨟ reply_body api in
    let typed : (z : ℤ) → int32.InType z → (response_header api).InType z = with_header_tags-in_type int32 (is_flexible api) in
    let fit_q = fits_as (sent_as q) api c q as_q (sendable c q short_q) in
    let fit_r = fits_as (sent_as r) api d r as_r (sendable d r short_r) in
    let frames : frame_bytes (response_text c api q) ≡ frame_bytes (response_text d api r) = sym (as_api (sent_as q) api c q as_q) ∙ e ∙ as_api (sent_as r) api d r as_r in
    let texts : response_text c api q ≡ response_text d api r = sym (after_size (response_text c api q)) ∙ ap (drop 4) frames ∙ after_size (response_text d api r) in
    let same : (c, q) ≡ (d, r) = one_value both (c, q) (d, r) (typed c type_q.0, type_q.1) (typed d type_r.0, type_r.1) fit_q fit_r texts in
    (ap (λ (x : ℤ × Reply). x.0) same, ap (λ (x : ℤ × Reply). x.1) same)

pub found_fits : (bytes : List ℕ) (result : Result (Header × Request) ReadFault) → SpellsFitting bytes → IfOk result (λ x. IsRequest bytes x.0 x.1)
    → IfOk result (λ x. length bytes ≤ 104857600 → Fits x.1)
found_fits bytes (Ok x) fitting is = λ within. fitting within x.0 x.1 is
found_fits bytes (Err e) fitting is = tt

pub named : (bytes : List ℕ) (result : Result (Header × Request) ReadFault) → IfOk result (λ x. IsRequest bytes x.0 x.1) → IfOk result (λ x. api_at x.0.key x.0.version ≡ Some (api_of x.1))
named bytes (Ok x) i = i.5 ∙ ap Some (sym (spelled_api i.2 i.1 x.1 (api_at-served x.0.key x.0.version i.2 i.5) i.6))
named bytes (Err e) i = tt

-- ---- what was written of a reply is read back

pub one_response : OneResponse
one_response api bytes c d q r i j =
    let both : Grammar (ℤ × Reply) = response_header api ⨟ reply_body api in
    let a : both.reading (bytes ++ []) ≡ Ok ((c, q), []) = both.complete bytes [] (c, q) i in
    let b : both.reading (bytes ++ []) ≡ Ok ((d, r), []) = both.complete bytes [] (d, r) j in
    let same : (c, q) ≡ (d, r) = ap (λ (z : (ℤ × Reply) × List ℕ). z.0) (ok_is ((c, q), []) ((d, r), []) (sym a ∙ b)) in
    (ap (λ (x : ℤ × Reply). x.0) same, ap (λ (x : ℤ × Reply). x.1) same)

pub written_reply_is_read : WrittenReplyIsRead
written_reply_is_read api c r sent types short =
    let head = response_header api in
    let body = reply_body api in
    let fits = and_parts (head.fits c) (body.fits r) (fits_as (sent_as r) api c r sent (sendable c r short)) in
    let is : IsResponse api (response_text c api r) c r = (head.written c, body.written r, refl, head.canonical c (with_header_tags-in_type int32 (is_flexible api) c types.0) fits.0, body.canonical r types.1 fits.1) in
    (response_text c api r, as_api (sent_as r) api c r sent, is)
