-- Worlds that agree in all that the older law asks for agree in what this one asks for.
use Rattle.std.proofs.Common.{◌≡◌, Bool, true, false, cond, List, [], ◌∷◌, Option, Some, None, refl}
use Rattle.std.specs.Prelude.{is_none, filter, ◌&&◌}
use Rattle.std.specs.List.{AllByRecursion}
use Rattle.acl_binding.specs.declared.question.Caller.{Caller}
use Rattle.acl_binding.specs.declared.question.Question.{Question}
use Rattle.authorizer.specs.declared.answer.Refusal.{Refusal}
use Rattle.authorizer.specs.Policy.{verdict}
use Rattle.authorizer.specs.Asking.{part_refusal}
use Rattle.msg_admin.specs.declared.request.Request.{Request}
use Rattle.msg_admin.specs.declared.request.Request.TheVariants.{Produce, Fetch, ListOffsets, Metadata, OffsetCommit, OffsetFetch, FindCoordinator, JoinGroup, Heartbeat, LeaveGroup, SyncGroup, SaslHandshake, ApiVersions, InitProducerId, AddPartitionsToTxn, AddOffsetsToTxn, EndTxn, TxnOffsetCommit, DescribeAcls, CreateAcls, DeleteAcls, SaslAuthenticate}
use Rattle.broker_world.specs.World.{World, rules_of}
use Rattle.group_handlers.specs.OffsetFetch.{group_question}
use Rattle.api_laws.specs.Tenants.{SameGranted}
use Rattle.api_laws.proofs.DataGrants.{yes_of, rest_of}
use Rattle.api_dispatch.specs.Questions.{parts_of}
use Rattle.plain_broker.specs.Exactly.{is_granted}
use Rattle.tenant_laws.specs.Replies.{SameAbout, granted_parts}

front : (a b : Bool) → (a && b) ≡ true → a ≡ true
front true b h = refl
front false b h = h

module _ (v w : World) (caller : Caller) where
  about_of : (qs : List Question) → SameGranted v w qs → part_refusal (rules_of w) qs ≡ None → SameAbout v w qs
  about_of [] same none = tt
  about_of (q ∷ qs) same none =
      (same.0 (yes_of (verdict w.book w.supers q) q (part_refusal (rules_of w) qs) none), about_of qs same.1 (rest_of (verdict w.book w.supers q) q (part_refusal (rules_of w) qs) none))

  pub filtered : (parts : List (List Question)) → AllByRecursion (SameGranted v w) parts → AllByRecursion (SameAbout v w) (filter (is_granted (rules_of w)) parts)
  filtered [] all = tt
  filtered (part ∷ parts) all = by_refusal (part_refusal (rules_of w) part) refl (filtered parts all.1) where
    by_refusal : (o : Option Refusal) → part_refusal (rules_of w) part ≡ o → AllByRecursion (SameAbout v w) (filter (is_granted (rules_of w)) parts)
        → AllByRecursion (SameAbout v w) (cond (is_none o) (part ∷ filter (is_granted (rules_of w)) parts) (filter (is_granted (rules_of w)) parts))
    by_refusal None none rest = (about_of part all.0 none, rest)
    by_refusal (Some r) is rest = rest

  if_any : (b : Bool) (parts : List (List Question)) → AllByRecursion (SameAbout v w) parts → AllByRecursion (SameAbout v w) (cond b parts [])
  if_any true parts all = all
  if_any false parts all = tt

  pub about_parts : (request : Request) → AllByRecursion (SameAbout v w) (filter (is_granted (rules_of w)) (parts_of (rules_of w) caller request)) → AllByRecursion (SameAbout v w) (granted_parts (rules_of w) caller request)
  about_parts (OffsetFetch r) all = if_any (is_granted (rules_of w) (group_question caller r.group ∷ [])) (filter (is_granted (rules_of w)) (parts_of (rules_of w) caller (OffsetFetch r))) all
  about_parts (Produce r) all = all
  about_parts (Fetch r) all = all
  about_parts (ListOffsets r) all = all
  about_parts (Metadata r) all = all
  about_parts (OffsetCommit r) all = all
  about_parts (FindCoordinator r) all = all
  about_parts (JoinGroup r) all = all
  about_parts (Heartbeat r) all = all
  about_parts (LeaveGroup r) all = all
  about_parts (SyncGroup r) all = all
  about_parts (InitProducerId r) all = all
  about_parts (AddPartitionsToTxn r) all = all
  about_parts (AddOffsetsToTxn r) all = all
  about_parts (EndTxn r) all = all
  about_parts (TxnOffsetCommit r) all = all
  about_parts (SaslHandshake r) all = all
  about_parts ApiVersions all = all
  about_parts (SaslAuthenticate r) all = all
  about_parts (DescribeAcls r) all = all
  about_parts (CreateAcls r) all = all
  about_parts (DeleteAcls r) all = all
