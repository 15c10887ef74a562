-- The wrong rules of a group's member are refuted, each in a worked case.
use Rattle.std.proofs.Common.{◌≡◌, ◌⊎◌, inl, inr, ℕ, ℤ, pos, negsuc, List, [], ◌∷◌, Some, None, refl, codes as bytes, ap, ◌∙◌, length, ◌++◌, arith}
use Rattle.std.proofs.lemmas.Int.{ints}
use Rattle.std.specs.Prelude.{decimal}
use Rattle.wire_types.specs.declared.error_code.ErrorCode.TheVariants as codes
use Rattle.wire_types.specs.ErrorCode.{number_of}
use Rattle.msg_group.specs.declared.join_group.JoinGroupRequest.{JoinGroupRequest}
use Rattle.msg_group.specs.declared.join_group.JoinGroupReply.{JoinGroupReply}
use Rattle.msg_group.specs.declared.sync_group.SyncGroupRequest.{SyncGroupRequest}
use Rattle.msg_group.specs.declared.heartbeat.HeartbeatRequest.{HeartbeatRequest}
use Rattle.msg_group.specs.declared.leave_group.LeaveGroupRequest.{LeaveGroupRequest}
use Rattle.msg_admin.specs.declared.request.Request.TheVariants.{JoinGroup, LeaveGroup}
use Rattle.audit_trail.specs.declared.event.Event.TheVariants.{Tick}
use Rattle.group_offsets.specs.declared.member.Member.{Member}
use Rattle.api_dispatch.specs.Step.{reply_to}
use Rattle.broker_laws.specs.Members.{IsMember, ComesNew, ComesBack, MembersComeAndGo}
use Rattle.broker_laws.specs.MemberCodes.{IsOffering, CallsByNumber}
use Rattle.broker_laws.specs.Wrong.{step_without_lapses}
use Rattle.broker_laws.specs.WrongMembers.{step_letting_a_second_in, reply_letting_a_second_in, step_keeping_generations, step_leaving_for_anybody, reply_leaving_for_anybody, reply_beating_for_anybody, reply_in_any_generation, reply_unknown_for_full, reply_telling_the_member}
use Rattle.broker_laws.proofs.Worked.{root, asks, member, group, with_member}

abbrev join_of : List ℕ → JoinGroupRequest
join_of id = record { group = bytes "g"; session_timeout = pos 6000; rebalance_timeout = pos 6000; member = id; protocol_type = bytes "consumer"; protocols = record { name = bytes "range"; metadata = [] } ∷ [] }

abbrev joined_as : List ℕ → JoinGroupReply
joined_as id = record { throttle = pos 0; error = codes.None; generation = pos 2; protocol = bytes "range"; leader = id; member = id; members = record { member = id; metadata = [] } ∷ [] }

abbrev leave : LeaveGroupRequest
leave = record { group = bytes "g"; member = bytes "xx" }

some_is : (a b : Member) → Some a ≡ Some b → a ≡ b
some_is a b h = cc

-- `xx` isn't the member
pub not_xx : IsMember group (bytes "xx") → ⊥
not_xx is = apart (ap (λ (y : Member). y.id) (some_is member is.member is.has) ∙ is.named) where
  apart : bytes "m" ≡ bytes "xx" → ⊥
  apart h = let clash : ◌≡◌ {A = ℕ} 1 2 = ap (λ (l : List ℕ). length l) h in cc

pub no_second : ¬ MembersComeAndGo step_letting_a_second_in reply_letting_a_second_in
unfolding number_of
no_second law = by_who (((law with_member).each (asks (JoinGroup (join_of []))) (bytes "g")).joins
    (record { caller = root; client = None; request = join_of []; reply = joined_as (bytes "m-" ++ decimal 0); event = refl; group = refl; answer = refl; no_error = refl })).who where
      by_who : ComesNew with_member group (join_of []) (joined_as (bytes "m-" ++ decimal 0)) ⊎ ComesBack group (join_of []) (joined_as (bytes "m-" ++ decimal 0)) → ⊥
      by_who (inl new) = let clash : Some member ≡ None = new.no_member in cc
      by_who (inr back) = back.names refl

pub not_the_same_generation : ¬ MembersComeAndGo step_keeping_generations reply_to
unfolding number_of
not_the_same_generation law =
    let clash : ◌≡◌ {A = ℤ} (pos 1) (pos 2) = ((law with_member).short (asks (JoinGroup (join_of (bytes "m")))) (bytes "g")).raised
    (record { caller = root; client = None; request = join_of (bytes "m"); reply = joined_as (bytes "m"); event = refl; group = refl; answer = refl; no_error = refl }) in
    cc

pub not_by_anybody : ¬ MembersComeAndGo step_leaving_for_anybody reply_leaving_for_anybody
unfolding number_of
not_by_anybody law =
    not_xx (((law with_member).each (asks (LeaveGroup leave)) (bytes "g")).leaves
    (record { caller = root; client = None; request = leave; reply = record { throttle = pos 0; error = codes.None }; event = refl; group = refl; answer = refl; no_error = refl })).by

pub not_for_ever : ¬ MembersComeAndGo step_without_lapses reply_to
not_for_ever law =
    let clash : Some member ≡ None = (((law with_member).each (Tick 20) (bytes "g")).lapses (record { told = 20; event = refl; member = member; had = refl; silent = omega arith })).no_member in
    cc

-- ---- by number

offering : IsOffering (join_of [])
offering = (((λ (h : bytes "g" ≡ []). cc), omega (arith, ints), omega (arith, ints)), (λ (h : bytes "consumer" ≡ []). cc), (λ h. cc))

pub not_from_anybody : ¬ CallsByNumber reply_beating_for_anybody
unfolding number_of
not_from_anybody law =
    let r : HeartbeatRequest = record { group = bytes "g"; generation = pos 1; member = bytes "xx" } in
    let clash : ◌≡◌ {A = ℤ} (pos 0) (pos 25) = (((law with_member).beats root None r (record { throttle = pos 0; error = codes.None }) refl).0 refl).stranger (λ h. cc) not_xx in
    cc

pub not_in_any_generation : ¬ CallsByNumber reply_in_any_generation
unfolding number_of
not_in_any_generation law =
    let r : SyncGroupRequest = record { group = bytes "g"; generation = pos 7; member = bytes "m"; assignments = [] } in
    let clash : ◌≡◌ {A = ℤ} (pos 0) (pos 22) =
    (((law with_member).syncs root None r (record { throttle = pos 0; error = codes.None; assignment = [] }) refl).0 refl).other_generation (λ h. cc) (record { member = member; has = refl; named = refl }) (λ (h : ◌≡◌ {A = ℤ} (pos 1) (pos 7)). cc) in
    cc

pub not_unknown : ¬ CallsByNumber reply_unknown_for_full
unfolding number_of
not_unknown law =
    let reply : JoinGroupReply = record { throttle = pos 0; error = codes.UnknownMemberId; generation = negsuc 0; protocol = []; leader = []; member = []; members = [] } in
    let clash : ◌≡◌ {A = ℤ} (pos 25) (pos 81) = (((law with_member).joins root None (join_of []) reply refl).0 refl).full offering refl member refl in
    cc

pub not_told : ¬ CallsByNumber reply_telling_the_member
unfolding number_of
not_told law =
    let reply : JoinGroupReply = record { throttle = pos 0; error = codes.GroupMaxSizeReached; generation = negsuc 0; protocol = []; leader = bytes "m"; member = []; members = [] } in
    let clash : bytes "m" ≡ [] = ((law with_member).unjoined root None (join_of []) reply refl (λ (h : ◌≡◌ {A = ℤ} (pos 81) (pos 0)). cc)).leader in
    cc
