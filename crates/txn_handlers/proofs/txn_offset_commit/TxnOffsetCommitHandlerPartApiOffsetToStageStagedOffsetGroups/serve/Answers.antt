use Rattle.std.proofs.Common.{rules, w32, ◌≡◌, None, ap, ◌∙◌}
use Rattle.std.proofs.lemmas.Int.{to_z-of_z}
use Rattle.wire_types.specs.declared.error_code.ErrorCode.{ErrorCode}
use Rattle.authorizer.specs.Asking.{policy_rules, part_refusal}
use Rattle.authorizer.specs.Settled.{SettledValue}
use Rattle.walk.proofs.Endings.{served_done}
use Rattle.txn_handlers.specs.TxnOffsetCommit.{Staging, staging_by, stage_questions, staged_code, stage_rule}
use Rattle.txn_handlers.proofs.StagedParts.{granted_three, staged_world}
use Rattle.txn_handlers.proofs.txn_offset_commit.TxnOffsetCommitHandlerPartApiOffsetToStageStagedOffsetGroups.serve.Goals as goal

pub returns-in_ok-group-in-Ok-clause-world : goal.returns-in_ok-group-in-Ok-clause-world
returns-in_ok-group-in-Ok-clause-world c =
    let api = c.args.self.now in
    let s : Staging = staging_by api.id.now api.pair api.metadata in
    let back = to_z-of_z w32 c.args.part.now.index (search rules) in
    let found = rw back at c.log-log.ensures in
    let id_asked = ap (λ (s : SettledValue). s.question) (c.in_ok-id.ensures ∙ c.requires.settled.written) in
    let group_asked = ap (λ (s : SettledValue). s.question) (c.in_ok-group.ensures ∙ c.requires.settled.read) in
    let yes : part_refusal (policy_rules c.args.policy.now) (stage_questions api.caller.now s c.args.name.now) ≡ None =
    granted_three (policy_rules c.args.policy.now) api.caller.now s c.args.name.now c.in_ok-id.id.question c.in_ok-group.group.question c.in_ok-topic.topic id_asked group_asked c.in_ok-topic.ensures c.in-Ok.ensures.yes in
    (rw (c.in_ok-offset.ensures, found) at c.in_ok-group-in-Ok.ensures.groups) ∙ staged_world (policy_rules c.args.policy.now) api.caller.now s api.refusal api.topics.now c.args.groups.now c.args.name.now c.args.part.now yes

pub returns-in_ok-group-in-Ok-clause-done : goal.returns-in_ok-group-in-Ok-clause-done
returns-in_ok-group-in-Ok-clause-done c =
    let api = c.args.self.now in
    let s : Staging = staging_by api.id.now api.pair api.metadata in
    let back = to_z-of_z w32 c.args.part.now.index (search rules) in
    let found = rw back at c.log-log.ensures in
    let id_asked = ap (λ (s : SettledValue). s.question) (c.in_ok-id.ensures ∙ c.requires.settled.written) in
    let group_asked = ap (λ (s : SettledValue). s.question) (c.in_ok-group.ensures ∙ c.requires.settled.read) in
    let yes : part_refusal (policy_rules c.args.policy.now) (stage_questions api.caller.now s c.args.name.now) ≡ None =
    granted_three (policy_rules c.args.policy.now) api.caller.now s c.args.name.now c.in_ok-id.id.question c.in_ok-group.group.question c.in_ok-topic.topic id_asked group_asked c.in_ok-topic.ensures c.in-Ok.ensures.yes in
    let told = c.staged_code-answer.ensures ∙ ap (λ (code : ErrorCode). staged_code code c.args.part.now) (rw (c.in_ok-offset.ensures, found) at c.in_ok-group-in-Ok.ensures.code) in
    let paid : c.three.result ≡ stage_questions api.caller.now s c.args.name.now = search (rules, id_asked, group_asked) in
    c.served.ensures
    ∙ served_done (stage_rule api.caller.now s api.refusal api.topics.now) (policy_rules c.args.policy.now) c.args.groups.now c.args.name.now c.args.part.now c.staged_code-answer.result c.three.result yes told paid
