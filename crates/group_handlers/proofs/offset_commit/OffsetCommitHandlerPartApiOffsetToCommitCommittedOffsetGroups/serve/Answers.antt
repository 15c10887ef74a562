use Rattle.std.proofs.Common.{w32, ◌≡◌, Option, sym, ap, ◌∙◌, rules}
use Rattle.std.proofs.lemmas.Int.{to_z-of_z}
use Rattle.wire_types.specs.declared.error_code.ErrorCode.{ErrorCode}
use Rattle.authorizer.specs.declared.answer.Refusal.{Refusal}
use Rattle.authorizer.specs.Asking.{policy_rules}
use Rattle.authorizer.specs.Settled.{SettledValue}
use Rattle.walk.specs.Steps.{world_by}
use Rattle.walk.proofs.Endings.{served_done}
use Rattle.group_handlers.specs.OffsetCommit.{committing_by, commit_questions, committed_code, commit_rule}
use Rattle.group_handlers.proofs.offset_commit.OffsetCommitHandlerPartApiOffsetToCommitCommittedOffsetGroups.serve.Goals as goal

pub returns-in_ok-group-in-Ok-clause-world : goal.returns-in_ok-group-in-Ok-clause-world
returns-in_ok-group-in-Ok-clause-world c =
    let api = c.args.self.now in
    let back = to_z-of_z w32 c.args.part.now.index (search rules) in
    let found = rw back at c.log-log.ensures in
    let asked = ap (λ (s : SettledValue). s.question) (c.in_ok-group.ensures ∙ c.requires.settled) in
    let granted = rw (asked, c.in_ok-topic.ensures) at c.in-Ok.ensures.yes in
    (rw (c.in_ok-offset.ensures, found) at c.in_ok-group-in-Ok.ensures.groups)
    ∙ ap (λ (o : Option Refusal). world_by (commit_rule api.caller.now (committing_by api.metadata) api.topics.now) o c.args.groups.now c.args.name.now c.args.part.now) (sym granted)

pub returns-in_ok-group-in-Ok-clause-done : goal.returns-in_ok-group-in-Ok-clause-done
returns-in_ok-group-in-Ok-clause-done c =
    let api = c.args.self.now in
    let back = to_z-of_z w32 c.args.part.now.index (search rules) in
    let found = rw back at c.log-log.ensures in
    let asked = ap (λ (s : SettledValue). s.question) (c.in_ok-group.ensures ∙ c.requires.settled) in
    let granted = rw (asked, c.in_ok-topic.ensures) at c.in-Ok.ensures.yes in
    let told = c.committed_code-answer.ensures ∙ ap (λ (code : ErrorCode). committed_code code c.args.part.now) (rw (c.in_ok-offset.ensures, found) at c.in_ok-group-in-Ok.ensures.code) in
    let paid : c.two.result ≡ commit_questions api.caller.now api.metadata.group.now c.args.name.now = search (rules, asked) in
    c.served.ensures
    ∙ served_done (commit_rule api.caller.now (committing_by api.metadata) api.topics.now) (policy_rules c.args.policy.now) c.args.groups.now c.args.name.now c.args.part.now c.committed_code-answer.result c.two.result granted told paid
