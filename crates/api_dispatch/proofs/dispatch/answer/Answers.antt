use Rattle.std.proofs.Common.{sym, ap, ◌∙◌, arith}
use Rattle.msg_data.specs.declared.produce.ProduceRequest.{ProduceRequest}
use Rattle.msg_group.specs.declared.offset_commit.OffsetCommitRequest.{OffsetCommitRequest}
use Rattle.msg_txn.specs.declared.add_partitions.AddPartitionsToTxnRequest.{AddPartitionsToTxnRequest}
use Rattle.msg_txn.specs.declared.txn_offset_commit.TxnOffsetCommitRequest.{TxnOffsetCommitRequest}
use Rattle.msg_admin.specs.declared.request.Request.TheVariants as requests
use Rattle.api_dispatch.proofs.Bounds.{produce_light, few_created}
use Rattle.api_dispatch.proofs.Wholes.{request_met}
use Rattle.api_dispatch.proofs.Generations.{found_within}
use Rattle.api_dispatch.specs.Bounds.{most_events}
use Rattle.std.proofs.lemmas.Int.{ints}
use Rattle.api_dispatch.proofs.dispatch.answer.Goals as goal

pub answer_produce-requires : goal.answer_produce-requires
answer_produce-requires c = rw c.value.ensures (omega (arith, c.requires.budget, produce_light c.args.state.now c.args.caller.now c.args.request.now c.in-Produce.body c.in-Produce.is c.requires.fits))

pub answer_create_acls-requires : goal.answer_create_acls-requires
answer_create_acls-requires c = rw c.value-in-CreateAcls.ensures (omega (arith, c.requires.numbers, few_created c.args.request.now c.in-CreateAcls.body c.in-CreateAcls.is c.requires.fits))

pub answer_join_group-requires : goal.answer_join_group-requires
answer_join_group-requires c = rw c.value-in-JoinGroup.ensures (omega (arith, ints, found_within most_events c.args.state.now.groups c.in-JoinGroup.body.group c.requires.generations))

pub returns-in-Produce-clause-meets : goal.returns-in-Produce-clause-meets
returns-in-Produce-clause-meets c =
    request_met c.args.state.now c.answer_produce.new.state c.args.caller.now c.answer_produce.result c.args.request.now _ (c.in-Produce.is ∙ sym (ap (λ (r : ProduceRequest). requests.Produce r) c.value.ensures)) c.answer_produce.ensures

pub returns-in-OffsetCommit-clause-meets : goal.returns-in-OffsetCommit-clause-meets
returns-in-OffsetCommit-clause-meets c =
    request_met c.args.state.now c.answer_offset_commit.new.state c.args.caller.now c.answer_offset_commit.result c.args.request.now _ (c.in-OffsetCommit.is ∙ sym (ap (λ (r : OffsetCommitRequest). requests.OffsetCommit r) c.value-in-OffsetCommit.ensures)) c.answer_offset_commit.ensures

pub returns-in-AddPartitionsToTxn-clause-meets : goal.returns-in-AddPartitionsToTxn-clause-meets
returns-in-AddPartitionsToTxn-clause-meets c =
    request_met c.args.state.now c.answer_add_partitions.new.state c.args.caller.now c.answer_add_partitions.result c.args.request.now _ (c.in-AddPartitionsToTxn.is ∙ sym (ap (λ (r : AddPartitionsToTxnRequest). requests.AddPartitionsToTxn r) c.value-in-AddPartitionsToTxn.ensures)) c.answer_add_partitions.ensures

pub returns-in-TxnOffsetCommit-clause-meets : goal.returns-in-TxnOffsetCommit-clause-meets
returns-in-TxnOffsetCommit-clause-meets c =
    request_met c.args.state.now c.answer_txn_offset_commit.new.state c.args.caller.now c.answer_txn_offset_commit.result c.args.request.now _ (c.in-TxnOffsetCommit.is ∙ sym (ap (λ (r : TxnOffsetCommitRequest). requests.TxnOffsetCommit r) c.value-in-TxnOffsetCommit.ensures)) c.answer_txn_offset_commit.ensures
