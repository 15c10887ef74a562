use Rattle.data_handlers.specs.SentLaws.{sent_checked}
use Rattle.data_handlers.proofs.produce.sent.Goals as goal

pub returns : goal.returns
returns c = sent_checked c.args.most c.args.records c.batch.result c.batch.ensures.fault c.batch.ensures.batch
