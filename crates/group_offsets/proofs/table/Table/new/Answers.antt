use Rattle.group_offsets.proofs.Partitions.{empty_table, empty_described}
use Rattle.group_offsets.proofs.table.Table.new.Goals as goal

pub returns : goal.returns
returns c = record {
  table = empty_table c.new.result.entries c.new-2.result.entries c.new.ensures.empty c.new-2.ensures.empty;
  described = empty_described c.new.result.entries c.new-2.result.entries c.new.ensures.empty c.new-2.ensures.empty;
}
