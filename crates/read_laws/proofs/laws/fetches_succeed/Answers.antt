use Rattle.read_laws.proofs.Fetches.{tells_no_error, serves_the_next_batch, serves_nothing_else, worlds_have, tells_the_high_watermark, answers_each_topic}
use Rattle.read_laws.proofs.WrongFetches as wrong
use Rattle.read_laws.proofs.laws.fetches_succeed.Goals as goal

pub returns-clause-no_error : goal.returns-clause-no_error
returns-clause-no_error c = tells_no_error

pub returns-clause-no_error_not_out_of_range : goal.returns-clause-no_error_not_out_of_range
returns-clause-no_error_not_out_of_range c = wrong.no_error_not_out_of_range

pub returns-clause-no_error_not_unanswered : goal.returns-clause-no_error_not_unanswered
returns-clause-no_error_not_unanswered c = wrong.no_error_not_unanswered

pub returns-clause-next : goal.returns-clause-next
returns-clause-next c = serves_the_next_batch

pub returns-clause-next_not_out_of_range : goal.returns-clause-next_not_out_of_range
returns-clause-next_not_out_of_range c = wrong.next_not_out_of_range

pub returns-clause-next_also_large : goal.returns-clause-next_also_large
returns-clause-next_also_large c = wrong.next_also_large

pub returns-clause-next_also_last : goal.returns-clause-next_also_last
returns-clause-next_also_last c = wrong.next_also_last

pub returns-clause-next_also_later : goal.returns-clause-next_also_later
returns-clause-next_also_later c = wrong.next_also_later

pub returns-clause-next_not_after : goal.returns-clause-next_not_after
returns-clause-next_not_after c = wrong.next_not_after

pub returns-clause-next_of_level : goal.returns-clause-next_of_level
returns-clause-next_of_level c = wrong.next_of_level

pub returns-clause-else_nothing : goal.returns-clause-else_nothing
returns-clause-else_nothing c = serves_nothing_else

pub returns-clause-else_nothing_of_level : goal.returns-clause-else_nothing_of_level
returns-clause-else_nothing_of_level c = wrong.else_nothing_of_level

pub returns-clause-bytes : goal.returns-clause-bytes
returns-clause-bytes c = worlds_have

pub returns-clause-no_error_at_the_end : goal.returns-clause-no_error_at_the_end
returns-clause-no_error_at_the_end c = wrong.no_error_at_the_end

pub returns-clause-watermark : goal.returns-clause-watermark
returns-clause-watermark c = tells_the_high_watermark

pub returns-clause-watermark_not_the_stable_offset : goal.returns-clause-watermark_not_the_stable_offset
returns-clause-watermark_not_the_stable_offset c = wrong.watermark_not_the_stable_offset

pub returns-clause-each : goal.returns-clause-each
returns-clause-each c = answers_each_topic

pub returns-clause-each_by_name : goal.returns-clause-each_by_name
returns-clause-each_by_name c = wrong.answered_by_name
