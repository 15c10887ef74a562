use Rattle.commands.proofs.NumberLemmas.{number_read, number_unread}
use Rattle.commands.proofs.order.parse_number.Goals as goal

pub returns-in-Ok : goal.returns-in-Ok
returns-in-Ok c = number_read c.args.digits.now c.parse.result c.in-Ok.number c.if-starts_with.ensures.cases c.parse.ensures.value.0 c.in-Ok.is

pub returns-in-Err : goal.returns-in-Err
returns-in-Err c = number_unread c.args.digits.now c.parse.result c.in-Err.field-0 c.if-starts_with.ensures.cases c.parse.ensures.value.0 c.in-Err.is
