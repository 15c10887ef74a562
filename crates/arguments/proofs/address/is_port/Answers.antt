use Rattle.arguments.proofs.LastColon.{port_read}
use Rattle.arguments.proofs.address.is_port.Goals as goal

pub returns : goal.returns
returns c = rw c.is_ok.ensures.value (port_read c.args.text.now c.parse.result c.parse.ensures.value.0)
