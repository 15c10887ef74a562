use Rattle.msg_admin.specs.Header.{with_header_tags}
use Rattle.msg_admin.proofs.Sizes.{left_bounded, tells_some, tells_none}
use Rattle.msg_admin.proofs.frame.header_size.Goals as goal

pub overflow_sub-result : goal.overflow_sub-result
overflow_sub-result g c = left_bounded (with_header_tags c.args.flexible g.H.Wire.grammar) c.args.header.now c.in-Some.budget c.in-Some.ensures

pub returns-in-Some : goal.returns-in-Some
returns-in-Some g c = tells_some (with_header_tags c.args.flexible g.H.Wire.grammar) c.args.header.now c.in-Some.budget c.in-Some.ensures

pub returns-in-None : goal.returns-in-None
returns-in-None g c = tells_none (with_header_tags c.args.flexible g.H.Wire.grammar) c.args.header.now c.in-None.ensures
