use Rattle.std.proofs.Common.{◌∙◌, refl, w32}
use Rattle.std.proofs.lemmas.Int.{to_z_pos}
use Rattle.msg_admin.specs.Header.{with_header_tags}
use Rattle.msg_admin.proofs.Sizes.{header_refused, body_refused, frame_is}
use Rattle.msg_admin.proofs.frame.write_frame.Goals as goal

pub returns-in_err-write_header : goal.returns-in_err-write_header
returns-in_err-write_header g c =
    let head = with_header_tags c.args.flexible g.H.Wire.grammar in
    header_refused head g.B.Wire.grammar c.args.header.now c.args.body.now _ c.from_residual-in_err-write_header.result (head.put c.write_i32.new.out.items c.args.header.now) c.write_header.new.out.items c.in_err-write_header.ensures c.from_residual-in_err-write_header.ensures.1

pub returns-in_err-write : goal.returns-in_err-write
returns-in_err-write g c = body_refused (with_header_tags c.args.flexible g.H.Wire.grammar) g.B.Wire.grammar c.args.header.now c.args.body.now _ c.from_residual-in_err-write.result (g.B.Wire.grammar.put c.write_header.new.out.items c.args.body.now) c.write.new.out.items c.in_err-write.ensures.spelled c.from_residual-in_err-write.ensures.1

pub returns : goal.returns
returns g c =
    let told = c.in-Some.ensures in
    let sized = c.in_ok-write_i32.ensures.ok ∙ rw (c.in_ok-out.ensures.items, to_z_pos w32 c.in-Some.size told.2) refl in
    (told.0, c.in_ok-from_vec.ensures ∙ frame_is (with_header_tags c.args.flexible g.H.Wire.grammar) g.B.Wire.grammar c.args.header.now c.args.body.now c.in-Some.size _ _ _ told.1 sized c.in_ok-write_header.ensures.1 c.in_ok-write.ensures.spelled.1)
