use Rattle.std.proofs.Common.{◌∙◌, refl, w32}
use Rattle.std.proofs.lemmas.Int.{to_z_pos}
use Rattle.msg_admin.specs.Header.{with_header_tags}
use Rattle.msg_admin.proofs.Sizes.{alone_refused, alone_is}
use Rattle.msg_admin.proofs.frame.write_header_frame.Goals as goal

pub returns-in_err-write_header : goal.returns-in_err-write_header
returns-in_err-write_header g c =
    let head = with_header_tags c.args.flexible g.H.Wire.grammar in
    alone_refused head c.args.header.now _ c.from_residual-in_err-write_header.result (head.put c.write_i32.new.out.items c.args.header.now) c.write_header.new.out.items c.in_err-write_header.ensures c.from_residual-in_err-write_header.ensures.1

pub returns : goal.returns
returns g c =
    let told = c.in-Some.ensures in
    let sized = c.in_ok-write_i32.ensures.ok ∙ rw (c.in_ok-out.ensures.items, to_z_pos w32 c.in-Some.count told.2) refl in
    (told.0, c.in_ok-from_vec.ensures ∙ alone_is (with_header_tags c.args.flexible g.H.Wire.grammar) c.args.header.now c.in-Some.count _ _ told.1 sized c.in_ok-write_header.ensures.1)
