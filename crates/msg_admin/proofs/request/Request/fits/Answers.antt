use Rattle.std.proofs.Common.{◌≡◌, ◌-◌, ◌∙◌, ap, arith}
use Rattle.msg_admin.specs.Api.{is_flexible}
use Rattle.msg_admin.specs.Header.{least_header}
use Rattle.msg_admin.specs.Bodies.{request_body, api_of}
use Rattle.msg_admin.proofs.Headers.{least_small}
use Rattle.msg_admin.proofs.Sizes.{fits_where_left}
use Rattle.msg_admin.proofs.request.Request.fits.Goals as goal

pub returns : goal.returns
returns c =
    let head = c.least_header-header.result in
    let same : head ≡ least_header (is_flexible (api_of c.args.self.now)) = c.least_header-header.ensures ∙ ap least_header (c.is_flexible.ensures ∙ ap is_flexible c.api.ensures) in
    let small = least_small (is_flexible (api_of c.args.self.now)) in
    let told = fits_where_left (request_body (api_of c.args.self.now)) c.args.self.now (104857600 - head) c.deduct_from.result c.deduct_from.ensures in
    (λ h. let p = told.0 (rw c.is_some.ensures at h) in (p.0, omega (arith, p.1, same, small)), λ h. rw c.is_some.ensures (told.1 (h.0, omega (arith, h.1, same, small))))
