use Rattle.std.proofs.lemmas.Bool.{both_ways}
use Rattle.arguments.proofs.LastColon.{colon_missing, with_host, without_host}
use Rattle.arguments.proofs.address.is_address.Goals as goal

pub returns-then-is_host : goal.returns-then-is_host
returns-then-is_host c =
    with_host c.args.text.now c.in-Some.host.now c.in-Some.port.now c.in-Some.ensures.cases (c.is_host.ensures.0 c.if-is_host.true) c.is_port.result c.is_port.ensures

pub returns-else-is_host : goal.returns-else-is_host
returns-else-is_host c =
    without_host c.args.text.now c.in-Some.host.now c.in-Some.port.now c.in-Some.ensures.cases
    (λ host. both_ways c.is_host.result c.if-is_host.false (c.is_host.ensures.1 host)) c.is_host.result c.if-is_host.false

pub returns-in-None : goal.returns-in-None
returns-in-None c = colon_missing c.args.text.now c.in-None.ensures.cases
