use Rattle.std.proofs.Common.{◌∙◌, ap}
use Rattle.std.proofs.lemmas.Result.{IfOk-weaker}
use Rattle.arguments.specs.CommandLine.{with_serve_clients, with_serve_deadlines, with_serve_ending, with_serve_rates, with_serve_reports, with_serve_shares, with_serve_steering, with_serve_switches}
use Rattle.arguments.proofs.serve_options.with_options.Goals as goal

pub returns-clause-app : goal.returns-clause-app
returns-clause-app c =
    let two = c.in_ok-command-2.ensures.app ∙ ap with_serve_switches c.in_ok-command.ensures.app in
    let three = c.in_ok-command-3.ensures.app ∙ ap with_serve_reports two in
    let four = c.in_ok-command-4.ensures.app ∙ ap with_serve_deadlines three in
    let five = c.in_ok-command-5.ensures.app ∙ ap with_serve_shares four in
    let six = c.in_ok-command-6.ensures.app ∙ ap with_serve_rates five in
    let seven = c.in_ok-command-7.ensures.app ∙ ap with_serve_steering six in
    let eight = c.in_ok-command-8.ensures.app ∙ ap with_serve_ending seven in
    IfOk-weaker c.with_clients.result _ _ (λ made added. added ∙ ap with_serve_clients eight) c.with_clients.ensures.app

pub returns-clause-local : goal.returns-clause-local
returns-clause-local c =
    let two = c.in_ok-command-2.ensures.local ∙ c.in_ok-command.ensures.local in
    let three = c.in_ok-command-3.ensures.local ∙ two in
    let four = c.in_ok-command-4.ensures.local ∙ three in
    let five = c.in_ok-command-5.ensures.local ∙ four in
    let six = c.in_ok-command-6.ensures.local ∙ five in
    let seven = c.in_ok-command-7.ensures.local ∙ six in
    let eight = c.in_ok-command-8.ensures.local ∙ seven in
    IfOk-weaker c.with_clients.result _ _ (λ made added. added ∙ eight) c.with_clients.ensures.local
