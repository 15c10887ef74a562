use Rattle.std.proofs.Common.{[], None, rules}
use Rattle.msg_admin.specs.Versions.{unsupported_response}
use Rattle.session_pool.specs.declared.respond.SessionAction.TheVariants as outcome
use Rattle.session_pool.specs.Asks.{setting_of, Tells, Refuses, Garbles, logs_in}
use Rattle.session_pool.proofs.Sessions.{said_of, meant_of}
use Rattle.session_pool.proofs.respond.respond.Goals as goal

pub returns-in-OtherVersion-clause-meant : goal.returns-in-OtherVersion-clause-meant
returns-in-OtherVersion-clause-meant g c =
    said_of (setting_of c.args.login.now g.D.Desk.may_stop) c.args.state c.args.came.now (Tells (unsupported_response c.in-OtherVersion.correlation) c.args.state) c.args.progress.receipts.items c.tell_served.result
    (c.in-OtherVersion.ensures (setting_of c.args.login.now g.D.Desk.may_stop)) (search rules)

pub returns-in-Unserved-clause-meant : goal.returns-in-Unserved-clause-meant
returns-in-Unserved-clause-meant g c =
    said_of (setting_of c.args.login.now g.D.Desk.may_stop) c.args.state c.args.came.now (Refuses []) c.args.progress.receipts.items c.close.result (c.in-Unserved.ensures (setting_of c.args.login.now g.D.Desk.may_stop)) (search rules)

pub returns-in-Overlong-clause-meant : goal.returns-in-Overlong-clause-meant
returns-in-Overlong-clause-meant g c =
    said_of (setting_of c.args.login.now g.D.Desk.may_stop) c.args.state c.args.came.now (logs_in c.in-Overlong.correlation None) c.args.progress.receipts.items c.refuse_login.result
    (c.in-Overlong.ensures (setting_of c.args.login.now g.D.Desk.may_stop)) (search rules)

pub returns-in-Unreadable-clause-meant : goal.returns-in-Unreadable-clause-meant
returns-in-Unreadable-clause-meant g c =
    said_of (setting_of c.args.login.now g.D.Desk.may_stop) c.args.state c.args.came.now Garbles c.args.progress.receipts.items outcome.Malformed (c.in-Unreadable.ensures (setting_of c.args.login.now g.D.Desk.may_stop)) (search rules)

pub returns-in-Whole-clause-meant : goal.returns-in-Whole-clause-meant
returns-in-Whole-clause-meant g c =
    meant_of (setting_of c.args.login.now g.D.Desk.may_stop) c.args.state c.args.came.now c.args.progress.receipts.items c.read.result.0.receipts.items c.read.result.1 (c.in-Whole.ensures (setting_of c.args.login.now g.D.Desk.may_stop)) c.read.ensures.meant
