use Rattle.std.proofs.Common.{◌∙◌}
use Rattle.msg_admin.proofs.Unsupported.{asked, asked-again, unread}
use Rattle.msg_admin.proofs.versions.unsupported_versions.Goals as goal

pub returns-clause-found : goal.returns-clause-found
returns-clause-found c = asked c.args.frame.now c.asked_in_another.result c.asked_in_another.ensures

pub returns-clause-only : goal.returns-clause-only
returns-clause-only c = λ correlation i. c.asked_in_another.ensures ∙ asked-again c.args.frame.now correlation i

pub returns-clause-unread : goal.returns-clause-unread
returns-clause-unread c = unread c.args.frame.now c.asked_in_another.result (asked c.args.frame.now c.asked_in_another.result c.asked_in_another.ensures)
