use Rattle.std.proofs.Common.{◌++◌, Option, ap, sym, ◌∙◌}
use Rattle.msg_admin.specs.declared.reply.Reply.{Reply}
use Rattle.frame_streams.specs.Responses.{topics_of}
use Rattle.frame_streams.proofs.Wrote.{wrote_both}
use Rattle.session_pool.specs.Responses.{rest_of}
use Rattle.session_pool.proofs.response.Response.send.Goals as goal

pub returns-in-Some : goal.returns-in-Some
returns-in-Some g c = wrote_both _ _ _ c.as_slice.result.now (topics_of c.value.result.now) _ c.write_whole.result _ c.send_topics.result
    (rw (c.as_slice.ensures, c.value.ensures) (ap (λ (o : Option Reply). c.self.inside.front ++ rest_of o) (sym c.in-Some.is) ∙ c.self.view_is)) c.in_ok-write_whole.was c.write_whole.ensures c.send_topics.ensures
