-- What the audit names: the first of the bindings that deny, or that nothing allowed the operation.
use Rattle.std.specs.Prelude.{◌≡◌, false, List}
use Rattle.std.specs.List.{AllByRecursion}
use Rattle.acl_binding.specs.declared.binding.Numbered.{Numbered}
use Rattle.acl_binding.specs.declared.question.Caller.{Caller}
use Rattle.acl_binding.specs.declared.question.Question.{Question}
use Rattle.acl_binding.specs.Verdict.{IsFirstDenial, IsUnmatched}
use Rattle.authorizer.specs.declared.answer.DenyReason.{DenyReason}
use Rattle.authorizer.specs.declared.answer.DenyReason.TheVariants.{Denied, Nothing}
use Rattle.authorizer.specs.declared.answer.Refusal.{Refusal}
use Rattle.authorizer.specs.Policy.{is_super}
use Rattle.authorizer.specs.Asking.{Rules}
use Rattle.msg_admin.specs.declared.request.Request.{Request}
use Rattle.api_dispatch.specs.Refusals.{request_refusals}

-- a binding of this creation number denies it, and no older one, whatever allows it; or none denies
-- it and none allows it
abbrev pub IsNamed : List Numbered → Question → DenyReason → Type 0
IsNamed es q (Denied n) = IsFirstDenial es q n
IsNamed es q Nothing = IsUnmatched es q

-- no super user asks, and why it is refused is named rightly
pub record IsRightRefusal (rules : Rules) (r : Refusal) : Type 0 where
  pub asker : is_super rules.supers r.question.who ≡ false
  pub why : IsNamed rules.book.entries r.question r.why

abbrev pub RefusalsAreRight : Type 0
RefusalsAreRight =
    (rules : Rules) (caller : Caller) (request : Request)
    → AllByRecursion (IsRightRefusal rules) (request_refusals rules caller request)
