-- What is refused, for any questions of a topic.
use Rattle.std.proofs.Common.{ℕ, List, Option}
use Rattle.std.specs.Option.{option_map}
use Rattle.acl_binding.specs.declared.question.Question.{Question}
use Rattle.authorizer.specs.declared.answer.Refusal.{Refusal}
use Rattle.authorizer.specs.Asking.{Rules, part_refusal}
use Rattle.wire_types.specs.declared.error_code.ErrorCode.{ErrorCode}
use Rattle.walk.specs.Codes.{refusal_code}

abbrev pub refused_by : Rules → (List ℕ → List Question) → List ℕ → Option Refusal
refused_by rules asks name = part_refusal rules (asks name)

abbrev pub refused_answer : {A : Type 0} → Rules → List Question → (ErrorCode → A) → Option A
refused_answer rules questions told = option_map (λ r. told (refusal_code r)) (part_refusal rules questions)
