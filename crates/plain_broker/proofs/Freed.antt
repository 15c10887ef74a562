-- In the plain broker's world each question of the caller is granted.
use Rattle.std.proofs.Common.{◌≡◌, ℕ, Bool, true, false, cond, List, [], ◌∷◌, Option, None, refl, ap, ◌∙◌}
use Rattle.std.specs.Prelude.{◌||◌}
use Rattle.std.specs.List.{AllByRecursion}
use Rattle.std.specs.Str.{bytes_eq}
use Rattle.std.proofs.lemmas.Slice.Eq.{bytes_eq-Decides}
use Rattle.acl_binding.specs.declared.question.Caller.{Caller}
use Rattle.acl_binding.specs.declared.question.Question.{Question}
use Rattle.acl_binding.specs.declared.question.Verdict.TheVariants.{Yes}
use Rattle.acl_binding.specs.Verdict.{verdict_of}
use Rattle.authorizer.specs.Policy.{is_super}
use Rattle.authorizer.specs.declared.answer.Refusal.{Refusal}
use Rattle.authorizer.specs.Asking.{refusal_by, first_of, part_refusal, question_refusal}
use Rattle.broker_world.specs.World.{World, rules_of}
use Rattle.plain_broker.specs.Plain.{unrestricted_world}

own_name : (name : List ℕ) → bytes_eq name name ≡ true
own_name name = (bytes_eq-Decides name name).1 refl

module _ (w : World) (caller : Caller) where
  question_freed : (q : Question) → q.who ≡ caller.who → question_refusal (rules_of (unrestricted_world w caller)) q ≡ None
  question_freed q own =
      let super : is_super (caller.who ∷ []) q.who ≡ true = ap (is_super (caller.who ∷ [])) own ∙ ap (λ (b : Bool). b || false) (own_name caller.who) in
      ap (λ (b : Bool). refusal_by (cond b Yes (verdict_of w.book.entries q)) q) super

  pub freed : (qs : List Question) → AllByRecursion (λ (q : Question). q.who ≡ caller.who) qs → part_refusal (rules_of (unrestricted_world w caller)) qs ≡ None
  freed [] all = refl
  freed (q ∷ qs) all = ap (λ (o : Option Refusal). first_of o (part_refusal (rules_of (unrestricted_world w caller)) qs)) (question_freed q all.0) ∙ freed qs all.1
