-- What bindings answer to a question (Kafka documentation, 'Authorization and ACLs'): deny before
-- allow.
use Rattle.std.specs.Prelude.{◌≡◌, ℕ, ◌≤◌, min, Bool, true, false, ◌&&◌, List, [], ◌∷◌, All, Any, if◌then◌else◌, Option, Some, None}
use Rattle.std.specs.List.{list_any}
use Rattle.acl_binding.specs.declared.words.Kind.{Kind}
use Rattle.acl_binding.specs.declared.words.Operation.{Operation}
use Rattle.acl_binding.specs.declared.binding.Binding.{Binding}
use Rattle.acl_binding.specs.declared.binding.Numbered.{Numbered}
use Rattle.acl_binding.specs.declared.question.Caller.{Caller}
use Rattle.acl_binding.specs.declared.question.Question.{Question}
use Rattle.acl_binding.specs.declared.question.Verdict.{Verdict}
use Rattle.acl_binding.specs.declared.question.Verdict.TheVariants.{Yes, Denied, Nothing}
use Rattle.acl_binding.specs.Binding.{covers, applies, denies, allows}

-- may the caller do this with the resource of this name?
abbrev pub question_of : Caller → Operation → Kind → List ℕ → Question
question_of caller op kind name =
    record { who = caller.who; host = caller.host; op = op; kind = kind; name = name }

-- the binding covers, applies and denies
abbrev pub is_denial : Question → Binding → Bool
is_denial q b = covers b q.kind q.name && (applies b q.who q.host && denies b q.op)

-- the binding covers, applies and allows
abbrev pub is_grant : Question → Binding → Bool
is_grant q b = covers b q.kind q.name && (applies b q.who q.host && allows b q.op)

-- the lesser of two, where there is a second
abbrev pub lesser_of : ℕ → Option ℕ → ℕ
lesser_of n None = n
lesser_of n (Some m) = min n m

-- the least of the numbers
abbrev pub least_of : List ℕ → Option ℕ
least_of [] = None
least_of (n ∷ ns) = Some (lesser_of n (least_of ns))

-- the creation numbers of the bindings that deny
abbrev pub denials : List Numbered → Question → List ℕ
denials [] q = []
denials (e ∷ es) q = if is_denial q e.binding then e.number ∷ denials es q else denials es q

-- some binding allows
abbrev pub any_grant : List Numbered → Question → Bool
any_grant es q = list_any (λ (e : Numbered). is_grant q e.binding) es

-- deny before allow: the number that denies, else Yes where something allows
abbrev pub verdict_by : Option ℕ → Bool → Verdict
verdict_by (Some n) any = Denied n
verdict_by None true = Yes
verdict_by None false = Nothing

-- what the bindings say: the least number of one that denies, else Yes where any allows
abbrev pub verdict_of : List Numbered → Question → Verdict
verdict_of es q = verdict_by (least_of (denials es q)) (any_grant es q)

-- ---- the same in the subject's words

-- a binding with this number denies, and each that denies has this number or a greater one
pub record IsFirstDenial (es : List Numbered) (q : Question) (n : ℕ) : Type 0 where
  pub denies : Any (λ (e : Numbered). (e.number ≡ n) × (is_denial q e.binding ≡ true)) es
  pub first : All (λ (e : Numbered). is_denial q e.binding ≡ true → n ≤ e.number) es

-- no binding denies, and one allows
pub record IsAllowed (es : List Numbered) (q : Question) : Type 0 where
  pub undenied : All (λ (e : Numbered). is_denial q e.binding ≡ false) es
  pub allows : Any (λ (e : Numbered). is_grant q e.binding ≡ true) es

-- no binding denies, and none allows
pub record IsUnmatched (es : List Numbered) (q : Question) : Type 0 where
  pub undenied : All (λ (e : Numbered). is_denial q e.binding ≡ false) es
  pub unallowed : All (λ (e : Numbered). is_grant q e.binding ≡ false) es

-- the verdict is right for these bindings
abbrev pub IsDecided : List Numbered → Question → Verdict → Type 0
IsDecided es q (Denied n) = IsFirstDenial es q n
IsDecided es q Yes = IsAllowed es q
IsDecided es q Nothing = IsUnmatched es q

-- each question has its right verdict
abbrev pub VerdictIsDecided : Type 0
VerdictIsDecided = (es : List Numbered) (q : Question) → IsDecided es q (verdict_of es q)
