-- The audit line of a refusal, word by word.
use Rattle.std.specs.Prelude.{◌≡◌, ℕ, List, codes as bytes}
use Rattle.acl_binding.specs.declared.words.Kind.{Kind}
use Rattle.acl_binding.specs.declared.words.Kind.TheVariants as kinds
use Rattle.acl_binding.specs.declared.words.Operation.{Operation}
use Rattle.acl_binding.specs.declared.words.Operation.TheVariants as operations
use Rattle.authorizer.specs.declared.answer.DenyReason.{DenyReason}
use Rattle.authorizer.specs.declared.answer.DenyReason.TheVariants.{Denied, Nothing}
use Rattle.authorizer.specs.declared.answer.Refusal.{Refusal}
use Rattle.audit_trail.specs.Line.{line_of}

abbrev pub LineRule : Type 0
LineRule = Refusal → List ℕ

abbrev pub refusal : Operation → Kind → List ℕ → DenyReason → Refusal
refusal op kind name why = record {
  question = record {
    who = bytes "User:ann";
    host = bytes "::1";
    op = op;
    kind = kind;
    name = name;
  };
  why = why;
}

-- what denied it, or that nothing allowed it; what was asked; by whom and from where
pub record LinesNameTheBinding (rule : LineRule) : Type 0 where
  pub denied : rule (refusal operations.Read kinds.Topic (bytes "a b") (Denied 12))
      ≡ bytes "denied READ Topic a%20b User:ann ::1 by 12"
  pub unmatched : rule (refusal operations.Write kinds.TransactionalId (bytes "t") Nothing)
      ≡ bytes "unmatched WRITE TransactionalId t User:ann ::1"

-- ---- wrong

abbrev pub first_or_nothing : DenyReason → DenyReason
first_or_nothing (Denied n) = Denied 1
first_or_nothing Nothing = Nothing

-- each denial is told as the first binding's
abbrev pub line_by_the_first : LineRule
line_by_the_first r = line_of (record r { why = first_or_nothing r.why })

-- a denial is told as one that nothing allowed
abbrev pub line_unmatched : LineRule
line_unmatched r = line_of (record r { why = Nothing })
