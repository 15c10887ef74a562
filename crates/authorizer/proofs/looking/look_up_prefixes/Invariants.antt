use Rattle.std.proofs.Common.{◌≡◌, ◌+◌, ◌-◌, List, drop, filter}
use Rattle.std.specs.List.{AllByRecursion}
use Rattle.std.specs.Str.{chars, IsCharBoundary}
use Rattle.std.specs.Str.Iter.{chars_rest}
use Rattle.acl_binding.specs.declared.binding.Numbered.{Numbered}
use Rattle.acl_binding.specs.declared.words.Pattern.TheVariants.{Prefixed}
use Rattle.authorizer.specs.Looking.{finding_of, combined_finding, is_longer, IsNamed, IsTableOf}
use Rattle.authorizer.specs.LookUps.{beginnings_within}
use Rattle.authorizer.proofs.looking.look_up_prefixes.Given as goal

-- the shorter prefixes are looked up, the longer ones are left
abbrev pub invariant-loop-c : goal.invariant-loop-c
invariant-loop-c l = record {
  rest : chars_rest l.c-iterator ≡ drop l.end l.question.name;
  boundary : IsCharBoundary l.question.name l.end;
  looked : l.looked + beginnings_within (l.longest - l.end) (chars (drop l.end l.question.name)) ≡ l.fn.looked + beginnings_within l.longest (chars l.question.name);
  left : (es : List Numbered) → AllByRecursion IsNamed es → IsTableOf l.names l.question.kind Prefixed es → combined_finding l.finding (finding_of (filter (is_longer l.question.kind l.question.name l.end) es) l.question) ≡ finding_of (filter (is_longer l.question.kind l.question.name 0) es) l.question;
}
