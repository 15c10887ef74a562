use Rattle.std.proofs.Common.{◌≡◌, List, drop, filter}
use Rattle.std.specs.List.{AllByRecursion, list_any}
use Rattle.std.specs.Str.{IsCharBoundary}
use Rattle.std.specs.Str.Iter.{chars_rest}
use Rattle.acl_binding.specs.declared.words.Kind.TheVariants.{Topic}
use Rattle.acl_binding.specs.declared.words.Pattern.TheVariants.{Prefixed}
use Rattle.acl_binding.specs.declared.binding.Numbered.{Numbered}
use Rattle.authorizer.specs.AnyTopic.{bars_write}
use Rattle.authorizer.specs.Looking.{is_longer, IsNamed, IsTableOf}
use Rattle.authorizer.proofs.index.any_topic.prefixes_deny_write.Given as goal

-- none of the shorter beginnings bars
abbrev pub invariant-loop-c : goal.invariant-loop-c
invariant-loop-c l = record {
  rest : chars_rest l.c-iterator ≡ drop l.end l.name;
  boundary : IsCharBoundary l.name l.end;
  left : (es : List Numbered) → AllByRecursion IsNamed es → IsTableOf l.names Topic Prefixed es →
      list_any (λ (e : Numbered). bars_write l.who l.host e.binding) (filter (is_longer Topic l.name l.end) es) ≡ list_any (λ (e : Numbered). bars_write l.who l.host e.binding) (filter (is_longer Topic l.name 0) es);
}
