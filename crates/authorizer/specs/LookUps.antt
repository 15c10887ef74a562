-- How often names are looked up for a verdict. (Kafka documentation, 'Authorization and ACLs':
-- prefixed bindings.)
use Rattle.std.specs.Prelude.{ℕ, ◌+◌, ◌-◌, ◌≤◌, List, [], ◌∷◌, length, map, filter, nat_le, if◌then◌else◌}
use Rattle.std.specs.Char.{len_utf8}
use Rattle.std.specs.Str.{chars}
use Rattle.acl_binding.specs.declared.words.Kind.{Kind}
use Rattle.acl_binding.specs.declared.words.Pattern.TheVariants.{Prefixed}
use Rattle.acl_binding.specs.declared.binding.Numbered.{Numbered}
use Rattle.acl_binding.specs.declared.question.Question.{Question}
use Rattle.authorizer.specs.AnyTopic.{is_of}
use Rattle.authorizer.specs.Longest.{greatest}
use Rattle.authorizer.specs.Policy.{PolicyValue, is_super}

-- the bytes of the longest prefixed name that is bound for this kind, or 0 where none is
abbrev pub longest_prefix : Kind → List Numbered → ℕ
longest_prefix kind es =
    greatest (map (λ (e : Numbered). length e.binding.name) (filter (is_of kind Prefixed) es))

-- how many beginnings of a text with these characters, of one character or more, have at most so
-- many bytes
abbrev pub beginnings_within : ℕ → List ℕ → ℕ
beginnings_within most [] = 0
beginnings_within most (c ∷ cs) =
    if nat_le (len_utf8 c) most then beginnings_within (most - len_utf8 c) cs + 1 else 0

-- Never for a super user. For all others once for the name, once for `*`, and once for each
-- beginning of the name that is no longer than the longest prefixed name bound for its kind.
abbrev pub look_ups : PolicyValue → Question → ℕ
look_ups policy q =
    if is_super policy.supers q.who then 0
    else beginnings_within (longest_prefix q.kind policy.book.entries) (chars q.name) + 2

-- neither more than the name has characters and two, nor more than the longest prefixed name has
-- bytes and two
pub record LookUpsAreFew (policy : PolicyValue) (q : Question) : Type 0 where
  pub by_name : look_ups policy q ≤ length (chars q.name) + 2
  pub by_prefix : look_ups policy q ≤ longest_prefix q.kind policy.book.entries + 2
