-- Whether a caller may write to some topic, as far as bindings tell: then it may have a producer id
-- without a transactional id (KIP-679). Whether there is such a topic isn't asked.
use Rattle.std.specs.Prelude.{ℕ, Bool, ◌&&◌, ◌||◌, not, ◌==◌, nat_eq, List}
use Rattle.std.specs.List.{list_any, starts_with}
use Rattle.std.specs.Str.{bytes_eq}
use Rattle.acl_binding.specs.declared.words.Kind.{Kind}
use Rattle.acl_binding.specs.declared.words.Kind.TheVariants.{Topic}
use Rattle.acl_binding.specs.declared.words.Pattern.{Pattern}
use Rattle.acl_binding.specs.declared.words.Pattern.TheVariants.{Literal, Prefixed}
use Rattle.acl_binding.specs.declared.words.Operation.TheVariants.{Write}
use Rattle.acl_binding.specs.declared.binding.Binding.{Binding}
use Rattle.acl_binding.specs.declared.binding.Numbered.{Numbered}
use Rattle.acl_binding.specs.Words.{kind_number, pattern_number}
use Rattle.acl_binding.specs.Binding.{applies, denies, allows, star}

abbrev pub is_topics : Binding → Bool
is_topics b = kind_number b.kind == kind_number Topic

-- the binding applies, and is an ALLOW of WRITE, or of all
abbrev pub lets_write : List ℕ → List ℕ → Binding → Bool
lets_write who host b = applies b who host && allows b Write

-- the binding applies, and is a DENY of WRITE, or of all
abbrev pub bars_write : List ℕ → List ℕ → Binding → Bool
bars_write who host b = applies b who host && denies b Write

-- the binding is for each name
abbrev pub is_star : Binding → Bool
is_star b = (pattern_number b.pattern == pattern_number Literal) && bytes_eq b.name star

-- the binding is prefixed, and its name begins that of the other
abbrev pub is_prefix_of : Binding → Binding → Bool
is_prefix_of b other =
    (pattern_number b.pattern == pattern_number Prefixed) && starts_with nat_eq other.name b.name

-- both are for the same literal name
abbrev pub is_same_literal : Binding → Binding → Bool
is_same_literal b other =
    (pattern_number b.pattern == pattern_number Literal)
    && ((pattern_number other.pattern == pattern_number Literal) && bytes_eq b.name other.name)

-- the name of the one begins that of the other, or both are for the same literal name
abbrev pub takes_name : Binding → Binding → Bool
takes_name b other = is_prefix_of b other || is_same_literal b other

-- a DENY stands over an ALLOW that it leaves no name: it is for each name; or the ALLOW isn't, and
-- the DENY takes its name
abbrev pub stands_over : Binding → Binding → Bool
stands_over deny allow = is_star deny || (not (is_star allow) && takes_name deny allow)

-- some DENY of writing stands over the ALLOW
abbrev pub is_overridden_by_deny : List Numbered → List ℕ → List ℕ → Binding → Bool
is_overridden_by_deny es who host allow =
    list_any
    (λ (e : Numbered). is_topics e.binding
    && (bars_write who host e.binding && stands_over e.binding allow))
    es

-- some DENY of writing takes the ALLOW's name
abbrev pub is_overridden_by_name : List Numbered → List ℕ → List ℕ → Binding → Bool
is_overridden_by_name es who host allow =
    list_any
    (λ (e : Numbered). is_topics e.binding
    && (bars_write who host e.binding && takes_name e.binding allow))
    es

-- the binding is an ALLOW of writing with no DENY over it
abbrev pub is_unbarred : List Numbered → List ℕ → List ℕ → Numbered → Bool
is_unbarred es who host e =
    lets_write who host e.binding && not (is_overridden_by_deny es who host e.binding)

-- it has this kind and pattern
abbrev pub is_of : Kind → Pattern → Numbered → Bool
is_of kind pattern e =
    (kind_number e.binding.kind == kind_number kind)
    && (pattern_number e.binding.pattern == pattern_number pattern)

-- some ALLOW of writing to topics has no DENY over it
abbrev pub any_topic : List Numbered → List ℕ → List ℕ → Bool
any_topic es who host =
    list_any (λ (e : Numbered). is_topics e.binding && is_unbarred es who host e) es
