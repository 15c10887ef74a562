-- The definitions computed on worked cases.
use Rattle.std.specs.Prelude.{◌≡◌, ℕ, Bool, true, false, List, [], ◌∷◌, codes, refl}
use Rattle.acl_binding.specs.declared.binding.Numbered.{Numbered}
use Rattle.acl_binding.specs.declared.question.Question.{Question}
use Rattle.acl_binding.specs.declared.words.Kind.TheVariants as kinds
use Rattle.acl_binding.specs.declared.words.Pattern.{Pattern}
use Rattle.acl_binding.specs.declared.words.Pattern.TheVariants as patterns
use Rattle.acl_binding.specs.declared.words.Operation.{Operation}
use Rattle.acl_binding.specs.declared.words.Operation.TheVariants as operations
use Rattle.acl_binding.specs.declared.words.Permission.{Permission}
use Rattle.acl_binding.specs.declared.words.Permission.TheVariants as permissions
use Rattle.acl_binding.specs.Book.{empty_book}
use Rattle.authorizer.specs.AnyTopic.{any_topic}
use Rattle.authorizer.specs.Asking.{Rules}
use Rattle.authorizer.specs.Tally.{count_after, count_after_parts}

-- ---- what is counted, where no binding stands and `a` is a super user

abbrev root_alone : Rules
root_alone = record { book = empty_book; supers = (97 ∷ []) ∷ [] }

-- to read the topic `t`, by the super user and by `b`
abbrev by_root : Question
by_root = record { who = 97 ∷ []; host = []; op = operations.Read; kind = kinds.Topic; name = 116 ∷ [] }

abbrev by_another : Question
by_another = record { who = 98 ∷ []; host = []; op = operations.Read; kind = kinds.Topic; name = 116 ∷ [] }

-- a part of two questions and one of one
three : count_after_parts root_alone 0 ((by_root ∷ by_root ∷ []) ∷ (by_root ∷ []) ∷ []) ≡ 3
three = refl

-- for a part that is refused nothing is spent, though one of its questions is granted
none_for_a_refused_part : count_after_parts root_alone 0 ((by_root ∷ by_another ∷ []) ∷ []) ≡ 0
none_for_a_refused_part = refl

-- at its end it stands still
no_further : count_after 18446744073709551615 (by_root ∷ []) ≡ 18446744073709551615
no_further = refl

-- ---- whether ann may write to some topic

abbrev of_ann : ℕ → List ℕ → Pattern → Operation → Permission → Numbered
of_ann number name pattern operation permission = record {
  number = number;
  binding = record { kind = kinds.Topic; name = name; pattern = pattern; principal = codes "User:ann"; host = codes "*"; operation = operation; permission = permission };
}

abbrev any_of_ann : List Numbered → Bool
any_of_ann es = any_topic es (codes "User:ann") (codes "10.0.0.5")

abbrev pays : Numbered
pays = of_ann 1 (codes "pay.") patterns.Prefixed operations.Write permissions.Allow

abbrev not_pay_itself : Numbered
not_pay_itself = of_ann 2 (codes "pay.") patterns.Literal operations.Write permissions.Deny

abbrev not_what_pay_begins : Numbered
not_what_pay_begins = of_ann 3 (codes "pay") patterns.Prefixed operations.All permissions.Deny

abbrev all_topics : Numbered
all_topics = of_ann 4 (codes "*") patterns.Literal operations.All permissions.Allow

abbrev no_topics : Numbered
no_topics = of_ann 6 (codes "*") patterns.Literal operations.Write permissions.Deny

one_prefix : any_of_ann (pays ∷ []) ≡ true
one_prefix = refl

-- a literal name of a prefix is one of its names
not_one_name : any_of_ann (pays ∷ not_pay_itself ∷ []) ≡ true
not_one_name = refl

none_that_begins : any_of_ann (pays ∷ not_pay_itself ∷ not_what_pay_begins ∷ []) ≡ false
none_that_begins = refl

each_name : any_of_ann (pays ∷ not_pay_itself ∷ not_what_pay_begins ∷ all_topics ∷ []) ≡ true
each_name = refl

no_name : any_of_ann (pays ∷ not_pay_itself ∷ not_what_pay_begins ∷ all_topics ∷ no_topics ∷ []) ≡ false
no_name = refl

abbrev writes_x : Numbered
writes_x = of_ann 1 (codes "x") patterns.Literal operations.Write permissions.Allow

not_what_x_begins : any_of_ann (writes_x ∷ of_ann 2 (codes "x") patterns.Prefixed operations.Write permissions.Deny ∷ []) ≡ false
not_what_x_begins = refl

may_not_read : any_of_ann (writes_x ∷ of_ann 2 (codes "*") patterns.Literal operations.Read permissions.Deny ∷ []) ≡ true
may_not_read = refl

may_read : any_of_ann (of_ann 1 (codes "x") patterns.Literal operations.Read permissions.Allow ∷ []) ≡ false
may_read = refl

-- a longer prefix leaves names
not_a_longer_one : any_of_ann (pays ∷ of_ann 2 (codes "pay.eu") patterns.Prefixed operations.Write permissions.Deny ∷ []) ≡ true
not_a_longer_one = refl

-- nor is a prefix looked at under `*`
not_what_star_begins : any_of_ann (all_topics ∷ of_ann 2 (codes "*") patterns.Prefixed operations.Write permissions.Deny ∷ []) ≡ true
not_what_star_begins = refl
