-- Whoever is granted to write some topic has a binding that lets him, and over which no denial stands.
use Rattle.std.proofs.Common.{◌≡◌, ℕ, ◌≤◌, List, length, take, Bool, true, false, ◌&&◌, ◌||◌, not, refl, sym, ap, ◌∙◌, arith, length-take, take-take}
use Rattle.std.specs.Prelude.{nat_eq, ◌==◌}
use Rattle.std.specs.List.{list_any, starts_with}
use Rattle.std.specs.Str.{bytes_eq}
use Rattle.std.proofs.lemmas.Bool.{true≢false}
use Rattle.std.proofs.lemmas.List.Folds.{Any-from_list_any, list_any-from_Any, list_any_none}
use Rattle.std.proofs.lemmas.Slice.Eq.{bytes_eq-Decides}
use Rattle.acl_binding.specs.declared.words.Kind.TheVariants.{Topic}
use Rattle.acl_binding.specs.declared.words.Pattern.{Pattern}
use Rattle.acl_binding.specs.declared.words.Pattern.TheVariants.{Literal, Prefixed}
use Rattle.acl_binding.specs.declared.words.Operation.TheVariants.{Write}
use Rattle.acl_binding.specs.declared.binding.Binding.{Binding}
use Rattle.acl_binding.specs.declared.binding.Numbered.{Numbered}
use Rattle.acl_binding.specs.declared.question.Caller.{Caller}
use Rattle.acl_binding.specs.Words.{pattern_number}
use Rattle.acl_binding.specs.Binding.{name_covers, applies, denies, star}
use Rattle.acl_binding.specs.Verdict.{question_of, is_denial, IsAllowed}
use Rattle.authorizer.specs.AnyTopic.{is_topics, lets_write, stands_over, is_overridden_by_deny, any_topic}

or_true : (a : Bool) → (a || true) ≡ true
or_true true = refl
or_true false = refl

or_false : (a : Bool) → (a || false) ≡ true → a ≡ true
or_false true h = refl
or_false false h = h

-- what begins a beginning begins the name
begins_both : (first second name : List ℕ) → bytes_eq first (take (length first) second) ≡ true → bytes_eq second (take (length second) name) ≡ true → bytes_eq first (take (length first) name) ≡ true
begins_both first second name one two =
    let front : first ≡ take (length first) second = (bytes_eq-Decides first (take (length first) second)).0 one in
    let rest : second ≡ take (length second) name = (bytes_eq-Decides second (take (length second) name)).0 two in
    let short : length first ≤ length second = omega (arith, ap length front, length-take (length first) second) in
    (bytes_eq-Decides first (take (length first) name)).1 (front ∙ ap (take (length first)) rest ∙ take-take (length first) (length second) name short)

-- two that are one text
text_of : (own name : List ℕ) → bytes_eq own name ≡ true → own ≡ name
text_of own name h = (bytes_eq-Decides own name).0 h

-- a name that takes in a topic, and isn't for each name, is that topic's
own_of : (own all : Bool) → (own || all) ≡ true → all ≡ false → own ≡ true
own_of true all h none = refl
own_of false all h none = absurd (true≢false (sym h ∙ none))

-- by the tests of what is written for each name
unless : (all takes : Bool) → (not all && takes) ≡ true → (all ≡ false) × (takes ≡ true)
unless true takes h = absurd (true≢false (sym h))
unless false takes h = (refl, h)

-- what stands over a name that takes in the topic takes it in too
over_name : (deny allow : Pattern) (barred let_in name : List ℕ) → name_covers allow let_in name ≡ true →
    (((pattern_number deny == pattern_number Literal) && bytes_eq barred star)
    || (not ((pattern_number allow == pattern_number Literal) && bytes_eq let_in star)
    && (((pattern_number deny == pattern_number Prefixed) && starts_with nat_eq let_in barred)
    || ((pattern_number deny == pattern_number Literal) && ((pattern_number allow == pattern_number Literal) && bytes_eq barred let_in))))) ≡ true
    → name_covers deny barred name ≡ true
over_name Literal Literal barred let_in name covers over = by (bytes_eq barred star) over where
  by : (all : Bool) → (all || (not (bytes_eq let_in star) && bytes_eq barred let_in)) ≡ true → (bytes_eq barred name || all) ≡ true
  by true h = or_true (bytes_eq barred name)
  by false h =
      let it = unless (bytes_eq let_in star) (bytes_eq barred let_in) h in
      let is : let_in ≡ name = text_of let_in name (own_of (bytes_eq let_in name) (bytes_eq let_in star) covers it.0) in
      ap (λ (b : Bool). b || false) ((bytes_eq-Decides barred name).1 (text_of barred let_in it.1 ∙ is))
over_name Literal Prefixed barred let_in name covers over = ap (λ (b : Bool). bytes_eq barred name || b) (or_false (bytes_eq barred star) over) ∙ or_true (bytes_eq barred name)
over_name Prefixed Literal barred let_in name covers over =
    let it = unless (bytes_eq let_in star) _ over in
    let is : let_in ≡ name = text_of let_in name (own_of (bytes_eq let_in name) (bytes_eq let_in star) covers it.0) in
    ap (λ (l : List ℕ). starts_with nat_eq l barred) (sym is) ∙ or_false (starts_with nat_eq let_in barred) it.1
over_name Prefixed Prefixed barred let_in name covers over = begins_both barred let_in name (or_false (starts_with nat_eq let_in barred) over) covers

any_weaker : (p q : Numbered → Bool) (es : List Numbered) → ((e : Numbered) → p e ≡ true → q e ≡ true) → list_any p es ≡ true → list_any q es ≡ true
any_weaker p q es weaker any =
    let it = Any-from_list_any p es any in
    list_any-from_Any q es (it.0, it.1, it.2, it.3, weaker it.1 it.4)

-- by the tests of the DENY: of topics, applying, denying, standing over the ALLOW, taking in the topic
denied : (k a d s n : Bool) → (s ≡ true → n ≡ true) → (k && ((a && d) && s)) ≡ true → ((k && n) && (a && d)) ≡ true
denied true true true true n over h = ap (λ (b : Bool). b && true) (over refl)
denied true true true false n over h = absurd (true≢false (sym h))
denied true true false s n over h = absurd (true≢false (sym h))
denied true false d s n over h = absurd (true≢false (sym h))
denied false a d s n over h = absurd (true≢false (sym h))

-- by the tests of the ALLOW: of topics, taking in the topic, letting write, barred
let_in : (k n w b : Bool) → ((k && n) && w) ≡ true → (n ≡ true → b ≡ false) → (k && (w && not b)) ≡ true
let_in true true true b h free = ap not (free refl)
let_in true true false b h free = absurd (true≢false (sym h))
let_in true false w b h free = absurd (true≢false (sym h))
let_in false n w b h free = absurd (true≢false (sym h))

module _ (es : List Numbered) (caller : Caller) (name : List ℕ) (allowed : IsAllowed es (question_of caller Write Topic name)) where
  undenied : list_any (λ (e : Numbered). is_denial (question_of caller Write Topic name) e.binding) es ≡ false
  undenied = list_any_none (λ (e : Numbered). is_denial (question_of caller Write Topic name) e.binding) es allowed.undenied

  unbarred : (allow : Binding) → name_covers allow.pattern allow.name name ≡ true → is_overridden_by_deny es caller.who caller.host allow ≡ false
  unbarred allow covers = by (is_overridden_by_deny es caller.who caller.host allow) refl where
    by : (b : Bool) → is_overridden_by_deny es caller.who caller.host allow ≡ b → b ≡ false
    by false h = refl
    by true h = sym (any_weaker _ (λ (e : Numbered). is_denial (question_of caller Write Topic name) e.binding) es
        (λ e. denied (is_topics e.binding) (applies e.binding caller.who caller.host) (denies e.binding Write) (stands_over e.binding allow) (name_covers e.binding.pattern e.binding.name name)
        (over_name e.binding.pattern allow.pattern e.binding.name allow.name name covers)) h) ∙ undenied

  pub writes_any : any_topic es caller.who caller.host ≡ true
  writes_any =
      let it = allowed.allows in
      let e = it.1 in
      list_any-from_Any (λ (e : Numbered). is_topics e.binding && (lets_write caller.who caller.host e.binding && not (is_overridden_by_deny es caller.who caller.host e.binding))) es
      (it.0, e, it.2, it.3, let_in (is_topics e.binding) (name_covers e.binding.pattern e.binding.name name) (lets_write caller.who caller.host e.binding) (is_overridden_by_deny es caller.who caller.host e.binding) it.4 (unbarred e.binding))
