-- Where each question has the same verdict in both worlds, all that goes by verdicts is the same.
use Rattle.std.proofs.Common.{◌≡◌, ℕ, Bool, true, false, cond, List, [], ◌∷◌, ◌++◌, map, Option, Some, None, refl, sym, ap, ◌∙◌}
use Rattle.std.specs.Prelude.{filter, is_none}
use Rattle.std.specs.Option.{option_map}
use Rattle.std.specs.List.{AllByRecursion, flat_map, cons_option}
use Rattle.acl_binding.specs.declared.question.Caller.{Caller}
use Rattle.acl_binding.specs.declared.question.Question.{Question}
use Rattle.acl_binding.specs.declared.question.Verdict.{Verdict}
use Rattle.acl_binding.specs.declared.question.Verdict.TheVariants.{Yes, Denied, Nothing}
use Rattle.authorizer.specs.Policy.{verdict}
use Rattle.walk.specs.Woven.{has_any}
use Rattle.authorizer.specs.declared.answer.Refusal.{Refusal}
use Rattle.authorizer.specs.Asking.{refusal_by, first_of, part_refusal, question_refusal}
use Rattle.wire_types.specs.declared.error_code.ErrorCode.{ErrorCode}
use Rattle.wire_types.specs.declared.topic.Topic.{Topic}
use Rattle.msg_data.specs.declared.metadata.TopicInfo.{TopicInfo}
use Rattle.walk.specs.Codes.{refusal_code}
use Rattle.walk.specs.Weave.{weave}
use Rattle.broker_world.specs.World.{World, rules_of}
use Rattle.broker_world.specs.Questions.{topic_part}
use Rattle.data_handlers.specs.Metadata.{topic_error}
use Rattle.api_dispatch.specs.Questions.{partition_parts}
use Rattle.api_dispatch.specs.Refusals.{refusals_in}
use Rattle.plain_broker.specs.Exactly.{is_granted}
use Rattle.plain_broker.specs.Allowed.{unrefused_topic, unrefused_topics, unrefused_names}
use Rattle.plain_broker.proofs.Terms.{refused_by, refused_answer}
use Rattle.plain_broker.specs.PutBack.{topics_with_refused, infos_with_refused}
use Rattle.tenant_laws.specs.Laws.{SameVerdicts}
use Rattle.api_laws.specs.Headline.{is_yes}
use Rattle.tenant_laws.specs.Replies.{SameGrants}

-- ---- lists after one another

pub all_front : {A : Type 0} (Is : A → Type 0) (xs ys : List A) → AllByRecursion Is (xs ++ ys) → AllByRecursion Is xs
all_front Is [] ys all = tt
all_front Is (x ∷ xs) ys all = (all.0, all_front Is xs ys all.1)

pub all_back : {A : Type 0} (Is : A → Type 0) (xs ys : List A) → AllByRecursion Is (xs ++ ys) → AllByRecursion Is ys
all_back Is [] ys all = all
all_back Is (x ∷ xs) ys all = all_back Is xs ys all.1

-- ---- the code of a refusal

first_code : (x y : Verdict) (q : Question) (a b : Option Refusal) → is_yes x ≡ is_yes y → option_map refusal_code a ≡ option_map refusal_code b → option_map refusal_code (first_of (refusal_by x q) a) ≡ option_map refusal_code (first_of (refusal_by y q) b)
first_code Yes Yes q a b alike same = same
first_code Yes (Denied n) q a b alike same = absurd (let clash : true ≡ false = alike in cc)
first_code Yes Nothing q a b alike same = absurd (let clash : true ≡ false = alike in cc)
first_code (Denied n) Yes q a b alike same = absurd (let clash : false ≡ true = alike in cc)
first_code (Denied n) (Denied m) q a b alike same = refl
first_code (Denied n) Nothing q a b alike same = refl
first_code Nothing Yes q a b alike same = absurd (let clash : false ≡ true = alike in cc)
first_code Nothing (Denied m) q a b alike same = refl
first_code Nothing Nothing q a b alike same = refl

grant_of : (o : Option Refusal) → is_none o ≡ is_none (option_map refusal_code o)
grant_of None = refl
grant_of (Some r) = refl

answer_of : {A : Type 0} (told : ErrorCode → A) (o : Option Refusal) → option_map (λ (r : Refusal). told (refusal_code r)) o ≡ option_map told (option_map refusal_code o)
answer_of told None = refl
answer_of told (Some r) = refl

any_of : (o : Option Refusal) (rs : List Refusal) → has_any (cons_option o rs) ≡ cond (is_none o) (has_any rs) true
any_of None rs = refl
any_of (Some r) rs = refl

-- ---- parts

module _ (v w : World) where
  -- the part is refused in both or in neither, for the same
  abbrev pub SameRefusal : List Question → Type 0
  SameRefusal part = part_refusal (rules_of v) part ≡ part_refusal (rules_of w) part

  same_refusal : (qs : List Question) → SameVerdicts v w qs → SameRefusal qs
  same_refusal [] all = refl
  same_refusal (q ∷ qs) all = ap (λ (x : Verdict). first_of (refusal_by x q) (part_refusal (rules_of v) qs)) all.0 ∙ ap (first_of (question_refusal (rules_of w) q)) (same_refusal qs all.1)

  pub each_part : (parts : List (List Question)) → SameVerdicts v w (flat_map (λ part. part) parts) → AllByRecursion SameRefusal parts
  each_part [] all = tt
  each_part (part ∷ parts) all =
      let rest : List Question = flat_map (λ part. part) parts in
      (same_refusal part (all_front _ part rest all), each_part parts (all_back _ part rest all))

  -- ---- grants alone

  abbrev pub SameCode : List Question → Type 0
  SameCode part = option_map refusal_code (part_refusal (rules_of v) part) ≡ option_map refusal_code (part_refusal (rules_of w) part)

  same_code : (qs : List Question) → SameGrants v w qs → SameCode qs
  same_code [] all = refl
  same_code (q ∷ qs) all = first_code (verdict v.book v.supers q) (verdict w.book w.supers q) q (part_refusal (rules_of v) qs) (part_refusal (rules_of w) qs) all.0 (same_code qs all.1)

  pub each_code : (parts : List (List Question)) → SameGrants v w (flat_map (λ part. part) parts) → AllByRecursion SameCode parts
  each_code [] all = tt
  each_code (part ∷ parts) all =
      let rest : List Question = flat_map (λ part. part) parts in
      (same_code part (all_front _ part rest all), each_code parts (all_back _ part rest all))

  grant_same : (qs : List Question) → SameCode qs → is_granted (rules_of v) qs ≡ is_granted (rules_of w) qs
  grant_same qs same = grant_of (part_refusal (rules_of v) qs) ∙ ap (λ (o : Option ErrorCode). is_none o) same ∙ sym (grant_of (part_refusal (rules_of w) qs))

  answer_same : {A : Type 0} (qs : List Question) (told : ErrorCode → A) → SameCode qs → refused_answer (rules_of v) qs told ≡ refused_answer (rules_of w) qs told
  answer_same qs told same = answer_of told (part_refusal (rules_of v) qs) ∙ ap (option_map told) same ∙ sym (answer_of told (part_refusal (rules_of w) qs))

  pub any_same : (parts : List (List Question)) → AllByRecursion SameCode parts → has_any (refusals_in (rules_of v) parts) ≡ has_any (refusals_in (rules_of w) parts)
  any_same [] all = refl
  any_same (part ∷ parts) all =
      any_of (part_refusal (rules_of v) part) (refusals_in (rules_of v) parts)
      ∙ ap (λ (b : Bool). cond b (has_any (refusals_in (rules_of v) parts)) true) (grant_same part all.0)
      ∙ ap (λ (b : Bool). cond (is_granted (rules_of w) part) b true) (any_same parts all.1)
      ∙ sym (any_of (part_refusal (rules_of w) part) (refusals_in (rules_of w) parts))

  pub refusals_same : (parts : List (List Question)) → AllByRecursion SameRefusal parts → refusals_in (rules_of v) parts ≡ refusals_in (rules_of w) parts
  refusals_same [] all = refl
  refusals_same (part ∷ parts) all = ap (λ (o : Option Refusal). cons_option o (refusals_in (rules_of v) parts)) all.0 ∙ ap (cons_option (part_refusal (rules_of w) part)) (refusals_same parts all.1)

  -- ---- partitions

  module _ {P : Type 0} (asks : List ℕ → List Question) where
    parts_same : (qs : List Question) (ps : List P) → AllByRecursion SameCode (map (λ (p : P). qs) ps) → filter (λ (p : P). is_granted (rules_of v) qs) ps ≡ filter (λ (p : P). is_granted (rules_of w) qs) ps
    parts_same qs [] all = refl
    parts_same qs (p ∷ ps) all =
        ap (λ (b : Bool). cond b (p ∷ filter (λ (x : P). is_granted (rules_of v) qs) ps) (filter (λ (x : P). is_granted (rules_of v) qs) ps)) (grant_same qs all.0)
        ∙ ap (λ (l : List P). cond (is_granted (rules_of w) qs) (p ∷ l) l) (parts_same qs ps all.1)

    pub granted_same : (ts : List (Topic P)) → AllByRecursion SameCode (partition_parts asks ts) → unrefused_topics (refused_by (rules_of v) asks) ts ≡ unrefused_topics (refused_by (rules_of w) asks) ts
    granted_same [] all = refl
    granted_same (t ∷ ts) all =
        ap (λ (l : List P). record { name = t.name; partitions = l } ∷ unrefused_topics (refused_by (rules_of v) asks) ts) (parts_same (asks t.name) t.partitions (all_front _ (map (λ (p : P). asks t.name) t.partitions) (partition_parts asks ts) all))
        ∙ ap (λ (l : List (Topic P)). unrefused_topic (refused_by (rules_of w) asks) t ∷ l) (granted_same ts (all_back _ (map (λ (p : P). asks t.name) t.partitions) (partition_parts asks ts) all))

    module _ {A : Type 0} (told : ErrorCode → P → A) where
      gaps_same : (qs : List Question) (ps : List P) → AllByRecursion SameCode (map (λ (p : P). qs) ps)
          → map (λ (p : P). refused_answer (rules_of v) qs (λ (code : ErrorCode). told code p)) ps ≡ map (λ (p : P). refused_answer (rules_of w) qs (λ (code : ErrorCode). told code p)) ps
      gaps_same qs [] all = refl
      gaps_same qs (p ∷ ps) all =
          ap (λ (o : Option A). o ∷ map (λ (x : P). refused_answer (rules_of v) qs (λ (code : ErrorCode). told code x)) ps) (answer_same qs (λ (code : ErrorCode). told code p) all.0)
          ∙ ap (λ (l : List (Option A)). refused_answer (rules_of w) qs (λ (code : ErrorCode). told code p) ∷ l) (gaps_same qs ps all.1)

      pub put_same : (ts : List (Topic P)) (xs : List (Topic A)) → AllByRecursion SameCode (partition_parts asks ts) → topics_with_refused (refused_by (rules_of v) asks) told ts xs ≡ topics_with_refused (refused_by (rules_of w) asks) told ts xs
      put_same [] xs all = refl
      put_same (t ∷ ts) [] all = refl
      put_same (t ∷ ts) (a ∷ xs) all =
          ap (λ (l : List (Option A)). record { name = a.name; partitions = weave l a.partitions } ∷ topics_with_refused (refused_by (rules_of v) asks) told ts xs) (gaps_same (asks t.name) t.partitions (all_front _ (map (λ (p : P). asks t.name) t.partitions) (partition_parts asks ts) all))
          ∙ ap (λ (l : List (Topic A)). record { name = a.name; partitions = weave (map (λ (p : P). refused_answer (rules_of w) (asks t.name) (λ (code : ErrorCode). told code p)) t.partitions) a.partitions } ∷ l)
          (put_same ts xs (all_back _ (map (λ (p : P). asks t.name) t.partitions) (partition_parts asks ts) all))

  -- ---- names

  module _ (caller : Caller) where
    pub names_same : (names : List (List ℕ)) → AllByRecursion SameCode (map (topic_part caller) names) → unrefused_names (refused_by (rules_of v) (topic_part caller)) names ≡ unrefused_names (refused_by (rules_of w) (topic_part caller)) names
    names_same [] all = refl
    names_same (name ∷ names) all =
        ap (λ (b : Bool). cond b (name ∷ unrefused_names (refused_by (rules_of v) (topic_part caller)) names) (unrefused_names (refused_by (rules_of v) (topic_part caller)) names)) (grant_same (topic_part caller name) all.0)
        ∙ ap (λ (l : List (List ℕ)). cond (is_granted (rules_of w) (topic_part caller name)) (name ∷ l) l) (names_same names all.1)

    holes_same : (names : List (List ℕ)) → AllByRecursion SameCode (map (topic_part caller) names)
        → map (λ (name : List ℕ). refused_answer (rules_of v) (topic_part caller name) (λ (code : ErrorCode). topic_error code name)) names ≡ map (λ (name : List ℕ). refused_answer (rules_of w) (topic_part caller name) (λ (code : ErrorCode). topic_error code name)) names
    holes_same [] all = refl
    holes_same (name ∷ names) all =
        ap (λ (o : Option TopicInfo). o ∷ map (λ (n : List ℕ). refused_answer (rules_of v) (topic_part caller n) (λ (code : ErrorCode). topic_error code n)) names) (answer_same (topic_part caller name) (λ (code : ErrorCode). topic_error code name) all.0)
        ∙ ap (λ (l : List (Option TopicInfo)). refused_answer (rules_of w) (topic_part caller name) (λ (code : ErrorCode). topic_error code name) ∷ l) (holes_same names all.1)

    pub infos_same : (names : List (List ℕ)) (infos : List TopicInfo) → AllByRecursion SameCode (map (topic_part caller) names) → infos_with_refused (refused_by (rules_of v) (topic_part caller)) (Some names) infos ≡ infos_with_refused (refused_by (rules_of w) (topic_part caller)) (Some names) infos
    infos_same names infos all = ap (λ (l : List (Option TopicInfo)). weave l infos) (holes_same names all)
