-- A walk of a request is the walk of its allowed part under rules that grant everything, with the refused parts put back.
use Rattle.std.proofs.Common.{◌≡◌, ℕ, cond, List, [], ◌∷◌, ◌++◌, map, Option, Some, None, refl, sym, ap, ◌∙◌}
use Rattle.std.specs.Prelude.{filter}
use Rattle.std.specs.Option.{option_map}
use Rattle.std.specs.List.{cons_option}
use Rattle.acl_binding.specs.declared.question.Question.{Question}
use Rattle.authorizer.specs.declared.answer.Refusal.{Refusal}
use Rattle.authorizer.specs.Asking.{Rules, part_refusal}
use Rattle.wire_types.specs.declared.error_code.ErrorCode.{ErrorCode}
use Rattle.wire_types.specs.declared.topic.Topic.{Topic}
use Rattle.walk.specs.Codes.{refusal_code}
use Rattle.walk.specs.Weave.{weave}
use Rattle.walk.specs.Rule.{PartRule, refusal_of}
use Rattle.walk.specs.Walk.{allowed_parts, allowed_topics, plain_parts_world, plain_parts, plain_world, plain_topics, refused_part, weave_topics, world_after, answers, parts_refused, refusals}
use Rattle.walk.specs.Steps.{answer_by, world_by, parts_world, parts_answers, topics_world, topics_answers}
use Rattle.walk.proofs.Weaving.{woven}
use Rattle.plain_broker.specs.Allowed.{unrefused_topic, unrefused_topics}
use Rattle.plain_broker.specs.PutBack.{topics_with_refused}
use Rattle.plain_broker.specs.Exactly.{is_granted}
use Rattle.plain_broker.proofs.Terms.{refused_by, refused_answer}

-- ---- under rules that grant everything the walk is plain

abbrev pub GrantsAll : {P A W : Type 0} → PartRule P A W → Rules → Type 0
GrantsAll {P} api free = (name : List ℕ) (p : P) → refusal_of api free name p ≡ None

module _ {P A W : Type 0} (api : PartRule P A W) (free : Rules) (all : GrantsAll api free) where
  free_parts_world : (w : W) (name : List ℕ) (ps : List P) → parts_world api free w name ps ≡ plain_parts_world api w name ps
  free_parts_world w name [] = refl
  free_parts_world w name (p ∷ ps) = ap (λ (o : Option Refusal). parts_world api free (world_by api o w name p) name ps) (all name p) ∙ free_parts_world (api.after w name p) name ps

  free_parts_answers : (w : W) (name : List ℕ) (ps : List P) → parts_answers api free w name ps ≡ plain_parts api w name ps
  free_parts_answers w name [] = refl
  free_parts_answers w name (p ∷ ps) =
      ap (λ (o : Option Refusal). answer_by api o w name p ∷ parts_answers api free (world_by api o w name p) name ps) (all name p)
      ∙ ap (λ (l : List A). api.plain w name p ∷ l) (free_parts_answers (api.after w name p) name ps)

  free_topics_world : (w : W) (ts : List (Topic P)) → topics_world api free w ts ≡ plain_world api w ts
  free_topics_world w [] = refl
  free_topics_world w (t ∷ ts) = free_topics_world (parts_world api free w t.name t.partitions) ts ∙ ap (λ (v : W). plain_world api v ts) (free_parts_world w t.name t.partitions)

  free_topics_answers : (w : W) (ts : List (Topic P)) → topics_answers api free w ts ≡ plain_topics api w ts
  free_topics_answers w [] = refl
  free_topics_answers w (t ∷ ts) =
      ap (λ (l : List (Topic A)). record { name = t.name; partitions = parts_answers api free w t.name t.partitions } ∷ l) (free_topics_answers (parts_world api free w t.name t.partitions) ts)
      ∙ ap (λ (l : List A). record { name = t.name; partitions = l } ∷ plain_topics api (parts_world api free w t.name t.partitions) ts) (free_parts_answers w t.name t.partitions)
      ∙ ap (λ (v : W). record { name = t.name; partitions = plain_parts api w t.name t.partitions } ∷ plain_topics api v ts) (free_parts_world w t.name t.partitions)

  pub free_world : (w : W) (ts : List (Topic P)) → world_after api free w ts ≡ plain_world api w ts
  free_world w ts = sym (woven api free w ts).world ∙ free_topics_world w ts

  pub free_answers : (w : W) (ts : List (Topic P)) → answers api free w ts ≡ plain_topics api w ts
  free_answers w ts = sym (woven api free w ts).answers ∙ free_topics_answers w ts

  free_parts_refused : (name : List ℕ) (ps : List P) → parts_refused api free name ps ≡ []
  free_parts_refused name [] = refl
  free_parts_refused name (p ∷ ps) = ap (λ (o : Option Refusal). cons_option o (parts_refused api free name ps)) (all name p) ∙ free_parts_refused name ps

  pub free_refusals : (ts : List (Topic P)) → refusals api free ts ≡ []
  free_refusals [] = refl
  free_refusals (t ∷ ts) = ap (λ (l : List Refusal). l ++ refusals api free ts) (free_parts_refused t.name t.partitions) ∙ free_refusals ts

-- ---- the allowed part, and the refused parts' answers

-- the rule asks by the topic, and a refused part is told the code
pub record AsksByTopic {P A W : Type 0} (api : PartRule P A W) (asks : List ℕ → List Question) (told : ErrorCode → P → A) : Type 0 where
  pub questions : (name : List ℕ) (p : P) → api.questions name p ≡ asks name
  pub refused : (code : ErrorCode) (name : List ℕ) (p : P) → api.refused code name p ≡ told code p

module _ {P A W : Type 0} (api : PartRule P A W) (rules : Rules) (asks : List ℕ → List Question) (told : ErrorCode → P → A) (by : AsksByTopic api asks told) where
  same_parts : (name : List ℕ) (ps : List P) → allowed_parts api rules name ps ≡ filter (λ (p : P). is_granted rules (asks name)) ps
  same_parts name [] = refl
  same_parts name (p ∷ ps) =
      ap (λ (qs : List Question). cond (is_granted rules qs) (p ∷ allowed_parts api rules name ps) (allowed_parts api rules name ps)) (by.questions name p)
      ∙ ap (λ (l : List P). cond (is_granted rules (asks name)) (p ∷ l) l) (same_parts name ps)

  pub same_topics : (ts : List (Topic P)) → allowed_topics api rules ts ≡ unrefused_topics (refused_by rules asks) ts
  same_topics [] = refl
  same_topics (t ∷ ts) =
      ap (λ (l : List P). record { name = t.name; partitions = l } ∷ allowed_topics api rules ts) (same_parts t.name t.partitions)
      ∙ ap (λ (l : List (Topic P)). unrefused_topic (refused_by rules asks) t ∷ l) (same_topics ts)

  same_refused : (name : List ℕ) (p : P) → refused_part api rules name p ≡ refused_answer rules (asks name) (λ (code : ErrorCode). told code p)
  same_refused name p = ap (λ (qs : List Question). option_map (λ (r : Refusal). api.refused (refusal_code r) name p) (part_refusal rules qs)) (by.questions name p) ∙ by_refusal (part_refusal rules (asks name)) where
    by_refusal : (o : Option Refusal) → option_map (λ (r : Refusal). api.refused (refusal_code r) name p) o ≡ option_map (λ (r : Refusal). told (refusal_code r) p) o
    by_refusal None = refl
    by_refusal (Some r) = ap (λ (a : A). Some a) (by.refused (refusal_code r) name p)

  same_gaps : (name : List ℕ) (ps : List P) → map (refused_part api rules name) ps ≡ map (λ (p : P). refused_answer rules (asks name) (λ (code : ErrorCode). told code p)) ps
  same_gaps name [] = refl
  same_gaps name (p ∷ ps) =
      ap (λ (o : Option A). o ∷ map (refused_part api rules name) ps) (same_refused name p)
      ∙ ap (λ (l : List (Option A)). refused_answer rules (asks name) (λ (code : ErrorCode). told code p) ∷ l) (same_gaps name ps)

  pub same_put : (ts : List (Topic P)) (xs : List (Topic A)) → weave_topics api rules ts xs ≡ topics_with_refused (refused_by rules asks) told ts xs
  same_put [] xs = refl
  same_put (t ∷ ts) [] = refl
  same_put (t ∷ ts) (a ∷ xs) =
      ap (λ (l : List (Option A)). record { name = a.name; partitions = weave l a.partitions } ∷ weave_topics api rules ts xs) (same_gaps t.name t.partitions)
      ∙ ap (λ (l : List (Topic A)). record { name = a.name; partitions = weave (map (λ (p : P). refused_answer rules (asks t.name) (λ (code : ErrorCode). told code p)) t.partitions) a.partitions } ∷ l) (same_put ts xs)

  -- ---- the walk

  module _ (free : Rules) (all : GrantsAll api free) where
    pub walk_world : (w : W) (ts : List (Topic P)) → world_after api rules w ts ≡ world_after api free w (unrefused_topics (refused_by rules asks) ts)
    walk_world w ts = ap (plain_world api w) (same_topics ts) ∙ sym (free_world api free all w (unrefused_topics (refused_by rules asks) ts))

    pub walk_answers : (w : W) (ts : List (Topic P)) → answers api rules w ts ≡ topics_with_refused (refused_by rules asks) told ts (answers api free w (unrefused_topics (refused_by rules asks) ts))
    walk_answers w ts =
        ap (λ (l : List (Topic P)). weave_topics api rules ts (plain_topics api w l)) (same_topics ts)
        ∙ same_put ts (plain_topics api w (unrefused_topics (refused_by rules asks) ts))
        ∙ ap (topics_with_refused (refused_by rules asks) told ts) (sym (free_answers api free all w (unrefused_topics (refused_by rules asks) ts)))
