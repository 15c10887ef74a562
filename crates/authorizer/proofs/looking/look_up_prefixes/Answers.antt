use Rattle.std.proofs.Common.{◌≡◌, ℕ, ◌+◌, ◌≤◌, List, length, filter, drop, take, sym, ap, subst, ◌∙◌, rules, arith}
use Rattle.std.specs.Str.{chars, IsUtf8}
use Rattle.std.specs.Char.{len_utf8}
use Rattle.std.proofs.lemmas.Str.{IsCharBoundary-start}
use Rattle.std.specs.Prelude.{slice_range}
use Rattle.std.proofs.Common.{◌-◌}
use Rattle.authorizer.specs.Index.{bindings_under}
use Rattle.authorizer.specs.Looking.{finding_of, combined_finding, is_longer}
use Rattle.authorizer.specs.declared.looking.Finding.{Finding}
use Rattle.std.proofs.lemmas.List.{length-take-le}
use Rattle.authorizer.specs.Longest.{longest_name}
use Rattle.authorizer.specs.LookUps.{beginnings_within}
use Rattle.authorizer.proofs.LookUps.{as_characters, counted_in, counted_out, look_past}
use Rattle.authorizer.proofs.Prefixes.{past, rest_past, few_chars, nothing_left}
use Rattle.authorizer.proofs.Looked.{look_step, look_end, look_begin, end_reached}
use Rattle.authorizer.proofs.looking.look_up_prefixes.Goals as goal

pub loop-c-init : goal.loop-c-init
loop-c-init c =
    let zero_off : c.longest-longest.result - 0 ≡ c.longest-longest.result = omega arith in
    record {
      rest = search rules;
      boundary = IsCharBoundary-start _ (subst IsUtf8 c.as_str-name.ensures c.as_str-name.utf8);
      looked = ap (λ (n : ℕ). c.args.looked.now + beginnings_within n (chars c.args.question.now.name)) zero_off;
      left = λ es n t. look_begin es c.args.question.now c.none-finding.result c.none-finding.ensures;
    }

pub range-requires-clause-end_boundary : goal.range-requires-clause-end_boundary
range-requires-clause-end_boundary c =
    let next = sym c.loop-c.invariant.rest ∙ c.in-Some.ensures.steps.0 in
    rw (c.as_str-name.ensures, c.len_utf8-end.ensures.value) (past c.args.question.now.name _ c.loop-c.end c.in-Some.c (subst IsUtf8 c.as_str-name.ensures c.as_str-name.utf8) c.loop-c.invariant.boundary next)

pub look_up_name-requires-clause-count : goal.look_up_name-requires-clause-count
look_up_name-requires-clause-count c =
    let next = sym c.loop-c.invariant.rest ∙ c.in-Some.ensures.steps.0 in
    let width = c.len_utf8-end.ensures.value in
    let more = counted_in c.args.question.now.name _ c.longest-longest.result c.loop-c.end c.in-Some.c (subst IsUtf8 c.as_str-name.ensures c.as_str-name.utf8) c.loop-c.invariant.boundary next (omega arith) in
    let few = few_chars c.args.question.now.name (subst IsUtf8 c.as_str-name.ensures c.as_str-name.utf8) in
    let all = as_characters c.longest-longest.result (chars c.args.question.now.name) in
    omega (arith, more, few, all)

pub loop-c-preserved : goal.loop-c-preserved
loop-c-preserved c =
    let next = sym c.loop-c.invariant.rest ∙ c.in-Some.ensures.steps.0 in
    let width = c.len_utf8-end.ensures.value in
    let more = counted_in c.args.question.now.name _ c.longest-longest.result c.loop-c.end c.in-Some.c (subst IsUtf8 c.as_str-name.ensures c.as_str-name.utf8) c.loop-c.invariant.boundary next (omega arith) in
    let zero_on : (c.loop-c.end + len_utf8 c.in-Some.c) - 0 ≡ c.loop-c.end + len_utf8 c.in-Some.c = omega arith in
    let prefix : c.range.result.now ≡ take (c.loop-c.end + len_utf8 c.in-Some.c) c.args.question.now.name =
    c.range.ensures.value ∙ ap (λ (l : List ℕ). slice_range l 0 (c.loop-c.end + c.len_utf8-end.result)) c.as_str-name.ensures
    ∙ ap (λ (n : ℕ). slice_range c.args.question.now.name 0 (c.loop-c.end + n)) width ∙ ap (λ (n : ℕ). take n c.args.question.now.name) zero_on in
    rw width (record {
      rest = rest_past c.args.question.now.name _ c.loop-c.end c.in-Some.c next;
      boundary = past c.args.question.now.name _ c.loop-c.end c.in-Some.c (subst IsUtf8 c.as_str-name.ensures c.as_str-name.utf8) c.loop-c.invariant.boundary next;
      looked = omega (arith, more);
      left = λ es n t.
          ap (λ (f : Finding). combined_finding f (finding_of (filter (is_longer c.args.question.now.kind c.args.question.now.name (c.loop-c.end + len_utf8 c.in-Some.c)) es) c.args.question.now))
          (c.joined-finding.ensures ∙ ap (combined_finding c.loop-c.finding) (c.look_up_name.ensures.finding ∙ ap (λ (p : List ℕ). finding_of (bindings_under c.args.names.now p) c.args.question.now) prefix))
          ∙ look_step c.args.names.now es c.args.question.now c.loop-c.finding _ c.loop-c.end c.in-Some.c n t c.loop-c.invariant.boundary next
          ∙ c.loop-c.invariant.left es n t;
    })

pub returns-in-None-clause-finding : goal.returns-in-None-clause-finding
returns-in-None-clause-finding c = λ es n t.
    let le : length c.args.question.now.name ≤ c.loop-c.end = end_reached _ _ (ap length (sym c.loop-c.invariant.rest) ∙ c.in-None.ensures.steps.0.0) in
    sym (look_end es c.args.question.now c.loop-c.finding c.loop-c.end le) ∙ c.loop-c.invariant.left es n t

pub returns-in-None-clause-looked : goal.returns-in-None-clause-looked
returns-in-None-clause-looked c =
    let none : length (chars (drop c.loop-c.end c.args.question.now.name)) ≡ 0 = nothing_left _ (ap length (sym c.loop-c.invariant.rest) ∙ c.in-None.ensures.steps.0.0) in
    let few = as_characters (c.longest-longest.result - c.loop-c.end) (chars (drop c.loop-c.end c.args.question.now.name)) in
    let same : beginnings_within c.longest-longest.result (chars c.args.question.now.name) ≡ beginnings_within (longest_name c.args.names.now) (chars c.args.question.now.name) =
    ap (λ (n : ℕ). beginnings_within n (chars c.args.question.now.name)) c.longest-longest.ensures in
    omega (arith, none, few, same)

pub returns-then-end-longest-clause-finding : goal.returns-then-end-longest-clause-finding
returns-then-end-longest-clause-finding c = λ es n t.
    let next = sym c.loop-c.invariant.rest ∙ c.in-Some.ensures.steps.0 in
    let width = c.len_utf8-end.ensures.value in
    let text = subst IsUtf8 c.as_str-name.ensures c.as_str-name.utf8 in
    let boundary = past c.args.question.now.name _ c.loop-c.end c.in-Some.c text c.loop-c.invariant.boundary next in
    let whole = length-take-le (c.loop-c.end + len_utf8 c.in-Some.c) c.args.question.now.name boundary.0 in
    sym (look_past c.args.names.now es c.args.question.now c.loop-c.finding _ c.loop-c.end c.in-Some.c n t c.loop-c.invariant.boundary next whole (omega arith)) ∙ c.loop-c.invariant.left es n t

pub returns-then-end-longest-clause-looked : goal.returns-then-end-longest-clause-looked
returns-then-end-longest-clause-looked c =
    let next = sym c.loop-c.invariant.rest ∙ c.in-Some.ensures.steps.0 in
    let width = c.len_utf8-end.ensures.value in
    let none = counted_out c.args.question.now.name _ c.longest-longest.result c.loop-c.end c.in-Some.c (subst IsUtf8 c.as_str-name.ensures c.as_str-name.utf8) c.loop-c.invariant.boundary next (omega arith) in
    let same : beginnings_within c.longest-longest.result (chars c.args.question.now.name) ≡ beginnings_within (longest_name c.args.names.now) (chars c.args.question.now.name) =
    ap (λ (n : ℕ). beginnings_within n (chars c.args.question.now.name)) c.longest-longest.ensures in
    omega (arith, none, same)
