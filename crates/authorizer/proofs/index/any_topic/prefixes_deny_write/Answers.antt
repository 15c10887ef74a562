use Rattle.std.proofs.Common.{◌≡◌, ℕ, ◌+◌, ◌-◌, ◌≤◌, List, length, take, sym, ap, subst, ◌∙◌, refl, rules, arith}
use Rattle.std.specs.List.{list_any}
use Rattle.std.specs.Str.{IsUtf8}
use Rattle.std.specs.Char.{len_utf8}
use Rattle.std.proofs.lemmas.Str.{IsCharBoundary-start}
use Rattle.std.specs.Prelude.{slice_range}
use Rattle.acl_binding.specs.declared.binding.Numbered.{Numbered}
use Rattle.authorizer.specs.AnyTopic.{bars_write}
use Rattle.authorizer.specs.Index.{bindings_under}
use Rattle.authorizer.proofs.Prefixes.{past, rest_past}
use Rattle.authorizer.proofs.Looked.{end_reached}
use Rattle.authorizer.proofs.Unbarred.{bar_here, bar_later, bar_end}
use Rattle.authorizer.proofs.index.any_topic.prefixes_deny_write.Goals as goal

pub loop-c-init : goal.loop-c-init
loop-c-init c = record {
  rest = search rules;
  boundary = IsCharBoundary-start _ (subst IsUtf8 c.as_str-text.ensures c.as_str-text.utf8);
  left = λ es n t. refl;
}

pub range-requires-clause-end_boundary : goal.range-requires-clause-end_boundary
range-requires-clause-end_boundary c =
    let next = sym c.loop-c.invariant.rest ∙ c.in-Some.ensures.steps.0 in
    rw (c.as_str-text.ensures, c.len_utf8-end.ensures.value) (past c.args.name.now _ c.loop-c.end c.in-Some.c (subst IsUtf8 c.as_str-text.ensures c.as_str-text.utf8) c.loop-c.invariant.boundary next)

pub returns-then-bar_write : goal.returns-then-bar_write
returns-then-bar_write c =
    let next = sym c.loop-c.invariant.rest ∙ c.in-Some.ensures.steps.0 in
    let bars : Numbered → _ = λ (e : Numbered). bars_write c.args.who.now c.args.host.now e.binding in
    let zero_on : (c.loop-c.end + len_utf8 c.in-Some.c) - 0 ≡ c.loop-c.end + len_utf8 c.in-Some.c = omega arith in
    let prefix : c.range.result.now ≡ take (c.loop-c.end + len_utf8 c.in-Some.c) c.args.name.now =
    c.range.ensures.value ∙ ap (λ (l : List ℕ). slice_range l 0 (c.loop-c.end + c.len_utf8-end.result)) c.as_str-text.ensures
    ∙ ap (λ (n : ℕ). slice_range c.args.name.now 0 (c.loop-c.end + n)) c.len_utf8-end.ensures.value ∙ ap (λ (n : ℕ). take n c.args.name.now) zero_on in
    let here = sym (c.bar_write.ensures ∙ ap (list_any bars) (c.held.ensures ∙ ap (bindings_under c.args.names.now) prefix)) ∙ c.if-bar_write.true in
    λ es n t. sym (sym (c.loop-c.invariant.left es n t) ∙ bar_here bars c.args.names.now es c.args.name.now _ c.loop-c.end c.in-Some.c n t c.loop-c.invariant.boundary next here)

pub loop-c-preserved : goal.loop-c-preserved
loop-c-preserved c =
    let next = sym c.loop-c.invariant.rest ∙ c.in-Some.ensures.steps.0 in
    let bars : Numbered → _ = λ (e : Numbered). bars_write c.args.who.now c.args.host.now e.binding in
    let zero_on : (c.loop-c.end + len_utf8 c.in-Some.c) - 0 ≡ c.loop-c.end + len_utf8 c.in-Some.c = omega arith in
    let prefix : c.range.result.now ≡ take (c.loop-c.end + len_utf8 c.in-Some.c) c.args.name.now =
    c.range.ensures.value ∙ ap (λ (l : List ℕ). slice_range l 0 (c.loop-c.end + c.len_utf8-end.result)) c.as_str-text.ensures
    ∙ ap (λ (n : ℕ). slice_range c.args.name.now 0 (c.loop-c.end + n)) c.len_utf8-end.ensures.value ∙ ap (λ (n : ℕ). take n c.args.name.now) zero_on in
    let none = sym (c.bar_write.ensures ∙ ap (list_any bars) (c.held.ensures ∙ ap (bindings_under c.args.names.now) prefix)) ∙ c.if-bar_write.false in
    rw c.len_utf8-end.ensures.value (record {
      rest = rest_past c.args.name.now _ c.loop-c.end c.in-Some.c next;
      boundary = past c.args.name.now _ c.loop-c.end c.in-Some.c (subst IsUtf8 c.as_str-text.ensures c.as_str-text.utf8) c.loop-c.invariant.boundary next;
      left = λ es n t. bar_later bars c.args.names.now es c.args.name.now _ c.loop-c.end c.in-Some.c n t c.loop-c.invariant.boundary next none ∙ c.loop-c.invariant.left es n t;
    })

pub returns : goal.returns
returns c = λ es n t.
    let le : length c.args.name.now ≤ c.loop-c.end = end_reached _ _ (ap length (sym c.loop-c.invariant.rest) ∙ c.in-None.ensures.steps.0.0) in
    sym (bar_end _ es c.args.name.now c.loop-c.end le) ∙ c.loop-c.invariant.left es n t
