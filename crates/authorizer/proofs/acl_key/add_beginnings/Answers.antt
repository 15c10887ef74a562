use Rattle.std.proofs.Common.{◌≡◌, ℕ, ◌+◌, ◌-◌, ◌≤◌, ◌||◌, List, length, take, refl, sym, ap, ◌∙◌, arith, rules}
use Rattle.std.specs.Char.{len_utf8}
use Rattle.std.specs.Prelude.{slice_range}
use Rattle.std.proofs.lemmas.Str.{IsCharBoundary-start}
use Rattle.acl_binding.specs.declared.words.Pattern.TheVariants.{Prefixed}
use Rattle.authorizer.specs.Looking.{is_at}
use Rattle.authorizer.specs.Picking.{stands_in}
use Rattle.authorizer.proofs.Prefixes.{past, rest_past}
use Rattle.authorizer.proofs.Looked.{end_reached}
use Rattle.authorizer.proofs.AclKeys.{one_beginning, last_beginning}
use Rattle.authorizer.proofs.acl_key.add_beginnings.Goals as goal

pub loop-c-init : goal.loop-c-init
loop-c-init c = record { rest = search rules; boundary = IsCharBoundary-start _ c.utf8.name; left = λ e n. refl }

pub range-requires-clause-end_boundary : goal.range-requires-clause-end_boundary
range-requires-clause-end_boundary c =
    let next = sym c.loop-c.invariant.rest ∙ c.in-Some.ensures.steps.0 in
    rw c.len_utf8-end.ensures.value (past c.args.name.now _ c.loop-c.end c.in-Some.c c.utf8.name c.loop-c.invariant.boundary next)

pub loop-c-preserved : goal.loop-c-preserved
loop-c-preserved c =
    let next = sym c.loop-c.invariant.rest ∙ c.in-Some.ensures.steps.0 in
    let width = c.len_utf8-end.ensures.value in
    let zero_on : (c.loop-c.end + len_utf8 c.in-Some.c) - 0 ≡ c.loop-c.end + len_utf8 c.in-Some.c = omega arith in
    let prefix : c.range.result.now ≡ take (c.loop-c.end + len_utf8 c.in-Some.c) c.args.name.now =
    c.range.ensures.value ∙ ap (λ (n : ℕ). slice_range c.args.name.now 0 (c.loop-c.end + n)) width ∙ ap (λ (n : ℕ). take n c.args.name.now) zero_on in
    rw width (record {
      rest = rest_past c.args.name.now _ c.loop-c.end c.in-Some.c next;
      boundary = past c.args.name.now _ c.loop-c.end c.in-Some.c c.utf8.name c.loop-c.invariant.boundary next;
      left = λ e n. one_beginning (stands_in c.loop-c.acl_keys e) (stands_in c.add.new.acl_keys e) (stands_in c.args.acl_keys.now e) c.args.kind c.args.name.now _ c.loop-c.end c.in-Some.c e n c.loop-c.invariant.boundary next
          (c.in_ok-add.ensures e ∙ ap (λ (at : List ℕ). stands_in c.loop-c.acl_keys e || is_at c.args.kind Prefixed at e) prefix) (c.loop-c.invariant.left e n);
    })

pub returns : goal.returns
returns c = λ e n.
    let le : length c.args.name.now ≤ c.loop-c.end = end_reached _ _ (ap length (sym c.loop-c.invariant.rest) ∙ c.in-None.ensures.steps.0.0) in
    last_beginning (stands_in c.loop-c.acl_keys e) (stands_in c.args.acl_keys.now e) c.args.kind c.args.name.now c.loop-c.end e le (c.loop-c.invariant.left e n)
