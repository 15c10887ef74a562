use Rattle.std.proofs.Common.{◌≡◌, ◌||◌, drop}
use Rattle.std.specs.Str.{IsCharBoundary}
use Rattle.std.specs.Str.Iter.{chars_rest}
use Rattle.acl_binding.specs.declared.binding.Numbered.{Numbered}
use Rattle.authorizer.specs.Looking.{is_longer, IsNamed}
use Rattle.authorizer.specs.Picking.{stands_in}
use Rattle.authorizer.proofs.acl_key.add_beginnings.Given as goal

-- with the longer beginnings it is all of them
abbrev pub invariant-loop-c : goal.invariant-loop-c
invariant-loop-c l = record {
  rest : chars_rest l.c-iterator ≡ drop l.end l.name;
  boundary : IsCharBoundary l.name l.end;
  left : (e : Numbered) → IsNamed e → (stands_in l.acl_keys e || is_longer l.kind l.name l.end e) ≡ (stands_in l.initial.acl_keys e || is_longer l.kind l.name 0 e);
}
