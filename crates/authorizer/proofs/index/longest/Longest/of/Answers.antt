use Rattle.std.proofs.Common.{◌≡◌, ℕ, List, [], ◌∷◌, ◌++◌, append_assoc, append-nil, length, sym, ap, subst, ◌∙◌, arith}
use Rattle.std.specs.Map.{keys_of}
use Rattle.std.specs.HashMap.{keys}
use Rattle.std.specs.String.{string_bytes}
use Rattle.std.specs.declared.string.String.{String}
use Rattle.std.specs.declared.alloc.Global.{Global}
use Rattle.acl_binding.specs.declared.binding.Numbered.{Numbered}
use Rattle.authorizer.specs.Longest.{lengths, IsLongest}
use Rattle.authorizer.proofs.LongestNames.{longest_push, few_names}
use Rattle.authorizer.proofs.index.longest.Longest.of.Goals as goal

pub loop-name-init : goal.loop-name-init
loop-name-init c = record {
  before = [];
  all = ap (keys_of {K = String Global} {X = List Numbered}) (c.into_iter-name-iterator.ensures.into_iter_gives ∙ c.iter-name-items.ensures.rest);
  longest = c.none-longest.ensures;
  fits = c.iter-name-items.ensures.fits;
}

pub add-requires : goal.add-requires
add-requires c =
    let few = few_names c.loop-name.longest c.loop-name.invariant.before (keys_of c.loop-name.name-iterator) c.args.shelves.now.entries c.loop-name.invariant.longest c.loop-name.invariant.all in
    omega arith

pub loop-name-preserved : goal.loop-name-preserved
loop-name-preserved c =
    let before = c.loop-name.invariant.before in
    let next : keys_of c.loop-name.name-iterator ≡ c.in-Some.name.now ∷ keys_of c.next.new.self = ap (keys_of {K = String Global} {X = List Numbered}) c.in-Some.ensures.steps in
    let width : length c.as_str.result.now ≡ length (string_bytes c.in-Some.name.now) = ap (λ (l : List ℕ). length l) c.as_str.ensures.value in
    record {
      before = before ++ c.in-Some.name.now ∷ [];
      all = append_assoc before (c.in-Some.name.now ∷ []) (keys_of c.next.new.self) ∙ ap (λ (ks : List (String Global)). before ++ ks) (sym next) ∙ c.loop-name.invariant.all;
      longest = longest_push c.add.new.self before c.in-Some.name.now (length c.as_str.result.now) width (c.add.ensures (lengths before) c.loop-name.invariant.longest);
      fits = c.loop-name.invariant.fits;
    }

pub returns : goal.returns
returns c =
    let before = c.loop-name.invariant.before in
    let none : keys_of c.loop-name.name-iterator ≡ [] = ap (keys_of {K = String Global} {X = List Numbered}) c.in-None.ensures.steps.0 in
    let all : before ≡ keys c.args.shelves.now = sym (append-nil before) ∙ ap (λ (ks : List (String Global)). before ++ ks) (sym none) ∙ c.loop-name.invariant.all in
    subst (λ (ks : List (String Global)). IsLongest c.loop-name.longest (lengths ks)) all c.loop-name.invariant.longest
