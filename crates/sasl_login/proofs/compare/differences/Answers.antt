use Rattle.std.proofs.Common.{◌≡◌, [], length, arith, refl, ap}
use Rattle.std.proofs.lemmas.List.{nil_from_length}
use mir.Val.{bool_byte}
use Rattle.sasl_login.proofs.Compared.{few_passed, rest_passed, place_passed, place_lacks}
use Rattle.sasl_login.proofs.compare.differences.Goals.{in-Some, in-None}
use Rattle.sasl_login.proofs.compare.differences.Goals as goal

pub loop-byte-preserved : goal.loop-byte-preserved
loop-byte-preserved c =
    elim c.match-split_first.branch [
      | in-Some w ↦
          let cases = w.in-Some.ensures.cases.0 in
          let next = ap (λ b. b.now) w.rest-is in
          record {
            few = few_passed bool_byte _ _ _ _ _ refl refl w.from-count.ensures w.count-is c.loop-byte.invariant.few;
            within = rest_passed _ _ _ _ _ cases next c.loop-byte.invariant.within;
            are = place_passed bool_byte _ _ _ _ _ _ _ _ _ _ _ refl refl c.loop-byte-test.true cases next w.from-count.ensures w.count-is c.loop-byte.invariant.are;
          }
      | in-None w ↦
          let next : c.match-split_first.rest.now ≡ c.loop-byte.rest.now = ap (λ b. b.now) w.rest-is in
          let none : c.loop-byte.rest.now ≡ [] = nil_from_length _ w.in-None.ensures.cases in
          record {
            few = omega (arith, w.count-is, c.loop-byte.invariant.few);
            within = omega (arith, ap length next, c.loop-byte.invariant.within);
            are = place_lacks _ _ _ _ _ _ _ c.loop-byte-test.true none next w.count-is c.loop-byte.invariant.are;
          }
    ]
