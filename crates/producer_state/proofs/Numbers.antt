-- Tests on ids, epochs and sequence numbers.
use Rattle.std.proofs.Common.{◌≡◌, ℤ, pos, true, false, refl, sym, subst, arith}
use Rattle.std.specs.Prelude.{◌≤ℤ◌, ◌<ℤ◌, int_lt}
use Rattle.std.specs.Ordering.{int_eq}
use Rattle.std.proofs.lemmas.Int.{ints}
use Rattle.std.proofs.lemmas.Bool.Decides.{Decides-int_eq, same_from_decides}

pub lt_true : (a b : ℤ) → a <ℤ b → int_lt a b ≡ true
lt_true a b h = grind (arith, ints)

pub lt_false : (a b : ℤ) → b ≤ℤ a → int_lt a b ≡ false
lt_false a b h = grind (arith, ints)

pub lt_is : (a b : ℤ) → int_lt a b ≡ true → a <ℤ b
lt_is a b h = grind (arith, ints)

pub lt_is_not : (a b : ℤ) → int_lt a b ≡ false → b ≤ℤ a
lt_is_not a b h = grind (arith, ints)

pub between : (a b : ℤ) → a ≤ℤ b → b ≤ℤ a → a ≡ b
between a b h k = omega (arith, ints)

pub same_is : (a b : ℤ) → int_eq a b ≡ true → a ≡ b
same_is a b h = (Decides-int_eq a b).0 h

pub same_refl : (a : ℤ) → int_eq a a ≡ true
same_refl a = (Decides-int_eq a a).1 refl

pub same_here : (a b : ℤ) → a ≡ b → int_eq a b ≡ true
same_here a b h = (Decides-int_eq a b).1 h

pub differs : (a b : ℤ) → a <ℤ b → int_eq a b ≡ false
differs a b h = grind (arith, ints)

pub same_sym : (a b : ℤ) → int_eq a b ≡ int_eq b a
same_sym a b = same_from_decides {P = a ≡ b} (int_eq a b) (int_eq b a) (Decides-int_eq a b) ((λ h. sym ((Decides-int_eq b a).0 h)), (λ e. (Decides-int_eq b a).1 (sym e)))

-- a test of a number in another spelling
pub not_below : (spelled a : ℤ) → spelled ≡ a → int_lt spelled (pos 0) ≡ false → pos 0 ≤ℤ a
not_below spelled a is h = subst (λ (x : ℤ). pos 0 ≤ℤ x) is (lt_is_not spelled (pos 0) h)
