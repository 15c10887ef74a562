use Rattle.acl_binding.proofs.Rising.{rising_push, below_push, distinct_push}
use Rattle.std.proofs.Common.{◌≡◌, arith, rules}
use Rattle.acl_binding.proofs.book.Book.append.Goals as goal

pub invariant_of-self-2 : goal.invariant_of-self-2
invariant_of-self-2 c =
    let is : c.args.entry.number ≡ c.self.inside.next = grind arith in
    let e : c.args.entry ≡ record { number = c.self.inside.next; binding = c.args.entry.binding } = λ i. record { number = is i; binding = c.args.entry.binding } in
    rw (c.in_ok-push.ensures.items, e) (record {
      rising = rising_push _ _ _ _ c.self.invariant.first c.self.invariant.rising c.self.invariant.below;
      below = below_push _ _ _ c.self.invariant.below;
      first = omega arith;
      distinct = distinct_push _ _ _ c.self.invariant.distinct (search rules);
    })
