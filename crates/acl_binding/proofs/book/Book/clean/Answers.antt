use Rattle.std.proofs.Common.{rules}
use Rattle.std.proofs.lemmas.Fn.{filter_same}
use Rattle.acl_binding.specs.Filter.{is_not_matched}
use Rattle.acl_binding.proofs.Kept.{rising_filter, below_filter, distinct_filter}
use Rattle.acl_binding.proofs.book.Book.clean.Goals as goal

pub invariant_of-self : goal.invariant_of-self
invariant_of-self c =
    let kept = filter_same _ (is_not_matched c.args.filter.now) _ (λ x b f' k. search rules) _ _ c.retain.ensures.filtered in
    rw kept (record {
      rising = rising_filter _ _ _ c.self.invariant.rising;
      below = below_filter _ _ _ c.self.invariant.below;
      first = c.self.invariant.first;
      distinct = distinct_filter _ _ c.self.invariant.distinct;
    })

pub returns : goal.returns
returns c =
    let kept = filter_same _ (is_not_matched c.args.filter.now) _ (λ x b f' k. search rules) _ _ c.retain.ensures.filtered in
    rw (← c.self.view_is) (λ i. record { entries = kept i; next = c.self.inside.next })
