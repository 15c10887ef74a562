use Rattle.std.proofs.Common.{◌≡◌, ◌+◌, ◌++◌, drop, sym, subst, take, ◌∙◌}
use Rattle.indexmap.specs.IndexMap.{set_value_at}
use Rattle.indexmap.proofs.CallerLemmas.{index_map_len-with_value_at}
use Rattle.txn_coordinator.specs.declared.transaction.Transaction.{Transaction}
use Rattle.txn_coordinator.specs.Kept.{all_expired}
use Rattle.keyed_tables.proofs.Tables.{changed_next}
use Rattle.txn_coordinator.specs.Expiry.{fenced_if_due}
use Rattle.txn_coordinator.proofs.Table.{raise_next}
use Rattle.txn_coordinator.proofs.expiry.expire_all.Goals as goal

pub expire-requires : goal.expire-requires
expire-requires c = (raise_next c.loop-place.records.entries c.loop-place.place c.index_mut.result.now c.index_mut.result.now c.index_mut.ensures.value c.loop-place.invariant.can_raise).0

pub loop-place-preserved : goal.loop-place-preserved
loop-place-preserved c =
    let es = c.loop-place.records.entries in
    let place = c.loop-place.place in
    record {
      done = subst (λ (t : Transaction). take (place + 1) (set_value_at es place t) ++ all_expired c.args.moment (drop (place + 1) (set_value_at es place t)) ≡ all_expired c.args.moment c.args.records.now.entries)
          (sym c.expire.ensures)
          (changed_next (fenced_if_due c.args.moment) es place c.index_mut.result.now c.index_mut.ensures.value ∙ c.loop-place.invariant.done);
      count = index_map_len-with_value_at c.loop-place.records place c.expire.new.self ∙ c.loop-place.invariant.count;
      can_raise = (raise_next es place c.index_mut.result.now c.expire.new.self c.index_mut.ensures.value c.loop-place.invariant.can_raise).1;
    }
