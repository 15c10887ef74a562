use Rattle.std.proofs.Common.{◌≡◌, ◌+◌, ◌++◌, drop, sym, subst, take, ◌∙◌}
use Rattle.indexmap.specs.IndexMap.{set_value_at}
use Rattle.indexmap.proofs.CallerLemmas.{index_map_len-with_value_at}
use Rattle.group_offsets.specs.declared.group.Group.{Group}
use Rattle.group_offsets.specs.Named.{all_expired}
use Rattle.keyed_tables.proofs.Tables.{changed_next}
use Rattle.group_offsets.specs.Group.{without_lapsed}
use Rattle.group_offsets.proofs.groups.expire_all.Goals as goal

pub loop-place-preserved : goal.loop-place-preserved
loop-place-preserved c =
    let es = c.loop-place.groups.entries in
    let place = c.loop-place.place in
    record {
      done = subst (λ (g : Group). take (place + 1) (set_value_at es place g) ++ all_expired c.args.moment (drop (place + 1) (set_value_at es place g)) ≡ all_expired c.args.moment c.args.groups.now.entries)
          (sym c.expire.ensures.group)
          (changed_next (without_lapsed c.args.moment) es place c.index_mut.result.now c.index_mut.ensures.value ∙ c.loop-place.invariant.done);
      count = index_map_len-with_value_at c.loop-place.groups place c.expire.new.self ∙ c.loop-place.invariant.count;
    }
