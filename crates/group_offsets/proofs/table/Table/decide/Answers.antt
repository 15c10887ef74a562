use Rattle.std.proofs.Common.{◌≡◌, ℤ, [], Some, None, sym, ap, ◌∙◌, w64, to_z, of_z, rules}
use Rattle.std.specs.Ordering.{int_eq}
use Rattle.std.specs.Map.{lookup, values_of}
use Rattle.std.proofs.lemmas.Int.{to_z-of_z}
use Rattle.std.proofs.lemmas.Map.Entries.{length-values_of}
use Rattle.group_offsets.specs.Kept.{place_in}
use Rattle.group_offsets.proofs.Reading.{decided_nothing, all_decided, decide_table, nothing_waits, something_waits, all_within}
use Rattle.group_offsets.proofs.Describing.{decide_described}
use Rattle.group_offsets.proofs.Partitions.{same_places}
use Rattle.group_offsets.proofs.table.Table.decide.Goals as goal

pub decide_rows-requires : goal.decide_rows-requires
decide_rows-requires c =
    let t = c.args.self.now in
    let key : ℤ = to_z w64 (of_z w64 c.args.producer) in
    let found : lookup (int_eq key) t.staged.entries ≡ Some c.in-Some.places = search rules in
    rw (c.as_slice.ensures.value, ← length-values_of t.rows.entries) (all_within (place_in t.rows.entries) (values_of t.rows.entries) t.staged.entries key c.in-Some.places found c.requires)

pub returns-in_default-clause-described : goal.returns-in_default-clause-described
returns-in_default-clause-described c = λ place es last d.
    let t = c.args.self.now in
    let rows = values_of t.rows.entries in
    let key : ℤ = to_z w64 (of_z w64 c.args.producer) in
    let missing : lookup (int_eq key) t.staged.entries ≡ None = search rules in
    let none : lookup (int_eq c.args.producer) t.staged.entries ≡ None = ap (λ (k : ℤ). lookup (int_eq k) t.staged.entries) (sym (to_z-of_z w64 c.args.producer c.ranges.producer)) ∙ missing in
    decide_described (place_in t.rows.entries) rows rows c.args.producer c.args.outcome es
    (all_decided [] c.args.producer c.args.outcome rows rows (decided_nothing c.args.producer c.args.outcome rows) (nothing_waits (place_in t.rows.entries) rows t.staged.entries c.args.producer none c.requires)) d

pub returns-in-Some-clause-table : goal.returns-in-Some-clause-table
returns-in-Some-clause-table c =
    let t = c.args.self.now in
    let find = place_in t.rows.entries in
    let new = values_of c.decide_rows.new.rows.entries in
    let key : ℤ = to_z w64 (of_z w64 c.args.producer) in
    let found : lookup (int_eq key) t.staged.entries ≡ Some c.in-Some.places = search rules in
    let decided = rw c.as_slice.ensures.value at c.decide_rows.ensures.decided in
    let so = all_decided c.in-Some.places.items key c.args.outcome (values_of t.rows.entries) new decided (something_waits find (values_of t.rows.entries) t.staged.entries key c.in-Some.places found c.requires) in
    rw (same_places t.rows.entries c.decide_rows.new.rows.entries c.decide_rows.ensures.same)
    (decide_table find (values_of t.rows.entries) new t.staged.entries c.remove.new.self.entries key c.args.outcome c.remove.ensures.updates.0 so c.requires)

pub returns-in-Some-clause-described : goal.returns-in-Some-clause-described
returns-in-Some-clause-described c = λ place es last d.
    let t = c.args.self.now in
    let find = place_in t.rows.entries in
    let new = values_of c.decide_rows.new.rows.entries in
    let key : ℤ = to_z w64 (of_z w64 c.args.producer) in
    let own = to_z-of_z w64 c.args.producer c.ranges.producer in
    let found : lookup (int_eq key) t.staged.entries ≡ Some c.in-Some.places = search rules in
    let decided = rw c.as_slice.ensures.value at c.decide_rows.ensures.decided in
    let so = all_decided c.in-Some.places.items key c.args.outcome (values_of t.rows.entries) new decided (something_waits find (values_of t.rows.entries) t.staged.entries key c.in-Some.places found c.requires) in
    rw (same_places t.rows.entries c.decide_rows.new.rows.entries c.decide_rows.ensures.same)
    (decide_described find (values_of t.rows.entries) new c.args.producer c.args.outcome es (rw own at so) d)
