-- What stands after a length that is within its bytes, and after one that is not.
use Rattle.std.proofs.Common.{◌≡◌, ℕ, List, Ok, Err, refl}
use Rattle.wire_types.specs.declared.fault.Malformed.{Malformed}
use Rattle.wire_types.specs.Reading.{Found, front_at, after_count_at, counted_at}
use Rattle.wire_types.proofs.Announced.{content_after, refused}
use Rattle.record_batch.specs.CombinatorLaws.{filled_at, sized_at}

pub sized_after : {A : Type 0} (count : List ℕ → Found ℕ) (content : List ℕ → Found A) (bytes rest : List ℕ) (n : ℕ) → counted_at count bytes ≡ Ok (n, rest) → sized_at count content bytes ≡ filled_at content n rest
unfolding sized_at after_count_at
sized_after count content = content_after count (filled_at content)

pub sized_refused : {A : Type 0} (count : List ℕ → Found ℕ) (content : List ℕ → Found A) (bytes : List ℕ) (e : Malformed) → counted_at count bytes ≡ Err e → sized_at count content bytes ≡ Err e
unfolding sized_at after_count_at front_at
sized_refused count content = refused count (filled_at content) (λ n bytes above. rw above refl)
