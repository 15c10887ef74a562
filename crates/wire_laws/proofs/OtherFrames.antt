-- A Produce with acks 0 that is answered is refuted.
use Rattle.std.proofs.Common.{◌≡◌, ℕ, List, [], ◌∷◌, pos}
use Rattle.wire_types.specs.Spelling.{int_written, many_written, after_count_written}
use Rattle.msg_admin.specs.Api.{is_flexible}
use Rattle.msg_admin.specs.Bodies.{reply_body}
use Rattle.wire_laws.specs.OtherFrames.{SendsNothing}
use Rattle.wire_laws.specs.WrongOtherFrames.{silent_produces_are_answered}

pub not_answered : ¬ SendsNothing silent_produces_are_answered
unfolding int_written many_written after_count_written is_flexible reply_body
not_answered law =
    let clash : ◌≡◌ {A = List ℕ} (0 ∷ 0 ∷ 0 ∷ 12 ∷ 0 ∷ 0 ∷ 0 ∷ 1 ∷ 0 ∷ 0 ∷ 0 ∷ 0 ∷ 0 ∷ 0 ∷ 0 ∷ 0 ∷ []) [] = law.silent (pos 1) (record { topics = []; throttle = pos 0 }) in
    cc
