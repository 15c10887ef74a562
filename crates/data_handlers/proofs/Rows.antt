-- The definitions computed on worked cases.
use Rattle.std.specs.Prelude.{◌≡◌, pos, [], ◌∷◌, Some, None, refl}
use Rattle.wire_types.specs.declared.error_code.ErrorCode.TheVariants as codes
use Rattle.txn_coordinator.specs.Coordinator.{no_transactions}
use Rattle.data_handlers.specs.Judged.{held_code, partition_at}

-- ---- a batch of a transaction, where there is none

without_an_id : held_code no_transactions None (record { producer = pos 0; epoch = pos 0 }) (partition_at (97 ∷ []) (pos 0)) ≡ Some codes.InvalidTxnState
without_an_id = refl

of_an_unknown_id : held_code no_transactions (Some (116 ∷ [])) (record { producer = pos 0; epoch = pos 0 }) (partition_at (97 ∷ []) (pos 0)) ≡ Some codes.InvalidProducerIdMapping
of_an_unknown_id = refl
