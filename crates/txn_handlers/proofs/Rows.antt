-- The definitions computed on worked cases.
use Rattle.std.specs.Prelude.{◌≡◌, pos, negsuc, true, false, [], ◌∷◌, Some, refl}
use Rattle.wire_types.specs.declared.error_code.ErrorCode.TheVariants as codes
use Rattle.txn_handlers.specs.AddPartitions.{cut_code, is_missing, partitions_of}

-- ---- an AddPartitionsToTxn of partitions 0 and 1 of `a` and of partition 2 of `b`

in_order : partitions_of (record { name = 97 ∷ []; partitions = pos 0 ∷ pos 1 ∷ [] } ∷ record { name = 98 ∷ []; partitions = pos 2 ∷ [] } ∷ [])
    ≡ record { topic = 97 ∷ []; index = pos 0 } ∷ record { topic = 97 ∷ []; index = pos 1 } ∷ record { topic = 98 ∷ []; index = pos 2 } ∷ []
in_order = refl

-- there are two partitions of `a`, and no topic `b`
one_is_missing : is_missing (record { name = 97 ∷ []; partitions = [] ∷ [] ∷ [] } ∷ []) (record { name = 97 ∷ []; partitions = pos 0 ∷ pos 1 ∷ [] } ∷ record { name = 98 ∷ []; partitions = pos 2 ∷ [] } ∷ []) ≡ true
one_is_missing = refl

none_is_missing : is_missing (record { name = 97 ∷ []; partitions = [] ∷ [] ∷ [] } ∷ []) (record { name = 97 ∷ []; partitions = pos 0 ∷ pos 1 ∷ [] } ∷ []) ≡ false
none_is_missing = refl

below_is_missing : is_missing (record { name = 97 ∷ []; partitions = [] ∷ [] } ∷ []) (record { name = 97 ∷ []; partitions = negsuc 0 ∷ [] } ∷ []) ≡ true
below_is_missing = refl

nothing_was_tried : cut_code (Some []) ≡ codes.OperationNotAttempted
nothing_was_tried = refl
