-- Bytes that are gathered and written part after part, and what stands before the parts of an
-- answer.
use Rattle.std.specs.Prelude.{◌≡◌, ℕ, ℤ, List, ◌++◌, length, Option, Result, OnOk}
use Rattle.std.specs.Io.KnownBytes.{Appends}
use Rattle.wire_types.specs.Grammar.{Grammar}
use Rattle.wire_types.specs.Combinators.{◌⨟◌}
use Rattle.wire_types.specs.Schema.{int32, int64, string, nullable_array, count32}
use Rattle.wire_types.specs.declared.error_code.ErrorCode.{ErrorCode}
use Rattle.wire_types.specs.ErrorCode.{error_code}
use Rattle.msg_data.specs.declared.fetch.AbortedTransaction.{AbortedTransaction}
use Rattle.msg_data.specs.declared.fetch.FetchedRecords.{FetchedRecords}
use Rattle.msg_data.specs.Fetch.{aborted_transaction}

-- Of gathered bytes and of a text after them so much was written, and where it went well the rest
-- is gathered.
pub record Streams {A E : Type 0} (old new : Option (List ℕ)) (gathered text gathered' : List ℕ)
    (r : Result A E) : Type 0 where
  pub done : List ℕ
  pub left : List ℕ
  pub split : gathered ++ text ≡ done ++ left
  pub grew : Appends old new done
  pub all : OnOk r (left ≡ gathered')

-- partition_index error_code high_watermark last_stable_offset [aborted_transactions], and how many
-- bytes of records follow
abbrev pub records_head : Grammar
    (ℤ × (ErrorCode × (ℤ × (ℤ × (Option (List AbortedTransaction) × ℕ)))))
records_head = int32 ⨟ error_code ⨟ int64 ⨟ int64 ⨟ nullable_array aborted_transaction ⨟ count32

abbrev pub records_head_of : FetchedRecords
    → ℤ × (ErrorCode × (ℤ × (ℤ × (Option (List AbortedTransaction) × ℕ))))
records_head_of p =
    (p.index, (p.error, (p.high_watermark, (p.last_stable_offset, (p.aborted, length p.records)))))

-- the name of a topic, and how many partitions follow
abbrev pub topic_head : Grammar (List ℕ × ℕ)
topic_head = string ⨟ count32
