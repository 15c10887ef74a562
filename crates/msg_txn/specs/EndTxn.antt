-- The EndTxn messages, versions 0 to 5, flexible ones from 3 on (Kafka protocol guide, "EndTxn API
-- (Key: 26)"; KIP-890 for version 5), and their grammars.
use Rattle.std.specs.Prelude.{◌≡◌, ℤ, pos, Bool, true, false, Option, Some, None, refl}
use Rattle.std.specs.Ordering.{int_eq}
use Rattle.wire_types.specs.declared.error_code.ErrorCode.{ErrorCode}
use Rattle.wire_types.specs.Grammar.{Grammar}
use Rattle.wire_types.specs.Combinators.{struct, variant, ◌⨟◌}
use Rattle.wire_types.specs.Schema.{int16, int32, int64, boolean, string, compact_string, tagged_struct}
use Rattle.wire_types.specs.ErrorCode.{error_code}
use Rattle.msg_txn.specs.declared.end_txn.EndTxn.{EndTxn}
use Rattle.msg_txn.specs.declared.end_txn.FlexibleEndTxn.{FlexibleEndTxn}
use Rattle.msg_txn.specs.declared.end_txn.EndTxnRequest.{EndTxnRequest}
use Rattle.msg_txn.specs.declared.end_txn.EndTxnRequest.TheVariants as requests
use Rattle.msg_txn.specs.declared.end_txn.Ended.{Ended}
use Rattle.msg_txn.specs.declared.end_txn.FlexibleEnded.{FlexibleEnded}
use Rattle.msg_txn.specs.declared.end_txn.EndedWithPair.{EndedWithPair}
use Rattle.msg_txn.specs.declared.end_txn.EndTxnReply.{EndTxnReply}
use Rattle.msg_txn.specs.declared.end_txn.EndTxnReply.TheVariants as replies

-- ---- what all versions have

abbrev pub end_txn_of : EndTxnRequest → EndTxn
end_txn_of (requests.Version0 r) = r
end_txn_of (requests.Version1 r) = r
end_txn_of (requests.Version2 r) = r
end_txn_of (requests.Version3 r) = r.asked
end_txn_of (requests.Version4 r) = r.asked
end_txn_of (requests.Version5 r) = r.asked

abbrev pub error_of : EndTxnReply → ErrorCode
error_of (replies.Version0 r) = r.error
error_of (replies.Version1 r) = r.error
error_of (replies.Version2 r) = r.error
error_of (replies.Version3 r) = r.error
error_of (replies.Version4 r) = r.error
error_of (replies.Version5 r) = r.error

-- the version in which one is asked, and in which it is answered
abbrev pub version_asked : EndTxnRequest → ℤ
version_asked (requests.Version0 r) = pos 0
version_asked (requests.Version1 r) = pos 1
version_asked (requests.Version2 r) = pos 2
version_asked (requests.Version3 r) = pos 3
version_asked (requests.Version4 r) = pos 4
version_asked (requests.Version5 r) = pos 5

abbrev pub version_answered : EndTxnReply → ℤ
version_answered (replies.Version0 r) = pos 0
version_answered (replies.Version1 r) = pos 1
version_answered (replies.Version2 r) = pos 2
version_answered (replies.Version3 r) = pos 3
version_answered (replies.Version4 r) = pos 4
version_answered (replies.Version5 r) = pos 5

-- ---- their grammars

-- EndTxn Request => transactional_id producer_id producer_epoch committed
abbrev pub end_txn : Grammar EndTxn
end_txn = struct
    (λ (transactional_id, (producer, (epoch, committed))).
    record {
      transactional_id = transactional_id;
      producer = producer;
      epoch = epoch;
      committed = committed;
    })
    (λ r. (r.transactional_id, (r.producer, (r.epoch, r.committed))))
    (λ x. refl) (λ r. refl)
    (string  -- transactional_id
    ⨟ int64  -- producer_id
    ⨟ int16  -- producer_epoch
    ⨟ boolean)  -- committed

-- EndTxn Request => transactional_id producer_id producer_epoch committed TAG_BUFFER
abbrev pub flexible_end_txn : Grammar FlexibleEndTxn
flexible_end_txn = tagged_struct
    (λ (transactional_id, (producer, (epoch, committed))).
    record {
      asked
          = record {
            transactional_id = transactional_id;
            producer = producer;
            epoch = epoch;
            committed = committed;
          };
    })
    (λ r. (r.asked.transactional_id, (r.asked.producer, (r.asked.epoch, r.asked.committed))))
    (λ x. refl) (λ r. refl)
    (compact_string  -- transactional_id
    ⨟ int64  -- producer_id
    ⨟ int16  -- producer_epoch
    ⨟ boolean)  -- committed

-- EndTxn Response => throttle_time_ms error_code
abbrev pub end_txn_answer : Grammar Ended
end_txn_answer = struct
    (λ (throttle, error). record { throttle = throttle; error = error })
    (λ r. (r.throttle, r.error))
    (λ x. refl) (λ r. refl)
    (int32  -- throttle_time_ms
    ⨟ error_code)  -- error_code

-- EndTxn Response => throttle_time_ms error_code TAG_BUFFER
abbrev pub flexible_end_txn_answer : Grammar FlexibleEnded
flexible_end_txn_answer = tagged_struct
    (λ (throttle, error). record { throttle = throttle; error = error })
    (λ r. (r.throttle, r.error))
    (λ x. refl) (λ r. refl)
    (int32  -- throttle_time_ms
    ⨟ error_code)  -- error_code

-- EndTxn Response => throttle_time_ms error_code producer_id producer_epoch TAG_BUFFER
abbrev pub end_txn_answer_with_producer : Grammar EndedWithPair
end_txn_answer_with_producer = tagged_struct
    (λ (throttle, (error, (producer, epoch))).
    record { throttle = throttle; error = error; producer = producer; epoch = epoch })
    (λ r. (r.throttle, (r.error, (r.producer, r.epoch))))
    (λ x. refl) (λ r. refl)
    (int32  -- throttle_time_ms
    ⨟ error_code  -- error_code
    ⨟ int64  -- producer_id
    ⨟ int16)  -- producer_epoch

-- ---- by version

abbrev pub asked_in_0 : EndTxnRequest → Option EndTxn
asked_in_0 (requests.Version0 r) = Some r
asked_in_0 _ = None

pub asked_in_0-only : (r : EndTxnRequest) (x : EndTxn) → asked_in_0 r ≡ Some x
    → requests.Version0 x ≡ r
asked_in_0-only (requests.Version0 y) x e = cc
asked_in_0-only _ x e = absurd cc

abbrev pub answered_in_0 : EndTxnReply → Option Ended
answered_in_0 (replies.Version0 r) = Some r
answered_in_0 _ = None

pub answered_in_0-only : (r : EndTxnReply) (x : Ended) → answered_in_0 r ≡ Some x
    → replies.Version0 x ≡ r
answered_in_0-only (replies.Version0 y) x e = cc
answered_in_0-only _ x e = absurd cc

abbrev pub asked_in_1 : EndTxnRequest → Option EndTxn
asked_in_1 (requests.Version1 r) = Some r
asked_in_1 _ = None

pub asked_in_1-only : (r : EndTxnRequest) (x : EndTxn) → asked_in_1 r ≡ Some x
    → requests.Version1 x ≡ r
asked_in_1-only (requests.Version1 y) x e = cc
asked_in_1-only _ x e = absurd cc

abbrev pub answered_in_1 : EndTxnReply → Option Ended
answered_in_1 (replies.Version1 r) = Some r
answered_in_1 _ = None

pub answered_in_1-only : (r : EndTxnReply) (x : Ended) → answered_in_1 r ≡ Some x
    → replies.Version1 x ≡ r
answered_in_1-only (replies.Version1 y) x e = cc
answered_in_1-only _ x e = absurd cc

abbrev pub asked_in_2 : EndTxnRequest → Option EndTxn
asked_in_2 (requests.Version2 r) = Some r
asked_in_2 _ = None

pub asked_in_2-only : (r : EndTxnRequest) (x : EndTxn) → asked_in_2 r ≡ Some x
    → requests.Version2 x ≡ r
asked_in_2-only (requests.Version2 y) x e = cc
asked_in_2-only _ x e = absurd cc

abbrev pub answered_in_2 : EndTxnReply → Option Ended
answered_in_2 (replies.Version2 r) = Some r
answered_in_2 _ = None

pub answered_in_2-only : (r : EndTxnReply) (x : Ended) → answered_in_2 r ≡ Some x
    → replies.Version2 x ≡ r
answered_in_2-only (replies.Version2 y) x e = cc
answered_in_2-only _ x e = absurd cc

abbrev pub asked_in_3 : EndTxnRequest → Option FlexibleEndTxn
asked_in_3 (requests.Version3 r) = Some r
asked_in_3 _ = None

pub asked_in_3-only : (r : EndTxnRequest) (x : FlexibleEndTxn) → asked_in_3 r ≡ Some x
    → requests.Version3 x ≡ r
asked_in_3-only (requests.Version3 y) x e = cc
asked_in_3-only _ x e = absurd cc

abbrev pub answered_in_3 : EndTxnReply → Option FlexibleEnded
answered_in_3 (replies.Version3 r) = Some r
answered_in_3 _ = None

pub answered_in_3-only : (r : EndTxnReply) (x : FlexibleEnded) → answered_in_3 r ≡ Some x
    → replies.Version3 x ≡ r
answered_in_3-only (replies.Version3 y) x e = cc
answered_in_3-only _ x e = absurd cc

abbrev pub asked_in_4 : EndTxnRequest → Option FlexibleEndTxn
asked_in_4 (requests.Version4 r) = Some r
asked_in_4 _ = None

pub asked_in_4-only : (r : EndTxnRequest) (x : FlexibleEndTxn) → asked_in_4 r ≡ Some x
    → requests.Version4 x ≡ r
asked_in_4-only (requests.Version4 y) x e = cc
asked_in_4-only _ x e = absurd cc

abbrev pub answered_in_4 : EndTxnReply → Option FlexibleEnded
answered_in_4 (replies.Version4 r) = Some r
answered_in_4 _ = None

pub answered_in_4-only : (r : EndTxnReply) (x : FlexibleEnded) → answered_in_4 r ≡ Some x
    → replies.Version4 x ≡ r
answered_in_4-only (replies.Version4 y) x e = cc
answered_in_4-only _ x e = absurd cc

abbrev pub asked_in_5 : EndTxnRequest → Option FlexibleEndTxn
asked_in_5 (requests.Version5 r) = Some r
asked_in_5 _ = None

pub asked_in_5-only : (r : EndTxnRequest) (x : FlexibleEndTxn) → asked_in_5 r ≡ Some x
    → requests.Version5 x ≡ r
asked_in_5-only (requests.Version5 y) x e = cc
asked_in_5-only _ x e = absurd cc

abbrev pub answered_in_5 : EndTxnReply → Option EndedWithPair
answered_in_5 (replies.Version5 r) = Some r
answered_in_5 _ = None

pub answered_in_5-only : (r : EndTxnReply) (x : EndedWithPair) → answered_in_5 r ≡ Some x
    → replies.Version5 x ≡ r
answered_in_5-only (replies.Version5 y) x e = cc
answered_in_5-only _ x e = absurd cc

-- one grammar or another
abbrev pub chosen : {A : Type 0} → Bool → Grammar A → Grammar A → Grammar A
chosen true g other = g
chosen false g other = other

-- a request in a version from 0 to 5
abbrev pub end_txn_request : ℤ → Grammar EndTxnRequest
end_txn_request version =
    chosen (int_eq version (pos 0))
    (variant requests.Version0 asked_in_0 (λ x. refl) asked_in_0-only end_txn)
    (chosen (int_eq version (pos 1))
    (variant requests.Version1 asked_in_1 (λ x. refl) asked_in_1-only end_txn)
    (chosen (int_eq version (pos 2))
    (variant requests.Version2 asked_in_2 (λ x. refl) asked_in_2-only end_txn)
    (chosen (int_eq version (pos 3))
    (variant requests.Version3 asked_in_3 (λ x. refl) asked_in_3-only flexible_end_txn)
    (chosen (int_eq version (pos 4))
    (variant requests.Version4 asked_in_4 (λ x. refl) asked_in_4-only flexible_end_txn)
    (variant requests.Version5 asked_in_5 (λ x. refl) asked_in_5-only flexible_end_txn)))))

-- an answer in a version from 0 to 5
abbrev pub end_txn_reply : ℤ → Grammar EndTxnReply
end_txn_reply version =
    chosen (int_eq version (pos 0))
    (variant replies.Version0 answered_in_0 (λ x. refl) answered_in_0-only end_txn_answer)
    (chosen (int_eq version (pos 1))
    (variant replies.Version1 answered_in_1 (λ x. refl) answered_in_1-only end_txn_answer)
    (chosen (int_eq version (pos 2))
    (variant replies.Version2 answered_in_2 (λ x. refl) answered_in_2-only end_txn_answer)
    (chosen (int_eq version (pos 3))
    (variant replies.Version3 answered_in_3 (λ x. refl) answered_in_3-only
    flexible_end_txn_answer)
    (chosen (int_eq version (pos 4))
    (variant replies.Version4 answered_in_4 (λ x. refl) answered_in_4-only
    flexible_end_txn_answer)
    (variant replies.Version5 answered_in_5 (λ x. refl) answered_in_5-only
    end_txn_answer_with_producer)))))
