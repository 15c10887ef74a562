-- What stands before the topics of a long answer, and these, are the response.
use Rattle.std.proofs.Common.{◌≡◌, ℕ, ℤ, pos, ◌+◌, ◌<◌, ◌^◌, true, ltb, List, [], ◌++◌, length, refl, sym, ap, ◌∙◌, append_assoc, w32, FitsSigned, to_z, of_z}
use Rattle.std.proofs.lemmas.Bool.{lt-ltb}
use Rattle.std.proofs.lemmas.Int.{to_z-of_z}
use Rattle.std.proofs.lemmas.List.{length-append}
use Rattle.wire_types.specs.Grammar.{Grammar}
use Rattle.wire_types.specs.Spelling.{int_written, after_count_written}
use Rattle.wire_types.specs.Schema.{int32, array, count32}
use Rattle.msg_data.specs.declared.metadata.MetadataReply.{MetadataReply}
use Rattle.msg_data.specs.declared.fetch.FetchReply.{FetchReply}
use Rattle.msg_data.specs.Metadata.{metadata_reply, broker}
use Rattle.msg_data.specs.Fetch.{fetch_reply}
use Rattle.msg_admin.specs.declared.reply.Reply.TheVariants as replies
use Rattle.msg_admin.specs.Api.{is_flexible}
use Rattle.msg_admin.specs.Bodies.{reply_body}
use Rattle.msg_admin.specs.Response.{is_sendable}
use Rattle.frame_streams.specs.Responses.{IsFront, IsSize, topics_of, metadata_front, metadata_front_of, fetch_front, fetch_front_of}

four : (z : ℤ) → length (int_written w32 z) ≡ 4
unfolding int_written
four z = refl

-- the text after a size field has the size that it tells
counted : (c : ℤ) (body : List ℕ) → length (int_written w32 c ++ body) ≡ 4 + length body
counted c body = length-append (int_written w32 c) body ∙ ap (λ (n : ℕ). n + length body) (four c)

-- the same parts, with what follows the last one after it
regroup : (s s' c b k n rest : List ℕ) → s ≡ s' → (s ++ (c ++ (b ++ (k ++ n)))) ++ rest ≡ s' ++ (c ++ (b ++ (k ++ (n ++ rest))))
regroup s s' c b k n rest e = rw e (simp append_assoc)

regroup_short : (s s' c t n rest : List ℕ) → s ≡ s' → (s ++ (c ++ (t ++ n))) ++ rest ≡ s' ++ (c ++ (t ++ (n ++ rest)))
regroup_short s s' c t n rest e = rw e (simp append_assoc)

below : (n : ℕ) → n < 2 ^ 31 → ltb n (2 ^ 31) ≡ true
below n lt = lt-ltb n (2 ^ 31) lt

metadata_whole : (c size : ℤ) (m : MetadataReply) (front : List ℕ) → IsSize metadata_reply m size → front ≡ metadata_front.put [] (metadata_front_of size c m) → IsFront c (replies.Metadata m) front
unfolding is_flexible reply_body is_sendable after_count_written
metadata_whole c size m front sized is =
    let text = int32.written c ++ metadata_reply.written m in
    let n : length text ≡ 4 + length (metadata_reply.written m) = counted c (metadata_reply.written m) in
    let short : ltb (length text) (2 ^ 31) ≡ true = rw n (below _ sized.told) in
    let told : size ≡ pos (length text) = sized.counted ∙ ap pos (sym n) in
    record {
      sendable = rw (sized.fits, short) refl;
      whole = ap (λ (t : List ℕ). t ++ topics_of (replies.Metadata m)) (is ∙ metadata_front.puts [] (metadata_front_of size c m))
          ∙ regroup (int32.written size) (int32.written (pos (length text))) (int32.written c) ((array broker).written m.brokers) (int32.written m.controller) (count32.written (length m.topics)) (topics_of (replies.Metadata m)) (ap int32.written told);
    }

fetch_whole : (c size : ℤ) (m : FetchReply) (front : List ℕ) → IsSize fetch_reply m size → front ≡ fetch_front.put [] (fetch_front_of size c m) → IsFront c (replies.Fetch m) front
unfolding is_flexible reply_body is_sendable after_count_written
fetch_whole c size m front sized is =
    let text = int32.written c ++ fetch_reply.written m in
    let n : length text ≡ 4 + length (fetch_reply.written m) = counted c (fetch_reply.written m) in
    let short : ltb (length text) (2 ^ 31) ≡ true = rw n (below _ sized.told) in
    let told : size ≡ pos (length text) = sized.counted ∙ ap pos (sym n) in
    record {
      sendable = rw (sized.fits, short) refl;
      whole = ap (λ (t : List ℕ). t ++ topics_of (replies.Fetch m)) (is ∙ fetch_front.puts [] (fetch_front_of size c m))
          ∙ regroup_short (int32.written size) (int32.written (pos (length text))) (int32.written c) (int32.written m.throttle) (count32.written (length m.topics)) (topics_of (replies.Fetch m)) (ap int32.written told);
    }

-- an INT32 tells the size
size_kept : {A : Type 0} (g : Grammar A) (x : A) (size : ℤ) → IsSize g x size → to_z w32 (of_z w32 size) ≡ size
size_kept g x size sized = ap (λ (z : ℤ). to_z w32 (of_z w32 z)) sized.counted ∙ to_z-of_z w32 (pos (4 + length (g.written x))) (record { sfits = sized.told }) ∙ sym sized.counted

pub metadata_is : (c size : ℤ) (m : MetadataReply) (old front : List ℕ) → FitsSigned w32 c → IsSize metadata_reply m size → old ≡ [] → front ≡ metadata_front.put old (metadata_front_of (to_z w32 (of_z w32 size)) (to_z w32 (of_z w32 c)) m)
    → IsFront c (replies.Metadata m) front
metadata_is c size m old front fits sized none is =
    metadata_whole c size m front sized (is ∙ ap (λ (t : List ℕ). metadata_front.put t (metadata_front_of (to_z w32 (of_z w32 size)) (to_z w32 (of_z w32 c)) m)) none
    ∙ ap (λ (z : ℤ). metadata_front.put [] (metadata_front_of z (to_z w32 (of_z w32 c)) m)) (size_kept metadata_reply m size sized) ∙ ap (λ (z : ℤ). metadata_front.put [] (metadata_front_of size z m)) (to_z-of_z w32 c fits))

pub fetch_is : (c size : ℤ) (m : FetchReply) (old front : List ℕ) → FitsSigned w32 c → IsSize fetch_reply m size → old ≡ [] → front ≡ fetch_front.put old (fetch_front_of (to_z w32 (of_z w32 size)) (to_z w32 (of_z w32 c)) m)
    → IsFront c (replies.Fetch m) front
fetch_is c size m old front fits sized none is =
    fetch_whole c size m front sized (is ∙ ap (λ (t : List ℕ). fetch_front.put t (fetch_front_of (to_z w32 (of_z w32 size)) (to_z w32 (of_z w32 c)) m)) none
    ∙ ap (λ (z : ℤ). fetch_front.put [] (fetch_front_of z (to_z w32 (of_z w32 c)) m)) (size_kept fetch_reply m size sized) ∙ ap (λ (z : ℤ). fetch_front.put [] (fetch_front_of size z m)) (to_z-of_z w32 c fits))
