-- A response is the size of what comes, the correlation id, and the body.
use Rattle.std.proofs.Common.{◌≡◌, ℕ, ℤ, pos, negsuc, ◌<◌, Bool, true, false, List, [], ◌∷◌, ◌++◌, length, Option, refl, sym, ap, ◌∙◌, append_assoc, arith, w32}
use Rattle.std.specs.Prelude.{◌≤ℤ◌, ◌<ℤ◌}
use Rattle.std.specs.Int.{to_be_bytes, cast_unsigned}
use Rattle.std.proofs.lemmas.Int.{ints}
use Rattle.wire_types.specs.Spelling.{int_written, varint_written, after_count_written, many_written}
use Rattle.msg_admin.specs.declared.api.Api.{Api}
use Rattle.msg_admin.specs.declared.reply.Reply.{Reply}
use Rattle.msg_admin.specs.Api.{is_flexible}
use Rattle.msg_admin.specs.Header.{with_header_tags}
use Rattle.msg_admin.specs.Bodies.{reply_body}
use Rattle.msg_admin.specs.Frame.{frame_bytes}
use Rattle.msg_admin.specs.Response.{response_as, response_text, response}
use Rattle.wire_types.specs.Schema.{int32}
use Rattle.api_laws.specs.Framing.{four_bytes, word_of, tags, after_size, ResponsesAreFramed}

bytes_of : (n : ℕ) → to_be_bytes w32 n ≡ four_bytes n
bytes_of n = refl

word_is : (z : ℤ) → negsuc 2147483647 ≤ℤ z → z <ℤ pos 2147483648 → cast_unsigned w32 z ≡ word_of z
word_is (pos n) low high = omega (arith, ints, low, high)
word_is (negsuc n) low high = omega (arith, ints, low, high)

written_is : (z : ℤ) → negsuc 2147483647 ≤ℤ z → z <ℤ pos 2147483648 → int_written w32 z ≡ four_bytes (word_of z)
unfolding int_written
written_is z low high = ap four_bytes (word_is z low high)

flexible_is : (z : ℤ) → (with_header_tags true int32).written z ≡ int_written w32 z ++ 0 ∷ []
unfolding varint_written after_count_written many_written
flexible_is z = refl

header_is : (b : Bool) (z : ℤ) → (with_header_tags b int32).written z ≡ int_written w32 z ++ tags b
header_is true z = flexible_is z
header_is false z = sym (append_nil (int_written w32 z)) where
  append_nil : (xs : List ℕ) → xs ++ [] ≡ xs
  append_nil [] = refl
  append_nil (x ∷ xs) = ap (λ (l : List ℕ). x ∷ l) (append_nil xs)

text_is : (z : ℤ) (api : Api) (r : Reply) → negsuc 2147483647 ≤ℤ z → z <ℤ pos 2147483648 → response_text z api r ≡ after_size z api r
text_is z api r low high =
    ap (λ (l : List ℕ). l ++ (reply_body api).written r) (header_is (is_flexible api) z)
    ∙ append_assoc (int_written w32 z) (tags (is_flexible api)) ((reply_body api).written r)
    ∙ ap (λ (l : List ℕ). l ++ (tags (is_flexible api) ++ (reply_body api).written r)) (written_is z low high)

size_is : (n : ℕ) → n < 2147483648 → int_written w32 (pos n) ≡ four_bytes n
size_is n small = written_is (pos n) (omega (arith, ints)) (omega (arith, ints, small))

pub framed_are : ResponsesAreFramed response
framed_are z r api sent low high small =
    ap (λ (o : Option Api). response_as o z r) sent
    ∙ ap frame_bytes (text_is z api r low high)
    ∙ ap (λ (l : List ℕ). l ++ after_size z api r) (size_is (length (after_size z api r)) small)

-- ---- worked cases

seven : four_bytes (word_of (pos 7)) ≡ 0 ∷ 0 ∷ 0 ∷ 7 ∷ []
seven = refl

minus_one : four_bytes (word_of (negsuc 0)) ≡ 255 ∷ 255 ∷ 255 ∷ 255 ∷ []
minus_one = refl

thousand : four_bytes 1000 ≡ 0 ∷ 0 ∷ 3 ∷ 232 ∷ []
thousand = refl
