-- The bytes of a response, from its front on (Kafka protocol guide, "Common Request and Response
-- Structure").
use Rattle.std.specs.Prelude.{◌≡◌, ◌≤ℤ◌, ◌<ℤ◌, ◌<◌, ◌/◌, ◌%◌, ◌-◌, ℕ, ℤ, pos, negsuc, Bool, true, false, List, [], ◌∷◌, ◌++◌, length, Some}
use Rattle.msg_admin.specs.declared.api.Api.{Api}
use Rattle.msg_admin.specs.declared.reply.Reply.{Reply}
use Rattle.msg_admin.specs.Api.{is_flexible}
use Rattle.msg_admin.specs.Bodies.{sent_as, reply_body}

-- a number in four bytes, the highest first
abbrev pub four_bytes : ℕ → List ℕ
four_bytes n = n / 16777216 % 256 ∷ n / 65536 % 256 ∷ n / 256 % 256 ∷ n % 256 ∷ []

-- a number of 32 bits with a sign, as one without
abbrev pub word_of : ℤ → ℕ
word_of (pos n) = n
word_of (negsuc n) = 4294967295 - n

-- a tagged section that holds nothing, which stands in a flexible version alone
abbrev pub tags : Bool → List ℕ
tags true = 0 ∷ []
tags false = []

-- what stands after the size: the correlation id that was asked under, the empty tagged section of
-- a flexible version, and the answer's body
abbrev pub after_size : ℤ → Api → Reply → List ℕ
after_size correlation api r =
    four_bytes (word_of correlation) ++ (tags (is_flexible api) ++ (reply_body api).written r)

-- the bytes of a response, by the correlation id of its request
abbrev pub ResponseRule : Type 0
ResponseRule = ℤ → Reply → List ℕ

-- a response is the size of the rest, and the rest
abbrev pub ResponsesAreFramed : ResponseRule → Type 0
ResponsesAreFramed response =
    (correlation : ℤ) (r : Reply) (api : Api) → sent_as r ≡ Some api
    → negsuc 2147483647 ≤ℤ correlation → correlation <ℤ pos 2147483648
    → length (after_size correlation api r) < 2147483648
    → response correlation r
    ≡ four_bytes (length (after_size correlation api r)) ++ after_size correlation api r
