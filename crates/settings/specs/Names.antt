-- Names of topics (Kafka documentation, "Topic configs").
use Rattle.std.specs.Prelude.{ℕ, Bool, not, ◌&&◌, ◌||◌, ◌==◌, nat_le, List, length, codes}
use Rattle.std.specs.Char.{is_ascii_alphanumeric}
use Rattle.std.specs.List.{list_all}
use Rattle.std.specs.Str.{bytes_eq}

-- an ASCII letter or digit, `.`, `_` or `-`
abbrev pub is_name_byte : ℕ → Bool
is_name_byte b = is_ascii_alphanumeric b || ((b == 46 || b == 95) || b == 45)

-- 1 to 249 of these, and neither `.` nor `..`
abbrev pub is_topic_name : List ℕ → Bool
is_topic_name name =
    (nat_le 1 (length name) && nat_le (length name) 249)
    && (not (bytes_eq name (codes ".") || bytes_eq name (codes "..")) && list_all is_name_byte name)
