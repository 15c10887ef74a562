-- Where the first fault of a frame shows itself.
use Rattle.std.specs.Prelude.{◌≡◌, ◌<◌, ◌≤◌, ◌+◌, ℕ, List, length, take, Bool, true, false, Result, Err}
use Rattle.wire_types.specs.declared.fault.Malformed.{Malformed}
use Rattle.wire_types.specs.declared.fault.Malformed.TheVariants.{Short}
use Rattle.msg_admin.specs.declared.header.Header.{Header}
use Rattle.msg_admin.specs.declared.request.Request.{Request}
use Rattle.msg_admin.specs.Request.{request_at}

abbrev pub tells_short : Result (Header × Request) Malformed → Bool
tells_short (Err Short) = true
tells_short found = false

-- the bytes are too few to tell a request or another fault
abbrev pub is_short : List ℕ → Bool
is_short bytes = tells_short (request_at bytes)

-- So many bytes from the front tell what a frame is, unless they are all that there are; with one
-- byte less they are too few.
pub record IsFaultEnd (bytes : List ℕ) (end : ℕ) : Type 0 where
  pub within : end ≤ length bytes
  pub told : end < length bytes → is_short (take end bytes) ≡ false
  pub before : (n : ℕ) → end ≡ n + 1 → is_short (take n bytes) ≡ true
