-- What contracts see of a seat, and of a core with seats.
use Rattle.std.specs.Prelude.{ℕ, ◌+◌, Option, Some, None}
use Rattle.request_handlers.specs.Receipt.{ReceiptValue}
use Rattle.request_handlers.specs.Core.{CoreValue}

-- how many calls with the seat were answered, and the receipt of the latest of them
pub record SeatValue : Type 0 where
  pub count : ℕ
  pub last : Option ReceiptValue

-- a core, and how many seats it gave
pub record BookedValue : Type 0 where
  pub core : CoreValue
  pub given : ℕ

-- how many seats a core gives
abbrev pub most_seats : ℕ
most_seats = 1048576

-- a seat before any call
abbrev pub fresh_seat : SeatValue
fresh_seat = record { count = 0; last = None }

-- the seat, once a call with it was answered by this receipt
abbrev pub seat_after : SeatValue → ReceiptValue → SeatValue
seat_after s r = record { count = s.count + 1; last = Some r }

-- the core once it gave a seat
abbrev pub with_seat_given : BookedValue → BookedValue
with_seat_given b = record b { given = b.given + 1 }
