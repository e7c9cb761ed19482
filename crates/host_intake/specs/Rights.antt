-- The rights to settle members.
use Rattle.std.specs.Prelude.{◌≡◌, ℕ, true, false, List, Option, Some, MatchOption}
use Rattle.atomic_table.specs.Seated.{TableId}
use Rattle.host_record.specs.declared.request.Request.{Request}
use Rattle.host_model.specs.Groups.{is_member}
use Rattle.host_model.specs.Log.{request_at}
use Rattle.host_group.specs.declared.seat.CellSeat.{CellSeat}
use Rattle.host_group.specs.Seats.{IsRightOf, IsSeatUnused, IsUsed, row}
use Rattle.host_intake.specs.declared.entry.RecordEnd.{RecordEnd}
use Rattle.host_intake.specs.Entries.{Taking, place_of, request_in, requests_of}
use Rattle.host_intake.specs.Members.{member_at}

-- the right to settle a record that was taken so, not yet used
pub record IsRightFor (cells : TableId) (ts : List Taking) (t : Taking) (right : CellSeat)
    : Type 0 where
  pub right_of : IsRightOf cells (request_in t).group right
  pub unused : IsSeatUnused right
  pub member : member_at (requests_of ts) (place_of t) ≡ Some (row right).member

-- it is there exactly for a member
abbrev pub HasRight : TableId → List Taking → Taking → Option CellSeat → Type 0
HasRight cells ts t right =
    MatchOption right (is_member (request_in t) ≡ false)
    (λ q. (is_member (request_in t) ≡ true) × IsRightFor cells ts t q)

-- the right of record i, which was settled as the record ended
pub record IsRightSettled (cells : TableId) (rs : List Request) (i : ℕ) (end : RecordEnd)
    (right : CellSeat) : Type 0 where
  pub right_of : IsRightOf cells (request_at rs i).group right
  pub used : IsUsed right
  pub member : member_at rs i ≡ Some (row right).member
  pub status : (row right).status ≡ end.outcome
  pub device_front : (row right).device_front ≡ end.device_front
  pub memory_front : (row right).memory_front ≡ end.memory_front

-- a member has its right, settled as the record ended; a lone record has none
abbrev pub AreSettled : TableId → List Request → ℕ → RecordEnd → Option CellSeat → Type 0
AreSettled cells rs i end right =
    MatchOption right (is_member (request_at rs i) ≡ false)
    (λ q. (is_member (request_at rs i) ≡ true) × IsRightSettled cells rs i end q)
