-- How a record is settled.
use Rattle.std.specs.Prelude.{◌≡◌, ℕ, Option, None, MatchOption}
use Rattle.atomic_table.specs.Seated.{TableId}
use Rattle.host_group.specs.declared.seat.CellSeat.{CellSeat}
use Rattle.host_group.specs.Seats.{IsRightOf, IsSeatUnused, IsUsed, row}
use Rattle.host_intake.specs.declared.entry.RecordEnd.{RecordEnd}

-- an unused right for record i in group g, where there is one
abbrev pub MaySettle : TableId → ℕ → ℕ → Option CellSeat → Type 0
MaySettle cells g i right =
    MatchOption right (Unit {0})
    (λ q. IsRightOf cells g q × IsSeatUnused q × ((row q).member.index ≡ i))

-- the right was used, with this end
pub record HasSettled (cells : TableId) (g : ℕ) (end : RecordEnd) (old new : CellSeat)
    : Type 0 where
  pub right_of : IsRightOf cells g new
  pub used : IsUsed new
  pub member : (row new).member ≡ (row old).member
  pub status : (row new).status ≡ end.outcome
  pub device_front : (row new).device_front ≡ end.device_front
  pub memory_front : (row new).memory_front ≡ end.memory_front

-- where there is a right it was used
abbrev pub HaveSettled : TableId → ℕ → RecordEnd → Option CellSeat → Option CellSeat → Type 0
HaveSettled cells g end old new =
    MatchOption old (new ≡ None) (λ q. MatchOption new ⊥ (λ p. HasSettled cells g end q p))
