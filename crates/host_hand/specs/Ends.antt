-- How a record's end is told: it is settled, its answer is handed on or kept, and it lands.
use Rattle.std.specs.Prelude.{◌≡◌, ℕ, Bool, true, false, if◌then◌else◌, List, [], ◌∷◌, ◌++◌}
use Rattle.std.specs.Prelude.{option_to_list, Option, Some, None, MatchOption, slice_get}
use Rattle.std.specs.List.{list_any}
use Rattle.atomic_table.specs.Seated.{TableId}
use Rattle.host_frames.specs.Seats.{SeenPages}
use Rattle.host_group.specs.declared.seat.CellSeat.{CellSeat}
use Rattle.host_group.specs.Seats.{IsRightOf, IsSeatUnused, IsUsed, row}
use Rattle.host_intake.specs.declared.entry.IntakeEntry.{IntakeEntry}
use Rattle.host_intake.specs.declared.entry.IntakeEntry.TheVariants.{Landed}
use Rattle.host_intake.specs.declared.entry.RecordEnd.{RecordEnd}
use Rattle.host_intake.specs.Answers.{answer_owed}
use Rattle.host_intake.specs.Entries.{Taking, is_landing_of, maker_of, place_of, request_in}
use Rattle.host_intake.specs.Entries.{requests_of, takings}
use Rattle.host_intake.specs.Rights.{AreSettled}
use Rattle.host_model.specs.Groups.{is_member}
use Rattle.host_record.specs.declared.request.Request.{Request}
use Rattle.host_record.specs.declared.status.Status.TheVariants as status
use Rattle.host_rings.specs.declared.slip.Slip.{Slip}
use Rattle.host_rings.specs.AnswerEnds.{SlipSenderState, slip_sender_of}
use Rattle.host_log.specs.Growth.{HasAdded}
use Rattle.host_hand.specs.Kept.{own_landings}

-- the right to settle the member of that index, not yet used
pub record IsRightTo (cells : TableId) (r : Request) (index : ℕ) (right : CellSeat) : Type 0 where
  pub right_of : IsRightOf cells r.group right
  pub unused : IsSeatUnused right
  pub index_is : (row right).member.index ≡ index

-- it is there exactly for a member
abbrev pub HasRightTo : TableId → Request → ℕ → Option CellSeat → Type 0
HasRightTo cells r index right =
    MatchOption right (is_member r ≡ false) (λ q. (is_member r ≡ true) × IsRightTo cells r index q)

-- the right was used with this end, and is still that of the same member
pub record IsUsedWith (cells : TableId) (r : Request) (end : RecordEnd) (old new : CellSeat)
    : Type 0 where
  pub right_of : IsRightOf cells r.group new
  pub used : IsUsed new
  pub member : (row new).member ≡ (row old).member
  pub status : (row new).status ≡ end.outcome
  pub device_front : (row new).device_front ≡ end.device_front
  pub memory_front : (row new).memory_front ≡ end.memory_front

abbrev pub WasUsed : TableId → Request → RecordEnd → Option CellSeat → Option CellSeat → Type 0
WasUsed cells r end None new = new ≡ None
WasUsed cells r end (Some old) new = MatchOption new ⊥ (λ q. IsUsedWith cells r end old q)

-- these slips were pushed
abbrev pub sender_with_slips : SlipSenderState → List Slip → SlipSenderState
sender_with_slips s more = slip_sender_of s.ring s.depth s.number (s.pushed ++ more)

-- the slip that was pushed: the answer, unless there is none or it is kept
abbrev pub slips_pushed : Bool → Option Slip → List Slip
slips_pushed kept answer = if kept then [] else option_to_list answer

-- The close of that index, which waited, has landed by this hand, with a front of the buffers
-- alone. Its answer was pushed or is kept.
pub record HasLandedClose (n index front : ℕ) (old new : List IntakeEntry)
    (old_sender new_sender : SlipSenderState) : Type 0 where
  pub answer : Option Slip
  pub kept : Bool
  pub added : HasAdded maker_of n (Landed n index
      (record { outcome = status.Ok; device_front = 0; memory_front = front }) answer kept ∷ [])
      old new
  pub waits : MatchOption (slice_get (takings new) index) ⊥ (λ t. t.waits ≡ true)
  pub sender : new_sender ≡ sender_with_slips old_sender (slips_pushed kept answer)

-- Record i was taken so by hand n, doesn't wait, and the hand hasn't told its end.
pub record IsInFlightBy (n i : ℕ) (es : List IntakeEntry) (t : Taking) : Type 0 where
  pub stands : slice_get (takings es) i ≡ Some t
  pub by : t.hand ≡ n
  pub waits : t.waits ≡ false
  pub unended : list_any (is_landing_of i) (own_landings n es) ≡ false

-- The record has ended so: its right was used with that, and the answer is the one that this made
-- due.
pub record IsRecordEndOf (cells : TableId) (es : List IntakeEntry) (t : Taking) (end : RecordEnd)
    (answer : Option Slip) (right : Option CellSeat) : Type 0 where
  pub settled : AreSettled cells (requests_of (takings es)) (place_of t) end right
  pub answer_is : answer ≡ answer_owed (request_in t) (place_of t) end right

-- The same within a turn: the landing is the last entry.
pub record HasLandedCloseInTurn (n index front : ℕ) (old new : List IntakeEntry)
    (old_sender new_sender : SlipSenderState) : Type 0 where
  pub answer : Option Slip
  pub kept : Bool
  pub entries : new
      ≡ old
      ++ Landed n index (record { outcome = status.Ok; device_front = 0; memory_front = front })
      answer kept ∷ []
  pub waits : MatchOption (slice_get (takings old) index) ⊥ (λ t. t.waits ≡ true)
  pub sender : new_sender ≡ sender_with_slips old_sender (slips_pushed kept answer)

-- the close whose pages came out, if some did, has landed
abbrev pub LandsFreed : ℕ → ℕ → Option (ℕ × SeenPages) → List IntakeEntry → List IntakeEntry
    → SlipSenderState → SlipSenderState → Type 0
LandsFreed n front None old new old_sender new_sender = (new ≡ old) × (new_sender ≡ old_sender)
LandsFreed n front (Some freed) old new old_sender new_sender =
    HasLandedClose n freed.0 front old new old_sender new_sender
