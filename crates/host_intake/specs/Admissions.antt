-- What a call for the next record tells.
use Rattle.std.specs.Prelude.{◌≡◌, ℕ, ◌+◌, ◌<◌, true, false, not, ◌&&◌, List, [], ◌∷◌, ◌++◌, length}
use Rattle.std.specs.Prelude.{map, IsTrue, Option, Some, None, is_some, unwrap_or, MatchOption}
use Rattle.host_frames.specs.Seats.{SeenPages}
use Rattle.host_record.specs.declared.request.Request.{Request}
use Rattle.host_record.specs.declared.status.Status.{Status}
use Rattle.host_record.specs.Command.{opcode, is_close, is_last, is_transfer}
use Rattle.host_record.specs.Request.{request_of}
use Rattle.host_model.specs.declared.verdict.Verdict.{Verdict}
use Rattle.host_model.specs.declared.verdict.Verdict.TheVariants.{Accepted, Refused}
use Rattle.host_model.specs.Groups.{is_member, closings, instance_of}
use Rattle.host_model.specs.Verdict.{is_accepted}
use Rattle.host_group.specs.declared.seat.CellSeat.{CellSeat}
use Rattle.host_group.specs.declared.cells.Cells.{Cells}
use Rattle.host_group.specs.Seats.{IsRight, admitted, member, next, row, seat_cells}
use Rattle.host_group.specs.Views.{fresh_row}
use Rattle.host_group.specs.Views as cell
use Rattle.host_memory.specs.Held.{is_block_of, page_count_of}
use Rattle.host_memory.specs.PagesHeld.{ArePagesOf}
use Rattle.host_memory.specs.State.{events}
use Rattle.host_rings.specs.declared.envelope.Envelope.{Envelope}
use Rattle.host_rings.specs.RequestEnds.{FoundEmpty}
use Rattle.host_turn.specs.Seats.{number, seen_by, fixed_part}
use Rattle.host_intake.specs.declared.admission.Admission.{Admission}
use Rattle.host_intake.specs.declared.admission.Admission.TheVariants as answer
use Rattle.host_intake.specs.declared.entry.IntakeEntry.{IntakeEntry}
use Rattle.host_intake.specs.declared.entry.IntakeEntry.TheVariants.{Took}
use Rattle.host_intake.specs.Entries.{Taking, takings, envelope_of, request_in, requests_of}
use Rattle.host_intake.specs.State.{IntakeState, MemorySeat}
use Rattle.host_intake.specs.Takings.{IsJudged, judged_on}
use Rattle.host_intake.specs.Told.{phase_in, is_over, is_flying, flights_in, kept_slips}
use Rattle.host_intake.specs.Rights.{HasRight}

-- how much is in flight or kept
abbrev pub load_in : List IntakeEntry → ℕ
load_in es = flights_in es + length (kept_slips es)

-- records may still be taken
abbrev pub IsOpen : IntakeState → Type 0
IsOpen s = (is_over (phase_in s.entries) ≡ false) × (load_in s.entries < 64)

-- no record is held, each one popped was taken, and nothing was found in the ring
pub record FoundNoRecord (s : IntakeState) : Type 0 where
  pub held : s.held ≡ None
  pub popped : s.taker.taken ≡ map envelope_of (takings s.entries)
  pub empty : FoundEmpty s.taker

-- a member of a closed instance of the group is in flight
abbrev pub IsGroupInFlight : List IntakeEntry → ℕ → Type 0
IsGroupInFlight es g = let rs = requests_of (takings es) in
    (i j : ℕ) × (is_flying i es ≡ true) × (instance_of rs i ≡ Some (g, j)) × (j < closings g rs)

-- A member was added to the cells' list under its group's current instance, and its right came out.
-- A lone record left the seat as it was.
abbrev pub IsMemberAdmitted : Cells → CellSeat → CellSeat → Request → ℕ → Option CellSeat → Type 0
IsMemberAdmitted cells old new r i right =
    MatchOption right ((is_member r ≡ false) × (new ≡ old)) (λ q.
    let m = member r.group (cell.members_closing r.group (admitted old)) i r.reqid (is_last r) in
    (is_member r ≡ true) × IsRight cells r.group q × (row q ≡ fresh_row m)
    × (admitted new ≡ admitted old ++ m ∷ []) × (next new ≡ i + 1))

-- the record is a member of a group of whose number a closed instance hasn't ended; it is held
pub record IsStalled (old new : IntakeState) (e : Envelope) : Type 0 where
  pub held : new.held ≡ Some e
  pub first : unwrap_or old.held e ≡ e
  pub index : e.index ≡ length (takings old.entries)
  pub member : is_member (request_of e.bytes) ≡ true
  pub entries : new.entries ≡ old.entries
  pub waiting : new.waiting ≡ old.waiting
  pub in_flight : IsGroupInFlight old.entries (request_of e.bytes).group

abbrev pub taking_entry : Taking → IntakeEntry
taking_entry t = Took t.hand t.envelope t.verdict t.waits t.seen

-- The next record was taken so. The seat of the hand has seen the buffer history on which it was
-- judged, and what it did to its buffer.
pub record HasTaken (old new : IntakeState) (seat : MemorySeat) (e : Envelope) (t : Taking)
    : Type 0 where
  pub envelope : t.envelope ≡ e
  pub first : unwrap_or old.held e ≡ e
  pub index : e.index ≡ length (takings old.entries)
  pub entries : new.entries ≡ old.entries ++ taking_entry t ∷ []
  pub held : new.held ≡ None
  pub judged : IsJudged old.part (number old.memory_seat) (seen_by seat) t

-- the record's blocks lie within the buffer, as the seat has seen it attached
abbrev pub AreBlocksSeen : MemorySeat → Request → Type 0
AreBlocksSeen seat r =
    is_transfer (opcode r) ≡ true → (k : ℕ) → k < r.length
    → IsTrue (is_block_of r.vmoid (events (seen_by seat)) (r.vmo_offset + k))

-- the pages of a buffer that the record closed
abbrev pub ArePagesClosed : MemorySeat → Taking → SeenPages → Type 0
ArePagesClosed seat t p =
    MatchOption (fixed_part seat) ⊥ (λ plan.
    let v = (request_in t).vmoid in
    let h = judged_on (seen_by seat) t in
    ArePagesOf plan.pool plan.limits.size h v (page_count_of v h) p)

-- pages come out exactly where the record closed a buffer that nothing pins
abbrev pub GivesSeenPages : MemorySeat → Taking → Option SeenPages → Type 0
GivesSeenPages seat t pages =
    (is_some pages ≡ (is_accepted t.verdict && is_close (opcode (request_in t)) && not t.waits))
    × MatchOption pages (Unit {0}) (λ p. ArePagesClosed seat t p)

-- A close that waits keeps its right, and stands behind those that waited before.
abbrev pub IsRightOut : IntakeState → IntakeState → Taking → Option CellSeat → Type 0
IsRightOut old new t right =
    (t.waits ≡ false
    → (new.waiting ≡ old.waiting)
    × HasRight (seat_cells old.cell_seat) (takings new.entries) t right)
    × (t.waits ≡ true → (right ≡ None) × (length new.waiting ≡ length old.waiting + 1))

pub record IsRecordRefused (hand : ℕ) (old new : IntakeState) (seat : MemorySeat) (e : Envelope)
    (status : Status) (right : Option CellSeat) (t : Taking) : Type 0 where
  pub taken : HasTaken old new seat e t
  pub by : t.hand ≡ hand
  pub verdict : t.verdict ≡ Refused status
  pub right_out : IsRightOut old new t right

pub record IsAdmitted (hand : ℕ) (old new : IntakeState) (seat : MemorySeat) (e : Envelope)
    (pages : Option SeenPages) (right : Option CellSeat) (t : Taking) : Type 0 where
  pub taken : HasTaken old new seat e t
  pub by : t.hand ≡ hand
  pub verdict : t.verdict ≡ Accepted
  pub blocks : AreBlocksSeen seat (request_in t)
  pub pages_out : GivesSeenPages seat t pages
  pub right_out : IsRightOut old new t right

-- what each answer tells of the intake before and after the call, and of what the hand's seat has
-- seen after it
abbrev pub IsAdmission : ℕ → IntakeState → IntakeState → MemorySeat → Admission → Type 0
IsAdmission hand old new seat answer.Finished =
    (is_over (phase_in old.entries) ≡ true) × (new ≡ old)
IsAdmission hand old new seat answer.AtLimit =
    (is_over (phase_in old.entries) ≡ false) × (load_in old.entries ≡ 64) × (new ≡ old)
IsAdmission hand old new seat answer.NoRecord = IsOpen old × FoundNoRecord old × (new ≡ old)
IsAdmission hand old new seat answer.Stalled = IsOpen old × ((e : Envelope) × IsStalled old new e)
IsAdmission hand old new seat (answer.Refused e status right) =
    IsOpen old × ((t : Taking) × IsRecordRefused hand old new seat e status right t)
IsAdmission hand old new seat (answer.Admitted e pages right) =
    IsOpen old × ((t : Taking) × IsAdmitted hand old new seat e pages right t)

-- the same of a record that is held: it is taken, or it stays held
abbrev pub IsTakenOrStalled : ℕ → IntakeState → IntakeState → MemorySeat → Envelope → Admission
    → Type 0
IsTakenOrStalled hand old new seat held answer.Stalled = IsStalled old new held
IsTakenOrStalled hand old new seat held (answer.Refused e status right) =
    (e ≡ held) × ((t : Taking) × IsRecordRefused hand old new seat e status right t)
IsTakenOrStalled hand old new seat held (answer.Admitted e pages right) =
    (e ≡ held) × ((t : Taking) × IsAdmitted hand old new seat e pages right t)
IsTakenOrStalled hand old new seat held _ = ⊥

-- the answer about a record that was taken with this verdict, and doesn't wait
abbrev pub admission_of : Verdict → Envelope → Option SeenPages → Option CellSeat → Admission
admission_of Accepted e pages right = answer.Admitted e pages right
admission_of (Refused status) e pages right = answer.Refused e status right
