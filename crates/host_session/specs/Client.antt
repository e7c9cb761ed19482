-- What contracts see of a client end.
use Rattle.std.specs.Prelude.{◌≤◌, ℕ, ◌-◌, max, Bool, true, false, not, List, [], ◌∷◌, Option, Some}
use Rattle.std.specs.Prelude.{None}
use Rattle.host_intake.specs.declared.entry.IntakeEntry.{IntakeEntry}
use Rattle.host_intake.specs.declared.entry.Phase.{Phase}
use Rattle.host_intake.specs.declared.entry.Phase.TheVariants as phase
use Rattle.host_intake.specs.declared.plan.IntakePlan.{IntakePlan}
use Rattle.host_intake.specs.State.{IntakeState, MemorySeat}
use Rattle.host_model.specs.declared.event.Event.{Event}
use Rattle.host_model.specs.declared.event.Event.TheVariants.{Drained, Aborted}
use Rattle.host_model.specs.Lists.{count}
use Rattle.host_model.specs.Taking.{is_end}
use Rattle.host_record.specs.declared.finish.Finish.{Finish}
use Rattle.host_record.specs.declared.finish.Finish.TheVariants.{Drain, Abort}
use Rattle.host_rings.specs.declared.slip.Slip.{Slip}
use Rattle.host_rings.specs.AnswerEnds.{SlipTakerState}
use Rattle.host_rings.specs.RequestEnds.{SenderState}
use Rattle.host_turn.specs.declared.seat.BookSeat.{BookSeat}
use Rattle.host_session.specs.declared.fronts.Fronts.{Fronts}
use Rattle.host_session.specs.Plan.{SessionPlan}

-- a seat at the book of a session's intake
abbrev pub IntakeSeat : Type 0
IntakeSeat = BookSeat IntakeState IntakeEntry IntakePlan

pub record ClientState : Type 0 where
  pub plan : SessionPlan
  -- its calls
  pub log : List Event
  -- how it was told to end, and whether the session is closed
  pub finish : Option Finish
  pub closed : Bool
  -- How long it knows both histories to be: by the slips received, and the buffers' also by its own
  -- seat.
  pub fronts : Fronts
  -- its seats, and its ends of the rings
  pub intake_seat : IntakeSeat
  pub memory_seat : MemorySeat
  pub sender : SenderState
  pub taker : SlipTakerState

-- ---- fronts

abbrev pub no_fronts : Fronts
no_fronts = record { device = 0; memory = 0 }

abbrev pub slip_fronts : Slip → Fronts
slip_fronts s = record { device = s.device_front; memory = s.memory_front }

-- the greater of each
abbrev pub greater : Fronts → Fronts → Fronts
greater f g = record { device = max f.device g.device; memory = max f.memory g.memory }

-- the second are no smaller
pub record AreWithin (f g : Fronts) : Type 0 where
  pub device : f.device ≤ g.device
  pub memory : f.memory ≤ g.memory

-- ---- room and end

-- how many events still fit, beside the end event
abbrev pub room_left : ClientState → ℕ
room_left s = s.plan.spec.events - count (λ e. not (is_end e)) s.log

abbrev pub phase_for : Finish → Phase
phase_for Drain = phase.Draining
phase_for Abort = phase.Aborted

-- the phases to which the client turned the session
abbrev pub turns_made : Option Finish → Bool → List Phase
turns_made None closed = []
turns_made (Some how) false = phase_for how ∷ []
turns_made (Some how) true = phase_for how ∷ phase.Closed ∷ []

-- the end event that is logged: an abort at once, a drain as the session is closed
abbrev pub ends_logged : Option Finish → Bool → List Event
ends_logged None closed = []
ends_logged (Some Abort) closed = Aborted ∷ []
ends_logged (Some Drain) false = []
ends_logged (Some Drain) true = Drained ∷ []

abbrev pub is_drained : Option Finish → Bool
is_drained (Some Drain) = true
is_drained _ = false

abbrev pub is_aborted : Option Finish → Bool
is_aborted (Some Abort) = true
is_aborted _ = false
