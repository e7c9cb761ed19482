-- What a visit of a hand at a session leaves.
use Rattle.std.specs.Prelude.{◌≡◌, ℕ, ◌+◌, All, List}
use Rattle.host_device.specs.declared.fixed.DeviceFixed.{DeviceFixed}
use Rattle.host_frames.specs.declared.seat.PoolSeat.{PoolSeat}
use Rattle.host_frames.specs.Seats.{given_back}
use Rattle.host_intake.specs.Ledgers.{is_shut}
use Rattle.host_intake.specs.Told.{phase_in}
use Rattle.host_model.specs.declared.step.Step.{Step}
use Rattle.host_turn.specs.declared.seat.BookSeat.{BookSeat}
use Rattle.host_turn.specs.Seats.{IsOutside, IsSameSeat, seen_by}
use Rattle.host_session.specs.declared.hand.SessionHand.{SessionHand}
use Rattle.host_session.specs.declared.spec.SessionSpec.{SessionSpec}
use Rattle.host_hand.specs.declared.visit.Visit.{Visit}
use Rattle.host_hand.specs.Frames.{frames_out}
use Rattle.host_log.specs.Growth.{HasAdded}
use Rattle.host_hand.specs.Kept.{KeepsSession}
use Rattle.host_hand.specs.Posts.{IsSameHand, KeepsClaims}
use Rattle.host_hand.specs.Visits.{HasSeenMore, IsVisitTold, begun_by, done_at, is_closed_visit}

-- These steps were made, all of them for this session.
pub record HasStepped {S D : Type 0} (session n : ℕ) (old new : BookSeat S Step (DeviceFixed D))
    : Type 0 where
  pub seat : IsSameSeat old new × IsOutside new
  pub steps : List Step
  pub added : HasAdded (λ step. step.hand) n steps (seen_by old) (seen_by new)
  pub named : All (λ step. step.session ≡ session) steps

-- Hand n visited the session, with its seats at the device and at the pool, was told how many
-- records had been sent, and gave this answer.
pub record HasServed {S D : Type 0} (spec : SessionSpec) (n : ℕ) (old new : SessionHand)
    (old_seat new_seat : BookSeat S Step (DeviceFixed D)) (old_pool new_pool : PoolSeat)
    (told_count : ℕ) (answer : Visit) : Type 0 where
  pub hand : IsSameHand old new
  pub more : HasSeenMore old new
  pub stepped : HasStepped spec.number n old_seat new_seat
  -- it keeps the session
  pub keeps : KeepsSession spec n new (seen_by new_seat)
  -- it gave back as many pages as it took out of buffers
  pub claims : KeepsClaims old_pool new_pool
  pub frames : given_back new_pool + frames_out n old ≡ given_back old_pool + frames_out n new
  -- it began one thing where it says so, and nothing else
  pub begun : begun_by n (seen_by new.intake) ≡ begun_by n (seen_by old.intake) + done_at answer
  pub closed : is_closed_visit answer ≡ is_shut (phase_in (seen_by new.intake))
  pub told : IsVisitTold told_count answer (seen_by new.intake)
