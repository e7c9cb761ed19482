-- Where a hand stands: its seats are those of the session, of the device and of the pool.
use Rattle.std.specs.Prelude.{◌≡◌, ℕ, ◌+◌, ◌^◌, ◌<◌, ◌≤◌}
use Rattle.std.specs.Option.{ForSome}
use Rattle.atomic_table.specs.Seated.{TableId}
use Rattle.host_block.specs.declared.range.Range.{Range}
use Rattle.host_device.specs.declared.fixed.DeviceFixed.{DeviceFixed}
use Rattle.host_frames.specs.declared.seat.PoolSeat.{PoolSeat}
use Rattle.host_frames.specs.Seats.{claims, granted, seat_pool}
use Rattle.host_turn.specs.declared.seat.BookSeat.{BookSeat}
use Rattle.host_turn.specs.Seats.{IsOutside, IsSameSeat, fixed_part, number, seat_book}
use Rattle.host_session.specs.declared.hand.SessionHand.{SessionHand}
use Rattle.host_session.specs.declared.shared.SessionShared.{SessionShared}
use Rattle.host_session.specs.declared.spec.SessionSpec.{SessionSpec}
use Rattle.host_session.specs.Plan.{IsHand, IsShared, SessionPlan}

-- the partition lies in the device, whose blocks are as long as the session's
pub record IsOnDevice {D : Type 0} (part : Range) (size : ℕ) (fixed : DeviceFixed D) : Type 0 where
  pub size_is : fixed.size ≡ size
  pub within : part.first + part.count ≤ fixed.blocks

-- A seat at the device that has neither a ticket nor the turn, with this number. The partition's
-- blocks have numbers of 64 bits, and lie in the device.
pub record IsAtDevice {S E D : Type 0} (book : TableId) (n : ℕ) (part : Range) (size : ℕ)
    (seat : BookSeat S E (DeviceFixed D)) : Type 0 where
  pub book_is : seat_book seat ≡ book
  pub outside : IsOutside seat
  pub number_is : number seat ≡ n
  pub fits : part.first + part.count < 2 ^ 64
  pub on_device : ForSome (fixed_part seat) (λ fixed. IsOnDevice part size fixed)

-- The hand is of this session, which was opened with this spec and has its pages of this pool.
pub record IsPosted (spec : SessionSpec) (n : ℕ) (pool : TableId × ℕ) (shared : SessionShared)
    (hand : SessionHand) : Type 0 where
  pub plan : SessionPlan
  pub spec_is : plan.spec ≡ spec
  pub pool_is : plan.pool ≡ pool
  pub of_session : IsShared plan shared
  pub hand_is : IsHand plan n hand

-- The same hand, at another time, with neither a ticket nor a turn.
pub record IsSameHand (old new : SessionHand) : Type 0 where
  pub intake : IsSameSeat old.intake new.intake × IsOutside new.intake
  pub memory : IsSameSeat old.memory new.memory × IsOutside new.memory
  pub sender : (new.sender.ring ≡ old.sender.ring) × (new.sender.number ≡ old.sender.number)

-- the same seat of the pool, with the claims that it had
pub record KeepsClaims (old new : PoolSeat) : Type 0 where
  pub pool_is : seat_pool new ≡ seat_pool old
  pub claims_are : claims new ≡ claims old
  pub granted_is : granted new ≡ granted old
