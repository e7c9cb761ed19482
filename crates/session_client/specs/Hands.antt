-- A hand at a session.
use Rattle.std.specs.Prelude.{◌≡◌, ℕ, MatchOption}
use Rattle.atomic_table.specs.Seated.{TableId}
use Rattle.host_group.specs.Seats.{cells_id}
use Rattle.host_turn.specs.Seats.{IsOutside, IsSameSeat, IsSeatOutside, book_id, fixed_part, number}
use Rattle.host_session.specs.declared.hand.SessionHand.{SessionHand}
use Rattle.host_session.specs.declared.shared.SessionShared.{SessionShared}

-- hand n at the session with this shared part, whose pages are of this pool; it may enter both
-- books
pub record IsHandAt (shared : SessionShared) (pool : TableId × ℕ) (n : ℕ) (hand : SessionHand)
    : Type 0 where
  pub intake : IsSeatOutside shared.intake hand.intake
  pub memory : IsSeatOutside shared.memory hand.memory
  pub number_is : number hand.intake ≡ n
  pub plan : MatchOption (fixed_part hand.intake) ⊥
      (λ plan. (plan.memory ≡ book_id shared.memory) × (plan.cells ≡ cells_id shared.cells))
  pub pages : MatchOption (fixed_part hand.memory) ⊥ (λ plan. plan.pool ≡ pool)

-- the same hand at another time, outside both books
pub record IsSameHand (old new : SessionHand) : Type 0 where
  pub intake : IsSameSeat old.intake new.intake × IsOutside new.intake
  pub memory : IsSameSeat old.memory new.memory × IsOutside new.memory
  pub sender : (new.sender.ring ≡ old.sender.ring) × (new.sender.number ≡ old.sender.number)
