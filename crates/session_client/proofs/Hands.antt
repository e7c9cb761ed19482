-- A hand of a session stands at it, from one call to the next.
use Rattle.std.proofs.Common.{◌≡◌, ℕ, Option, MatchOption, refl, sym, subst, ◌∙◌}
use Rattle.host_group.specs.{cells_id}
use Rattle.host_intake.specs.{IntakePlan}
use Rattle.host_memory.specs.{MemoryPlan}
use Rattle.host_turn.specs.{IsOutside, IsSameSeat, book_id, BookSeat}
use Rattle.atomic_table.specs.Seated.{TableId}
use Rattle.host_session.specs.{SessionHand, SessionShared, IsHand, IsSeatIn, IsShared, SessionPlan}
use Rattle.session_client.specs.{IsHandAt, IsSameHand}

pub hand_at : (p : SessionPlan) (shared : SessionShared) (pool : TableId × ℕ) (n : ℕ) (hand : SessionHand) → IsShared p shared → p.pool ≡ pool → IsHand p n hand → IsHandAt shared pool n hand
hand_at p shared pool n hand s o h = record {
  intake = (h.intake.book_is ∙ sym s.books.0, h.intake.outside);
  memory = (h.memory.book_is ∙ sym s.books.1, h.memory.outside);
  number_is = h.intake.number_is;
  plan = subst (λ (x : Option IntakePlan). MatchOption x ⊥ (λ plan. (plan.memory ≡ book_id shared.memory) × (plan.cells ≡ cells_id shared.cells))) (sym h.intake.plan_is) (sym s.books.1, sym s.cells);
  pages = subst (λ (x : Option MemoryPlan). MatchOption x ⊥ (λ plan. plan.pool ≡ pool)) (sym h.memory.plan_is) o;
}

-- it still does once it was there
pub still_at : (shared : SessionShared) (pool : TableId × ℕ) (n : ℕ) (old new : SessionHand) → IsHandAt shared pool n old → IsSameHand old new → IsHandAt shared pool n new
still_at shared pool n old new h s = record {
  intake = (s.intake.0.0 ∙ h.intake.0, s.intake.1);
  memory = (s.memory.0.0 ∙ h.memory.0, s.memory.1);
  number_is = s.intake.0.2 ∙ h.number_is;
  plan = subst (λ (x : Option IntakePlan). MatchOption x ⊥ (λ plan. (plan.memory ≡ book_id shared.memory) × (plan.cells ≡ cells_id shared.cells))) (sym s.intake.0.3) h.plan;
  pages = subst (λ (x : Option MemoryPlan). MatchOption x ⊥ (λ plan. plan.pool ≡ pool)) (sym s.memory.0.3) h.pages;
}

-- a hand that may enter is the same hand as itself
pub same_hand : (shared : SessionShared) (pool : TableId × ℕ) (n : ℕ) (hand : SessionHand) → IsHandAt shared pool n hand → IsSameHand hand hand
same_hand shared pool n hand h = record {
  intake = ((refl, refl, refl, refl), h.intake.1);
  memory = ((refl, refl, refl, refl), h.memory.1);
  sender = (refl, refl);
}

seat_again : {S E F : Type 0} (p q r : BookSeat S E F) → IsSameSeat p q → IsSameSeat q r → IsSameSeat p r
seat_again p q r s t = (t.0 ∙ s.0, t.1 ∙ s.1, t.2 ∙ s.2, t.3 ∙ s.3)

pub same_again : (a b c : SessionHand) → IsSameHand a b → IsSameHand b c → IsSameHand a c
same_again a b c s t = record {
  intake = (seat_again a.intake b.intake c.intake s.intake.0 t.intake.0, t.intake.1);
  memory = (seat_again a.memory b.memory c.memory s.memory.0 t.memory.0, t.memory.1);
  sender = (t.sender.0 ∙ s.sender.0, t.sender.1 ∙ s.sender.1);
}

seat_still : {S E F : Type 0} (book : TableId) (plan : F) (n : ℕ) (q r : BookSeat S E F) → IsSeatIn book plan n q → IsSameSeat q r → IsOutside r → IsSeatIn book plan n r
seat_still book plan n q r h s o = record { book_is = s.0 ∙ h.book_is; outside = o; number_is = s.2 ∙ h.number_is; plan_is = s.3 ∙ h.plan_is }

pub hand_still : (p : SessionPlan) (n : ℕ) (old new : SessionHand) → IsHand p n old → IsSameHand old new → IsHand p n new
hand_still p n old new h s = record {
  intake = seat_still _ _ n old.intake new.intake h.intake s.intake.0 s.intake.1;
  memory = seat_still _ _ n old.memory new.memory h.memory s.memory.0 s.memory.1;
  sender = (s.sender.0 ∙ h.sender.0, s.sender.1 ∙ h.sender.1);
}

-- of a fixed part that is the same it is a hand as well
pub hand_stays : (p q : SessionPlan) (n : ℕ) (hand : SessionHand) → q ≡ p → IsHand p n hand → IsHand q n hand
hand_stays p q n hand same h = subst (λ (x : SessionPlan). IsHand x n hand) (sym same) h
