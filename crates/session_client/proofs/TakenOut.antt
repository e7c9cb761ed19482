-- Hands and seats that are taken out of a list.
use Rattle.std.proofs.Common.{◌≡◌, ℕ, List, [], ◌∷◌, ◌++◌, length, ap, subst, arith, length-append, append_assoc}
use Rattle.std.specs.Prelude.{All}
use Rattle.std.proofs.lemmas.List.Elements.{All-head, All-tail}
use Rattle.host_frames.specs.{PoolSeat, IsNewSeat, seat_pool}
use Rattle.host_rings.specs.{EachPlace}
use Rattle.atomic_table.specs.Seated.{TableId}
use Rattle.host_session.specs.{SessionHand, AreAllHands, IsHand, SessionPlan}

-- the hand that is taken out of a list of one is hand 0
pub only_hand : (p : SessionPlan) (all rest : List SessionHand) (x : SessionHand) → AreAllHands p all → p.hands ≡ 1 → all ≡ rest ++ x ∷ [] → IsHand p 0 x
only_hand p all [] x h one is = subst (λ (hs : List SessionHand). EachPlace (IsHand p) hs) is h.1 0 x (omega arith)
only_hand p all (y ∷ rest) x h one is = absurd (omega (arith, h.0, ap length is, length-append rest (x ∷ [])))

all_in : {X : Type 0} (P : X → Type 0) (xs ys : List X) (x : X) → All P (xs ++ x ∷ ys) → P x
all_in P [] ys x h = All-head P x ys h
all_in P (y ∷ xs) ys x h = all_in P xs ys x (All-tail P y (xs ++ x ∷ ys) h)

-- two seats that are taken out of a list of new ones are of the pool
pub two_seats : (pool : TableId × ℕ) (all mid rest : List PoolSeat) (h s : PoolSeat) → All (IsNewSeat pool) all → all ≡ mid ++ h ∷ [] → mid ≡ rest ++ s ∷ [] → (seat_pool h ≡ pool) × (seat_pool s ≡ pool)
two_seats pool all mid rest h s new is is' =
    let first : All (IsNewSeat pool) (mid ++ h ∷ []) = subst (λ (qs : List PoolSeat). All (IsNewSeat pool) qs) is new in
    let both : All (IsNewSeat pool) ((rest ++ s ∷ []) ++ h ∷ []) = subst (λ (qs : List PoolSeat). All (IsNewSeat pool) (qs ++ h ∷ [])) is' first in
    ((all_in (IsNewSeat pool) mid [] h first).0, (all_in (IsNewSeat pool) rest (h ∷ []) s (subst (λ (qs : List PoolSeat). All (IsNewSeat pool) qs) (append_assoc rest (s ∷ []) (h ∷ [])) both)).0)
