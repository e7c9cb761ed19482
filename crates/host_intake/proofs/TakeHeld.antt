-- An intake after a call on the record that it holds.
use Rattle.std.proofs.Common.{◌≡◌, ℕ, ◌+◌, ◌≤◌, true, ◌&&◌, List, [], ◌∷◌, ◌++◌, length, filter, map, reverse, Option, Some, None, MatchOption, refl, sym, ap, subst, ◌∙◌, arith}
use Rattle.std.specs.Prelude.{slice_get, unwrap_or}
use mathlib.Core.List.{IsPrefix}
use Rattle.atomic_table.specs.Seated.{TableId}
use Rattle.host_block.specs.declared.range.Range.{Range}
use Rattle.host_record.specs.{request_of}
use Rattle.host_model.specs.{is_member, below, count, MemEntry}
use Rattle.host_memory.specs.{MemoryPlan}
use Rattle.host_group.specs.{CellSeat, Row, IsAdmittingOf, seat_cells, admitted, back, next, view_of, IsBusy}
use Rattle.host_rings.specs.{Envelope}
use Rattle.host_turn.specs.{IsOutside, fixed_part, number, seen_by}
use Rattle.host_intake.specs.{HasTaken, IsOpen, IsStalled, taking_entry, Taking, takings, landings, requests_of, IsIntake, IsResting, backs, is_member_at, is_of_member, is_right_out, landing_ending, row_ending, IntakeState, MemorySeat, AreTaken, IsJudged, AreWaiting}
use Rattle.host_intake.proofs.HeldTaken.{index_next}
use Rattle.host_intake.proofs.Judging.{judged_longer}
use Rattle.host_log.proofs.Places.{get_last}
use Rattle.host_intake.proofs.Stalling.{flies}

-- the seat that rests, after it was used
pub rests_again : (room : ℕ) (seat m : MemorySeat) → IsOutside m → fixed_part m ≡ fixed_part seat → number m ≡ number seat → IsResting room seat → IsResting room m
rests_again room seat m outside fixed same k = record {
  outside = outside;
  admissions = subst (λ (o : Option MemoryPlan). MatchOption o ⊥ (λ plan. (number m ≡ plan.limits.hands + 1) × (room ≤ plan.limits.records))) (sym fixed)
      (subst (λ (n : ℕ). MatchOption (fixed_part seat) ⊥ (λ plan. (n ≡ plan.limits.hands + 1) × (room ≤ plan.limits.records))) (sym same) k.admissions);
}

-- the record was judged on what the hand's seat has seen
pub judged_told : (part : Range) (n : ℕ) (from to : List MemEntry) (ts : List Taking) (t : Taking) → AreTaken part n from (ts ++ t ∷ []) → IsPrefix from to → IsJudged part n to t
judged_told part n from to ts t k p = judged_longer part n from to t p (k.judged (length ts) t (get_last ts t))

module _ (s : IntakeState) (k : IsIntake s) where
  -- its number was busy
  pub intake_busy : (q : CellSeat) → IsAdmittingOf (seat_cells s.cell_seat) q → admitted q ≡ admitted s.cell_seat → next q ≡ next s.cell_seat → back q ≡ back s.cell_seat → IsIntake (record s { cell_seat = q })
  intake_busy q resting same above came = record {
    popped = k.popped;
    resting = k.resting;
    taken = k.taken;
    landed = k.landed;
    cells = record {
      resting = subst (λ (z : TableId). IsAdmittingOf z q) (sym resting.0) resting;
      told = same ∙ k.cells.told;
      above = let a = k.cells.above in omega arith;
      came_back = subst (λ (l : List Row). map row_ending l ≡ reverse (map landing_ending (filter (is_of_member (requests_of (takings s.entries))) (landings s.entries)))) (sym came) k.cells.came_back;
      of_members = λ n r e. k.cells.of_members n r (subst (λ (l : List Row). slice_get l n ≡ Some r) came e);
      out = λ p. subst (λ (l : List Row). backs p l + count (λ i. p i && is_right_out (requests_of (takings s.entries)) (landings s.entries) i) (below (length (takings s.entries))) ≡ count (λ i. p i && is_member_at (requests_of (takings s.entries)) i) (below (length (takings s.entries)))) (sym came) (k.cells.out p);
    };
    waiting = subst (λ (z : TableId). AreWaiting z (takings s.entries) (landings s.entries) s.waiting) (sym resting.0) k.waiting;
    turned = k.turned;
    limit = k.limit;
  }

  module _ (e : Envelope) (held : s.held ≡ Some e) (goes : IsOpen s) where
    first_held : unwrap_or s.held e ≡ e
    first_held = ap (λ (o : Option Envelope). unwrap_or o e) held

    pub stalled : (q : CellSeat) → is_member (request_of e.bytes) ≡ true → IsBusy (request_of e.bytes).group (view_of s.cell_seat) → IsStalled s (record s { cell_seat = q }) e
    stalled q mem busy = record {
      held = held;
      first = first_held;
      index = index_next s k e held goes;
      member = mem;
      entries = refl;
      waiting = refl;
      in_flight = flies (takings s.entries) (landings s.entries) s.cell_seat (request_of e.bytes).group k.cells busy;
    }

    pub has_taken : (new : IntakeState) (seat : MemorySeat) (t : Taking) → t.envelope ≡ e → new.entries ≡ s.entries ++ taking_entry t ∷ [] → new.held ≡ None → IsJudged s.part (number s.memory_seat) (seen_by seat) t → HasTaken s new seat e t
    has_taken new seat t of entries none judged = record {
      envelope = of;
      first = first_held;
      index = index_next s k e held goes;
      entries = entries;
      held = none;
      judged = judged;
    }
