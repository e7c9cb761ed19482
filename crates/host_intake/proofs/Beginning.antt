-- What is true of a new intake.
use Rattle.std.proofs.Common.{◌≡◌, ℕ, zero, suc, ◌+◌, ◌≤◌, ◌<◌, ◌==◌, Bool, List, [], length, map, Some, None, refl, sym, ap, ◌∙◌, arith, eq-eqb}
use Rattle.std.specs.Prelude.{slice_get}
use Rattle.host_block.specs.declared.range.Range.{Range}
use Rattle.host_group.specs.{CellSeat, Row, IsAdmittingOf, seat_cells, admitted, back, next}
use Rattle.host_rings.specs.{TakerState}
use Rattle.host_log.specs.{entries_of}
use Rattle.host_turn.specs.{IsOutside, number, seen_by}
use Rattle.host_intake.specs.{IsIntake, backs, row_ending, IsForAdmissions, MemorySeat}
use Rattle.host_intake.proofs.Judging.{hand_of, passes_some}

none_at : {A : Type 0} (n : ℕ) (x : A) → slice_get [] n ≡ Some x → ⊥
none_at zero x e = cc
none_at (suc n) x e = cc

pub intake_new : (part : Range) (size room : ℕ) (keeps : Bool) (taker : TakerState) (seat : MemorySeat) (q : CellSeat) → room < 4294967296 → taker.taken ≡ [] → taker.records ≤ room
    → IsOutside seat → IsForAdmissions room seat → entries_of hand_of (number seat) (seen_by seat) ≡ []
    → IsAdmittingOf (seat_cells q) q → admitted q ≡ [] → back q ≡ [] → next q ≡ 0
    → IsIntake (record { part = part; size = size; room = room; keeps = keeps; entries = []; held = None; waiting = []; taker = taker; memory_seat = seat; cell_seat = q })
intake_new part size room keeps taker seat q fits taken few outside admits none resting no_members no_rows first = record {
  popped = record {
    taken = refl;
    left = λ a. taken;
    dropped = λ a. refl;
    next = tt;
    one = let n = ap length taken in omega arith;
    records = let n = ap length taken in omega arith;
    in_room = few;
    fits = fits;
  };
  resting = record { outside = outside; admissions = admits };
  taken = record {
    indexes = refl;
    judged = λ i t e. absurd (none_at i t e);
    left = none;
    order = λ n e at own. absurd (passes_some (λ e. hand_of e == number seat) (seen_by seat) n e at (eq-eqb e.hand (number seat) own) none);
    rising = λ i k t u at bt less. absurd (none_at i t at);
  };
  landed = record {
    by_taker = refl;
    once = refl;
    answers = λ i l e. absurd (none_at i l e);
  };
  cells = record {
    resting = resting;
    told = no_members;
    above = omega arith;
    came_back = ap (λ (l : List Row). map row_ending l) no_rows;
    of_members = λ n r e. absurd (none_at n r (ap (λ (l : List Row). slice_get l n) (sym no_rows) ∙ e));
    out = λ p. ap (λ (l : List Row). backs p l + 0) no_rows;
  };
  waiting = record {
    each = λ n w e. absurd (none_at n w e);
    apart = λ i. omega arith;
  };
  turned = record {
    by_client = refl;
    course = refl;
    over = λ c. refl;
  };
  limit = omega arith;
}
