-- The history of an intake on worked values.
use Rattle.std.proofs.Common.{◌≡◌, ℕ, List, length, refl, ap, lit≤, arith}
use Rattle.host_memory.specs.{pins_left, events}
use Rattle.host_model.specs.{judged, MemEntry}
use Rattle.host_record.specs.{opcode}
use Rattle.model_rows.specs.{IntakesAreAsWritten}

pub intakes_are_as_written : IntakesAreAsWritten
unfolding opcode judged
intakes_are_as_written = record {
  read_is_judged = record {
    front = lit≤ tt;
    seen = lit≤ tt;
    verdict = refl;
    waits = refl;
    left = refl;
  };
  stray_is_judged = record {
    front = lit≤ tt;
    seen = lit≤ tt;
    verdict = refl;
    waits = refl;
    left = refl;
  };
  close_is_judged = record {
    front = lit≤ tt;
    seen = lit≤ tt;
    verdict = refl;
    waits = refl;
    left = refl;
  };
  before_its_front = λ h. absurd (let f = h.front in omega arith);
  of_no_buffer = λ h. absurd (cc h.verdict);
  too_hasty = λ h. absurd (cc h.waits);
  pinned_elsewhere = λ h. absurd (let n : ◌≡◌ {A = ℕ} 0 1 =
      ap (λ (xs : List MemEntry). length (pins_left (events xs))) h.left in omega arith);
  answer_bytes = refl;
  taken_in_order = refl;
  in_flight = (refl, refl, refl, refl, refl);
  rows = refl;
  front = refl;
  kept = (refl, refl, refl);
  landers = (refl, refl, refl, refl);
  phases = (refl, refl, refl);
  courses = (refl, refl, refl, refl);
  members_are = (refl, refl, refl, refl);
}
