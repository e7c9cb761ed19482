-- Endings and slips, by computing.
use Rattle.std.proofs.Common.{◌≡◌, refl, ap, arith}
use Rattle.host_rings.specs.{Slip}
use Rattle.host_record.specs.{opcode}
use Rattle.run_rows.specs.{EndingsAreAsWritten}

pub endings_are_as_written : EndingsAreAsWritten
unfolding opcode
endings_are_as_written = record {
  finish = (refl, refl);
  not_drained = (refl, refl);
  not_aborted = (refl, refl);
  owing = (refl, refl, refl);
  not_by_itself = λ e. absurd (let fronts : 6 ≡ 5 = ap (λ (s : Slip). s.device_front) e in omega (arith, fronts));
}
