-- A client has played its lines, or hasn't.
use Rattle.std.proofs.Common.{◌≡◌, ◌≤◌, true, false, refl, arith}
use Rattle.host_record.specs.{opcode}
use Rattle.run_rows.specs.{PlaysLines}

never : false ≡ true → ⊥
never e = cc e

pub plays_lines : PlaysLines
unfolding opcode
plays_lines = record {
  waited = record { calls = refl; waits = refl; few = omega arith };
  all = record { calls = refl; waits = refl; few = omega arith };
  no_answer = λ h. never h.waits;
  no_fill = λ h. never h.calls;
  another_fill = λ h. never h.calls;
  one_more = λ h. never h.calls;
  two_answers = λ h. let few : 2 ≤ 1 = h.few in absurd (omega (arith, few));
  drained = record { calls = refl; waits = refl };
  not_aborted = λ h. never h.calls;
  not_ended = λ h. never h.calls;
}
