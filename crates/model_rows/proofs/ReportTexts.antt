-- The run of the realistic session, and its text.
use Rattle.std.proofs.Common.{◌≡◌, length, refl, ap, arith}
use Rattle.std.specs.Fmt.{digits}
use Rattle.host_model.specs.{changes_of, judged}
use Rattle.host_record.specs.{opcode, response_fields}
use Rattle.model_rows.proofs.LawfulSessions.{realistic_is_lawful}
use Rattle.model_rows.proofs.Legal.{legal-from}
use Rattle.model_rows.specs.{ReportsAreAsWritten, report}
use Rattle.model_rows.specs.Reports.{image}

pub reports_are_as_written : ReportsAreAsWritten
unfolding digits response_fields opcode judged
reports_are_as_written = record {
  lawful = record {
    numbers = refl;
    sessions = (realistic_is_lawful, tt);
    closing = refl;
    legal = legal-from image (changes_of report.steps.items) refl;
    frames = refl;
    home = refl;
  };
  printed = refl;
  summed = refl;
  played = (record { part = refl; finish = refl; calls = refl; waits = refl }, tt);
  eight_lines = refl;
  step_lines = refl;
  row_lines = refl;
  entry_lines = refl;
  printed_with_steps = refl;
  not_with_steps = λ e. let q : 99 ≡ 123 = ap length e in absurd (omega (arith, q));
  undone_fill = refl;
  failed_answer = refl;
  counted_as_failed = refl;
}
