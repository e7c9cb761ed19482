-- Runs that differ in one thing from the realistic one.
use Rattle.std.proofs.Common.{◌≡◌, ℕ, ◌≤◌, true, false, List, [], ◌∷◌, length, refl, lit<, ap, arith}
use Rattle.host_model.specs.{judged}
use Rattle.host_record.specs.{opcode}
use Rattle.host_report.proofs.Ranges.{ranges_lie_in_image}
use Rattle.model_rows.specs.Reports.{image}
use Rattle.model_rows.specs.{WrongReportsAreRefused}

never : false ≡ true → ⊥
unfolding opcode judged
never e = cc e

first_byte : List ℕ → ℕ
first_byte [] = 0
first_byte (b ∷ bytes) = b

pub wrong_reports_are_refused : WrongReportsAreRefused
unfolding first_byte opcode judged
wrong_reports_are_refused = record {
  stale_read = λ h. let q : 0 ≡ 0xa1 = ap first_byte (h.legal 5 _ refl refl) in
      absurd (omega (arith, q));
  two_closing_flushes = λ h. let q : 11 ≡ 10 = ap length h.closing in absurd (omega (arith, q));
  no_closing_flush = λ h. let q : 9 ≡ 10 = ap length h.closing in absurd (omega (arith, q));
  flush_after_a_cut = λ h. let q : 10 ≡ 9 = ap length h.closing in absurd (omega (arith, q));
  lost_page = λ h. let q : 4095 ≡ 4096 = h.home in absurd (omega (arith, q));
  frames_short_without_want = λ h. never h.frames;
  frames_short = refl;
  empty_blocks = λ h. let q : 0 ≡ 512 = h.size 0 [] (lit< tt) in absurd (omega (arith, q));
  past_the_image = λ h. let q : 129 ≤ 128 = (ranges_lie_in_image image _ h).0 in
      absurd (omega (arith, q));
  impatient = λ h. never h.waits;
  line_left_out = λ h. never h.calls;
  line_changed = λ h. never h.calls;
}
