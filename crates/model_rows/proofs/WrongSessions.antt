-- Sessions that differ in one thing from lawful ones.
use Rattle.std.proofs.Common.{◌≡◌, true, false, length, refl, lit≤, lit<, take, ap, arith}
use Rattle.host_model.specs.{received, judged}
use Rattle.host_record.specs.{opcode}
use Rattle.model_rows.specs.{WrongSessionsAreRefused}

never : false ≡ true → ⊥
unfolding opcode judged
never e = cc e

pub wrong_sessions_are_refused : WrongSessionsAreRefused
unfolding opcode judged
wrong_sessions_are_refused = record {
  answer_twice = λ h. never (h.answered.at_most 8 (lit≤ tt));
  answer_missing = λ h. never (h.answered.exactly refl);
  wrong_count = λ h. never (h.answered.at_most 7 (lit≤ tt));
  wrong_reqid = λ h. never (h.answered.at_most 7 (lit≤ tt));
  answer_before_its_request = λ h. never (h.answered.at_most 6 (lit≤ tt));
  last_failure = λ h. never (h.answered.at_most 5 (lit≤ tt));
  answer_after_abort = λ h. let q : 1 ≡ 2 = ap (λ l. length (received (take 6 l))) h.taken.ends in
      absurd (omega (arith, q));
  not_taken = λ h. let q : 2 ≡ 3 = h.taken.all_taken refl in absurd (omega (arith, q));
  accepted_after_close = λ h. absurd (cc h.taken.verdicts);
  step_outside = λ h. never (h.carried.each 0 (lit< tt)).steps;
  step_of_refused = λ h. never (h.carried.each 0 (lit< tt)).steps;
  step_after_fault = λ h. never (h.carried.each 5 (lit< tt)).steps;
  hidden_fault = λ h. absurd (cc (h.carried.each 1 (lit< tt)).outcome);
  write_without_lift = λ h. let q : 2 ≡ 3 = ap length (h.buffers.records.each 0 (lit< tt)) in
      absurd (omega (arith, q));
  spare_lift = λ h. let q : 4 ≡ 3 = ap length (h.buffers.records.each 0 (lit< tt)) in
      absurd (omega (arith, q));
  release_before_done = λ h. never h.buffers.releases.last;
  never_released = λ h. never h.buffers.releases.once;
  fill_after_release = λ h. never h.buffers.releases.last;
  id_twice = λ h. absurd (cc h.buffers.client.ids);
  refused_fill = λ h. never h.buffers.used;
  answer_before_the_step = λ h. never (h.ordered.records 0 4 (lit< tt) (lit< tt));
  show_before_the_landings = λ h. never (h.ordered.events 5 11 (lit< tt) (lit< tt));
  fill_after_the_lift = λ h. never (h.ordered.client 0 (lit< tt));
  overtaken = λ h. never (h.ordered.records 0 2 (lit< tt) (lit< tt));
  release_before_the_answered = λ h. never (h.ordered.records 0 1 (lit< tt) (lit< tt));
  release_before_the_attach = λ h. never (h.ordered.client 1 (lit< tt));
}
