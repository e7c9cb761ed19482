use Rattle.std.proofs.Common.{◌≡◌, ◌*◌, ◌≤◌, take}
use Rattle.host_report.specs.{answers_received, failed_answers, good_answers, records_sent}
use Rattle.host_report.proofs.text.counts.counts_of.Given as goal

abbrev pub invariant-loop-session : goal.invariant-loop-session
invariant-loop-session l = record {
  records : l.records ≡ records_sent (take l.session-index l.sessions);
  answers : l.answers ≡ answers_received (take l.session-index l.sessions);
  good : l.good ≡ good_answers (take l.session-index l.sessions);
  failed : l.failed ≡ failed_answers (take l.session-index l.sessions);
  few_records : l.records ≤ l.session-index * 0x10000000000000000;
  few_answers : l.answers ≤ l.session-index * 0x10000000000000000;
  few_good : l.good ≤ l.session-index * 0x10000000000000000;
  few_failed : l.failed ≤ l.session-index * 0x10000000000000000;
}
