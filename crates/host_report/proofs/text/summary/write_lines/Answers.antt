use Rattle.host_text.proofs.Putting.{adds_more, puts_after, puts_exit, stops_later, stops_longer}
use Rattle.host_report.proofs.text.summary.write_lines.Goals as goal

pub returns-in_err-write_load : goal.returns-in_err-write_load
returns-in_err-write_load g c =
    puts_exit _ _ c.from_residual.ensures.0
    (stops_longer _ (stops_longer _ (stops_longer _ (rw (c.counts_of-counts.ensures.records, c.as_slice-sessions.ensures) at c.in_err-write_load.ensures))))

pub returns-in_err-write_answers : goal.returns-in_err-write_answers
returns-in_err-write_answers g c =
    let n = c.counts_of-counts.ensures in
    let load = rw (n.records, c.as_slice-sessions.ensures) at c.in_ok-write_load.ensures in
    puts_exit _ _ c.from_residual-in_err-write_answers.ensures.0
    (stops_longer _ (stops_longer _ (stops_later load (rw (n.answers, n.good, n.failed, c.as_slice-sessions.ensures) at c.in_err-write_answers.ensures))))

pub returns-in_err-write_count : goal.returns-in_err-write_count
returns-in_err-write_count g c =
    let n = c.counts_of-counts.ensures in
    let load = rw (n.records, c.as_slice-sessions.ensures) at c.in_ok-write_load.ensures in
    let answers = rw (n.answers, n.good, n.failed, c.as_slice-sessions.ensures) at c.in_ok-write_answers.ensures in
    puts_exit _ _ c.from_residual-in_err-write_count.ensures.0
    (stops_longer _ (stops_later (adds_more load answers) (rw c.len.ensures at c.in_err-write_count.ensures)))

pub returns : goal.returns
returns g c =
    let n = c.counts_of-counts.ensures in
    let load = rw (n.records, c.as_slice-sessions.ensures) at c.in_ok-write_load.ensures in
    let answers = rw (n.answers, n.good, n.failed, c.as_slice-sessions.ensures) at c.in_ok-write_answers.ensures in
    puts_after _ _ _ _ (adds_more (adds_more load answers) (rw c.len.ensures at c.in_ok-write_count.ensures)) c.write_end.ensures
