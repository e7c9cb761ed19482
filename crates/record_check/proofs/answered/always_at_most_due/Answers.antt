use Rattle.std.proofs.Common.{arith}
use Rattle.host_model.specs.{is_answered_at_most}
use Rattle.record_check.proofs.AnsweredLemmas.{prefixes_end}
use Rattle.record_check.proofs.answered.always_at_most_due.Goals as goal

pub returns : goal.returns
returns c =
    prefixes_end (λ log. is_answered_at_most log c.args.rows.now) c.args.log.now c.loop-n.n c.loop-n.all c.in_ok-at_most_due.field-0
    (omega (arith, c.loop-n-test.false, c.loop-n.auto.n-end)) c.loop-n.invariant c.in_ok-at_most_due.ensures
