use Rattle.buffer_check.specs.{HasEntriesBy}
use Rattle.record_check.proofs.Deciding.{each_more}
use Rattle.buffer_check.proofs.entries.all_have_entries.Goals as goal

pub loop-i-preserved : goal.loop-i-preserved
loop-i-preserved c =
    each_more (λ k. HasEntriesBy c.args.rs.now c.args.rows.now c.args.steps.now c.args.history.now k) c.loop-i.i c.loop-i.all _ c.loop-i.invariant c.in_ok-here.ensures
