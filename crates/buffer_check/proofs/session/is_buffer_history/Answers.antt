use Rattle.std.proofs.Common.{◌∙◌}
use Rattle.record_check.specs.{session_with}
use Rattle.buffer_check.proofs.SessionLemmas.{all_used_is, buffers_is}
use Rattle.buffer_check.proofs.session.is_buffer_history.Goals as goal

pub returns : goal.returns
returns c =
    buffers_is (session_with c.args.size c.args.part.now c.args.log.now c.args.rows.now c.args.history.now c.args.steps.now c.args.finish) _ _ _ _ _ _ _ _ _ _
    c.in_ok-told.ensures c.in-Ok.ensures c.in_ok-shown.ensures c.in_ok-lifted.ensures c.in_ok-entries.ensures c.are_of_rows-taken.ensures
    c.in-Ok-are_released_once.ensures c.none_after_release-last.ensures c.all_pin_rightly-pinned.ensures (c.in_ok-used.ensures ∙ all_used_is (session_with c.args.size c.args.part.now c.args.log.now c.args.rows.now c.args.history.now c.args.steps.now c.args.finish))
