use Rattle.std.proofs.Common.{ap, cond, not, ◌||◌, ◌∙◌}
use Rattle.host_model.specs.{is_in_buffer}
use Rattle.buffer_check.specs.{was_released_by}
use Rattle.buffer_check.proofs.used.is_answer_here.Goals as goal

pub returns : goal.returns
returns c =
    c.in_ok-right.ensures
    ∙ ap (λ inside. cond c.args.done inside (not inside || was_released_by c.closing_record-closing.result c.args.n c.args.history.now c.args.before.now c.args.v)) c.fits-inside.ensures
    ∙ ap (λ closing. cond c.args.done (is_in_buffer c.args.before.now c.args.v c.args.block c.args.count) (not (is_in_buffer c.args.before.now c.args.v c.args.block c.args.count) || was_released_by closing c.args.n c.args.history.now c.args.before.now c.args.v)) c.closing_record-closing.ensures
