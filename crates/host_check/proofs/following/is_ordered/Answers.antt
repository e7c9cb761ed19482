use Rattle.std.proofs.Common.{ap, ◌∙◌}
use Rattle.host_check.specs.{had_of, is_ordered_after, steps_at}
use Rattle.host_check.proofs.OrderLemmas.{length-had}
use Rattle.host_check.proofs.following.is_ordered.Goals as goal

pub is_ordered_after-requires : goal.is_ordered_after-requires
is_ordered_after-requires c = record { had = length-had c.args.log.now c.args.rows.now c.args.r _ (c.deref.ensures.value ∙ c.in-Ok.ensures) }

pub returns : goal.returns
returns c =
    c.in_ok-ordered.ensures
    ∙ ap (λ had. is_ordered_after c.args.rs.now c.args.verdicts.now c.args.log.now c.args.steps.now c.args.history.now had c.deref-2.result.now c.deref-3.result.now) (c.deref.ensures.value ∙ c.in-Ok.ensures)
    ∙ ap (λ these. is_ordered_after c.args.rs.now c.args.verdicts.now c.args.log.now c.args.steps.now c.args.history.now (had_of c.args.log.now c.args.rows.now c.args.r) these c.deref-3.result.now) (c.deref-2.ensures.value ∙ c.in_ok-steps_r.ensures)
    ∙ ap (λ these. is_ordered_after c.args.rs.now c.args.verdicts.now c.args.log.now c.args.steps.now c.args.history.now (had_of c.args.log.now c.args.rows.now c.args.r) (steps_at c.args.steps.now c.args.r) these) (c.deref-3.ensures.value ∙ c.in_ok-entries_r.ensures)
