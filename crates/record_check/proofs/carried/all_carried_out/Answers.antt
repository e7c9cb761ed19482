use Rattle.std.proofs.Common.{◌↔◌, IsTrue, subst, ◌∙◌}
use Rattle.host_model.specs.{row_at, request_at}
use Rattle.record_check.specs.{IsRecordCarried, IsCarriedBy}
use Rattle.record_check.proofs.Deciding.{each_more}
use Rattle.record_check.proofs.carried.all_carried_out.Goals as goal

pub loop-i-preserved : goal.loop-i-preserved
loop-i-preserved c =
    each_more (λ k. IsCarriedBy c.args.part.now c.args.rs.now c.args.rows.now c.args.steps.now k) c.loop-i.i c.loop-i.all c.is_carried_out-here.result c.loop-i.invariant
    (subst (λ steps. IsTrue c.is_carried_out-here.result ↔ IsRecordCarried c.args.part.now (request_at c.args.rs.now c.loop-i.i) (row_at c.args.rows.now c.loop-i.i) steps) (c.deref.ensures.value ∙ c.in_ok-own.ensures)
    (subst (λ r. IsTrue c.is_carried_out-here.result ↔ IsRecordCarried c.args.part.now r (row_at c.args.rows.now c.loop-i.i) c.deref.result.now) c.request.ensures
    (subst (λ row. IsTrue c.is_carried_out-here.result ↔ IsRecordCarried c.args.part.now c.request.result row c.deref.result.now) c.row.ensures c.is_carried_out-here.ensures)))
