use Rattle.std.proofs.Common.{◌↔◌, IsTrue, subst, ◌∙◌}
use Rattle.host_model.specs.{steps_of, request_at, row_at}
use Rattle.buffer_check.specs.{AreOwed}
use Rattle.buffer_check.proofs.entries.has_entries.Goals as goal

pub returns : goal.returns
returns c =
    subst (λ own. IsTrue c.is_whole.result ↔ AreOwed (request_at c.args.rs.now c.args.i) (row_at c.args.rows.now c.args.i) (steps_of c.args.i c.args.steps.now) c.args.i own) (c.deref.ensures.value ∙ c.in_ok-own.ensures)
    (subst (λ steps. IsTrue c.is_whole.result ↔ AreOwed (request_at c.args.rs.now c.args.i) (row_at c.args.rows.now c.args.i) steps c.args.i c.deref.result.now) (c.deref-2.ensures.value ∙ c.in_ok-steps.ensures)
    (subst (λ r. IsTrue c.is_whole.result ↔ AreOwed r (row_at c.args.rows.now c.args.i) c.deref-2.result.now c.args.i c.deref.result.now) c.request.ensures
    (subst (λ row. IsTrue c.is_whole.result ↔ AreOwed c.request.result row c.deref-2.result.now c.args.i c.deref.result.now) c.row.ensures c.is_whole.ensures)))
