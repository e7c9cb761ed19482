use Rattle.std.proofs.Common.{ℕ, ◌↔◌, ◌<◌, IsTrue, length, subst, ◌∙◌}
use Rattle.record_check.specs.{IsCarriedBy, session_with}
use Rattle.record_check.proofs.SessionLemmas.{carried_is}
use Rattle.record_check.proofs.session.is_carried_out.Goals as goal

pub returns : goal.returns
returns c =
    carried_is (session_with c.args.size c.args.part.now c.args.log.now c.args.rows.now c.args.history.now c.args.steps.now c.args.finish) _ _
    (subst (λ rs. IsTrue c.in_ok-each.each ↔ ((i : ℕ) → i < length c.args.rows.now → IsCarriedBy c.args.part.now rs c.args.rows.now c.args.steps.now i)) (c.deref.ensures.value ∙ c.in-Ok.ensures) c.in_ok-each.ensures)
    c.are_of_taken-others.ensures
