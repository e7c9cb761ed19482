use Rattle.std.proofs.Common.{ℕ, ◌↔◌, ◌<◌, IsTrue, length, subst, ◌∙◌}
use Rattle.buffer_check.specs.{HasEntriesBy}
use Rattle.buffer_check.proofs.session.have_entries.Goals as goal

pub returns : goal.returns
returns c =
    subst (λ rs. IsTrue c.in_ok-each.each ↔ ((i : ℕ) → i < length c.args.rows.now → HasEntriesBy rs c.args.rows.now c.args.steps.now c.args.history.now i)) (c.deref.ensures.value ∙ c.in-Ok.ensures) c.in_ok-each.ensures
