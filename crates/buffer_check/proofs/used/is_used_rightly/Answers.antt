use Rattle.std.proofs.Common.{◌≡◌, IfOk, subst, sym}
use Rattle.buffer_check.specs.{is_used_by}
use Rattle.buffer_check.proofs.used.is_used_rightly.Goals as goal

pub returns-in-Filled : goal.returns-in-Filled
returns-in-Filled c =
    subst (λ e. IfOk c.is_answer_here.result (λ b. b ≡ is_used_by c.args.rs.now c.args.verdicts.now c.args.n c.args.history.now c.args.before.now e)) (sym c.in-Filled.is) c.is_answer_here.ensures

pub returns-in-Shown : goal.returns-in-Shown
returns-in-Shown c =
    subst (λ e. IfOk c.is_answer_here-in-Shown.result (λ b. b ≡ is_used_by c.args.rs.now c.args.verdicts.now c.args.n c.args.history.now c.args.before.now e)) (sym c.in-Shown.is) c.is_answer_here-in-Shown.ensures
