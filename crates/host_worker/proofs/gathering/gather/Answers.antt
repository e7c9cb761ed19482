use Rattle.std.proofs.Common.{Bool, ◌&&◌, sym, ap, ap₂, ◌∙◌}
use Rattle.host_worker.proofs.gathering.gather.Goals as goal

pub returns-clause-kept : goal.returns-clause-kept
returns-clause-kept g c =
    let sessions = ap (λ e. e.keeps) (sym c.ends.view_is) ∙ c.in-Some.ensures.kept in
    let steps = ap (λ l. l.kept) (sym c.into_parts-steps.ensures.steps) ∙ c.in-Some-into_list.ensures.kept in
    sym (ap₂ (λ (a b : Bool). a && b) sessions steps)
