use Rattle.std.proofs.Common.{[], ◌∷◌, ◌++◌, ◌↔◌, ◌≡◌, true, false, not, IsTrue, ap, map, subst, sym}
use Rattle.host_model.specs.{Done, land_for}
use Rattle.buffer_check.proofs.EntryLemmas.{cons_on, filter_split}
use Rattle.buffer_check.proofs.own_entries.+read_goes_on.Goals as goal

pub returns-then-step : goal.returns-then-step
returns-then-step t c =
    subst (λ steps. IsTrue c.read_goes_on.result ↔ (c.args.own.now ≡ map (λ step. land_for c.args.i c.args.r.now step.k step.bytes) steps ++ Done c.args.i c.args.r.now.vmoid ∷ []))
    (sym (filter_split (λ step. not step.faulted) c.args.steps.now c.step-item.result false c.in-len1-up.len_at_least c.step-item.is (ap not c.if-step.true)))
    c.read_goes_on.ensures

pub returns-then-is_landing : goal.returns-then-is_landing
returns-then-is_landing t c =
    subst (λ steps. IsTrue c.read_goes_on-then-is_landing.result ↔ (c.args.own.now ≡ map (λ step. land_for c.args.i c.args.r.now step.k step.bytes) steps ++ Done c.args.i c.args.r.now.vmoid ∷ []))
    (sym (filter_split (λ step. not step.faulted) c.args.steps.now c.step-item.result true c.in-len1-up.len_at_least c.step-item.is (ap not c.if-step.false)))
    (cons_on c.args.own.now c.event-item.result (land_for c.args.i c.args.r.now (c.step-item.result).k (c.step-item.result).bytes) _ c.read_goes_on-then-is_landing.result
    c.in-len1-up-own.len_at_least c.event-item.is (c.is_landing.ensures.0 c.if-is_landing.true) c.read_goes_on-then-is_landing.ensures)
