use Rattle.std.proofs.Common.{[], ◌∷◌, ◌++◌, ◌↔◌, ◌≡◌, true, false, IsTrue, map, not, subst, sym, ◌∙◌, ap}
use Rattle.host_block.specs.{Write}
use Rattle.host_model.specs.{Done, same_op, lift_for, spare}
use Rattle.buffer_check.proofs.EntryLemmas.{cons_on, filter_split}
use Rattle.buffer_check.proofs.own_entries.+write_goes_on.Goals as goal

pub returns-then-not-writes : goal.returns-then-not-writes
returns-then-not-writes t c =
    subst (λ steps. IsTrue c.write_goes_on.result ↔ (c.args.own.now ≡ map (λ step. lift_for c.args.i c.args.r.now step.k step.bytes) steps ++ spare c.args.status c.args.n c.args.i c.args.r.now c.args.whole.now ++ Done c.args.i c.args.r.now.vmoid ∷ []))
    (sym (filter_split (λ step. same_op step.op Write) c.args.steps.now c.step-item.result false c.in-len1-up.len_at_least c.step-item.is (sym c.writes.ensures ∙ c.if-not-writes.true)))
    c.write_goes_on.ensures

pub returns-then-is_lift : goal.returns-then-is_lift
returns-then-is_lift t c =
    subst (λ steps. IsTrue c.write_goes_on-then-is_lift.result ↔ (c.args.own.now ≡ map (λ step. lift_for c.args.i c.args.r.now step.k step.bytes) steps ++ spare c.args.status c.args.n c.args.i c.args.r.now c.args.whole.now ++ Done c.args.i c.args.r.now.vmoid ∷ []))
    (sym (filter_split (λ step. same_op step.op Write) c.args.steps.now c.step-item.result true c.in-len1-up.len_at_least c.step-item.is (sym c.writes.ensures ∙ c.if-not-writes.false)))
    (cons_on c.args.own.now c.event-item.result (lift_for c.args.i c.args.r.now (c.step-item.result).k (c.step-item.result).bytes) _ c.write_goes_on-then-is_lift.result
    c.in-len1-up-own.len_at_least c.event-item.is (c.is_lift.ensures.0 c.if-is_lift.true) c.write_goes_on-then-is_lift.ensures)
