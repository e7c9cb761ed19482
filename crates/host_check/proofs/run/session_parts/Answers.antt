use Rattle.std.proofs.Common.{◌==◌, filter, map, ap, subst, ◌∙◌}
use Rattle.record_check.specs.{session_with}
use Rattle.host_check.specs.{TellsSession}
use Rattle.host_check.proofs.run.session_parts.Goals as goal

pub returns : goal.returns
returns c =
    subst (λ size. TellsSession (session_with size c.args.s.now.range c.args.s.now.log.items c.args.s.now.taken.items (map (λ e. e.what) c.args.s.now.memory.items) (filter (λ step. step.session == c.args.s.now.number) c.args.report.now.steps.items) c.args.s.now.finish) c.in_ok-parts.parts) c.bytes-size.ensures.value
    (subst (λ log. TellsSession (session_with c.bytes-size.result c.args.s.now.range log c.args.s.now.taken.items (map (λ e. e.what) c.args.s.now.memory.items) (filter (λ step. step.session == c.args.s.now.number) c.args.report.now.steps.items) c.args.s.now.finish) c.in_ok-parts.parts) c.as_slice-log.ensures
    (subst (λ rows. TellsSession (session_with c.bytes-size.result c.args.s.now.range c.as_slice-log.result.now rows (map (λ e. e.what) c.args.s.now.memory.items) (filter (λ step. step.session == c.args.s.now.number) c.args.report.now.steps.items) c.args.s.now.finish) c.in_ok-parts.parts) c.as_slice-rows.ensures
    (subst (λ history. TellsSession (session_with c.bytes-size.result c.args.s.now.range c.as_slice-log.result.now c.as_slice-rows.result.now history (filter (λ step. step.session == c.args.s.now.number) c.args.report.now.steps.items) c.args.s.now.finish) c.in_ok-parts.parts)
    (c.deref.ensures.value ∙ c.in_ok-history.ensures ∙ ap (map (λ e. e.what)) c.as_slice.ensures)
    (subst (λ steps. TellsSession (session_with c.bytes-size.result c.args.s.now.range c.as_slice-log.result.now c.as_slice-rows.result.now c.deref.result.now steps c.args.s.now.finish) c.in_ok-parts.parts)
    (c.deref-2.ensures.value ∙ c.in_ok-steps.ensures ∙ ap (filter (λ step. step.session == c.args.s.now.number)) c.as_slice-2.ensures)
    c.in_ok-parts.ensures))))
