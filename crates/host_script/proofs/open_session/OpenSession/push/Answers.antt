use Rattle.std.proofs.Common.{◌+◌, length, length-append, ap, sym, ◌∙◌, arith}
use Rattle.script_model.specs.{owed as owed_by}
use Rattle.host_script.proofs.Owed.{owed_with, owed_without, owed_at_most}
use Rattle.host_script.proofs.open_session.OpenSession.push.Goals as goal

pub prove-unreachable-requires : goal.prove-unreachable-requires
prove-unreachable-requires c =
    let few = owed_at_most c.self.inside.lines.items in
    let more = simp length-append at (ap length c.in_ok-append.ensures.ok) in
    omega (arith, few, more, c.self.invariant, c.len-count.ensures)

pub invariant_of-self-then-owes : goal.invariant_of-self-then-owes
invariant_of-self-then-owes c =
    ap (λ n. n + 1) c.self.invariant
    ∙ sym (owed_with c.self.inside.lines.items c.args.line (sym c.owes.ensures ∙ c.if-owes.true))
    ∙ ap owed_by (sym c.in_ok-append.ensures.ok)

pub invariant_of-self-else-owes : goal.invariant_of-self-else-owes
invariant_of-self-else-owes c =
    c.self.invariant
    ∙ sym (owed_without c.self.inside.lines.items c.args.line (sym c.owes.ensures ∙ c.if-owes.false))
    ∙ ap owed_by (sym c.in_ok-append.ensures.ok)
