use Rattle.std.proofs.Common.{◌≤◌, sym, subst, ◌∙◌}
use Rattle.host_session.specs.{ClientState, room_left}
use Rattle.host_session.proofs.Logged.{log_fits, received_kept, thrown_kept}
use Rattle.host_session.proofs.client.ClientEnd.recv.Goals as goal

pub invariant_of-self : goal.invariant_of-self
invariant_of-self g c = let e = c.in_err-slip.ensures in thrown_kept c.self.inside c.self.invariant e.before.thrown c.next_answer.new.taker e.before.taken

pub push-requires : goal.push-requires
push-requires g c = log_fits c.self.inside c.self.invariant (subst (λ (x : ClientState). 1 ≤ room_left x) (sym c.self.view_is) c.requires.room)

pub invariant_of-self-2 : goal.invariant_of-self-2
invariant_of-self-2 g c =
    let a = c.self.inside in
    let e = c.in_ok-slip.ensures in
    received_kept a c.self.invariant e.thrown c.in_ok-slip.slip c.push.new.self c.raised_by-self-inside.result c.next_answer.new.taker
    (sym c.is_aborted.ensures ∙ c.if-is_aborted.false)
    e.answer
    (subst (λ (x : ClientState). 1 ≤ room_left x) (sym c.self.view_is) c.requires.room)
    c.push.ensures
    c.raised_by-self-inside.ensures
    e.taken
