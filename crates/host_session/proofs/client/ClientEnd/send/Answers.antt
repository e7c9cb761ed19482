use Rattle.std.proofs.Common.{◌≤◌, ◌<◌, length, sym, subst, ◌∙◌, arith}
use Rattle.host_model.specs.{sent}
use Rattle.host_session.specs.{ClientState, room_left, client_state}
use Rattle.host_session.proofs.Logged.{log_fits, none_there, owed_fits, sent_kept}
use Rattle.host_session.proofs.client.ClientEnd.send.Goals as goal

pub owed_after-self-inside-requires : goal.owed_after-self-inside-requires
owed_after-self-inside-requires g c =
    let a = c.self.inside in
    let few : length (sent a.log.items) < a.spec.records = subst (λ (x : ClientState). length (sent x.log) < x.plan.spec.records) (sym c.self.view_is) c.requires.records in
    omega (arith, owed_fits a c.self.invariant few)

pub push-requires-2 : goal.push-requires-2
push-requires-2 g c =
    let a = c.self.inside in
    let room : 1 ≤ room_left (client_state a) = subst (λ (x : ClientState). 1 ≤ room_left x) (sym c.self.view_is) c.requires.room in
    log_fits a c.self.invariant room

pub invariant_of-self-2 : goal.invariant_of-self-2
invariant_of-self-2 g c =
    let a = c.self.inside in
    sent_kept a c.self.invariant c.args.bytes c.push-2.new.self c.push.new.self c.owed_after-self-inside.result
    (none_there a.finish (sym c.is_some.ensures ∙ c.if-is_some.false))
    (subst (λ (x : ClientState). length (sent x.log) < x.plan.spec.records) (sym c.self.view_is) c.requires.records)
    (subst (λ (x : ClientState). 1 ≤ room_left x) (sym c.self.view_is) c.requires.room)
    c.push-2.ensures
    c.in-Ok.ensures
    c.owed_after-self-inside.ensures
