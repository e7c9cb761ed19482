use Rattle.std.proofs.Common.{◌≡◌, ◌≤◌, None, ap, sym, subst, ◌∙◌}
use Rattle.host_session.specs.{IsShown, ClientState, room_left, client_state}
use Rattle.host_session.proofs.Entered.{room_for_one}
use Rattle.host_session.proofs.Logged.{log_fits}
use Rattle.host_session.proofs.Visited.{shown_answer, shown_kept}
use Rattle.host_session.proofs.client.ClientEnd.show.Goals as goal

pub show_in-done-requires-clause-room : goal.show_in-done-requires-clause-room
show_in-done-requires-clause-room g c =
    let a = c.self.inside in
    let e = c.enter_past-memory.ensures in
    room_for_one a c.self.invariant c.enter_past-memory.new.seat c.enter_past-memory.result e.seat.0 e.story e.later e.fixed_part e.past c.vouch.ensures.numbers (subst (λ (x : ClientState). 1 ≤ room_left x) (sym c.self.view_is) c.requires.room)

pub push-requires : goal.push-requires
push-requires g c = log_fits c.self.inside c.self.invariant (subst (λ (x : ClientState). 1 ≤ room_left x) (sym c.self.view_is) c.requires.room)

pub invariant_of-self : goal.invariant_of-self
invariant_of-self g c =
    let a = c.self.inside in
    let e = c.enter_past-memory.ensures in
    let f = c.show_in-done.ensures in
    let running : a.finish ≡ None = ap (λ (s : ClientState). s.finish) c.self.view_is ∙ c.requires.open in
    shown_kept a c.self.invariant c.enter_past-memory.new.seat c.enter_past-memory.result e.seat.0 e.story e.later e.fixed_part e.past c.vouch.ensures.numbers running (subst (λ (x : ClientState). 1 ≤ room_left x) (sym c.self.view_is) c.requires.room)
    c.args.id c.args.block c.args.count c.show_in-done.result.1 c.show_in-done.result.0 c.show_in-done.new.memory c.leave.new.seat c.push.new.self c.length-self-inside.result
    f.answer f.found f.done f.not_done c.length-self-inside.ensures c.leave.ensures.seat c.leave.ensures.story c.push.ensures

pub returns : goal.returns
returns g c =
    let a = c.self.inside in
    let e = c.enter_past-memory.ensures in
    let f = c.show_in-done.ensures in
    let running : a.finish ≡ None = ap (λ (s : ClientState). s.finish) c.self.view_is ∙ c.requires.open in
    subst (λ (s : ClientState). IsShown c.args.id c.args.block c.args.count s (client_state (record a { log = c.push.new.self; fronts = record { device = a.fronts.device; memory = c.length-self-inside.result }; memory_seat = c.leave.new.seat })) c.show_in-done.result.0) c.self.view_is
    (shown_answer a c.self.invariant c.enter_past-memory.new.seat c.enter_past-memory.result e.seat.0 e.story e.later e.fixed_part e.past c.vouch.ensures.numbers running (subst (λ (x : ClientState). 1 ≤ room_left x) (sym c.self.view_is) c.requires.room)
    c.args.id c.args.block c.args.count c.show_in-done.result.1 c.show_in-done.result.0 c.show_in-done.new.memory c.leave.new.seat c.push.new.self c.length-self-inside.result
    f.answer f.found f.none f.done f.not_done c.length-self-inside.ensures c.leave.ensures.seat c.leave.ensures.story c.push.ensures)
