use Rattle.std.proofs.Common.{◌≡◌, ℕ, ◌+◌, ◌≤◌, ◌<◌, [], ◌∷◌, ◌++◌, length, None, ap, sym, subst, ◌∙◌}
use Rattle.host_memory.specs.{MemoryPlan, given_count, client_of, history}
use Rattle.host_model.specs.{Attach, given}
use Rattle.host_session.specs.{HasAttachedBuffer, ClientState, room_left, client_state, id_limit}
use Rattle.host_session.proofs.Entered.{given_so_far, plan_is, room_for_three}
use Rattle.host_session.proofs.Logged.{log_fits}
use Rattle.host_session.proofs.Visited.{attached_answer, attached_kept}
use Rattle.host_session.proofs.client.ClientEnd.attach_pages.Goals as goal

pub attach-id-requires-clause-room : goal.attach-id-requires-clause-room
attach-id-requires-clause-room g c =
    let a = c.self.inside in
    let e = c.enter_past-memory.ensures in
    let few : length (given a.log.items) < id_limit a.spec = subst (λ (x : ClientState). length (given x.log) < id_limit x.plan.spec) (sym c.self.view_is) c.requires.ids in
    room_for_three a c.self.invariant c.enter_past-memory.new.seat c.enter_past-memory.result e.seat.0 e.story e.later e.fixed_part e.past c.vouch.ensures.numbers (subst (λ (x : ClientState). 1 ≤ room_left x) (sym c.self.view_is) c.requires.room) few

pub attach-id-requires-clause-ids : goal.attach-id-requires-clause-ids
attach-id-requires-clause-ids g c =
    let a = c.self.inside in
    let m = c.enter_past-memory.result in
    let e = c.enter_past-memory.ensures in
    let few : length (given a.log.items) < id_limit a.spec = subst (λ (x : ClientState). length (given x.log) < id_limit x.plan.spec) (sym c.self.view_is) c.requires.ids in
    let n : given_count (history m) ≡ length (given a.log.items) = given_so_far a c.self.invariant c.enter_past-memory.new.seat m e.seat.0 e.story e.later e.fixed_part e.past c.vouch.ensures.numbers in
    let p : m.plan.limits.ids ≡ id_limit a.spec = ap (λ (x : MemoryPlan). x.limits.ids) (plan_is a c.self.invariant c.enter_past-memory.new.seat m e.seat.0 e.story e.later e.fixed_part e.past c.vouch.ensures.numbers) in
    subst (λ (x : ℕ). given_count (history m) < x) (sym p) (subst (λ (x : ℕ). x < id_limit a.spec) (sym n) few)

pub push-requires : goal.push-requires
push-requires g c = log_fits c.self.inside c.self.invariant (subst (λ (x : ClientState). 1 ≤ room_left x) (sym c.self.view_is) c.requires.room)

pub invariant_of-self : goal.invariant_of-self
invariant_of-self g c =
    let a = c.self.inside in
    let m = c.enter_past-memory.result in
    let e = c.enter_past-memory.ensures in
    let f = c.attach-id.ensures in
    let running : a.finish ≡ None = ap (λ (s : ClientState). s.finish) c.self.view_is ∙ c.requires.open in
    let few : length (given a.log.items) < id_limit a.spec = subst (λ (x : ClientState). length (given x.log) < id_limit x.plan.spec) (sym c.self.view_is) c.requires.ids in
    attached_kept a c.self.invariant c.enter_past-memory.new.seat m e.seat.0 e.story e.later e.fixed_part e.past c.vouch.ensures.numbers running (subst (λ (x : ClientState). 1 ≤ room_left x) (sym c.self.view_is) c.requires.room)
    c.attach-id.result c.len-pages.result c.attach-id.new.self c.leave.new.seat c.push.new.self c.length-self-inside.result
    few f.id (subst (λ (p : ℕ). c.attach-id.new.self ≡ record m { entries = m.entries ++ record { hand = client_of m; what = Attach c.attach-id.result p a.sent } ∷ [] }) (sym c.len-pages.ensures) f.entry)
    c.length-self-inside.ensures c.leave.ensures.seat c.leave.ensures.story c.push.ensures

pub returns : goal.returns
returns g c =
    let a = c.self.inside in
    let m = c.enter_past-memory.result in
    let e = c.enter_past-memory.ensures in
    let f = c.attach-id.ensures in
    let running : a.finish ≡ None = ap (λ (s : ClientState). s.finish) c.self.view_is ∙ c.requires.open in
    let new : ClientState = client_state (record a { log = c.push.new.self; given = a.given + 1; fronts = record { device = a.fronts.device; memory = c.length-self-inside.result }; memory_seat = c.leave.new.seat }) in
    subst (λ (p : ℕ). HasAttachedBuffer p c.attach-id.result c.args.self.now new) c.len-pages.ensures
    (subst (λ (s : ClientState). HasAttachedBuffer c.len-pages.result c.attach-id.result s new) c.self.view_is
    (attached_answer a c.self.invariant c.enter_past-memory.new.seat m e.seat.0 e.story e.later e.fixed_part e.past c.vouch.ensures.numbers running (subst (λ (x : ClientState). 1 ≤ room_left x) (sym c.self.view_is) c.requires.room)
    c.attach-id.result c.len-pages.result c.attach-id.new.self c.leave.new.seat c.push.new.self c.length-self-inside.result
    f.id (subst (λ (p : ℕ). c.attach-id.new.self ≡ record m { entries = m.entries ++ record { hand = client_of m; what = Attach c.attach-id.result p a.sent } ∷ [] }) (sym c.len-pages.ensures) f.entry)
    c.length-self-inside.ensures c.leave.ensures.seat c.leave.ensures.story c.push.ensures))
