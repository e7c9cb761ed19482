use Rattle.std.proofs.Common.{◌≡◌, ◌≤◌, None, IsTrue, ap, sym, subst, ◌∙◌}
use Rattle.host_model.specs.{NotAttached, runs_out_rightly}
use Rattle.host_session.specs.{ClientState, room_left}
use Rattle.host_session.proofs.Logged.{log_fits, refused_kept}
use Rattle.host_session.proofs.client.ClientEnd.refuse.Goals as goal

pub push-requires : goal.push-requires
push-requires c = log_fits c.self.inside c.self.invariant (subst (λ (x : ClientState). 1 ≤ room_left x) (sym c.self.view_is) c.requires.room)

pub invariant_of-self : goal.invariant_of-self
invariant_of-self c =
    let a = c.self.inside in
    let running : a.finish ≡ None = ap (λ (s : ClientState). s.finish) c.self.view_is ∙ c.requires.open in
    refused_kept a c.self.invariant c.args.pages c.args.cause c.push.new.self running
    (subst (λ (x : ClientState). IsTrue (runs_out_rightly x.log (NotAttached c.args.pages c.args.cause))) (sym c.self.view_is) c.requires.rightly)
    (subst (λ (x : ClientState). 1 ≤ room_left x) (sym c.self.view_is) c.requires.room) c.push.ensures
