use Rattle.std.proofs.Common.{ℕ, ◌≤◌, sym, subst}
use Rattle.host_worker.specs.{IsSessionShared, session_count}
use Rattle.host_worker.proofs.Shared.{number_within, shares}
use Rattle.host_worker.proofs.wait.session_of.Goals as goal

pub session-requires : goal.session-requires
session-requires g c =
    subst (λ (n : ℕ). (1 ≤ n) × (n ≤ session_count c.args.server.now)) (sym c.number.ensures) (number_within c.args.server.now c.args.client.now c.requires.server c.requires.client)

pub returns : goal.returns
returns g c =
    shares c.args.server.now c.args.client.now c.requires.server c.requires.client c.session.result.now
    (subst (λ (n : ℕ). IsSessionShared c.args.server.now n c.session.result.now) c.number.ensures c.session.ensures)
