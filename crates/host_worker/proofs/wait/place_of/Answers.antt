use Rattle.std.proofs.Common.{ℕ, ◌≤◌, sym, subst, arith}
use Rattle.host_worker.proofs.Shared.{number_within}
use Rattle.host_worker.proofs.wait.place_of.Goals as goal

pub overflow_sub-result : goal.overflow_sub-result
overflow_sub-result g c =
    subst (λ (n : ℕ). 1 ≤ n) (sym c.number.ensures) (number_within c.args.server.now c.args.client.now c.requires.server c.requires.client).0

pub returns-clause-there : goal.returns-clause-there
returns-clause-there g c =
    let within = number_within c.args.server.now c.args.client.now c.requires.server c.requires.client in
    omega (arith, within.0, within.1, c.number.ensures)
