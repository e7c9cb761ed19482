use Rattle.std.proofs.Common.{arith}
use Rattle.host_frames.proofs.pool.Pool.close.Goals as goal

pub returns-clause-refused : goal.returns-clause-refused
returns-clause-refused c = λ p. let all = c.gather_all-base.ensures.gathered in let lt = c.close_with.ensures.refused (all.4 c.args.self.frames p) in let sum = all.3 in omega arith
