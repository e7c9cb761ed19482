use Rattle.std.proofs.Common.{rules}
use Rattle.host_part.proofs.RangeLemmas.{served_not_bad}
use Rattle.host_part.proofs.parts.Parts.range.Goals as goal

pub returns-then-is_served-clause-bad : goal.returns-then-is_served-clause-bad
returns-then-is_served-clause-bad c = (
  λ is. absurd (cc is),
  λ bad. absurd (served_not_bad c.args.self.now c.args.number c.in-Some.entry.now c.entry.ensures.used (search rules) (c.is_served.ensures.served.0 c.if-is_served.true) bad),
)
