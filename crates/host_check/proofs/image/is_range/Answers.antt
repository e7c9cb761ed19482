use Rattle.std.proofs.Common.{rules, subst}
use Rattle.host_part.proofs.RangeLemmas.{one_range, served_not_bad}
use Rattle.host_part.specs.{IsRangeOf}
use Rattle.host_check.proofs.image.is_range.Goals as goal

pub returns-in-Ok : goal.returns-in-Ok
returns-in-Ok c = (
  λ t. subst (λ r. IsRangeOf c.args.parts.now c.args.number r) (c.is_same_range.ensures.0 t) c.in-Ok.ensures.ok,
  λ h. c.is_same_range.ensures.1 (one_range c.args.parts.now c.args.number c.in-Ok.served c.args.range.now c.requires c.in-Ok.ensures.ok h),
)

pub returns-in-Err-BadEntry : goal.returns-in-Err-BadEntry
returns-in-Err-BadEntry c = (
  λ t. absurd (cc t),
  λ h. absurd (served_not_bad c.args.parts.now c.args.number h.entry c.requires h.is h.served (c.in-Err-BadEntry.ensures.bad.0 (search rules))),
)
