use Rattle.std.proofs.Common.{sym, ◌∙◌, rules}
use denote.Enum.Bare.{same_true}
use Rattle.host_io.specs.contracts.fails.CallKind.{the_type}
use Rattle.host_io.proofs.FailLemmas.{part_found}
use Rattle.host_io.proofs.fails.failing_part.Goals as goal

pub returns-then-fail-nr : goal.returns-then-fail-nr
returns-then-fail-nr c =
    part_found c.args.fails.now c.loop-fail.fail-index c.args.kind c.args.nr _ c.loop-fail-test.true (same_true the_type (search rules) _ _ (sym c.eq.ensures ∙ c.if-eq.true)) c.if-fail-nr.true
    ∙ c.loop-fail.invariant
