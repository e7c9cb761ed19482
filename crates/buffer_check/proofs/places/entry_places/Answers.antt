use Rattle.std.proofs.Common.{◌==◌, Some}
use Rattle.std.specs.Option.{option_eq}
use Rattle.buffer_check.specs.{owner_by}
use Rattle.buffer_check.proofs.PlaceLemmas.{places_step}
use Rattle.buffer_check.proofs.places.entry_places.Goals as goal

pub loop-i-preserved : goal.loop-i-preserved
loop-i-preserved c =
    places_step (λ e. option_eq ◌==◌ (owner_by c.args.rs.now c.args.verdicts.now e) (Some c.args.r)) c.args.history.now c.loop-i.i c.index-history-i.result _ _ _
    c.loop-i-test.true c.index-history-i.is c.loop-i.invariant c.belongs.ensures c.in_ok-push_if.ensures
