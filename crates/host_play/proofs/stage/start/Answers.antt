use Rattle.std.proofs.Common.{List, subst}
use Rattle.host_session.specs.{SessionSpec}
use Rattle.host_worker.specs.{IsStarted}
use Rattle.host_play.proofs.Staging.{is_staged}
use Rattle.host_play.proofs.stage.start.Goals as goal

pub returns-in-Ok : goal.returns-in-Ok
returns-in-Ok g c =
    is_staged c.args.device c.args.props c.args.hands c.in-Ok.started
    (subst (λ (specs : List SessionSpec). IsStarted c.args.device specs c.args.hands c.in-Ok.started) c.deref.ensures.value c.in-Ok.ensures)
    c.cast_all.result c.cast_all.ensures.hands c.cast_all.ensures.clients c.cast_all.ensures.made
