use Rattle.std.proofs.Common.{Option, Some, IfSome, sym, subst}
use Rattle.script_model.specs.{plans_of}
use Rattle.host_play.specs.{HasPlayedPart, IsClientReady, Client}
use Rattle.host_play.proofs.Parts.{client_part, worker_part}
use Rattle.host_play.proofs.acting.act.Goals as goal

pub returns-in-Some : goal.returns-in-Some
returns-in-Some g c =
    let plans = plans_of c.args.script.now in
    let server = c.args.server.now in
    let old = c.args.actor.now in
    let ready = subst (λ (o : Option Client). IfSome o (IsClientReady plans)) c.in-Some.is c.requires.cast.ready in
    subst (λ (o : Option Client). HasPlayedPart server plans (record { hand = old.hand; client = o }) (record { hand = c.play.new.hand; client = Some c.play.new.client })) (sym c.in-Some.is)
    (client_part server plans old.hand c.play.new.hand c.requires.cast.new_hand c.in-Some.client c.play.new.client ready c.play.ensures.played c.play.ensures.helped)

pub returns-in-None : goal.returns-in-None
returns-in-None g c =
    let plans = plans_of c.args.script.now in
    let server = c.args.server.now in
    let old = c.args.actor.now in
    subst (λ (o : Option Client). HasPlayedPart server plans (record { hand = old.hand; client = o }) (record { hand = c.work.new.hand; client = o })) (sym c.in-None.is)
    (worker_part server plans old.hand c.work.new.hand c.requires.cast.new_hand c.work.ensures)
