use Rattle.std.proofs.Common.{◌≡◌, refl, sym, ◌∙◌}
use Rattle.host_worker.specs.{released_of}
use Rattle.host_play.proofs.Accounts.{released_none}
use Rattle.host_play.proofs.Belonging.{its_shared, within}
use Rattle.host_play.proofs.LineSteps.{fill_done}
use Rattle.host_play.proofs.Quiet.{filled_before}
use Rattle.host_play.proofs.lines.fill.Goals as goal

pub session-shared-requires : goal.session-shared-requires
session-shared-requires g c = within c.args.server.now c.args.client.now c.requires.server c.requires.client c.number.result c.number.ensures

pub fill-requires-clause-shared : goal.fill-requires-clause-shared
fill-requires-clause-shared g c = its_shared c.args.server.now c.args.client.now c.requires.server c.requires.client c.number.result c.session-shared.result.now c.number.ensures c.session-shared.ensures

pub fill-requires-clause-open : goal.fill-requires-clause-open
fill-requires-clause-open g c = c.requires.may.waits.open_still

pub fill-requires-clause-room : goal.fill-requires-clause-room
fill-requires-clause-room g c = c.requires.may.room refl

pub returns-clause-done : goal.returns-clause-done
returns-clause-done g c = fill_done c.args.id c.args.block c.args.count c.args.byte c.args.client.now c.fill.new.self c.fill.result c.fill.ensures c.requires.may.waits.open_still

pub returns-clause-account : goal.returns-clause-account
returns-clause-account g c =
    let still = c.requires.may.waits.open_still in
    let done = fill_done c.args.id c.args.block c.args.count c.args.byte c.args.client.now c.fill.new.self c.fill.result c.fill.ensures still in
    let released : released_of c.fill.new.self ≡ released_of c.args.client.now = released_none c.fill.new.self c.vouch-2.ensures done.open_still ∙ sym (released_none c.args.client.now c.vouch.ensures still) in
    filled_before c.args.id c.args.block c.args.count c.args.byte c.args.client.now c.fill.new.self c.fill.result c.fill.ensures released
