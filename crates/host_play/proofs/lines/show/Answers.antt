use Rattle.std.proofs.Common.{◌≡◌, refl, sym, ◌∙◌}
use Rattle.host_worker.specs.{released_of}
use Rattle.host_play.proofs.Accounts.{released_none}
use Rattle.host_play.proofs.Belonging.{its_shared, within}
use Rattle.host_play.proofs.LineSteps.{show_done}
use Rattle.host_play.proofs.Quiet.{shown_before}
use Rattle.host_play.proofs.lines.show.Goals as goal

pub session-shared-requires : goal.session-shared-requires
session-shared-requires g c = within c.args.server.now c.args.client.now c.requires.server c.requires.client c.number.result c.number.ensures

pub show-requires-clause-shared : goal.show-requires-clause-shared
show-requires-clause-shared g c = its_shared c.args.server.now c.args.client.now c.requires.server c.requires.client c.number.result c.session-shared.result.now c.number.ensures c.session-shared.ensures

pub show-requires-clause-open : goal.show-requires-clause-open
show-requires-clause-open g c = c.requires.may.waits.open_still

pub show-requires-clause-room : goal.show-requires-clause-room
show-requires-clause-room g c = c.requires.may.room refl

pub returns-clause-done : goal.returns-clause-done
returns-clause-done g c = show_done c.args.id c.args.block c.args.count c.args.client.now c.show.new.self c.show.result c.show.ensures c.requires.may.waits.open_still

pub returns-clause-account : goal.returns-clause-account
returns-clause-account g c =
    let still = c.requires.may.waits.open_still in
    let done = show_done c.args.id c.args.block c.args.count c.args.client.now c.show.new.self c.show.result c.show.ensures still in
    let released : released_of c.show.new.self ≡ released_of c.args.client.now = released_none c.show.new.self c.vouch-2.ensures done.open_still ∙ sym (released_none c.args.client.now c.vouch.ensures still) in
    shown_before c.args.id c.args.block c.args.count c.args.client.now c.show.new.self c.show.result c.show.ensures released
