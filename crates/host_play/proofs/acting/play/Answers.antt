use Rattle.std.proofs.Common.{◌-◌, ℕ, All, sym, ap, arith}
use Rattle.host_worker.proofs.Lists.{at_place}
use Rattle.host_worker.proofs.Shared.{number_within}
use Rattle.script_model.specs.{SessionScript}
use Rattle.host_play.specs.{CanPlay}
use Rattle.host_play.proofs.Finding.{its_pieces, its_room, played_so, stands_there}
use Rattle.host_play.proofs.acting.play.Goals as goal

pub overflow_sub-place : goal.overflow_sub-place
overflow_sub-place g c =
    let w = number_within c.args.server.now c.args.client.now.end c.requires.server c.requires.client in
    let e = c.number.ensures in
    omega (arith, w.0, e)

pub play_session-requires-clause-new : goal.play_session-requires-clause-new
play_session-requires-clause-new g c = c.requires.ready.new

pub play_session-requires-clause-room : goal.play_session-requires-clause-room
play_session-requires-clause-room g c =
    its_room c.args.script.now.sessions.items c.args.client.now c.requires.ready (c.number.result - 1) (ap (λ (n : ℕ). n - 1) c.number.ensures) c.in-Some.session.now c.in-Some.ensures

pub play_session-requires-clause-pieces : goal.play_session-requires-clause-pieces
play_session-requires-clause-pieces g c =
    its_pieces c.args.script.now.sessions.items c.args.client.now c.requires.ready (c.number.result - 1) (ap (λ (n : ℕ). n - 1) c.number.ensures) c.in-Some.session.now c.in-Some.ensures

pub play_session-requires-clause-playable : goal.play_session-requires-clause-playable
play_session-requires-clause-playable g c =
    at_place (λ (session : SessionScript). All CanPlay session.lines.items) c.args.script.now.sessions.items (c.number.result - 1) c.in-Some.session.now c.requires.playable (sym c.in-Some.ensures)

pub returns-clause-played : goal.returns-clause-played
returns-clause-played g c =
    let e = c.play_session.ensures in
    let sessions = c.args.script.now.sessions.items in
    let session = c.in-Some.session.now in
    played_so sessions c.args.client.now c.requires.ready (c.number.result - 1) (ap (λ (n : ℕ). n - 1) c.number.ensures) session c.in-Some.ensures c.play_session.new.client.end e.plan e.finish e.closed e.played

pub unreachable-requires : goal.unreachable-requires
unreachable-requires g c =
    absurd (stands_there c.args.script.now.sessions.items c.args.client.now c.requires.ready (c.number.result - 1) (ap (λ (n : ℕ). n - 1) c.number.ensures) c.in-None.ensures)
