use Rattle.std.proofs.Common.{◌≡◌, ℕ, ◌+◌, ◌<◌, List, length, get_or, drop, refl, sym, subst, ◌∙◌, arith}
use Rattle.std.proofs.lemmas.List.{get_or_default}
use Rattle.host_session.specs.{SessionPlan}
use Rattle.host_worker.proofs.Shared.{client_still}
use Rattle.script_model.specs.{ScriptLine, Attach}
use Rattle.host_play.specs.{HasRoomForLines, ArePieces}
use Rattle.host_play.proofs.PlayedLines.{can_here, helped_none, helped_then, may_next, piece_next, pieces_next, played_all, played_next, starts}
use Rattle.host_play.proofs.Rooms.{may_end}
use Rattle.host_play.proofs.client.play_lines.Goals as goal

abbrev fallback : ScriptLine
fallback = Attach 0

-- the line of this iteration is the one at its place
here : (lines : List ScriptLine) (i : ℕ) → i < length lines → get_or lines i fallback ≡ get_or lines i (get_or lines i fallback)
here lines i less = get_or_default lines i fallback (get_or lines i fallback) less

pub loop-line-init : goal.loop-line-init
loop-line-init g c = record {
  helped = helped_none c.args.server.now c.args.hand.now c.args.client.now.end c.requires.hand;
  plan = refl;
  open_still = c.requires.new.open_still.0;
  played = starts c.args.lines.now c.args.client.now.end c.requires.new;
  pieces = c.requires.pieces;
}

pub play_line-requires-clause-client : goal.play_line-requires-clause-client
play_line-requires-clause-client g c = client_still c.args.server.now c.args.client.now.end c.loop-line.client.end c.loop-line.invariant.plan c.requires.client

pub play_line-requires-clause-hand : goal.play_line-requires-clause-hand
play_line-requires-clause-hand g c = c.loop-line.invariant.helped.hand

pub play_line-requires-clause-may : goal.play_line-requires-clause-may
play_line-requires-clause-may g c =
    let lines = c.args.lines.now in
    let i = c.loop-line.line-index in
    let so = c.loop-line.invariant in
    let room : HasRoomForLines lines c.loop-line.client.end.plan.spec = subst (λ (p : SessionPlan). HasRoomForLines lines p.spec) (sym so.plan) c.requires.room in
    may_next lines i (get_or lines i fallback) c.loop-line-test.true (here lines i c.loop-line-test.true) c.loop-line.client.end c.vouch.ensures so.played room so.open_still

pub play_line-requires-clause-playable : goal.play_line-requires-clause-playable
play_line-requires-clause-playable g c =
    let lines = c.args.lines.now in
    let i = c.loop-line.line-index in
    can_here lines i (get_or lines i fallback) c.loop-line-test.true (here lines i c.loop-line-test.true) c.requires.playable

pub play_line-requires-clause-piece : goal.play_line-requires-clause-piece
play_line-requires-clause-piece g c =
    let lines = c.args.lines.now in
    let i = c.loop-line.line-index in
    piece_next lines i (get_or lines i fallback) c.loop-line-test.true (here lines i c.loop-line-test.true) c.loop-line.client.end.plan.spec.size c.loop-line.client.pieces.items c.loop-line.invariant.pieces

pub loop-line-preserved : goal.loop-line-preserved
loop-line-preserved g c =
    let lines = c.args.lines.now in
    let i = c.loop-line.line-index in
    let line = get_or lines i fallback in
    let so = c.loop-line.invariant in
    let old = c.loop-line.client in
    let new = c.play_line.new.client in
    let done = c.play_line.ensures.done in
    let less = c.loop-line-test.true in
    record {
      helped = helped_then c.args.server.now c.args.hand.now c.loop-line.hand c.play_line.new.hand c.args.client.now.end old.end new.end so.helped c.play_line.ensures.helped;
      plan = done.plan ∙ so.plan;
      open_still = done.open_still;
      played = played_next lines i line less (here lines i less) old.end new.end so.played done;
      pieces = subst (λ (p : SessionPlan). ArePieces p.spec.size (drop (i + 1) lines) new.pieces.items) (sym done.plan)
          (pieces_next lines i line less (here lines i less) old.end.plan.spec.size old.pieces.items new.pieces.items so.pieces c.play_line.ensures.piece);
    }

pub returns-clause-may : goal.returns-clause-may
returns-clause-may g c =
    let lines = c.args.lines.now in
    let so = c.loop-line.invariant in
    let end = c.loop-line.client.end in
    let room : HasRoomForLines lines end.plan.spec = subst (λ (p : SessionPlan). HasRoomForLines lines p.spec) (sym so.plan) c.requires.room in
    may_end end lines c.vouch-2.ensures (played_all lines end c.loop-line.line-index (omega (arith, c.loop-line-test.false, c.loop-line.auto.line-index-end)) so.played) room so.open_still

pub returns-clause-played : goal.returns-clause-played
returns-clause-played g c = played_all c.args.lines.now c.loop-line.client.end c.loop-line.line-index (omega (arith, c.loop-line-test.false, c.loop-line.auto.line-index-end)) c.loop-line.invariant.played
