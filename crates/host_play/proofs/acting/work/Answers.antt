use Rattle.std.proofs.Common.{refl}
use Rattle.host_play.proofs.Accounts.{worked_alone, works_alone_then}
use Rattle.host_play.proofs.acting.work.Goals as goal

pub loop-init : goal.loop-init
loop-init g c = (tt, tt, record { hand = c.requires.hand; number_is = refl; account = λ sq. sq })

pub returns-in-AllClosed : goal.returns-in-AllClosed
returns-in-AllClosed g c =
    let e = c.in-AllClosed.ensures in
    worked_alone c.args.server.now c.args.hand.now c.turn.new.hand
    (works_alone_then c.args.server.now c.args.hand.now c.loop.hand c.turn.new.hand c.loop.invariant.2 e.hand e.worked) e.answer

pub loop-preserved : goal.loop-preserved
loop-preserved g c = (tt, tt, works_alone_then c.args.server.now c.args.hand.now c.loop.hand c.turn.new.hand c.loop.invariant.2 c.turn.ensures.hand c.turn.ensures.worked)
