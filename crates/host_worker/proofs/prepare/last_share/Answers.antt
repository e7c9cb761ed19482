use Rattle.std.proofs.Common.{◌+◌, List, sym, subst, arith}
use Rattle.host_session.specs.{SessionHand}
use Rattle.host_worker.proofs.Dealt.{AreGiven, given_more}
use Rattle.host_worker.proofs.prepare.last_share.Goals as goal

pub loop-k-preserved : goal.loop-k-preserved
loop-k-preserved c = (
  subst (λ (l : List SessionHand). AreGiven (c.loop-k.k + 1) c.args.sessions.now.items c.last_hand-hand.new.sessions.items l) (sym c.push_reserved.ensures.items)
      (given_more c.loop-k.k c.args.sessions.now.items c.loop-k.sessions.items c.last_hand-hand.new.sessions.items c.loop-k.share.items c.last_hand-hand.result c.loop-k.invariant.0 c.last_hand-hand.ensures),
  omega (arith, c.loop-k.invariant.1, c.push_reserved.ensures.capacity),
)
