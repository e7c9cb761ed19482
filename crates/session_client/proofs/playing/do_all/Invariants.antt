use Rattle.std.proofs.Common.{◌≡◌}
use Rattle.host_session.specs.{IsShared}
use Rattle.session_client.proofs.playing.do_all.Given as goal

abbrev pub invariant-loop-deed : goal.invariant-loop-deed
invariant-loop-deed g l = IsShared l.caller.client.plan l.shared × (l.caller.client.plan ≡ l.fn.caller.client.plan)
