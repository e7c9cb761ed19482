use Rattle.std.proofs.Common.{rules, tests}
use Rattle.std.proofs.lemmas.Iterator.{YieldsList-from_slice}
use Rattle.std.proofs.lemmas.Iterator.Search.{position_from_yields_List}
use Rattle.host_intake.specs.{is_waiting_at}
use Rattle.host_intake.proofs.land.place_waiting.Goals as goal

pub returns : goal.returns
returns c = position_from_yields_List (is_waiting_at c.args.index) _ _ c.position.result c.position.ensures.ran (YieldsList-from_slice c.args.waiting.now c.iter.ensures.rest) (λ x b q k. search (rules, tests))
