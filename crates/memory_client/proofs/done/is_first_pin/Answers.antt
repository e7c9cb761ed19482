use Rattle.std.proofs.Common.{◌≡◌, ◌∙◌, sym, rules, tests}
use Rattle.std.specs.List.{list_any}
use Rattle.std.proofs.lemmas.Bool.{not-true}
use Rattle.std.proofs.lemmas.Iterator.{YieldsList-from_slice}
use Rattle.std.proofs.lemmas.Iterator.Search.{any_from_yields_List}
use Rattle.host_memory.specs.{is_pin_for}
use Rattle.host_memory.proofs.Attached.{uncounted}
use Rattle.memory_client.proofs.done.is_first_pin.Goals as goal

pub returns : goal.returns
returns c =
    let found : c.any.result ≡ list_any (is_pin_for c.args.index) c.args.done.now = any_from_yields_List (is_pin_for c.args.index) _ _ c.any.result c.any.ensures.ran (YieldsList-from_slice c.args.done.now c.iter.ensures.rest) (λ x b q k. search (rules, tests)) in
    (λ t. uncounted (is_pin_for c.args.index) c.args.done.now (sym found ∙ not-true c.any.result t))
