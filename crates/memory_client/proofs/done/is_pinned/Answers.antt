use Rattle.std.proofs.Common.{◌≡◌, ◌∙◌, sym, rules, tests}
use Rattle.std.specs.List.{list_any}
use Rattle.std.proofs.lemmas.Bool.{not-true}
use Rattle.std.proofs.lemmas.Iterator.{YieldsList-from_slice}
use Rattle.std.proofs.lemmas.Iterator.Search.{any_from_yields_List}
use Rattle.host_memory.specs.{is_done_for, is_pin_by}
use Rattle.memory_client.proofs.Told.{pinned_still}
use Rattle.memory_client.proofs.done.is_pinned.Goals as goal

pub returns-then-any : goal.returns-then-any
returns-then-any c =
    let h = c.args.done.now in
    let pinned : c.any.result ≡ list_any (is_pin_by c.args.hand c.args.index c.args.id) h = any_from_yields_List (is_pin_by c.args.hand c.args.index c.args.id) _ _ c.any.result c.any.ensures.ran (YieldsList-from_slice h c.iter.ensures.rest) (λ x b q k. search (rules, tests)) in
    let ended : c.any-then-any.result ≡ list_any (is_done_for c.args.index) h = any_from_yields_List (is_done_for c.args.index) _ _ c.any-then-any.result c.any-then-any.ensures.ran (YieldsList-from_slice h c.iter-then-any.ensures.rest) (λ x b q k. search (rules, tests)) in
    (λ t. pinned_still h c.args.hand c.args.index c.args.id (sym pinned ∙ c.if-any.true) (sym ended ∙ not-true c.any-then-any.result t))
