use Rattle.std.proofs.Common.{◌≡◌, ◌∙◌, false, None, Some, sym, ap, rules, tests}
use Rattle.std.specs.List.{find}
use Rattle.std.specs.Option.{option_map, option_map_or}
use Rattle.std.proofs.lemmas.Iterator.{YieldsList-from_slice}
use Rattle.std.proofs.lemmas.Iterator.Search.{find_from_yields_List}
use Rattle.host_memory.specs.{is_given_by}
use Rattle.memory_client.specs.{has_page}
use Rattle.memory_client.proofs.Told.{block_found}
use Rattle.memory_client.proofs.done.has_block.Goals as goal

pub returns-in-Some : goal.returns-in-Some
returns-in-Some c = let h = c.args.done.now in
    let found = find_from_yields_List (is_given_by c.args.id) _ _ c.find.result c.find.ensures.ran (YieldsList-from_slice h c.iter.ensures.rest) (λ x b q k. search (rules, tests)) in
    let is : Some c.in-Some.e.now ≡ find (is_given_by c.args.id) h = ap (λ o. option_map (λ x. x.now) o) (sym c.in-Some.is) ∙ found in
    c.is_within.ensures ∙ (ap (λ o. option_map_or (has_page c.args.block) o false) is ∙ sym (block_found c.args.id c.args.block h))

pub returns-in-None : goal.returns-in-None
returns-in-None c = let h = c.args.done.now in
    let found = find_from_yields_List (is_given_by c.args.id) _ _ c.find.result c.find.ensures.ran (YieldsList-from_slice h c.iter.ensures.rest) (λ x b q k. search (rules, tests)) in
    let is : None ≡ find (is_given_by c.args.id) h = ap (λ o. option_map (λ x. x.now) o) (sym c.in-None.is) ∙ found in
    ap (λ o. option_map_or (has_page c.args.block) o false) is ∙ sym (block_found c.args.id c.args.block h)
