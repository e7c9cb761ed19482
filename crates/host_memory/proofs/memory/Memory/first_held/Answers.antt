use Rattle.std.proofs.Common.{◌≡◌, ◌+◌, ◌∙◌, sym, ap, rules, tests}
use Rattle.std.specs.List.{position_from}
use Rattle.std.specs.Option.{option_map, is_some}
use Rattle.std.proofs.lemmas.Iterator.{YieldsList-from_slice}
use Rattle.std.proofs.lemmas.Iterator.Search.{position_from_yields_List}
use Rattle.std.proofs.lemmas.Iterator.Adapters.{position_from-zero}
use Rattle.host_frames.specs.{pool_id}
use Rattle.host_memory.specs.{first_held, MemoryState, history, events}
use Rattle.host_memory.proofs.Remaining.{first_is}
use Rattle.host_memory.proofs.memory.Memory.first_held.Goals as goal

pub returns-in_err-place : goal.returns-in_err-place
returns-in_err-place c = let m = c.self.inside in let bs = m.buffers.items in
    let found : c.position.result ≡ position_from (λ b. is_some b.pages) 0 bs =
    position_from_yields_List (λ b. is_some b.pages) _ _ c.position.result c.position.ensures.ran (YieldsList-from_slice bs (c.iter.ensures.rest ∙ c.deref.ensures.value)) (λ x b q k. search (rules, tests)) ∙ position_from-zero (λ b. is_some b.pages) bs in
    c.from_residual.ensures ∙ (ap (λ o. option_map (λ i. i + 1) o) (sym c.in_err-place.was ∙ found)
    ∙ (sym (first_is (pool_id m.pool.value) m.limits.size (events m.entries.items) bs c.self.invariant.0.told) ∙ ap (λ (s : MemoryState). first_held (history s)) c.self.view_is))

pub returns : goal.returns
returns c = let m = c.self.inside in let bs = m.buffers.items in
    let found : c.position.result ≡ position_from (λ b. is_some b.pages) 0 bs =
    position_from_yields_List (λ b. is_some b.pages) _ _ c.position.result c.position.ensures.ran (YieldsList-from_slice bs (c.iter.ensures.rest ∙ c.deref.ensures.value)) (λ x b q k. search (rules, tests)) ∙ position_from-zero (λ b. is_some b.pages) bs in
    ap (λ o. option_map (λ i. i + 1) o) (sym c.in_ok-place.was ∙ found)
    ∙ (sym (first_is (pool_id m.pool.value) m.limits.size (events m.entries.items) bs c.self.invariant.0.told) ∙ ap (λ (s : MemoryState). first_held (history s)) c.self.view_is)
