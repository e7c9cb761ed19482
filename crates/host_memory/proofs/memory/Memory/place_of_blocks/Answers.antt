use Rattle.std.proofs.Common.{◌≡◌, ◌<◌, suc, true, false, length, refl, sym, subst, ◌∙◌, arith}
use Rattle.std.specs.Prelude.{slice_get, Some}
use Rattle.std.proofs.lemmas.Option.{slice_get_read}
use Rattle.host_frames.specs.{pool_id}
use Rattle.host_memory.specs.{given_count, has_blocks, MemoryState, history, events}
use Rattle.host_memory.proofs.Seeing.{has_blocks_is}
use Rattle.host_memory.proofs.memory.Memory.place_of_blocks.Goals as goal

pub returns-then-has_blocks : goal.returns-then-has_blocks
returns-then-has_blocks c = let m = c.self.inside in let told = c.self.invariant.0.told in let i = c.in_ok-place.place in let x = c.index.result.now in let h = events m.entries.items in
    let lt : i < length m.buffers.items = subst (λ z. i < z) told.given (subst (λ (s : MemoryState). i < given_count (history s)) (sym c.self.view_is) c.in_ok-place.ensures.1) in
    let at : slice_get m.buffers.items i ≡ Some x = slice_get_read m.buffers.items (length m.buffers.items) i x refl lt c.index.ensures in
    let is : has_blocks (suc i) h c.args.block c.args.count ≡ true = has_blocks_is (pool_id m.pool.value) m.limits.size h (suc i) x (told.each i x at) c.args.block c.args.count ∙ (sym c.has_blocks.ensures.answer ∙ c.if-has_blocks.true) in
    let id : suc i ≡ c.args.id = (let e = c.in_ok-place.ensures.0 in omega arith) in
    (c.in_ok-place.ensures.0, c.in_ok-place.ensures.1, subst (λ (s : MemoryState). has_blocks c.args.id (history s) c.args.block c.args.count ≡ true) c.self.view_is (subst (λ v. has_blocks v h c.args.block c.args.count ≡ true) id is), c.has_blocks.ensures.sum c.if-has_blocks.true)

pub returns-else-has_blocks : goal.returns-else-has_blocks
returns-else-has_blocks c = let m = c.self.inside in let told = c.self.invariant.0.told in let i = c.in_ok-place.place in let x = c.index.result.now in let h = events m.entries.items in
    let lt : i < length m.buffers.items = subst (λ z. i < z) told.given (subst (λ (s : MemoryState). i < given_count (history s)) (sym c.self.view_is) c.in_ok-place.ensures.1) in
    let at : slice_get m.buffers.items i ≡ Some x = slice_get_read m.buffers.items (length m.buffers.items) i x refl lt c.index.ensures in
    let is : has_blocks (suc i) h c.args.block c.args.count ≡ false = has_blocks_is (pool_id m.pool.value) m.limits.size h (suc i) x (told.each i x at) c.args.block c.args.count ∙ (sym c.has_blocks.ensures.answer ∙ c.if-has_blocks.false) in
    let id : suc i ≡ c.args.id = (let e = c.in_ok-place.ensures.0 in omega arith) in
    subst (λ (s : MemoryState). has_blocks c.args.id (history s) c.args.block c.args.count ≡ false) c.self.view_is (subst (λ v. has_blocks v h c.args.block c.args.count ≡ false) id is)
