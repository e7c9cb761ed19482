use Rattle.std.proofs.Common.{ℕ, ◌*◌, List, length, drop, ◌∙◌, ap, arith}
use Rattle.host_block.specs.{picked}
use Rattle.host_block.proofs.DiskLemmas.{length-picked}
use Rattle.host_io.specs.{put_at, cut_of_size, pairs_of}
use Rattle.host_io.proofs.FlatLemmas.{flat_state, block_read, drop-put_at}
use Rattle.host_io.proofs.flat.put_pick.Goals as goal

pub put_bytes-requires-clause-piece : goal.put_bytes-requires-clause-piece
put_bytes-requires-clause-piece c =
    let a = c.args in
    let at = block_read a.size a.blocks a.b a.durable.now c.requires.block in
    ap length (c.pick_of-chosen.ensures ∙ ap (λ (l : List ℕ). picked (pairs_of a.waiting.now) a.b a.pick l) at)
    ∙ length-picked a.blocks a.size (flat_state a.size a.blocks a.durable.now a.waiting.now) a.b a.pick (cut_of_size a.blocks a.size a.durable.now a.waiting.now c.requires.whole c.requires.fitting) c.requires.block

pub returns-clause-put : goal.returns-clause-put
returns-clause-put c =
    let a = c.args in
    let at = block_read a.size a.blocks a.b a.durable.now c.requires.block in
    c.put_bytes.ensures
    ∙ ap (λ (l : List ℕ). put_at a.size a.bytes.now.items (a.b, l)) (c.pick_of-chosen.ensures ∙ ap (λ (l : List ℕ). picked (pairs_of a.waiting.now) a.b a.pick l) at)

pub returns-clause-rest : goal.returns-clause-rest
returns-clause-rest c =
    let a = c.args in
    let at = block_read a.size a.blocks a.b a.durable.now c.requires.block in
    let piece =
    ap length (c.pick_of-chosen.ensures ∙ ap (λ (l : List ℕ). picked (pairs_of a.waiting.now) a.b a.pick l) at)
    ∙ length-picked a.blocks a.size (flat_state a.size a.blocks a.durable.now a.waiting.now) a.b a.pick (cut_of_size a.blocks a.size a.durable.now a.waiting.now c.requires.whole c.requires.fitting) c.requires.block in
    ap (λ (l : List ℕ). drop (a.blocks * a.size) l) c.put_bytes.ensures
    ∙ drop-put_at a.size a.blocks a.bytes.now.items (a.b, c.pick_of-chosen.result.now) c.requires.block (omega (arith, c.requires.whole, c.requires.same)) piece
