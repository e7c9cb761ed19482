use Rattle.std.proofs.Common.{◌≡◌, ◌-◌, List, take, drop, sym, ◌∙◌, ap, arith, refl, Some}
use Rattle.std.proofs.lemmas.List.{length-map}
use Rattle.host_io.specs.{next_count, part_listed, Sync}
use Rattle.host_io.specs.declared.flat.Waiting.{Waiting}
use Rattle.host_io.proofs.FailLemmas.{synced_as_listed}
use Rattle.host_io.proofs.FlatLemmas.{synced_state, part_synced_state, turned_off}
use Rattle.host_io.proofs.mem_disk.MemDiskDisk.sync.Goals as goal

pub returns-in-None-clause-state : goal.returns-in-None-clause-state
returns-in-None-clause-state c =
    let d = c.args.self.now in
    synced_state d.size d.blocks d.bytes.items c.settle.new.bytes.items d.waiting.items c.deref-in-None.result.now c.clear.new.self.items d.whole d.fitting c.deref-in-None.ensures.value c.settle.ensures.settled c.clear.ensures.items

pub returns-in-Some-clause-state : goal.returns-in-Some-clause-state
returns-in-Some-clause-state c =
    let d = c.args.self.now in
    let first : take c.min-done.result c.deref-in-Some.result.now ≡ take c.min-done.result d.waiting.items = ap (λ (ws : List Waiting). take c.min-done.result ws) c.deref-in-Some.ensures.value in
    let left : c.truncate.new.self.items ≡ drop c.min-done.result d.waiting.items =
    turned_off c.min-done.result (c.len-in-Some.result - c.min-done.result) c.len-in-Some.result d.waiting.items c.rotate_left.new.self.items c.truncate.new.self.items (c.len-in-Some.ensures ∙ d.waiting.ok.0) (omega (arith, c.len.ensures, c.len-in-Some.ensures, c.min-done.ensures)) refl c.rotate_left.ensures.items c.truncate.ensures.items in
    (c.min-done.result, part_synced_state d.size d.blocks c.min-done.result d.bytes.items c.settle-in-Some.new.bytes.items d.waiting.items (take c.min-done.result c.deref-in-Some.result.now) c.truncate.new.self.items d.whole d.fitting first c.settle-in-Some.ensures.settled left)

pub returns-in-Some-clause-fails : goal.returns-in-Some-clause-fails
returns-in-Some-clause-fails c =
    let d = c.args.self.now in
    let nr : c.saturating_add-self.result ≡ next_count d.counts.syncs = grind arith in
    let listed : part_listed d.fails.items Sync (next_count d.counts.syncs) ≡ Some c.in-Some.part =
    (λ i. part_listed ((sym c.deref.ensures.value) i) Sync ((sym nr) i)) ∙ sym c.failing_part.ensures ∙ c.in-Some.is in
    let first : take c.min-done.result c.deref-in-Some.result.now ≡ take c.min-done.result d.waiting.items = ap (λ (ws : List Waiting). take c.min-done.result ws) c.deref-in-Some.ensures.value in
    let left : c.truncate.new.self.items ≡ drop c.min-done.result d.waiting.items =
    turned_off c.min-done.result (c.len-in-Some.result - c.min-done.result) c.len-in-Some.result d.waiting.items c.rotate_left.new.self.items c.truncate.new.self.items (c.len-in-Some.ensures ∙ d.waiting.ok.0) (omega (arith, c.len.ensures, c.len-in-Some.ensures, c.min-done.ensures)) refl c.rotate_left.ensures.items c.truncate.ensures.items in
    synced_as_listed _ c.in-Some.part c.min-done.result c.len.result _ _ listed c.min-done.ensures (c.len.ensures ∙ d.waiting.ok.0 ∙ sym (length-map d.waiting.items (λ (w : Waiting). (w.block, w.bytes))))
    (part_synced_state d.size d.blocks c.min-done.result d.bytes.items c.settle-in-Some.new.bytes.items d.waiting.items (take c.min-done.result c.deref-in-Some.result.now) c.truncate.new.self.items d.whole d.fitting first c.settle-in-Some.ensures.settled left)
