use Rattle.std.proofs.Common.{◌≡◌, ◌≤◌, ◌+◌, ◌*◌, ◌-◌, ◌++◌, length, flat_map, sym, ap, ◌∙◌, arith}
use Rattle.std.specs.List.{range_with_len}
use Rattle.std.proofs.lemmas.List.{take_all}
use Rattle.std.proofs.Math.Nat.{mul-le-mul_right}
use Rattle.std.proofs.lemmas.Slice.{take-put_mid}
use Rattle.host_memory.specs.{page_held}
use Rattle.host_memory.proofs.Showing.{copied_more}
use Rattle.host_memory.proofs.buffer.Buffer.show.Goals as goal

pub loop-i-init : goal.loop-i-init
loop-i-init c = grind arith

pub loop-i-preserved : goal.loop-i-preserved
loop-i-preserved c = let i = c.loop-i.i in let size = c.args.size in let w = c.copy_out.new.into in let into = c.loop-i.into in
    let long : length w ≡ size = ap length c.copy_out.ensures ∙ c.requires.pages (c.args.block + i) (let lt = c.loop-i-test.true in let all = c.requires.blocks in omega arith) in
    let room : i * size ≤ length into = (let few = mul-le-mul_right size c.loop-i.auto.i-end in let same = c.loop-i.auto.into in let all = c.requires.into in omega arith) in
    let n : (i + 1) * size ≡ i * size + length w = omega arith in
    take-put_mid (i * size) (i * size + size - i * size) into w ((i + 1) * size) n room
    ∙ (ap (λ l. l ++ w) c.loop-i.invariant
    ∙ (ap (λ l. flat_map (page_held c.args.self.now.pages) (range_with_len c.args.block i) ++ l) c.copy_out.ensures
    ∙ sym (copied_more (page_held c.args.self.now.pages) c.args.block i)))

pub returns : goal.returns
returns c = let i = c.loop-i.i in let into = c.loop-i.into in
    let is : i ≡ c.args.count = (let low = c.loop-i-test.false in let high = c.loop-i.auto.i-end in omega arith) in
    let few : length into ≤ i * c.args.size = (let all = ap (λ n. n * c.args.size) is in let same = c.loop-i.auto.into in let long = c.requires.into in omega arith) in
    sym (take_all (i * c.args.size) into few) ∙ (c.loop-i.invariant ∙ ap (λ n. flat_map (page_held c.args.self.now.pages) (range_with_len c.args.block n)) is)
