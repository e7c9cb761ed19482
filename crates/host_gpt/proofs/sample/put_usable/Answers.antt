use Rattle.std.proofs.Common.{ℕ, List, ◌++◌, ap, ◌∙◌}
use Rattle.host_gpt.proofs.SampleLemmas.{usable_more}
use Rattle.host_gpt.specs.{filled, usable_blocks}
use Rattle.host_gpt.proofs.sample.put_usable.Goals as goal

pub loop-i-preserved : goal.loop-i-preserved
loop-i-preserved c =
    let before = c.args.image.now.items ++ usable_blocks c.args.fill 34 c.loop-i.i in
    c.in_ok-put_filled.ensures
    ∙ ap (λ (l : List ℕ). l ++ filled 512 c.byte.result) c.loop-i.invariant
    ∙ ap (λ (byte : ℕ). before ++ filled 512 byte) c.byte.ensures
    ∙ usable_more c.args.image.now.items c.args.fill 34 c.loop-i.i
