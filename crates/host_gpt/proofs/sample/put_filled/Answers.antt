use Rattle.std.proofs.Common.{ℕ, List, [], ◌∷◌, ◌++◌, ap, ◌∙◌}
use Rattle.host_gpt.proofs.SampleLemmas.{filled_none, filled_more}
use Rattle.host_gpt.proofs.sample.put_filled.Goals as goal

pub loop-init : goal.loop-init
loop-init c = filled_none c.args.out.now.items c.args.byte

pub loop-preserved : goal.loop-preserved
loop-preserved c =
    c.in_ok-push.ensures.items ∙ ap (λ (l : List ℕ). l ++ c.args.byte ∷ []) c.loop.invariant ∙ filled_more c.args.out.now.items c.loop.counter c.args.byte
