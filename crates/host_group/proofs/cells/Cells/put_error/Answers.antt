use Rattle.std.proofs.Common.{arith, ap, sym, ◌∙◌}
use Rattle.host_group.proofs.cells.Cells.put_error.Goals as goal
use Rattle.host_group.specs.{failure_word, status_of}
use Rattle.host_group.proofs.FailureLemmas.{status_of_word}
use Rattle.host_group.proofs.RightSteps.{puts_error}

pub fetch_min-requires : goal.fetch_min-requires
fetch_min-requires c = let words = c.args.self.now.words in let is = c.requires.right.0 in let small = is.4 in let same = c.requires.index in let low = c.ranges.index.fits in
    (is.0, omega arith, puts_error _ _ _ _ is.4 is.2 is.3 _ c.args.status (c.failure_word-word.ensures ∙ ap (λ i. failure_word i c.args.status) (sym same)) (ap status_of c.failure_word-word.ensures ∙ status_of_word c.args.index c.args.status (omega arith)) c.requires.right.1 c.requires.right.2)
