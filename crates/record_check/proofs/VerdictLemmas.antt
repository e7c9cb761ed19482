-- One verdict more.
use Rattle.std.proofs.Common.{◌≡◌, ℕ, suc, ◌+◌, List, [], ◌∷◌, ◌++◌, Option, ap, arith}
use Rattle.host_block.specs.declared.range.Range.{Range}
use Rattle.host_record.specs.declared.request.Request.{Request}
use Rattle.host_model.specs.{verdict_after, verdicts_on}

pub verdicts_more : (rs : List Request) (lent : ℕ → ℕ → Option ℕ) (range : Range) (n : ℕ)
    → verdicts_on rs lent range (n + 1) ≡ verdicts_on rs lent range n ++ verdict_after rs lent range (verdicts_on rs lent range n) n ∷ []
verdicts_more rs lent range n = let e : n + 1 ≡ suc n = omega arith in ap (verdicts_on rs lent range) e
