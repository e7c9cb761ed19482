-- Pieces of a text that are taken or put one after the other.
use Rattle.std.proofs.Common.{◌≡◌, ℕ, ◌+◌, ◌-◌, List, ◌++◌, length, take, drop, sym, ◌∙◌, ap, append_assoc}
use Rattle.std.proofs.Math.Seq.{take-add}
use Rattle.std.proofs.lemmas.List.{take_rest}

-- one piece more was put
pub put_more : (count n : ℕ) (piece old mid new : List ℕ) → mid ≡ old ++ take count piece → new ≡ mid ++ take n (take (length piece - count) (drop count piece)) → new ≡ old ++ take (count + n) piece
put_more count n piece old mid new before after =
    after
    ∙ ap (λ (l : List ℕ). mid ++ take n l) (take_rest piece count)
    ∙ ap (λ (l : List ℕ). l ++ take n (drop count piece)) before
    ∙ append_assoc old (take count piece) (take n (drop count piece))
    ∙ ap (λ (l : List ℕ). old ++ l) (sym (take-add count n piece))
