-- Lists that begin with others.
use Rattle.std.proofs.Common.{List, [], ◌++◌, sym, ap, ◌∙◌, append_assoc, append-nil}
use Rattle.host_block.specs.{IsPrefix}

module _ {A : Type 0} where
  pub prefix_refl : (xs : List A) → IsPrefix xs xs
  prefix_refl xs = ([], append-nil xs)

  pub prefix_trans : (xs ys zs : List A) → IsPrefix xs ys → IsPrefix ys zs → IsPrefix xs zs
  prefix_trans xs ys zs p q = (p.0 ++ q.0, sym (append_assoc xs p.0 q.0) ∙ (ap (λ l. l ++ q.0) p.1 ∙ q.1))

  pub prefix_longer : (front whole more : List A) → IsPrefix front whole → IsPrefix front (whole ++ more)
  prefix_longer front whole more p = (p.0 ++ more, sym (append_assoc front p.0 more) ∙ ap (λ l. l ++ more) p.1)
