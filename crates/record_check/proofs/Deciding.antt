-- Tests that decide facts, joined.
use Rattle.std.proofs.Common.{◌≡◌, ◌↔◌, ◌⊎◌, inl, inr, ℕ, suc, ◌+◌, ◌<◌, ◌≤◌, Bool, ◌&&◌, IsTrue, subst, arith}
use Rattle.std.proofs.Math.Nat.{eq-or-lt_of_le}
use Rattle.host_model.proofs.ListTests.{and-from, both}

pub each_more : (P : ℕ → Type 0) (n : ℕ) (all here : Bool) → (IsTrue all ↔ ((k : ℕ) → k < n → P k)) → (IsTrue here ↔ P n) → IsTrue (all && here) ↔ ((k : ℕ) → k < n + 1 → P k)
each_more P n all here a h = (
  λ e k p.
      let t : IsTrue all × IsTrue here = both all here e in
      let q : suc k ≤ n + 1 = omega (arith, p) in
      let split : (suc k ≡ n + 1) ⊎ (suc k < n + 1) = eq-or-lt_of_le q in
      elim split [
        | inl f ↦ let g : n ≡ k = omega (arith, f) in subst P g (h.0 t.1)
        | inr f ↦ a.0 t.0 k (omega (arith, f))
      ],
  λ each. and-from all here (a.1 (λ k p. each k (omega (arith, p)))) (h.1 (each n (omega arith))),
)
