-- Pages of which some were filled.
use Rattle.std.proofs.Common.{◌≡◌, ◌≢◌, ◌⊎◌, inl, inr, ℕ, suc, ◌+◌, ◌<◌, ◌≤◌, ◌==◌, true, false, ◌&&◌, nat_le, nat_lt, if◌then◌else◌, List, [], length, get_or, set, replicate, sym, ap, ◌∙◌, arith}
use Rattle.std.proofs.lemmas.Bool.{lt-ltb, le-ltb, le-leb}
use Rattle.std.proofs.lemmas.Bool.Decides.{eqb_tells, leb_tells}
use Rattle.std.proofs.lemmas.Grind.{get_or-set_at}
use Rattle.std.proofs.lemmas.List.{get_or-set_other}

lt_later : (k i : ℕ) → i ≢ k → nat_lt k (i + 1) ≡ nat_lt k i
lt_later k i n = elim (leb_tells (suc k) i) as (λ _. nat_lt k (i + 1) ≡ nat_lt k i) [ inl p ↦ (let a = p.1 in lt-ltb k (i + 1) (omega arith) ∙ sym (lt-ltb k i (omega arith))) | inr p ↦ (let a = p.1 in le-ltb k (i + 1) (omega arith) ∙ sym (le-ltb k i (omega arith))) ]

-- page k, where the blocks from one on, below the other, are filled
abbrev pub upto : ℕ → ℕ → ℕ → List (List ℕ) → ℕ → List ℕ
upto block stop byte ps k = if nat_le block k && nat_lt k stop then replicate (length (get_or ps k [])) byte else get_or ps k []

module _ (block i byte : ℕ) (ps qs : List (List ℕ)) (from : block ≤ i) (lt : i < length qs) (inv : (k : ℕ) → get_or qs k [] ≡ upto block i byte ps k) where
  here : get_or qs i [] ≡ get_or ps i []
  here = inv i ∙ (ap (λ b. if b && nat_lt i i then replicate (length (get_or ps i [])) byte else get_or ps i []) (le-leb block i from)
      ∙ ap (λ b. if b then replicate (length (get_or ps i [])) byte else get_or ps i []) (le-ltb i i (omega arith)))

  test_here : (nat_le block i && nat_lt i (i + 1)) ≡ true
  test_here = ap (λ b. b && nat_lt i (i + 1)) (le-leb block i from) ∙ lt-ltb i (i + 1) (omega arith)

  more_step : (k : ℕ) → ((i == k) ≡ true) × (i ≡ k) ⊎ ((i == k) ≡ false) × (i ≢ k) → get_or (set qs i (replicate (length (get_or qs i [])) byte)) k [] ≡ upto block (i + 1) byte ps k
  more_step k (inl e) = get_or-set_at qs i k (replicate (length (get_or qs i [])) byte) [] (sym e.1) lt
      ∙ (ap (λ w. replicate (length w) byte) here
      ∙ (sym (ap (λ b. if b then replicate (length (get_or ps i [])) byte else get_or ps i []) test_here)
      ∙ ap (λ j. upto block (i + 1) byte ps j) e.1))
  more_step k (inr e) = get_or-set_other qs i k (replicate (length (get_or qs i [])) byte) [] (λ z. e.1 (sym z))
      ∙ (inv k ∙ sym (ap (λ b. if nat_le block k && b then replicate (length (get_or ps k [])) byte else get_or ps k []) (lt_later k i e.1)))

  pub filled_more : (k : ℕ) → get_or (set qs i (replicate (length (get_or qs i [])) byte)) k [] ≡ upto block (i + 1) byte ps k
  filled_more k = more_step k (eqb_tells i k)

-- none is filled yet
pub filled_none : (block byte k : ℕ) (ps : List (List ℕ)) → get_or ps k [] ≡ upto block block byte ps k
filled_none block byte k ps = elim (leb_tells block k) as (λ _. get_or ps k [] ≡ upto block block byte ps k) [
  | inl p ↦ (let a = p.1 in sym (ap (λ d. if d && nat_lt k block then replicate (length (get_or ps k [])) byte else get_or ps k []) p.0 ∙ ap (λ d. if d then replicate (length (get_or ps k [])) byte else get_or ps k []) (le-ltb k block (omega arith))))
  | inr p ↦ sym (ap (λ d. if d && nat_lt k block then replicate (length (get_or ps k [])) byte else get_or ps k []) p.0)
]
