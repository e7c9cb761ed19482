-- Counts of numbers, and sums over the numbers below a bound.
use Rattle.std.proofs.Common.{◌≡◌, ◌≢◌, ℕ, zero, suc, ◌+◌, ◌<◌, ◌≤◌, cond, List, [], ◌∷◌, ◌++◌, length, sym, refl, ap, ◌∙◌, ne_eqb, eq-eqb, arith}
use mathlib.Core.Logic.{dite}
use native.Mathlib.Decide.{ℕ_discrete, dec_lt}
use Rattle.host_log.specs.{upto, same, occurrences}
use Rattle.host_log.proofs.Totals.{total_append, upto_plus, upto_zero}

pub same_here : (a : ℕ) → same a a ≡ 1
same_here a = ap (λ b. cond b 1 0) (eq-eqb a a refl)

pub same_else : (a b : ℕ) → a ≢ b → same a b ≡ 0
same_else a b ne = ap (λ b. cond b 1 0) (ne_eqb a b ne)

pub count_append : (k : ℕ) (xs ys : List ℕ) → occurrences k (xs ++ ys) ≡ occurrences k xs + occurrences k ys
count_append k xs ys = total_append (same k) xs ys

-- each number stands once below a greater one
upto_same_none : (n x : ℕ) → n ≤ x → upto n (λ k. same k x) ≡ 0
upto_same_none zero x le = refl
upto_same_none (suc n) x le = let more = upto_same_none n x (omega arith) in let last = same_else n x (λ e. absurd (omega arith)) in omega arith

pub upto_same_one : (n x : ℕ) → x < n → upto n (λ k. same k x) ≡ 1
upto_same_one zero x lt = absurd (omega arith)
upto_same_one (suc n) x lt = dite (ℕ_discrete n x)
    (λ e. let more = upto_same_none n x (omega arith) in let last : same n x ≡ 1 = ap (λ y. same n y) (sym e) ∙ same_here n in omega arith)
    (λ ne. let more = upto_same_one n x (omega arith) in let last = same_else n x ne in omega arith)

-- a list of numbers below n has as many as the counts of all these numbers
pub upto_count : (n : ℕ) (xs : List ℕ) → ((k : ℕ) → n ≤ k → occurrences k xs ≡ 0) → upto n (λ k. occurrences k xs) ≡ length xs
upto_count n [] h = upto_zero n (λ k. 0) (λ i lt. refl)
upto_count n (x ∷ xs) h = let more = upto_count n xs (λ k le. let z = h k le in omega arith) in let sum = upto_plus (λ k. same k x) (λ k. occurrences k xs) n in dite (dec_lt x n)
    (λ lt. let one = upto_same_one n x lt in omega arith)
    (λ no. let z = h x (omega arith) in let o = same_here x in absurd (omega arith))

pub upto_count_le : (n : ℕ) (xs : List ℕ) → upto n (λ k. occurrences k xs) ≤ length xs
upto_count_le n [] = let z = upto_zero n (λ k. 0) (λ i lt. refl) in omega arith
upto_count_le n (x ∷ xs) = let more = upto_count_le n xs in let sum = upto_plus (λ k. same k x) (λ k. occurrences k xs) n in dite (dec_lt x n)
    (λ lt. let one = upto_same_one n x lt in omega arith)
    (λ no. let z = upto_same_none n x (omega arith) in omega arith)
