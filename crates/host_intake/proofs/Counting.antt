-- How many of the numbers below n pass a test.
use Rattle.std.proofs.Common.{◌≡◌, ◌≢◌, ◌⊎◌, inl, inr, ℕ, zero, suc, ◌+◌, ◌<◌, ◌≤◌, ◌==◌, Bool, true, false, not, ◌&&◌, cond, List, [], ◌∷◌, ◌++◌, length, filter, refl, sym, ap, subst, ◌∙◌, arith, length-append}
use Rattle.std.specs.List.{range_with_len}
use Rattle.std.proofs.lemmas.Bool.Decides.{eqb_tells}
use Rattle.std.proofs.lemmas.List.Elements.{filter-append}
use Rattle.host_model.specs.{below, count}

suc_is : (n : ℕ) → suc n ≡ n + 1
suc_is n = omega arith

suc_past : (n : ℕ) → suc (n + 1) ≡ suc n + 1
suc_past n = omega arith

same_here : (c : Bool) (x : ℕ) (l m : List ℕ) → length l ≡ length m → length (cond c (x ∷ l) l) ≡ length (cond c (x ∷ m) m)
same_here true x l m e = ap suc e
same_here false x l m e = e

-- two tests that agree on these numbers
pub count_agree : (p q : ℕ → Bool) (a n : ℕ) → ((j : ℕ) → a ≤ j → j < a + n → p j ≡ q j) → count p (range_with_len a n) ≡ count q (range_with_len a n)
count_agree p q a zero h = refl
count_agree p q a (suc n) h = let l = filter p (range_with_len (a + 1) n) in let m = filter q (range_with_len (a + 1) n) in
    ap (λ z. length (cond z (a ∷ l) l)) (h a (omega arith) (omega arith))
    ∙ same_here (q a) a l m (count_agree p q (a + 1) n (λ j lo hi. h j (omega arith) (omega arith)))

-- the test leaves one number out
abbrev pub but_for : ℕ → (ℕ → Bool) → ℕ → Bool
but_for i p j = p j && not (i == j)

but_same : (b : Bool) (i j : ℕ) (e : (i == j) ≡ false) → (b && not (i == j)) ≡ b
but_same true i j e = ap not e
but_same false i j e = refl

but_past : (p : ℕ → Bool) (i a n : ℕ) → i < a → count p (range_with_len a n) ≡ count (but_for i p) (range_with_len a n)
but_past p i a n h = count_agree p (but_for i p) a n (λ j lo hi. past j lo (eqb_tells i j))
  where
    past : (j : ℕ) → a ≤ j → (((i == j) ≡ true) × (i ≡ j)) ⊎ (((i == j) ≡ false) × (i ≢ j)) → p j ≡ but_for i p j
    past j lo (inl s) = absurd (let e = s.1 in omega arith)
    past j lo (inr s) = sym (but_same (p j) i j s.0)

cut_step : (p : ℕ → Bool) (i a n : ℕ) → (((i == a) ≡ true) × (i ≡ a)) ⊎ (((i == a) ≡ false) × (i ≢ a)) → p i ≡ true
    → (a + 1 ≤ i → count p (range_with_len (a + 1) n) ≡ count (but_for i p) (range_with_len (a + 1) n) + 1) → a ≤ i
    → count p (a ∷ range_with_len (a + 1) n) ≡ count (but_for i p) (a ∷ range_with_len (a + 1) n) + 1
cut_step p i a n (inl s) y more lo =
    let l = filter p (range_with_len (a + 1) n) in let m = filter (but_for i p) (range_with_len (a + 1) n) in
    let here : p a ≡ true = subst (λ z. p z ≡ true) s.1 y in
    let out : but_for i p a ≡ false = ap (λ z. z && not (i == a)) here ∙ ap not s.0 in
    let e = s.1 in let rest : length l ≡ length m = but_past p i (a + 1) n (omega arith) in
    ap (λ z. length (cond z (a ∷ l) l)) here ∙ (ap suc rest ∙ (suc_is (length m) ∙ ap (λ z. length (cond z (a ∷ m) m) + 1) (sym out)))
cut_step p i a n (inr s) y more lo =
    let l = filter p (range_with_len (a + 1) n) in let m = filter (but_for i p) (range_with_len (a + 1) n) in
    let same : but_for i p a ≡ p a = but_same (p a) i a s.0 in let ne = s.1 in
    let rest : length l ≡ length m + 1 = more (omega arith) in
    later (p a) a l m rest ∙ ap (λ z. length (cond z (a ∷ m) m) + 1) (sym same)
  where
    later : (b : Bool) (x : ℕ) (l m : List ℕ) → length l ≡ length m + 1 → length (cond b (x ∷ l) l) ≡ length (cond b (x ∷ m) m) + 1
    later true x l m e = ap suc e ∙ suc_past (length m)
    later false x l m e = e

cut_from : (p : ℕ → Bool) (i a n : ℕ) → a ≤ i → i < a + n → p i ≡ true → count p (range_with_len a n) ≡ count (but_for i p) (range_with_len a n) + 1
cut_from p i a zero lo hi y = absurd (omega arith)
cut_from p i a (suc n) lo hi y = cut_step p i a n (eqb_tells i a) y (λ l. cut_from p i (a + 1) n l (omega arith) y) lo

-- one number that passes is left out
pub count_cut : (p : ℕ → Bool) (i n : ℕ) → i < n → p i ≡ true → count p (below n) ≡ count (but_for i p) (below n) + 1
count_cut p i n h y = cut_from p i 0 n (omega arith) (omega arith) y

and_none : (a : ℕ) → a ≡ a + 0
and_none a = omega arith

next_to : (a n : ℕ) → a + 1 + n ≡ a + suc n
next_to a n = omega arith

pub snoc_from : (a n : ℕ) → range_with_len a (suc n) ≡ range_with_len a n ++ (a + n) ∷ []
snoc_from a zero = ap (λ z. z ∷ []) (and_none a)
snoc_from a (suc n) = ap (λ l. a ∷ l) (snoc_from (a + 1) n ∙ ap (λ z. range_with_len (a + 1) n ++ z ∷ []) (next_to a n))

from_zero : (n : ℕ) → 0 + n ≡ n
from_zero n = omega arith

-- the numbers below n + 1
pub below_more : (n : ℕ) → below (n + 1) ≡ below n ++ n ∷ []
below_more n = ap below (sym (suc_is n)) ∙ (snoc_from 0 n ∙ ap (λ z. below n ++ z ∷ []) (from_zero n))

-- one number more passes, or doesn't
pub count_more : (p : ℕ → Bool) (n : ℕ) → p n ≡ true → count p (below (n + 1)) ≡ count p (below n) + 1
count_more p n y = ap (λ l. count p l) (below_more n) ∙ (ap length (filter-append p (below n) (n ∷ [])) ∙ (length-append (filter p (below n)) (filter p (n ∷ [])) ∙ ap (λ b. count p (below n) + length (cond b (n ∷ []) [])) y))

pub count_no_more : (p : ℕ → Bool) (n : ℕ) → p n ≡ false → count p (below (n + 1)) ≡ count p (below n)
count_no_more p n y = ap (λ l. count p l) (below_more n) ∙ (ap length (filter-append p (below n) (n ∷ [])) ∙ (length-append (filter p (below n)) (filter p (n ∷ [])) ∙ (ap (λ b. count p (below n) + length (cond b (n ∷ []) [])) y ∙ omega arith)))
