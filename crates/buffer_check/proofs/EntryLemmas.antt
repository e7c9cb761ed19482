-- One entry of a record more, at the front.
use Rattle.std.proofs.Common.{◌≡◌, ◌↔◌, ◌-◌, ◌≤◌, Bool, cond, IsTrue, List, [], ◌∷◌, length, take, drop, get_or, filter, sym, ap, ◌∙◌, arith}
use Rattle.record_check.proofs.CarryLemmas.{tail_is}

-- a list from its first element and what a slice pattern calls the rest
pub split : {A : Type 0} (xs : List A) (x : A) → 1 ≤ length xs → x ≡ get_or xs 0 x → xs ≡ x ∷ take (length xs - 1) (drop 1 xs)
split [] x one at = absurd (omega (arith, one))
split (y ∷ ys) x one at = ap (λ z. z ∷ ys) (sym at) ∙ ap (λ zs. x ∷ zs) (sym (tail_is y ys))

rest_of : {A : Type 0} → List A → List A
rest_of [] = []
rest_of (x ∷ xs) = xs

same_rest : {A : Type 0} (x y : A) (xs ys : List A) → x ∷ xs ≡ y ∷ ys → xs ≡ ys
unfolding rest_of
same_rest x y xs ys e = ap rest_of e

-- the first is the one wanted, so the whole is as wanted just where the rest is
pub cons_on : {A : Type 0} (own : List A) (x wanted : A) (target : List A) (goes : Bool) → 1 ≤ length own → x ≡ get_or own 0 x → x ≡ wanted
    → (IsTrue goes ↔ (take (length own - 1) (drop 1 own) ≡ target)) → IsTrue goes ↔ (own ≡ wanted ∷ target)
cons_on own x wanted target goes one at is h =
    let whole : own ≡ x ∷ take (length own - 1) (drop 1 own) = split own x one at in (
      λ e. whole ∙ ap (λ y. y ∷ take (length own - 1) (drop 1 own)) is ∙ ap (λ ys. wanted ∷ ys) (h.0 e),
      λ e. h.1 (same_rest x wanted _ target (sym whole ∙ e)),
    )

filter_at : {A : Type 0} (p : A → Bool) (x : A) (xs : List A) (b : Bool) → p x ≡ b → filter p (x ∷ xs) ≡ cond b (x ∷ filter p xs) (filter p xs)
filter_at p x xs b e = ap (λ c. cond c (x ∷ filter p xs) (filter p xs)) e

pub filter_split : {A : Type 0} (p : A → Bool) (xs : List A) (x : A) (b : Bool) → 1 ≤ length xs → x ≡ get_or xs 0 x → p x ≡ b
    → filter p xs ≡ cond b (x ∷ filter p (take (length xs - 1) (drop 1 xs))) (filter p (take (length xs - 1) (drop 1 xs)))
filter_split p xs x b one at e = ap (filter p) (split xs x one at) ∙ filter_at p x (take (length xs - 1) (drop 1 xs)) b e
