-- A list in which no element stands more often than in another is no longer than it.
use Rattle.std.proofs.Common.{◌≡◌, ℕ, zero, suc, ◌+◌, ◌≤◌, ◌<◌, Bool, true, false, cond, nat_le, List, [], ◌∷◌, length, filter, refl, sym, ap, ◌∙◌, arith, IsTrue}
use Rattle.std.proofs.lemmas.Bool.{leb-true}
use Rattle.std.specs.List.{list_all}
use Rattle.host_model.specs.{count, within_counts}
use Rattle.host_model.proofs.ListTests.{both}

module _ {A : Type 0} (eq : A → A → Bool) (same : (x : A) → eq x x ≡ true) (sound : (x y : A) → eq x y ≡ true → x ≡ y) where
  -- ys without its first element that is x
  abbrev pub without : A → List A → List A
  without x [] = []
  without x (y ∷ ys) = cond (eq x y) ys (y ∷ without x ys)

  abbrev pub times : A → List A → ℕ
  times x ys = count (eq x) ys

  pub times-cons : (x y : A) (ys : List A) → times x (y ∷ ys) ≡ cond (eq x y) 1 0 + times x ys
  times-cons x y ys = elim (eq x y) as (λ b. length (cond b (y ∷ filter (eq x) ys) (filter (eq x) ys)) ≡ cond b 1 0 + times x ys) [
    | true ↦ omega arith
    | false ↦ omega arith
  ]

  -- what is left out is counted once less
  pub times-without : (x z : A) (ys : List A) → 0 < times x ys → times z ys ≡ cond (eq z x) 1 0 + times z (without x ys)
  times-without x z [] h = absurd (omega (arith, h))
  times-without x z (y ∷ ys) h = at (eq x y) refl (times-without x z ys)
    where
      at : (b : Bool) → eq x y ≡ b → (0 < times x ys → times z ys ≡ cond (eq z x) 1 0 + times z (without x ys)) → times z (y ∷ ys) ≡ cond (eq z x) 1 0 + times z (cond (eq x y) ys (y ∷ without x ys))
      at true e ih =
          times-cons z y ys
          ∙ ap (λ w. cond (eq z w) 1 0 + times z ys) (sym (sound x y e))
          ∙ ap (λ b. cond (eq z x) 1 0 + times z (cond b ys (y ∷ without x ys))) (sym e)
      at false e ih =
          let one : times x (y ∷ ys) ≡ 0 + times x ys = times-cons x y ys ∙ ap (λ b. cond b 1 0 + times x ys) e in
          let some : 0 < times x ys = omega (arith, h, one) in
          let two : times z (y ∷ ys) ≡ cond (eq z x) 1 0 + times z (y ∷ without x ys) = omega (arith, times-cons z y ys, ih some, times-cons z y (without x ys)) in
          two ∙ ap (λ b. cond (eq z x) 1 0 + times z (cond b ys (y ∷ without x ys))) (sym e)

  pub length-without : (x : A) (ys : List A) → 0 < times x ys → length ys ≡ suc (length (without x ys))
  length-without x [] h = absurd (omega (arith, h))
  length-without x (y ∷ ys) h = at (eq x y) refl (length-without x ys)
    where
      at : (b : Bool) → eq x y ≡ b → (0 < times x ys → length ys ≡ suc (length (without x ys))) → suc (length ys) ≡ suc (length (cond (eq x y) ys (y ∷ without x ys)))
      at true e ih = ap (λ b. suc (length (cond b ys (y ∷ without x ys)))) (sym e)
      at false e ih =
          let one : times x (y ∷ ys) ≡ 0 + times x ys = times-cons x y ys ∙ ap (λ b. cond b 1 0 + times x ys) e in
          let some : 0 < times x ys = omega (arith, h, one) in
          ap suc (ih some) ∙ ap (λ b. suc (length (cond b ys (y ∷ without x ys)))) (sym e)

  -- no list is longer than one in which each element stands as often
  pub length-counts : (xs ys : List A) → ((z : A) → times z xs ≤ times z ys) → length xs ≤ length ys
  length-counts [] ys h = omega arith
  length-counts (x ∷ xs) ys h =
      let one : times x (x ∷ xs) ≡ 1 + times x xs = times-cons x x xs ∙ ap (λ b. cond b 1 0 + times x xs) (same x) in
      let some : 0 < times x ys = omega (arith, h x, one) in
      let rest : length xs ≤ length (without x ys) = length-counts xs (without x ys) (λ z. omega (arith, h z, times-cons z x xs, times-without x z ys some)) in
      omega (arith, rest, length-without x ys some)

  absent : (z : A) (xs : List A) (test : A → Bool) → list_all test xs ≡ true → (0 < times z xs) → IsTrue (test z)
  absent z [] test e h = absurd (omega (arith, h))
  absent z (x ∷ xs) test e h = at (eq z x) refl (absent z xs test (both (test x) (list_all test xs) e).1)
    where
      at : (b : Bool) → eq z x ≡ b → (0 < times z xs → IsTrue (test z)) → IsTrue (test z)
      at true f ih = ap test (sound z x f) ∙ (both (test x) (list_all test xs) e).0
      at false f ih =
          let one : times z (x ∷ xs) ≡ 0 + times z xs = times-cons z x xs ∙ ap (λ b. cond b 1 0 + times z xs) f in
          ih (omega (arith, h, one))

  -- from the test to the fact of every element
  pub counted : (xs ys : List A) → within_counts eq xs ys ≡ true → (z : A) → times z xs ≤ times z ys
  counted xs ys e z = at (times z xs) refl
    where
      at : (n : ℕ) → times z xs ≡ n → times z xs ≤ times z ys
      at zero f = omega (arith, f)
      at (suc n) f = leb-true (times z xs) (times z ys) (absent z xs (λ x. nat_le (times x xs) (times x ys)) e (omega (arith, f)))

  pub length-within_counts : (xs ys : List A) → within_counts eq xs ys ≡ true → length xs ≤ length ys
  length-within_counts xs ys e = length-counts xs ys (counted xs ys e)
