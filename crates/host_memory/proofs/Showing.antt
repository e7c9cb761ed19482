-- Pages that are copied one after the other.
use Rattle.std.proofs.Common.{◌≡◌, ℕ, zero, suc, ◌+◌, ◌<◌, List, [], ◌∷◌, ◌++◌, flat_map, refl, sym, ap, ◌∙◌, arith, append-nil}
use Rattle.std.specs.List.{range_with_len}
use Rattle.std.proofs.lemmas.Grind.{flat_map-append}
use Rattle.std.proofs.lemmas.List.Concat.{flat_map-cons}

range_more : (a n j : ℕ) → a + n ≡ j → range_with_len a (suc n) ≡ range_with_len a n ++ j ∷ []
range_more a zero j e = ap (λ x. x ∷ []) (let z : a ≡ j = omega arith in z)
range_more a (suc n) j e = ap (λ l. a ∷ l) (range_more (a + 1) n j (omega arith))

pub copied_more : {A : Type 0} (f : ℕ → List A) (a n : ℕ) → flat_map f (range_with_len a (n + 1)) ≡ flat_map f (range_with_len a n) ++ f (a + n)
copied_more f a n =
    let one : n + 1 ≡ suc n = omega arith in
    ap (λ k. flat_map f (range_with_len a k)) one
    ∙ (ap (λ l. flat_map f l) (range_more a n (a + n) refl)
    ∙ (flat_map-append f (range_with_len a n) ((a + n) ∷ [])
    ∙ ap (λ l. flat_map f (range_with_len a n) ++ l) (append-nil (f (a + n)))))

-- pages that are alike at these blocks
pub same_blocks : {A : Type 0} (f g : ℕ → List A) (a n : ℕ) → ((k : ℕ) → k < a + n → f k ≡ g k) → flat_map f (range_with_len a n) ≡ flat_map g (range_with_len a n)
same_blocks f g a zero e = refl
same_blocks f g a (suc n) e =
    flat_map-cons f a (range_with_len (a + 1) n)
    ∙ (ap (λ l. l ++ flat_map f (range_with_len (a + 1) n)) (e a (omega arith))
    ∙ (ap (λ l. g a ++ l) (same_blocks f g (a + 1) n (λ k lt. e k (omega arith)))
    ∙ sym (flat_map-cons g a (range_with_len (a + 1) n))))
