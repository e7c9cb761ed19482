-- Bytes that are added one piece after the other.
use Rattle.std.proofs.Common.{◌≡◌, ℕ, zero, suc, ◌+◌, List, [], ◌∷◌, ◌++◌, replicate, sym, ap, ◌∙◌, arith}
use Rattle.std.proofs.lemmas.Grind.{replicate_next}
use Rattle.std.proofs.lemmas.List.{append-nil, append_assoc, flat_map_more}
use Rattle.std.specs.List.{flat_map, range_with_len}
use Rattle.host_gpt.specs.{byte_of, filled, usable_blocks, Fill}

pub filled_none : (xs : List ℕ) (byte : ℕ) → xs ≡ xs ++ filled 0 byte
unfolding filled
filled_none xs byte = sym (append-nil xs)

pub filled_more : (xs : List ℕ) (n byte : ℕ) → (xs ++ filled n byte) ++ byte ∷ [] ≡ xs ++ filled (n + 1) byte
unfolding filled
filled_more xs n byte = append_assoc xs (replicate n byte) (byte ∷ []) ∙ ap (λ (l : List ℕ). xs ++ l) (sym (replicate_next n byte))

range_more : (a n : ℕ) → range_with_len a (suc n) ≡ range_with_len a n ++ (a + n) ∷ []
range_more a zero = let e : a ≡ a + 0 = omega arith in ap (λ (k : ℕ). k ∷ []) e
range_more a (suc n) =
    let e : a + 1 + n ≡ a + suc n = omega arith in
    ap (λ (l : List ℕ). a ∷ l) (range_more (a + 1) n ∙ ap (λ (k : ℕ). range_with_len (a + 1) n ++ k ∷ []) e)

-- one usable block more
pub usable_more : (xs : List ℕ) (fill : Fill) (b n : ℕ) → (xs ++ usable_blocks fill b n) ++ filled 512 (byte_of fill (b + n)) ≡ xs ++ usable_blocks fill b (n + 1)
usable_more xs fill b n =
    let next : n + 1 ≡ suc n = omega arith in
    flat_map_more (λ (k : ℕ). filled 512 (byte_of fill k)) xs (range_with_len b n) (b + n)
    ∙ ap (λ (l : List ℕ). xs ++ flat_map (λ (k : ℕ). filled 512 (byte_of fill k)) l) (sym (range_more b n) ∙ ap (λ (m : ℕ). range_with_len b m) (sym next))
