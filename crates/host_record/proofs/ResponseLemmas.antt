-- The codec of a response, both ways round.
use Rattle.std.proofs.Common.{◌≡◌, ℕ, ◌^◌, ◌<◌, Bool, true, false, ◌&&◌, ◌==◌, List, ◌++◌, [], ◌∷◌, length, take, drop, replicate, slice_index, Some, refl, sym, ap, ◌∙◌, arith, eqb→eq, Fits, T, subst}
use Rattle.std.proofs.lemmas.List.{append-nil, drop_all, length-take, length-drop, take-append-drop, drop-drop}
use Rattle.std.proofs.lemmas.Int.{of_z-to_z, to_z-of_z}
use Rattle.std.proofs.Math.Facts.{Fits-of_z}
use Rattle.std.specs.Int.{w32, cast_signed, cast_unsigned}
use Rattle.std.specs.List.{list_all}
use Rattle.std.specs.Prelude.{FitsSigned}
use Rattle.byteorder.specs.Endian.{little_number, little_bytes}
use Rattle.byteorder.specs.Numbers.{little_from-lt, little_number-reads_back}
use Rattle.host_record.specs.declared.response.Response.{Response}
use Rattle.host_record.specs.{all_zero, is_padded, response_bytes, response_fields, response_of}
use Rattle.host_record.proofs.ByteLemmas.{little_bytes-at}

both : (a b : Bool) → a && b ≡ true → (a ≡ true) × (b ≡ true)
both true true e = (refl, refl)
both true false e = absurd (cc e)
both false b e = absurd (cc e)

-- bytes that are all zero
zeros : (xs : List ℕ) → all_zero xs ≡ true → xs ≡ replicate (length xs) 0
unfolding all_zero
zeros [] e = refl
zeros (x ∷ xs) e =
    let parts : (x == 0 ≡ true) × (list_all (λ b. b == 0) xs ≡ true) = both (x == 0) (list_all (λ b. b == 0) xs) e in
    ap (λ (b : ℕ). b ∷ xs) (eqb→eq x 0 (subst T (sym parts.0) tt)) ∙ ap (λ (r : List ℕ). 0 ∷ r) (zeros xs parts.1)

-- the bytes of the response that has 32 bytes are these bytes, where the free ones are zero
pub bytes_of_response : (b : List ℕ) → is_padded b ≡ true → length b ≡ 32 → ((k : ℕ) → slice_index b k < 256)
    → response_bytes (response_fields b) ≡ b
unfolding is_padded response_fields
bytes_of_response b padded len fits =
    let a : Response = response_fields b in
    let parts : (all_zero (take 2 (drop 10 b)) ≡ true) × (all_zero (take 16 (drop 16 b)) ≡ true) = both (all_zero (take 2 (drop 10 b))) (all_zero (take 16 (drop 16 b))) padded in
    let len16 : length (take 16 (drop 16 b)) ≡ 16 = omega (arith, length-take 16 (drop 16 b), length-drop 16 b) in
    let len10 : length (take 2 (drop 10 b)) ≡ 2 = omega (arith, length-take 2 (drop 10 b), length-drop 10 b) in
    let zeros16 : take 16 (drop 16 b) ≡ replicate 16 0 = zeros (take 16 (drop 16 b)) parts.1 ∙ ap (λ (n : ℕ). replicate n 0) len16 in
    let zeros10 : take 2 (drop 10 b) ≡ replicate 2 0 = zeros (take 2 (drop 10 b)) parts.0 ∙ ap (λ (n : ℕ). replicate n 0) len10 in
    let none : drop 32 b ≡ [] = drop_all 32 b (omega arith) in
    let at16 : replicate 16 0 ≡ drop 16 b =
    sym zeros16 ∙ sym (append-nil (take 16 (drop 16 b))) ∙ ap (λ (bs : List ℕ). take 16 (drop 16 b) ++ bs) (sym none ∙ sym (drop-drop 16 16 b)) ∙ take-append-drop 16 (drop 16 b) in
    let at12 = ap (λ (bs : List ℕ). little_bytes 4 a.count ++ bs) at16 ∙ little_bytes-at 12 4 16 b fits refl (omega arith) in
    let at10 : replicate 2 0 ++ little_bytes 4 a.count ++ replicate 16 0 ≡ drop 10 b =
    ap (λ (bs : List ℕ). replicate 2 0 ++ bs) at12 ∙ ap (λ (bs : List ℕ). bs ++ drop 12 b) (sym zeros10) ∙ ap (λ (bs : List ℕ). take 2 (drop 10 b) ++ bs) (sym (drop-drop 2 10 b)) ∙ take-append-drop 2 (drop 10 b) in
    let at8 = ap (λ (bs : List ℕ). little_bytes 2 a.group ++ bs) at10 ∙ little_bytes-at 8 2 10 b fits refl (omega arith) in
    let at4 = ap (λ (bs : List ℕ). little_bytes 4 a.reqid ++ bs) at8 ∙ little_bytes-at 4 4 8 b fits refl (omega arith) in
    let number : cast_unsigned w32 a.status ≡ little_number 4 b = of_z-to_z w32 (little_number 4 b) (little_from-lt 0 4 b fits) in
    ap (λ (n : ℕ). little_bytes 4 n ++ little_bytes 4 a.reqid ++ little_bytes 2 a.group ++ replicate 2 0 ++ little_bytes 4 a.count ++ replicate 16 0) number
    ∙ ap (λ (bs : List ℕ). little_bytes 4 (little_number 4 b) ++ bs) at4 ∙ little_bytes-at 0 4 4 b fits refl (omega arith)

-- two responses with the same fields
same_response : (a b : Response) → a.status ≡ b.status → a.reqid ≡ b.reqid → a.group ≡ b.group → a.count ≡ b.count → a ≡ b
same_response a b e0 e1 e2 e3 = grind arith

fits_four : (n : ℕ) → Fits w32 n → n < 256 ^ 4
fits_four n h = omega (arith, h)

-- the response that has the bytes of a response is that response
pub response_of_bytes : (a : Response) → FitsSigned w32 a.status → a.reqid < 2 ^ 32 → a.group < 2 ^ 16 → a.count < 2 ^ 32
    → response_of (response_bytes a) ≡ Some a
unfolding is_padded response_fields all_zero
response_of_bytes a status reqid group count =
    let at10 : List ℕ = replicate 2 0 ++ little_bytes 4 a.count ++ replicate 16 0 in
    let number : little_number 4 (response_bytes a) ≡ cast_unsigned w32 a.status =
    little_number-reads_back 4 (cast_unsigned w32 a.status) (little_bytes 4 a.reqid ++ little_bytes 2 a.group ++ at10) (fits_four (cast_unsigned w32 a.status) (Fits-of_z status)) in
    ap (λ (x : Response). Some x) (same_response (response_fields (response_bytes a)) a
    (ap (λ (n : ℕ). cast_signed w32 n) number ∙ to_z-of_z w32 a.status status)
    (little_number-reads_back 4 a.reqid (little_bytes 2 a.group ++ at10) reqid)
    (little_number-reads_back 2 a.group at10 group)
    (little_number-reads_back 4 a.count (replicate 16 0) count))
