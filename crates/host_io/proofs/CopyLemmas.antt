-- The bytes of a whole disk, joined and cut apart.
use Rattle.std.proofs.Common.{◌≡◌, ℕ, zero, suc, ◌+◌, ◌*◌, ◌/◌, ◌≤◌, List, [], ◌∷◌, ◌++◌, length, take, refl, sym, ◌∙◌, ap, arith, length-append}
use Rattle.std.specs.List.{flat_map}
use Rattle.std.proofs.lemmas.List.{take_more, take_all, flat_map_more, take_at, drop_at}
use Rattle.std.proofs.lemmas.Nat.{div-mul-add}
use Rattle.std.proofs.lemmas.List.Elements.{All-head, All-tail, All-from_get_or}
use Rattle.host_block.specs.{IsImage, fresh, block_at}
use Rattle.host_io.specs.{joined_blocks, bytes_of, cut, FreshBytes, FreshIsImage, JoinedIsCut}

front : (image : List (List ℕ)) (n : ℕ) → n ≤ length image → bytes_of (fresh image) n ≡ flat_map (λ b. b) (take n image)
front image zero within = refl
front image (suc n) within =
    let same : n + 1 ≡ suc n = omega arith in
    ap (λ (l : List ℕ). l ++ block_at image n) (front image n (omega arith))
    ∙ flat_map_more (λ b. b) [] (take n image) (block_at image n)
    ∙ ap (λ (l : List (List ℕ)). flat_map (λ b. b) l) (sym (take_more image n [] (omega arith)))
    ∙ ap (λ (k : ℕ). flat_map (λ b. b) (take k image)) same

pub fresh_bytes_proof : FreshBytes
fresh_bytes_proof image = front image (length image) (omega arith) ∙ ap (λ (l : List (List ℕ)). flat_map (λ b. b) l) (take_all (length image) image (omega arith))

pub fresh_is_image_proof : FreshIsImage
fresh_is_image_proof blocks size image of_size = All-from_get_or (λ (block : List ℕ). length block ≡ size) image [] (λ b within. of_size.each b (omega (arith, within, of_size.count)))

pub length-joined : (size : ℕ) (image : List (List ℕ)) → IsImage size image → length (joined_blocks image) ≡ length image * size
length-joined size [] whole = let none : 0 ≡ 0 * size = omega arith in none
length-joined size (block ∷ image) whole =
    let more : size + length image * size ≡ suc (length image) * size = omega arith in
    length-append block (joined_blocks image)
    ∙ (λ i. All-head (λ (b : List ℕ). length b ≡ size) block image whole i + length-joined size image (All-tail (λ (b : List ℕ). length b ≡ size) block image whole) i)
    ∙ more

pub cut-joined : (size : ℕ) (image : List (List ℕ)) → IsImage size image → cut size (length image) (joined_blocks image) ≡ image
cut-joined size [] whole = refl
cut-joined size (block ∷ image) whole =
    let long : length block ≡ size = All-head (λ (b : List ℕ). length b ≡ size) block image whole in
    (λ i. take_at block (joined_blocks image) size long i ∷ cut size (length image) (drop_at block (joined_blocks image) size long i))
    ∙ ap (λ (l : List (List ℕ)). block ∷ l) (cut-joined size image (All-tail (λ (b : List ℕ). length b ≡ size) block image whole))

pub joined_is_cut_proof : JoinedIsCut
joined_is_cut_proof size image some whole =
    let whole_blocks : length (joined_blocks image) ≡ length image * size + 0 = let long = length-joined size image whole in omega (arith, long) in
    let count : length (joined_blocks image) / size ≡ length image = ap (λ (n : ℕ). n / size) whole_blocks ∙ div-mul-add (length image) size 0 some in
    ap (λ (n : ℕ). cut size n (joined_blocks image)) count ∙ cut-joined size image whole
