-- Blocks of an image, read one by one.
use Rattle.std.proofs.Common.{◌≡◌, ℕ, ◌+◌, ◌≤◌, ◌<◌, List, [], ◌∷◌, ◌++◌, length, take, drop, get_or, sym, ◌∙◌, ap, refl, arith}
use Rattle.std.specs.List.{flat_map}
use Rattle.std.proofs.lemmas.List.{append_assoc, take_more, take-append-drop, take-append-le, flat_map_more, get_or-drop, length-drop}
use Rattle.host_block.specs.{DiskState, block_at, read_of, IsOfSize}
use Rattle.host_block.proofs.DiskLemmas.{block_at-settled, length-settled, length-read_of}
use Rattle.host_gpt.specs.{current_image}

abbrev pub joined : List (List ℕ) → List ℕ
joined blocks = flat_map (λ b. b) blocks

pub length-current_image : (s : DiskState) → length (current_image s) ≡ length s.durable
length-current_image s = length-settled s.pending s.durable

-- a read gives the image's block
pub read_of-image : (s : DiskState) (b : ℕ) → b < length s.durable → read_of s b ≡ block_at (current_image s) b
read_of-image s b within = sym (block_at-settled s.pending s.durable b within)

joined-append : (xs ys : List (List ℕ)) → joined (xs ++ ys) ≡ joined xs ++ joined ys
joined-append [] ys = refl
joined-append (x ∷ xs) ys = ap (λ (l : List ℕ). x ++ l) (joined-append xs ys) ∙ sym (append_assoc x (joined xs) (joined ys))

-- one block more
pub joined_more : (image : List (List ℕ)) (first k : ℕ) → first + k < length image → joined (take (k + 1) (drop first image)) ≡ joined (take k (drop first image)) ++ block_at image (first + k)
joined_more image first k within =
    ap joined (take_more (drop first image) k [] (omega (arith, length-drop first image)))
    ∙ sym (flat_map_more (λ b. b) [] (take k (drop first image)) (get_or (drop first image) k []))
    ∙ ap (λ (b : List ℕ). joined (take k (drop first image)) ++ b) (get_or-drop first image k [])

-- the first bytes of the first blocks are the first bytes of all
pub front_of_blocks : (image : List (List ℕ)) (first count len : ℕ) (bytes : List ℕ) → bytes ≡ joined (take count (drop first image)) → len ≤ length bytes → take len bytes ≡ take len (joined (drop first image))
front_of_blocks image first count len bytes is within =
    let parts : joined (drop first image) ≡ bytes ++ joined (drop count (drop first image)) =
    ap joined (sym (take-append-drop count (drop first image)))
    ∙ joined-append (take count (drop first image)) (drop count (drop first image))
    ∙ ap (λ (l : List ℕ). l ++ joined (drop count (drop first image))) (sym is) in
    sym (ap (λ (l : List ℕ). take len l) parts ∙ take-append-le len bytes (joined (drop count (drop first image))) within)

pub image_length : (blocks size : ℕ) (s : DiskState) → IsOfSize blocks size s → length (current_image s) ≡ blocks
image_length blocks size s of_size = length-current_image s ∙ of_size.count

pub block_length : (blocks size : ℕ) (s : DiskState) (b : ℕ) → IsOfSize blocks size s → b < blocks → length (block_at (current_image s) b) ≡ size
block_length blocks size s b of_size below =
    ap (λ (l : List ℕ). length l) (sym (read_of-image s b (omega (arith, of_size.count)))) ∙ length-read_of blocks size s b of_size below
