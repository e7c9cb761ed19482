-- A copy of an image in memory: its blocks, and where they come from.
use Rattle.std.proofs.Common.{◌≡◌, ℕ, ◌*◌, ◌/◌, ◌+◌, ◌<◌, List, length, sym, ◌∙◌, ap, subst, arith}
use Rattle.std.proofs.lemmas.Nat.{div-mul-add}
use Rattle.host_block.specs.{DiskState, IsImage, IsOfSize, fresh, IsBlockSize}
use Rattle.host_io.specs.{bytes_of, image_of, cut_of_size, length-cut, state_of}
use Rattle.host_io.specs.declared.mem_disk.MemDisk.{MemDisk}
use Rattle.host_io.proofs.CopyLemmas.{fresh_bytes_proof, fresh_is_image_proof, joined_is_cut_proof}
use Rattle.host_start.specs.{image_in, ImageCopy}

of_size : (d : MemDisk) → IsOfSize d.blocks d.size (state_of d)
of_size d = cut_of_size d.blocks d.size d.bytes.items d.waiting.items d.whole d.fitting

-- a copy has as many blocks as it says
pub length-image_in : (copy : ImageCopy) → length (image_in copy) ≡ copy.blocks
length-image_in copy = ap (λ (s : DiskState). length s.durable) (sym copy.fresh) ∙ (of_size copy.disk).count ∙ copy.counted

-- so many blocks are cut out of their bytes
pub length-image_of : (size blocks : ℕ) (bytes : List ℕ) → 0 < size → length bytes ≡ blocks * size → length (image_of size bytes) ≡ blocks
length-image_of size blocks bytes some long =
    let whole : length bytes ≡ blocks * size + 0 = omega (arith, long) in
    length-cut size (length bytes / size) bytes ∙ ap (λ (n : ℕ). n / size) whole ∙ div-mul-add blocks size 0 some

-- the bytes read from all blocks of a disk that was just attached are cut apart into its image
pub copied_image : (size blocks n : ℕ) (image : List (List ℕ)) (bytes : List ℕ) (s : DiskState) → 0 < size → s ≡ fresh image → IsOfSize blocks size s → n ≡ length image → bytes ≡ bytes_of s n
    → image_of size bytes ≡ image
copied_image size blocks n image bytes s some attached sized count read =
    let joined = read ∙ (λ i. bytes_of (attached i) (count i)) ∙ fresh_bytes_proof image in
    let whole : IsImage size image = fresh_is_image_proof blocks size image (subst (λ (t : DiskState). IsOfSize blocks size t) attached sized) in
    ap (λ (l : List ℕ). image_of size l) joined ∙ joined_is_cut_proof size image some whole

-- a size of blocks is more than none
pub some_bytes : (size n : ℕ) → n ≡ size → IsBlockSize n → 0 < size
some_bytes size n is allowed = grind (arith, is, allowed)
