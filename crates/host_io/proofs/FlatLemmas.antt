-- Blocks in one run of bytes.
use Rattle.std.proofs.Common.{◌≡◌, ◌≢◌, inl, inr, ℕ, zero, suc, ◌+◌, ◌-◌, ◌*◌, ◌/◌, ◌<◌, ◌≤◌, List, [], ◌∷◌, ◌++◌, length, take, drop, set, get_or, refl, sym, ◌∙◌, ap, arith, length-append, length-drop, append_assoc}
use Rattle.std.specs.Prelude.{All}
use Rattle.std.proofs.lemmas.Nat.{mul-le}
use Rattle.std.proofs.lemmas.List.{drop_more, get_or-set_same, get_or-set_other, take_at, drop_at, drop-drop, take-take, drop-take, take-map, drop-map, length-take-le, take-append-drop}
use Rattle.std.proofs.lemmas.Slice.{drop-append-drop}
use Rattle.std.proofs.lemmas.List.Elements.{All-head, All-tail, All-take}
use Rattle.host_block.specs.{DiskState, picked, block_at, settled, overwritten, read_of, fresh, synced, part_synced}
use Rattle.host_block.proofs.DiskLemmas.{put_here, put_elsewhere, length-picked}
use Rattle.std.proofs.lemmas.Bool.{cases_eq}
use Rattle.host_io.specs.{cut, image_of, put_at, put_all, block_fits, block_at-cut, length-cut, cut_of_size, pairs_of, IsFitting}
use Rattle.host_io.specs.declared.flat.Waiting.{Waiting}

pub length-put_at : (size : ℕ) (bytes : List ℕ) (w : ℕ × List ℕ) → w.0 * size + size ≤ length bytes → length w.1 ≡ size → length (put_at size bytes w) ≡ length bytes
length-put_at size bytes w within long =
    omega (arith, length-append (take (w.0 * size) bytes ++ w.1) (drop (w.0 * size + size) bytes), length-append (take (w.0 * size) bytes) w.1, length-drop (w.0 * size + size) bytes, length-take-le (w.0 * size) bytes (omega arith))

-- a block put into its place leaves the bytes behind the last block
pub drop-put_at : (size blocks : ℕ) (bytes : List ℕ) (w : ℕ × List ℕ) → w.0 < blocks → blocks * size ≤ length bytes → length w.1 ≡ size → drop (blocks * size) (put_at size bytes w) ≡ drop (blocks * size) bytes
drop-put_at size blocks bytes w below whole long =
    let fits = block_fits w.0 blocks size below in
    drop-append-drop (w.0 * size + size) bytes (take (w.0 * size) bytes ++ w.1) (blocks * size) fits
    (omega (arith, length-append (take (w.0 * size) bytes) w.1, length-take-le (w.0 * size) bytes (omega arith)))

pub drop-put_all : (size n : ℕ) (ws : List Waiting) (bytes : List ℕ) → n * size ≤ length bytes → All (IsFitting n size) ws → drop (n * size) (put_all size bytes (pairs_of ws)) ≡ drop (n * size) bytes
drop-put_all size n [] bytes whole fits = refl
drop-put_all size n (w ∷ ws) bytes whole fits =
    let fit = All-head (IsFitting n size) w ws fits in
    let same_length : length (put_at size bytes (w.block, w.bytes)) ≡ length bytes = length-put_at size bytes (w.block, w.bytes) (omega (arith, block_fits w.block n size fit.0)) fit.1 in
    drop-put_all size n ws (put_at size bytes (w.block, w.bytes)) (omega arith) (All-tail (IsFitting n size) w ws fits)
    ∙ drop-put_at size n bytes (w.block, w.bytes) fit.0 whole fit.1

take_sum : (m n : ℕ) (xs : List ℕ) → take (m + n) xs ≡ take m xs ++ take n (drop m xs)
take_sum m n xs = sym (take-append-drop m (take (m + n) xs)) ∙ (λ i. take-take m (m + n) xs (omega arith) i ++ drop-take m n xs i)

put_at_later : (size : ℕ) (bytes : List ℕ) (b : ℕ) (new : List ℕ) → put_at size bytes (suc b, new) ≡ take size bytes ++ put_at size (drop size bytes) (b, new)
put_at_later size bytes b new =
    let from : suc b * size ≡ size + b * size = omega arith in
    let to : suc b * size + size ≡ size + (b * size + size) = omega arith in
    let front : take (suc b * size) bytes ≡ take size bytes ++ take (b * size) (drop size bytes) = ap (λ (k : ℕ). take k bytes) from ∙ take_sum size (b * size) bytes in
    let back : drop (suc b * size + size) bytes ≡ drop (b * size + size) (drop size bytes) = ap (λ (k : ℕ). drop k bytes) to ∙ sym (drop-drop (b * size + size) size bytes) in
    let joined : put_at size bytes (suc b, new) ≡ ((take size bytes ++ take (b * size) (drop size bytes)) ++ new) ++ drop (b * size + size) (drop size bytes) = (λ i. (front i ++ new) ++ back i) in
    joined ∙ simp append_assoc

-- to put a block into the bytes is to put it into the blocks
pub cut-put_at : (size n : ℕ) (bytes : List ℕ) (b : ℕ) (new : List ℕ) → b < n → n * size ≤ length bytes → length new ≡ size
    → cut size n (put_at size bytes (b, new)) ≡ set (cut size n bytes) b new
cut-put_at size zero bytes b new below whole long = absurd (omega arith)
cut-put_at size (suc n) bytes zero new below whole long =
    let zero_at : 0 * size ≡ 0 = omega arith in
    let none : take (0 * size) bytes ++ new ≡ new = ap (λ (k : ℕ). take k bytes ++ new) zero_at in
    let from : 0 * size + size ≡ size = omega arith in
    let same : put_at size bytes (0, new) ≡ new ++ drop size bytes = (λ i. none i ++ drop (from i) bytes) in
    ap (λ (l : List ℕ). cut size (suc n) l) same
    ∙ (λ i. take_at new (drop size bytes) size long i ∷ cut size n (drop_at new (drop size bytes) size long i))
cut-put_at size (suc n) bytes (suc b) new below whole long =
    let head = take size bytes in
    let rest = drop size bytes in
    let head_long : length head ≡ size = length-take-le size bytes (omega (arith, mul-le 1 size (suc n) size (omega arith) (omega arith))) in
    let split : bytes ≡ head ++ rest = sym (take-append-drop size bytes) in
    let same : put_at size bytes (suc b, new) ≡ head ++ put_at size rest (b, new) = put_at_later size bytes b new in
    ap (λ (l : List ℕ). cut size (suc n) l) same
    ∙ (λ i. take_at head (put_at size rest (b, new)) size head_long i ∷ cut size n (drop_at head (put_at size rest (b, new)) size head_long i))
    ∙ ap (λ (l : List (List ℕ)). head ∷ l) (cut-put_at size n rest b new (omega arith) (omega (arith, length-drop size bytes)) long)

-- the same for writes in order
pub cut-put_all : (size n : ℕ) (ws : List Waiting) (bytes : List ℕ) → n * size ≤ length bytes → All (IsFitting n size) ws
    → (cut size n (put_all size bytes (pairs_of ws)) ≡ settled (cut size n bytes) (pairs_of ws)) × (length (put_all size bytes (pairs_of ws)) ≡ length bytes)
cut-put_all size n [] bytes whole fits = (refl, refl)
cut-put_all size n (w ∷ ws) bytes whole fits =
    let fit = All-head (IsFitting n size) w ws fits in
    let same_length : length (put_at size bytes (w.block, w.bytes)) ≡ length bytes = length-put_at size bytes (w.block, w.bytes) (omega (arith, block_fits w.block n size fit.0)) fit.1 in
    let rest = cut-put_all size n ws (put_at size bytes (w.block, w.bytes)) (omega arith) (All-tail (IsFitting n size) w ws fits) in
    (rest.0 ∙ ap (λ (blocks : List (List ℕ)). settled blocks (pairs_of ws)) (cut-put_at size n bytes w.block w.bytes fit.0 whole fit.1), rest.1 ∙ same_length)

-- the state of a disk whose durable blocks stand in one run of bytes
abbrev pub flat_state : ℕ → ℕ → List ℕ → List Waiting → DiskState
flat_state size blocks bytes waiting = record { durable = cut size blocks bytes; pending = pairs_of waiting }

-- after an attach
pub attached_state : (size size' len : ℕ) (image bytes : List ℕ) (waiting : List Waiting) → size' ≡ size → len ≡ length bytes → bytes ≡ image → waiting ≡ []
    → flat_state size' (len / size') bytes waiting ≡ fresh (image_of size image)
attached_state size size' len image bytes waiting same_size same_len same_bytes none =
    let count : len / size' ≡ length image / size = (λ i. (same_len ∙ ap length same_bytes) i / same_size i) in
    (λ i. record { durable = cut (same_size i) (count i) (same_bytes i); pending = pairs_of (none i) })

-- a block as the code reads it
pub block_read : (size blocks b : ℕ) (bytes : List ℕ) → b < blocks → take (((b * size) + size) - (b * size)) (drop (b * size) bytes) ≡ block_at (cut size blocks bytes) b
block_read size blocks b bytes below =
    let width : ((b * size) + size) - (b * size) ≡ size = omega arith in
    ap (λ (n : ℕ). take n (drop (b * size) bytes)) width ∙ sym (block_at-cut size blocks b bytes below)

-- what a read gives
pub read_state : (size blocks b : ℕ) (bytes bytes' got : List ℕ) (waiting waiting' : List Waiting) → b < blocks → bytes' ≡ bytes → waiting' ≡ waiting
    → got ≡ overwritten (pairs_of waiting') b (take (((b * size) + size) - (b * size)) (drop (b * size) bytes')) → got ≡ read_of (flat_state size blocks bytes waiting) b
read_state size blocks b bytes bytes' got waiting waiting' below same_bytes same_waiting is =
    let width : ((b * size) + size) - (b * size) ≡ size = omega arith in
    let at : take (((b * size) + size) - (b * size)) (drop (b * size) bytes') ≡ block_at (cut size blocks bytes) b = (λ i. take (width i) (drop (b * size) (same_bytes i))) ∙ sym (block_at-cut size blocks b bytes below) in
    is ∙ (λ i. overwritten (pairs_of (same_waiting i)) b (at i))

-- after a sync that succeeds
pub synced_state : (size blocks : ℕ) (old new : List ℕ) (waiting waiting' left : List Waiting) → blocks * size ≤ length old → All (IsFitting blocks size) waiting → waiting' ≡ waiting
    → new ≡ put_all size old (pairs_of waiting') → left ≡ [] → flat_state size blocks new left ≡ synced (flat_state size blocks old waiting)
synced_state size blocks old new waiting waiting' left whole fitting same is none =
    let reached : cut size blocks new ≡ settled (cut size blocks old) (pairs_of waiting) =
    ap (λ (l : List ℕ). cut size blocks l) is ∙ ap (λ (ws : List Waiting). cut size blocks (put_all size old (pairs_of ws))) same ∙ (cut-put_all size blocks waiting old whole fitting).0 in
    (λ i. record { durable = reached i; pending = pairs_of (none i) })

-- after a sync that fails once n writes have reached the blocks
pub part_synced_state : (size blocks n : ℕ) (old new : List ℕ) (waiting first left : List Waiting) → blocks * size ≤ length old → All (IsFitting blocks size) waiting → first ≡ take n waiting
    → new ≡ put_all size old (pairs_of first) → left ≡ drop n waiting → flat_state size blocks new left ≡ part_synced (flat_state size blocks old waiting) n
part_synced_state size blocks n old new waiting first left whole fitting firsts is lefts =
    let reached : cut size blocks new ≡ settled (cut size blocks old) (pairs_of (take n waiting)) =
    ap (λ (l : List ℕ). cut size blocks l) is ∙ ap (λ (ws : List Waiting). cut size blocks (put_all size old (pairs_of ws))) firsts
    ∙ (cut-put_all size blocks (take n waiting) old whole (All-take (IsFitting blocks size) n waiting fitting)).0 in
    let pair : Waiting → ℕ × List ℕ = λ w. (w.block, w.bytes) in
    let front : pairs_of (take n waiting) ≡ take n (pairs_of waiting) = sym (take-map pair n waiting) in
    let back : pairs_of left ≡ drop n (pairs_of waiting) = ap pairs_of lefts ∙ sym (drop-map pair n waiting) in
    (λ i. record { durable = (reached ∙ ap (λ (ws : List (ℕ × List ℕ)). settled (cut size blocks old) ws) front) i; pending = back i })

-- the front turned to the end and cut off
pub turned_off : (n keep len : ℕ) (all turned left : List Waiting) → len ≡ length all → n ≤ len → keep ≡ len - n → turned ≡ drop n all ++ take n all → left ≡ take keep turned → left ≡ drop n all
turned_off n keep len all turned left same_len within keeps turns cuts =
    cuts ∙ ap (λ (ws : List Waiting). take keep ws) turns ∙ take_at (drop n all) (take n all) keep (omega (arith, length-drop n all))

picked-zero : (ws : List (ℕ × List ℕ)) (b : ℕ) (bytes : List ℕ) → picked ws b 0 bytes ≡ bytes
picked-zero [] b bytes = refl
picked-zero (w ∷ ws) b bytes = refl

-- a write that counts for a pick, and one that doesn't
pub picked_yes : (ws : List Waiting) (i b n : ℕ) (w : Waiting) (bytes new : List ℕ) → i < length ws → w ≡ get_or ws i w → 0 < n → w.block ≡ b → new ≡ w.bytes
    → picked (pairs_of (drop i ws)) b n bytes ≡ picked (pairs_of (drop (i + 1) ws)) b (n - 1) new
picked_yes ws i b zero w bytes new within is more same news = absurd (omega arith)
picked_yes ws i b (suc n) w bytes new within is more same news =
    let less : n ≡ suc n - 1 = omega arith in
    ap (λ (l : List Waiting). picked (pairs_of l) b (suc n) bytes) (drop_more ws i w within)
    ∙ ap (λ (v : Waiting). picked ((v.block, v.bytes) ∷ pairs_of (drop (i + 1) ws)) b (suc n) bytes) (sym is)
    ∙ put_here w.block b (picked (pairs_of (drop (i + 1) ws)) b n w.bytes) (picked (pairs_of (drop (i + 1) ws)) b (suc n) bytes) same
    ∙ (λ i'. picked (pairs_of (drop (i + 1) ws)) b (less i') ((sym news) i'))

pub picked_done : (ws : List Waiting) (i b n : ℕ) (bytes : List ℕ) → n ≤ 0 → picked (pairs_of (drop i ws)) b n bytes ≡ picked (pairs_of (drop (i + 1) ws)) b n bytes
picked_done ws i b zero bytes none = picked-zero (pairs_of (drop i ws)) b bytes ∙ sym (picked-zero (pairs_of (drop (i + 1) ws)) b bytes)
picked_done ws i b (suc n) bytes none = absurd (omega arith)

pub picked_no : (ws : List Waiting) (i b n : ℕ) (w : Waiting) (bytes : List ℕ) → i < length ws → w ≡ get_or ws i w → w.block ≢ b
    → picked (pairs_of (drop i ws)) b n bytes ≡ picked (pairs_of (drop (i + 1) ws)) b n bytes
picked_no ws i b zero w bytes within is other = picked_done ws i b zero bytes (omega arith)
picked_no ws i b (suc n) w bytes within is other =
    ap (λ (l : List Waiting). picked (pairs_of l) b (suc n) bytes) (drop_more ws i w within)
    ∙ ap (λ (v : Waiting). picked ((v.block, v.bytes) ∷ pairs_of (drop (i + 1) ws)) b (suc n) bytes) (sym is)
    ∙ put_elsewhere w.block b (picked (pairs_of (drop (i + 1) ws)) b n w.bytes) (picked (pairs_of (drop (i + 1) ws)) b (suc n) bytes) other

-- one more block is picked, and the blocks before it stay
pub picks_more : (size blocks b pick : ℕ) (durable old new : List ℕ) (waiting : List Waiting) (picks : List ℕ) → blocks * size ≤ length durable → length old ≡ length durable → All (IsFitting blocks size) waiting → b < blocks
    → pick ≡ get_or picks b 0
    → new ≡ put_at size old (b, picked (pairs_of waiting) b pick (block_at (cut size blocks durable) b))
    → ((k : ℕ) → k < b → block_at (cut size blocks old) k ≡ picked (pairs_of waiting) k (get_or picks k 0) (block_at (cut size blocks durable) k))
    → (length new ≡ length durable) × ((k : ℕ) → k < b + 1 → block_at (cut size blocks new) k ≡ picked (pairs_of waiting) k (get_or picks k 0) (block_at (cut size blocks durable) k))
picks_more size blocks b pick durable old new waiting picks whole long fitting below picks_are news done =
    let chosen = picked (pairs_of waiting) b pick (block_at (cut size blocks durable) b) in
    let of_size = cut_of_size blocks size durable waiting whole fitting in
    let piece : length chosen ≡ size = length-picked blocks size (flat_state size blocks durable waiting) b pick of_size below in
    let put : cut size blocks new ≡ set (cut size blocks old) b chosen = ap (λ (l : List ℕ). cut size blocks l) news ∙ cut-put_at size blocks old b chosen below (omega arith) piece in
    let fits : b * size + size ≤ length old = omega (arith, block_fits b blocks size below) in (
      ap length news ∙ length-put_at size old (b, chosen) fits piece ∙ long,
      λ k under. ap (λ (l : List (List ℕ)). block_at l k) put ∙ elim (cases_eq k b) as (λ _. block_at (set (cut size blocks old) b chosen) k ≡ picked (pairs_of waiting) k (get_or picks k 0) (block_at (cut size blocks durable) k)) [
        | inl same ↦
            ap (λ (j : ℕ). block_at (set (cut size blocks old) b chosen) j) same
            ∙ get_or-set_same (cut size blocks old) b chosen [] (omega (arith, length-cut size blocks old))
            ∙ ap (λ (n : ℕ). picked (pairs_of waiting) b n (block_at (cut size blocks durable) b)) picks_are
            ∙ ap (λ (j : ℕ). picked (pairs_of waiting) j (get_or picks j 0) (block_at (cut size blocks durable) j)) (sym same)
        | inr other ↦ get_or-set_other (cut size blocks old) b k chosen [] other ∙ done k (omega (arith, under, other))
      ],
    )
