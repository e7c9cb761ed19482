-- What one more change makes of the content and of the last flush's place.
use Rattle.std.proofs.Common.{◌≡◌, ℕ, suc, ◌+◌, ◌≤◌, Bool, true, false, List, [], ◌∷◌, ◌++◌, length, refl, sym, ◌∙◌, ap, arith}
use Rattle.std.specs.Prelude.{not, ◌&&◌, if◌then◌else◌}
use Rattle.std.proofs.lemmas.List.{take-append-le, take_all, length_push}
use Rattle.host_block.specs.{Op, Read, Write, Trim, Flush, block_at, Change, puts_bytes, is_flush, changes_block, put_by, changed, content, is_barrier, place_from, barrier}

pub changed-append : (size : ℕ) (xs ys : List Change) (b : ℕ) (bytes : List ℕ) → changed size (xs ++ ys) b bytes ≡ changed size ys b (changed size xs b bytes)
changed-append size [] ys b bytes = refl
changed-append size (c ∷ xs) ys b bytes = changed-append size xs ys b (if changes_block c b then put_by size c.op c.bytes else bytes)

place-push : (at last : ℕ) (xs : List Change) (c : Change) → place_from at last (xs ++ c ∷ []) ≡ (if is_barrier c then (at + length xs) + 1 else place_from at last xs)
place-push at last [] c = let n : at + 0 ≡ at = omega arith in ap (λ (k : ℕ). if is_barrier c then k + 1 else last) (sym n)
place-push at last (x ∷ xs) c =
    let n : (at + 1) + length xs ≡ at + suc (length xs) = omega arith in
    place-push (at + 1) (if is_barrier x then at + 1 else last) xs c
    ∙ ap (λ (k : ℕ). if is_barrier c then k + 1 else place_from (at + 1) (if is_barrier x then at + 1 else last) xs) n

choice_le : (b : Bool) (m n k : ℕ) → m ≤ k → n ≤ k → (if b then m else n) ≤ k
choice_le true m n k le1 le2 = le1
choice_le false m n k le1 le2 = le2

place_le : (at last : ℕ) (xs : List Change) → last ≤ at → place_from at last xs ≤ at + length xs
place_le at last [] le = omega arith
place_le at last (x ∷ xs) le =
    let rest = place_le (at + 1) (if is_barrier x then at + 1 else last) xs (choice_le (is_barrier x) (at + 1) last (at + 1) (omega arith) (omega arith)) in
    omega (arith, rest)

pub barrier_le : (history : List Change) → barrier history ≤ length history
barrier_le history = let le = place_le 0 0 history (omega arith) in omega (arith, le)

pub barrier_push_flush : (history : List Change) (c : Change) → is_barrier c ≡ true → barrier (history ++ c ∷ []) ≡ length history + 1
barrier_push_flush history c flush =
    let n : (0 + length history) + 1 ≡ length history + 1 = omega arith in
    place-push 0 0 history c ∙ ap (λ (t : Bool). if t then (0 + length history) + 1 else place_from 0 0 history) flush ∙ n

pub barrier_push_other : (history : List Change) (c : Change) → is_barrier c ≡ false → barrier (history ++ c ∷ []) ≡ barrier history
barrier_push_other history c other = place-push 0 0 history c ∙ ap (λ (t : Bool). if t then (0 + length history) + 1 else place_from 0 0 history) other

-- a change more doesn't touch the content at earlier places
pub content_earlier : (image : List (List ℕ)) (history : List Change) (c : Change) (p b : ℕ) → p ≤ length history → content image (history ++ c ∷ []) p b ≡ content image history p b
content_earlier image history c p b le = ap (λ (l : List Change). changed (length (block_at image b)) l b (block_at image b)) (take-append-le p history (c ∷ []) le)

content_all : (image : List (List ℕ)) (history : List Change) (n b : ℕ) → length history ≤ n → content image history n b ≡ changed (length (block_at image b)) history b (block_at image b)
content_all image history n b le = ap (λ (l : List Change). changed (length (block_at image b)) l b (block_at image b)) (take_all n history le)

-- the content after a change more
pub content_push : (image : List (List ℕ)) (history : List Change) (c : Change) (b : ℕ)
    → content image (history ++ c ∷ []) (length history + 1) b ≡ (if changes_block c b then put_by (length (block_at image b)) c.op c.bytes else content image history (length history) b)
content_push image history c b =
    let size = length (block_at image b) in
    content_all image (history ++ c ∷ []) (length history + 1) b (omega (arith, length_push history c))
    ∙ changed-append size history (c ∷ []) b (block_at image b)
    ∙ ap (λ (bytes : List ℕ). if changes_block c b then put_by size c.op c.bytes else bytes) (sym (content_all image history (length history) b (omega arith)))

-- a flush changes no block
flush_changes : (op : Op) (faulted same : Bool) → (not faulted && is_flush op) ≡ true → (not faulted && puts_bytes op && same) ≡ false
flush_changes Read true same is = refl
flush_changes Read false same is = refl
flush_changes Write true same is = refl
flush_changes Write false same is = cc
flush_changes Trim true same is = refl
flush_changes Trim false same is = cc
flush_changes Flush true same is = refl
flush_changes Flush false same is = refl

pub barrier_changes : (c : Change) (b : ℕ) → is_barrier c ≡ true → changes_block c b ≡ false
barrier_changes c b is = flush_changes c.op c.faulted _ is
