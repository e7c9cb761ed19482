-- What pending writes make of blocks.
use Rattle.std.proofs.Common.{◌≡◌, ◌≢◌, ◌⊎◌, inl, inr, ℕ, zero, suc, ◌<◌, List, [], ◌∷◌, ◌++◌, length, take, drop, set, get_or, refl, sym, ◌∙◌, ap, subst, arith, length-set}
use Rattle.std.specs.Prelude.{◌==◌, Contains, if◌then◌else◌}
use Rattle.std.proofs.lemmas.Bool.{cases_eq}
use Rattle.std.proofs.lemmas.Bool.Decides.{nat_tests}
use Rattle.std.proofs.lemmas.List.{get_or-set_same, get_or-set_other, take-append-drop}
use Rattle.std.proofs.lemmas.List.Elements.{Contains-append_left, Contains-append_right}
use Rattle.host_block.specs.{DiskState, IsOfSize, IsCandidate, IsCrashOf, IsPicked, picked, block_at, overwritten, settled, read_of, added, part_synced, synced, Outcome, done, failed, refused, sync, Leads}

abbrev Writes : Type 0
Writes = List (ℕ × List ℕ)

-- one write, at the block that it names and at another
pub put_here : (a b : ℕ) (new old : List ℕ) → a ≡ b → (if a == b then new else old) ≡ new
put_here a b new old same = grind (arith, nat_tests)

pub put_elsewhere : (a b : ℕ) (new old : List ℕ) → a ≢ b → (if a == b then new else old) ≡ old
put_elsewhere a b new old other = grind (arith, nat_tests)

pub length-settled : (ws : Writes) (blocks : List (List ℕ)) → length (settled blocks ws) ≡ length blocks
length-settled [] blocks = refl
length-settled (w ∷ ws) blocks = length-settled ws (set blocks w.0 w.1) ∙ length-set blocks w.0 w.1

block_at-set : (blocks : List (List ℕ)) (a b : ℕ) (bytes : List ℕ) → b < length blocks → block_at (set blocks a bytes) b ≡ (if a == b then bytes else block_at blocks b)
block_at-set blocks a b bytes within = elim (cases_eq a b) [
  | inl same ↦ subst (λ (k : ℕ). block_at (set blocks k bytes) b ≡ bytes) (sym same) (get_or-set_same blocks b bytes [] within) ∙ sym (put_here a b bytes (block_at blocks b) same)
  | inr other ↦ get_or-set_other blocks a b bytes [] (λ e. other (sym e)) ∙ sym (put_elsewhere a b bytes (block_at blocks b) other)
]

-- once writes have reached the blocks, each block is what they made of it
pub block_at-settled : (ws : Writes) (blocks : List (List ℕ)) (b : ℕ) → b < length blocks → block_at (settled blocks ws) b ≡ overwritten ws b (block_at blocks b)
block_at-settled [] blocks b within = refl
block_at-settled (w ∷ ws) blocks b within =
    block_at-settled ws (set blocks w.0 w.1) b (omega (arith, length-set blocks w.0 w.1))
    ∙ ap (λ (bytes : List ℕ). overwritten ws b bytes) (block_at-set blocks w.0 b w.1 within)

-- what they made of a block stood there or is one of them
pub overwritten_cases : (ws : Writes) (b : ℕ) (bytes : List ℕ) → (overwritten ws b bytes ≡ bytes) ⊎ Contains ws (b, overwritten ws b bytes)
overwritten_cases [] b bytes = inl refl
overwritten_cases (w ∷ ws) b bytes = elim (cases_eq w.0 b) [
  | inl same ↦
      let step : overwritten (w ∷ ws) b bytes ≡ overwritten ws b w.1 = ap (λ (x : List ℕ). overwritten ws b x) (put_here w.0 b w.1 bytes same) in
      elim (overwritten_cases ws b w.1) [
        | inl stays ↦ inr (0, omega arith, (λ i. (same i, (sym (step ∙ stays)) i)))
        | inr there ↦ inr (later (b, overwritten (w ∷ ws) b bytes) (subst (λ (x : List ℕ). Contains ws (b, x)) (sym step) there))
      ]
  | inr other ↦
      let step : overwritten (w ∷ ws) b bytes ≡ overwritten ws b bytes = ap (λ (x : List ℕ). overwritten ws b x) (put_elsewhere w.0 b w.1 bytes other) in
      elim (overwritten_cases ws b bytes) [
        | inl stays ↦ inl (step ∙ stays)
        | inr there ↦ inr (later (b, overwritten (w ∷ ws) b bytes) (subst (λ (x : List ℕ). Contains ws (b, x)) (sym step) there))
      ]
]
  where
    later : (x : ℕ × List ℕ) → Contains ws x → Contains (w ∷ ws) x
    later x had = (suc had.0, omega (arith, had.1), had.2)

pub Contains-take : (n : ℕ) (ws : Writes) (x : ℕ × List ℕ) → Contains (take n ws) x → Contains ws x
Contains-take n ws x had = subst (λ (l : Writes). Contains l x) (take-append-drop n ws) (Contains-append_left (take n ws) (drop n ws) x had)

pub Contains-drop : (n : ℕ) (ws : Writes) (x : ℕ × List ℕ) → Contains (drop n ws) x → Contains ws x
Contains-drop n ws x had = subst (λ (l : Writes). Contains l x) (take-append-drop n ws) (Contains-append_right (take n ws) (drop n ws) x had)

pub overwritten-append : (xs ys : Writes) (b : ℕ) (bytes : List ℕ) → overwritten (xs ++ ys) b bytes ≡ overwritten ys b (overwritten xs b bytes)
overwritten-append [] ys b bytes = refl
overwritten-append (w ∷ xs) ys b bytes = overwritten-append xs ys b (if w.0 == b then w.1 else bytes)

-- a read after a write
pub read_of-added : (s : DiskState) (a b : ℕ) (bytes : List ℕ) → read_of (added s a bytes) b ≡ (if a == b then bytes else read_of s b)
read_of-added s a b bytes = overwritten-append s.pending ((a, bytes) ∷ []) b (block_at s.durable b)

-- a read after some part of the pending writes has become durable
pub read_of-part_synced : (s : DiskState) (n b : ℕ) → b < length s.durable → read_of (part_synced s n) b ≡ read_of s b
read_of-part_synced s n b within =
    ap (λ (bytes : List ℕ). overwritten (drop n s.pending) b bytes) (block_at-settled (take n s.pending) s.durable b within)
    ∙ sym (overwritten-append (take n s.pending) (drop n s.pending) b (block_at s.durable b))
    ∙ ap (λ (ws : Writes). overwritten ws b (block_at s.durable b)) (take-append-drop n s.pending)

pub read_of-synced : (s : DiskState) (b : ℕ) → b < length s.durable → read_of (synced s) b ≡ read_of s b
read_of-synced s b within = block_at-settled s.pending s.durable b within

-- a sync, however it ends, changes no read
pub read_of-sync : (outcome : Outcome) (old new : DiskState) (b : ℕ) → b < length old.durable → Leads (sync outcome) old new → read_of new b ≡ read_of old b
read_of-sync done old new b within leads = ap (λ (s : DiskState). read_of s b) leads ∙ read_of-synced old b within
read_of-sync failed old new b within leads = ap (λ (s : DiskState). read_of s b) leads.1 ∙ read_of-part_synced old leads.0 b within
read_of-sync refused old new b within leads = ap (λ (s : DiskState). read_of s b) leads

-- a read gives a block's number of bytes
pub length-read_of : (blocks size : ℕ) (s : DiskState) (b : ℕ) → IsOfSize blocks size s → b < blocks → length (read_of s b) ≡ size
length-read_of blocks size s b of_size below = elim (overwritten_cases s.pending b (block_at s.durable b)) [
  | inl stays ↦ ap length stays ∙ of_size.each b below
  | inr there ↦ (of_size.pending _ there).1
]

-- a pick is among the candidates
picked_cases : (ws : Writes) (b n : ℕ) (bytes : List ℕ) → (picked ws b n bytes ≡ bytes) ⊎ Contains ws (b, picked ws b n bytes)
picked_cases [] b n bytes = inl refl
picked_cases (w ∷ ws) b zero bytes = inl refl
picked_cases (w ∷ ws) b (suc n) bytes = elim (cases_eq w.0 b) [
  | inl same ↦
      let step : picked (w ∷ ws) b (suc n) bytes ≡ picked ws b n w.1 = put_here w.0 b (picked ws b n w.1) (picked ws b (suc n) bytes) same in
      elim (picked_cases ws b n w.1) [
        | inl stays ↦ inr (0, omega arith, (λ i. (same i, (sym (step ∙ stays)) i)))
        | inr there ↦ inr (later (b, picked (w ∷ ws) b (suc n) bytes) (subst (λ (x : List ℕ). Contains ws (b, x)) (sym step) there))
      ]
  | inr other ↦
      let step : picked (w ∷ ws) b (suc n) bytes ≡ picked ws b (suc n) bytes = put_elsewhere w.0 b (picked ws b n w.1) (picked ws b (suc n) bytes) other in
      elim (picked_cases ws b (suc n) bytes) [
        | inl stays ↦ inl (step ∙ stays)
        | inr there ↦ inr (later (b, picked (w ∷ ws) b (suc n) bytes) (subst (λ (x : List ℕ). Contains ws (b, x)) (sym step) there))
      ]
]
  where
    later : (x : ℕ × List ℕ) → Contains ws x → Contains (w ∷ ws) x
    later x had = (suc had.0, omega (arith, had.1), had.2)

pub picked_is_crash_proof : (s : DiskState) (picks : List ℕ) (image : List (List ℕ)) → IsPicked s picks image → IsCrashOf s image
picked_is_crash_proof s picks image is = record {
  blocks = is.blocks;
  each = λ b within.
      let pick = get_or picks b 0 in
      elim (picked_cases s.pending b pick (block_at s.durable b)) as (λ _. IsCandidate s b (block_at image b)) [
        | inl stays ↦ inl (is.each b within ∙ stays)
        | inr there ↦ inr (subst (λ (x : List ℕ). Contains s.pending (b, x)) (sym (is.each b within)) there)
      ];
}

-- a pick has a block's number of bytes
pub length-picked : (blocks size : ℕ) (s : DiskState) (b n : ℕ) → IsOfSize blocks size s → b < blocks → length (picked s.pending b n (block_at s.durable b)) ≡ size
length-picked blocks size s b n of_size below = elim (picked_cases s.pending b n (block_at s.durable b)) [
  | inl stays ↦ ap length stays ∙ of_size.each b below
  | inr there ↦ (of_size.pending _ there).1
]
