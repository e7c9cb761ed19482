-- The entries that buffers may still have.
use Rattle.std.proofs.Common.{◌≡◌, ℕ, zero, suc, ◌+◌, ◌≤◌, List, [], ◌∷◌, ◌++◌, set, Some, ap, arith}
use Rattle.std.specs.Prelude.{slice_get}
use Rattle.host_memory.specs.{Buffer, close_owed, release_owed, buffers_owed}

pub owed_set : (bs : List Buffer) (i : ℕ) (b c : Buffer) → slice_get bs i ≡ Some b → buffers_owed (set bs i c) + (close_owed b.closer + release_owed b.pages) ≡ buffers_owed bs + (close_owed c.closer + release_owed c.pages)
owed_set [] i b c e = absurd (cc)
owed_set (x ∷ xs) zero b c e =
    let same : x ≡ b = cc in
    let one = ap (λ (z : Buffer). close_owed z.closer + release_owed z.pages) same in omega arith
owed_set (x ∷ xs) (suc i) b c e = let more = owed_set xs i b c e in omega arith

pub owed_snoc : (bs : List Buffer) (b : Buffer) → buffers_owed (bs ++ b ∷ []) ≡ buffers_owed bs + (close_owed b.closer + release_owed b.pages)
owed_snoc [] b = omega arith
owed_snoc (x ∷ xs) b = let more = owed_snoc xs b in omega arith

pub owed_at : (bs : List Buffer) (i : ℕ) (b : Buffer) → slice_get bs i ≡ Some b → close_owed b.closer + release_owed b.pages ≤ buffers_owed bs
owed_at [] i b e = absurd (cc)
owed_at (x ∷ xs) zero b e =
    let same : x ≡ b = cc in
    let one = ap (λ (z : Buffer). close_owed z.closer + release_owed z.pages) same in omega arith
owed_at (x ∷ xs) (suc i) b e = let more = owed_at xs i b e in omega arith
