-- The place after the last flush, and the last change of a block.
use Rattle.std.proofs.Common.{◌≡◌, ℕ, zero, suc, ◌+◌, ◌<◌, ◌≤◌, Bool, true, false, ◌||◌, cond, List, [], ◌∷◌, Some, refl, ap, ◌∙◌, arith}
use Rattle.std.specs.List.{list_any, slice_get}
use Rattle.host_block.specs.{Change, barrier, changed, changes_block, is_barrier, place_from, put_by}
use Rattle.host_block.proofs.Places.{any_at}

-- ---- flushes

place_least : (start last : ℕ) (cs : List Change) → last ≤ start → last ≤ place_from start last cs
place_least start last [] le = omega arith
place_least start last (c ∷ cs) le = step (is_barrier c) (place_least (start + 1) (start + 1) cs (omega arith)) (place_least (start + 1) last cs (omega arith))
  where
    step : (b : Bool) → start + 1 ≤ place_from (start + 1) (start + 1) cs → last ≤ place_from (start + 1) last cs → last ≤ place_from (start + 1) (cond b (start + 1) last) cs
    step true e f = omega arith
    step false e f = f

place_past : (start last : ℕ) (cs : List Change) (p : ℕ) (c : Change) → last ≤ start → slice_get cs p ≡ Some c → is_barrier c ≡ true → start + p < place_from start last cs
place_past start last [] zero c le there is = absurd (cc)
place_past start last [] (suc p) c le there is = absurd (cc)
place_past start last (x ∷ cs) zero c le there is =
    let same : x ≡ c = cc in
    let t : is_barrier x ≡ true = ap is_barrier same ∙ is in
    let e = place_least (start + 1) (start + 1) cs (omega arith) in
    let f : place_from (start + 1) (cond (is_barrier x) (start + 1) last) cs ≡ place_from (start + 1) (start + 1) cs = ap (λ b. place_from (start + 1) (cond b (start + 1) last) cs) t in
    omega (arith, e, f)
place_past start last (x ∷ cs) (suc p) c le there is = let r = place_past (start + 1) (cond (is_barrier x) (start + 1) last) cs p c (few (is_barrier x)) there is in omega (arith, r)
  where
    few : (b : Bool) → cond b (start + 1) last ≤ start + 1
    few true = omega arith
    few false = omega arith

-- a flush that didn't fail stands before the place after the last one
pub barrier_past : (history : List Change) (p : ℕ) (c : Change) → slice_get history p ≡ Some c → is_barrier c ≡ true → p < barrier history
barrier_past history p c there is = let r = place_past 0 0 history p c (omega arith) there is in omega (arith, r)

-- ---- changes of a block

-- the bytes are those of a change of block b that isn't before place p
pub record IsLastChange (size : ℕ) (cs : List Change) (b p : ℕ) (bytes : List ℕ) : Type 0 where
  pub later : ℕ
  pub change : Change
  pub stands : slice_get cs later ≡ Some change
  pub since : p ≤ later
  pub writes : changes_block change b ≡ true
  pub are : bytes ≡ put_by size change.op change.bytes

shifted : (size : ℕ) (x : Change) (cs : List Change) (b p q : ℕ) (bytes : List ℕ) → q ≤ suc p → IsLastChange size cs b p bytes → IsLastChange size (x ∷ cs) b q bytes
shifted size x cs b p q bytes le l = let s = l.since in record { later = suc l.later; change = l.change; stands = l.stands; since = omega arith; writes = l.writes; are = l.are }

unchanged : (size : ℕ) (cs : List Change) (b : ℕ) (bytes : List ℕ) → list_any (λ (c : Change). changes_block c b) cs ≡ false → changed size cs b bytes ≡ bytes
unchanged size [] b bytes none = refl
unchanged size (c ∷ cs) b bytes none = step (changes_block c b) none (λ e. unchanged size cs b bytes e)
  where
    step : (d : Bool) → (d || list_any (λ (x : Change). changes_block x b) cs) ≡ false → (list_any (λ (x : Change). changes_block x b) cs ≡ false → changed size cs b bytes ≡ bytes) → changed size cs b (cond d (put_by size c.op c.bytes) bytes) ≡ bytes
    step true e more = absurd (cc)
    step false e more = more e

pub last_change : (size : ℕ) (cs : List Change) (b p : ℕ) (bytes : List ℕ) (c : Change) → slice_get cs p ≡ Some c → changes_block c b ≡ true → IsLastChange size cs b p (changed size cs b bytes)
last_change size [] b zero bytes c there is = absurd (cc)
last_change size [] b (suc p) bytes c there is = absurd (cc)
last_change size (x ∷ cs) b (suc p) bytes c there is =
    shifted size x cs b p (suc p) (changed size cs b (cond (changes_block x b) (put_by size x.op x.bytes) bytes)) (omega arith) (last_change size cs b p (cond (changes_block x b) (put_by size x.op x.bytes) bytes) c there is)
last_change size (x ∷ cs) b zero bytes c there is =
    step (list_any (λ (d : Change). changes_block d b) cs) refl (λ n d at w. last_change size cs b n (cond (changes_block x b) (put_by size x.op x.bytes) bytes) d at w)
  where
    step : (e : Bool) → list_any (λ (d : Change). changes_block d b) cs ≡ e
        → ((n : ℕ) (d : Change) → slice_get cs n ≡ Some d → changes_block d b ≡ true → IsLastChange size cs b n (changed size cs b (cond (changes_block x b) (put_by size x.op x.bytes) bytes)))
        → IsLastChange size (x ∷ cs) b 0 (changed size cs b (cond (changes_block x b) (put_by size x.op x.bytes) bytes))
    step true e more =
        let r = any_at (λ (d : Change). changes_block d b) cs e in
        shifted size x cs b r.0 0 (changed size cs b (cond (changes_block x b) (put_by size x.op x.bytes) bytes)) (omega arith) (more r.0 r.1 r.2 r.3)
    step false e more =
        let same : x ≡ c = cc in
        let writes : changes_block x b ≡ true = ap (λ (d : Change). changes_block d b) same ∙ is in
        record {
          later = 0;
          change = x;
          stands = refl;
          since = omega arith;
          writes = writes;
          are = unchanged size cs b (cond (changes_block x b) (put_by size x.op x.bytes) bytes) e ∙ ap (λ d. cond d (put_by size x.op x.bytes) bytes) writes;
        }
