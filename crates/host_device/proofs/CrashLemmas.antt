-- Which place a version is from, and what crashes along a run of disk calls leave.
use Rattle.std.proofs.Common.{◌≡◌, ◌⊎◌, inl, inr, ℕ, zero, suc, ◌+◌, ◌-◌, ◌<◌, Bool, true, false, List, [], ◌∷◌, length, refl, sym, ◌∙◌, ap, arith}
use Rattle.std.proofs.Math.Logic.{∥∥₁_elim, ∥∥₁_map}
use Rattle.std.proofs.Props.{props}
use Rattle.std.proofs.lemmas.Bool.{cases_eq}
use Rattle.std.proofs.lemmas.Slice.Eq.{bytes_eq-Decides}
use Rattle.std.specs.Str.{bytes_eq}
use Rattle.host_block.specs.{DiskState, read, done, DiskCall, IsCrashOf, Change, content, barrier, IsVersion, IsCrashImage, Keeps, LeadThrough}
use Rattle.host_block.proofs.ChangeLemmas.{barrier_le}
use Rattle.host_block.proofs.KeptLemmas.{crash_inside_call_proof}
use Rattle.host_device.specs.{CrashesLeave}

-- ---- a place that is known to be there is found

abbrev Found : (ℕ → Bool) → ℕ → Type 0
Found t n = ((p : ℕ) × (p < n) × (t p ≡ true)) ⊎ ((p : ℕ) → p < n → t p ≡ false)

found_more : (t : ℕ → Bool) (n : ℕ) (v : Bool) → t n ≡ v → Found t n → Found t (suc n)
found_more t n true is before = inl (n, omega arith, is)
found_more t n false is (inl f) = inl (f.0, omega (arith, f.1), f.2)
found_more t n false is (inr none) = inr (λ p below. elim (cases_eq p n) [
  | inl same ↦ ap t same ∙ is
  | inr other ↦ none p (omega (arith, below, other))
])

found_below : (t : ℕ → Bool) (n : ℕ) → Found t n
found_below t zero = inr (λ p below. absurd (omega (arith, below)))
found_below t (suc n) = found_more t n (t n) refl (found_below t n)

module _ (image : List (List ℕ)) (history : List Change) where
  -- whether the bytes are the version of block b at so many places after the last flush
  abbrev is_version : ℕ → List ℕ → ℕ → Bool
  is_version b bytes q = bytes_eq bytes (content image history (barrier history + q) b)

  not_there : (b : ℕ) (bytes : List ℕ) → ((q : ℕ) → q < length history + 1 - barrier history → is_version b bytes q ≡ false) → IsVersion image history b bytes → ⊥
  not_there b bytes none v =
      let q = v.place - barrier history in
      let at : barrier history + q ≡ v.place = omega (arith, v.after_barrier) in
      let same : bytes ≡ content image history (barrier history + q) b = v.is ∙ ap (λ (p : ℕ). content image history p b) (sym at) in
      let yes = (bytes_eq-Decides bytes (content image history (barrier history + q) b)).1 same in
      let no = none q (omega (arith, v.within, v.after_barrier)) in
      let wrong : ◌≡◌ {A = Bool} true false = sym yes ∙ no in cc

  version_there : (b : ℕ) (bytes : List ℕ) → ∥ IsVersion image history b bytes ∥₁ → IsVersion image history b bytes
  version_there b bytes some = elim (found_below (is_version b bytes) (length history + 1 - barrier history)) [
    | inl f ↦ record {
      place = barrier history + f.0;
      after_barrier = omega arith;
      within = omega (arith, f.1, barrier_le history);
      is = (bytes_eq-Decides bytes (content image history (barrier history + f.0) b)).0 f.2;
    }
    | inr none ↦ absurd (∥∥₁_elim some (hlevel props) (not_there b bytes none))
  ]

  -- a state that is known to keep a history keeps it
  pub keeps_there : (s : DiskState) → ∥ Keeps image history s ∥₁ → Keeps image history s
  keeps_there s some = record {
    blocks = ∥∥₁_elim some (hlevel props) (λ keeps. keeps.blocks);
    each = λ b bytes within candidate. version_there b bytes (∥∥₁_map some (λ keeps. keeps.each b bytes within candidate));
  }

  -- ---- crashes

  pub crash_kept : (s : DiskState) (left : List (List ℕ)) → Keeps image history s → IsCrashOf s left → IsCrashImage image history left
  crash_kept s left keeps crash = crash_inside_call_proof image history (read 0 done) s s left keeps tt refl (inl crash)

  first_keeps : (calls : List DiskCall) (s t : DiskState) → LeadThrough (Keeps image history) calls s t → Keeps image history s
  first_keeps [] s t through = through.0
  first_keeps (call ∷ calls) s t through = through.0

  pub crashes_along : (calls : List DiskCall) (s t : DiskState) → LeadThrough (Keeps image history) calls s t → CrashesLeave (IsCrashImage image history) calls s t
  crashes_along [] s t through = (λ left crash. crash_kept s left through.0 crash, through.1)
  crashes_along (call ∷ calls) s t through =
      let mid = through.1.0 in
      let rest = through.1.2 in (
        mid,
        through.1.1,
        (λ left inside. elim inside [
          | inl before ↦ crash_kept s left through.0 before
          | inr after ↦ crash_kept mid left (first_keeps calls mid t rest) after
        ]),
        crashes_along calls mid t rest,
      )
