-- What a crash leaves of a block that was written, flushed and written over.
use Rattle.std.proofs.Common.{◌≡◌, ◌∙◌, ℕ, zero, suc, ◌<◌, ◌≤◌, Bool, true, false, List, [], ◌∷◌, take, Option, Some, None, refl, sym, ap, arith}
use Rattle.std.specs.List.{slice_get}
use Rattle.crash_law.specs.{KeepsFlushed, WasFlushed, WerePutSince, WroteBlock}
use Rattle.host_block.specs.{changes_block, content, is_barrier, put_by, IsCrashImage, IsVersion, block_at}
use Rattle.host_block.specs.declared.op.Op.TheVariants as op
use Rattle.host_model.specs.{change_of, changes_of, sending, HadBefore, Step}
use Rattle.host_report.specs.{session_of}
use Rattle.run_rows.specs.{CrashKeepsFlushed, left, session}
use Rattle.run_rows.specs.Crash.{image, log, report, step, steps}

abbrev pub first_byte : List ℕ → ℕ
first_byte [] = 0
first_byte (b ∷ bytes) = b

-- ---- versions of a block

version : (p b : ℕ) (bytes : List ℕ) → 2 ≤ p → p ≤ 3 → bytes ≡ content image (changes_of steps) p b → IsVersion image (changes_of steps) b bytes
version p b bytes after within is = record { place = p; after_barrier = after; within = within; is = is }

leaves : (p byte : ℕ) → 2 ≤ p → p ≤ 3 → (byte ∷ []) ≡ content image (changes_of steps) p 0 → IsCrashImage image (changes_of steps) (left byte)
leaves p byte after within is = record { blocks = refl; each = each }
  where
    each : (b : ℕ) → b < 2 → IsVersion image (changes_of steps) b (block_at (left byte) b)
    each zero lt = version p 0 (byte ∷ []) after within is
    each (suc zero) lt = version 2 1 (7 ∷ []) (omega arith) (omega arith) refl
    each (suc (suc b)) lt = absurd (omega (arith, lt))

-- a version of block 0 is the first or the second write
only_two : (bytes : List ℕ) → IsVersion image (changes_of steps) 0 bytes → ¬ (first_byte bytes ≡ 1) → ¬ (first_byte bytes ≡ 2) → ⊥
only_two bytes v one two = at v.place refl
  where
    at : (p : ℕ) → v.place ≡ p → ⊥
    at zero e = let after : 2 ≤ v.place = v.after_barrier in absurd (omega (arith, after, e))
    at (suc zero) e = let after : 2 ≤ v.place = v.after_barrier in absurd (omega (arith, after, e))
    at (suc (suc zero)) e = one (ap first_byte (v.is ∙ ap (λ p. content image (changes_of steps) p 0) e))
    at (suc (suc (suc zero))) e = two (ap first_byte (v.is ∙ ap (λ p. content image (changes_of steps) p 0) e))
    at (suc (suc (suc (suc p)))) e = let within : v.place ≤ 3 = v.within in absurd (omega (arith, within, e))

-- so is one of block 1 what stood there
beside : (bytes : List ℕ) → IsVersion image (changes_of steps) 1 bytes → first_byte bytes ≡ 7
beside bytes v = at v.place refl
  where
    at : (p : ℕ) → v.place ≡ p → first_byte bytes ≡ 7
    at zero e = let after : 2 ≤ v.place = v.after_barrier in absurd (omega (arith, after, e))
    at (suc zero) e = let after : 2 ≤ v.place = v.after_barrier in absurd (omega (arith, after, e))
    at (suc (suc zero)) e = ap first_byte (v.is ∙ ap (λ p. content image (changes_of steps) p 1) e)
    at (suc (suc (suc zero))) e = ap first_byte (v.is ∙ ap (λ p. content image (changes_of steps) p 1) e)
    at (suc (suc (suc (suc p)))) e = let within : v.place ≤ 3 = v.within in absurd (omega (arith, within, e))

-- ---- what was flushed

pub wrote : WroteBlock steps 1 0 0 0
wrote = record { step = step 0 op.Write (1 ∷ []); stands = refl; names = (refl, refl); writes = refl }

-- the flush is among the first two steps, and so among all
pub flushed : WasFlushed (take 2 steps) 1 1
flushed = record { place = 1; step = step 1 op.Flush []; stands = refl; names = (refl, refl); flushes = refl }

flushed_of_all : WasFlushed steps 1 1
flushed_of_all = record { place = 1; step = step 1 op.Flush []; stands = refl; names = (refl, refl); flushes = refl }

-- the write's answer stands in the log before the flush
pub had : HadBefore (session_of report session) (sending log 1) 0
had = (3, omega arith, refl)

abbrev pub byte_of : Option Step → ℕ
byte_of (Some x) = first_byte (put_by 1 x.op x.bytes)
byte_of None = 0

abbrev changes_zero : Option Step → Bool
changes_zero (Some x) = changes_block (change_of x) 0
changes_zero None = false

pub never : false ≡ true → ⊥
never e = cc e

-- a step that put bytes into block 0 put the first write's there, or the second's
pub put_there : (p : ℕ) (x : Step) → slice_get steps p ≡ Some x → changes_block (change_of x) 0 ≡ true → ¬ (first_byte (put_by 1 x.op x.bytes) ≡ 1) → ¬ (first_byte (put_by 1 x.op x.bytes) ≡ 2) → ⊥
put_there zero x stands writes one two = one (sym (ap byte_of stands))
put_there (suc zero) x stands writes one two = never (ap changes_zero stands ∙ writes)
put_there (suc (suc zero)) x stands writes one two = two (sym (ap byte_of stands))
put_there (suc (suc (suc p))) x stands writes one two = never (ap changes_zero stands ∙ writes)

survived : (byte : ℕ) → KeepsFlushed image report steps (left byte) → ¬ (byte ≡ 1) → ¬ (byte ≡ 2) → ⊥
survived byte keeps one two =
    let since : WerePutSince steps 1 0 0 (byte ∷ []) = keeps 0 session refl 0 1 had flushed_of_all 0 0 wrote in
    let are : byte ≡ first_byte (put_by 1 since.step.op since.step.bytes) = ap first_byte since.are in
    put_there since.later since.step since.stands since.writes (λ e. one (are ∙ e)) (λ e. two (are ∙ e))

-- one of the first two steps put the first write's there
put_by_then : (p : ℕ) (x : Step) → slice_get (take 2 steps) p ≡ Some x → changes_block (change_of x) 0 ≡ true → first_byte (put_by 1 x.op x.bytes) ≡ 1
put_by_then zero x stands writes = sym (ap byte_of stands)
put_by_then (suc zero) x stands writes = absurd (never (ap changes_zero stands ∙ writes))
put_by_then (suc (suc zero)) x stands writes = absurd (never (ap changes_zero stands ∙ writes))
put_by_then (suc (suc (suc p))) x stands writes = absurd (never (ap changes_zero stands ∙ writes))

survived_then : (byte : ℕ) → KeepsFlushed image report (take 2 steps) (left byte) → byte ≡ 1
survived_then byte keeps =
    let since : WerePutSince (take 2 steps) 1 0 0 (byte ∷ []) = keeps 0 session refl 0 1 had flushed 0 0 wrote in
    ap first_byte since.are ∙ put_by_then since.later since.step since.stands since.writes

-- ---- before the flush

abbrev pub flushes : Option Step → Bool
flushes (Some x) = is_barrier (change_of x)
flushes None = false

no_flush : (p : ℕ) (x : Step) → slice_get (take 1 steps) p ≡ Some x → is_barrier (change_of x) ≡ true → ⊥
no_flush zero x stands is = never (ap flushes stands ∙ is)
no_flush (suc zero) x stands is = never (ap flushes stands ∙ is)
no_flush (suc (suc p)) x stands is = never (ap flushes stands ∙ is)

not_yet : (after : List (List ℕ)) → KeepsFlushed image report (take 1 steps) after
not_yet after n e at w f _ flushed b place _ = absurd (no_flush flushed.place flushed.step flushed.stands flushed.flushes)

-- ---- the rows

differs : (a b : ℕ) → a < b → ¬ (a ≡ b)
differs a b less e = absurd (omega (arith, less, e))

exceeds : (a b : ℕ) → b < a → ¬ (a ≡ b)
exceeds a b less e = absurd (omega (arith, less, e))

pub crash_keeps_flushed : CrashKeepsFlushed
crash_keeps_flushed = record {
  flushed = leaves 2 1 (omega arith) (omega arith) refl;
  later = leaves 3 2 (omega arith) (omega arith) refl;
  not_before = λ h. only_two (0 ∷ []) (h.each 0 (omega arith)) (differs 0 1 (omega arith)) (differs 0 2 (omega arith));
  not_else = λ h. only_two (3 ∷ []) (h.each 0 (omega arith)) (exceeds 3 1 (omega arith)) (exceeds 3 2 (omega arith));
  not_beside = λ h. let e : 8 ≡ 7 = beside (8 ∷ []) (h.each 1 (omega arith)) in absurd (omega (arith, e));
  not_lost = λ h. survived 0 h (differs 0 1 (omega arith)) (differs 0 2 (omega arith));
  not_made_up = λ h. survived 3 h (exceeds 3 1 (omega arith)) (exceeds 3 2 (omega arith));
  not_yet = not_yet;
  not_lost_then = λ h. differs 0 1 (omega arith) (survived_then 0 h);
  not_later_then = λ h. exceeds 2 1 (omega arith) (survived_then 2 h);
}
