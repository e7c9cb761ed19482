-- What the clause on flushed writes speaks of, part by part.
use Rattle.std.proofs.Common.{◌≡◌, ◌∙◌, ℕ, zero, suc, ◌≤◌, Bool, true, false, ◌||◌, List, [], ◌∷◌, take, Option, Some, None, refl, sym, ap, arith}
use Rattle.std.specs.List.{list_any, slice_get}
use Rattle.crash_law.specs.{WasFlushed, WerePutSince, WroteBlock}
use Rattle.host_block.specs.{changes_block, is_barrier, put_by}
use Rattle.host_block.specs.declared.op.Op.TheVariants as op
use Rattle.host_model.specs.{change_of, sending, HadBefore, Step}
use Rattle.host_report.specs.{session_of}
use Rattle.run_rows.specs.Crash.{log, report, step, steps}
use Rattle.run_rows.specs.{session, FlushedPartsExclude, failed}
use Rattle.run_rows.proofs.PlayCrash.{byte_of, first_byte, flushed, flushes, had, never, put_there, wrote}

-- what passes in no step of a list stands nowhere in it
none_passes : (p : Step → Bool) (xs : List Step) (n : ℕ) (x : Step) → list_any p xs ≡ false → slice_get xs n ≡ Some x → p x ≡ true → ⊥
none_passes p [] zero x none at is = cc
none_passes p [] (suc n) x none at is = cc
none_passes p (y ∷ ys) zero x none at is =
    let same : y ≡ x = cc in
    let t : p y ≡ true = ap p same ∙ is in
    never (sym none ∙ ap (λ b. b || list_any p ys) t)
none_passes p (y ∷ ys) (suc n) x none at is = later (p y) none (λ e. none_passes p ys n x e at is)
  where
    later : (b : Bool) → (b || list_any p ys) ≡ false → (list_any p ys ≡ false → ⊥) → ⊥
    later true e more = never (sym e)
    later false e more = more e

-- ---- what was had

not_had_yet : ¬ HadBefore (session_of report session) (sending log 0) 0
not_had_yet (zero, few, is) = never is
not_had_yet (suc zero, few, is) = never is
not_had_yet (suc (suc m), few, is) = absurd (let small : suc (suc m) ≤ 1 = few in omega (arith, small))

not_had_later : ¬ HadBefore (session_of report session) (sending log 1) 2
not_had_later (zero, few, is) = never is
not_had_later (suc zero, few, is) = never is
not_had_later (suc (suc zero), few, is) = never is
not_had_later (suc (suc (suc zero)), few, is) = never is
not_had_later (suc (suc (suc (suc m))), few, is) = absurd (let small : suc (suc (suc (suc m))) ≤ 3 = few in omega (arith, small))

-- ---- what was flushed

abbrev session_at : Option Step → ℕ
session_at (Some x) = x.session
session_at None = 0

abbrev index_at : Option Step → ℕ
index_at (Some x) = x.index
index_at None = 0

not_flushed_yet : ¬ WasFlushed (take 1 steps) 1 1
not_flushed_yet f = none_passes (λ x. is_barrier (change_of x)) (take 1 steps) f.place f.step refl f.stands f.flushes

-- a flush among the steps is the second
the_second : (p : ℕ) (x : Step) → slice_get steps p ≡ Some x → is_barrier (change_of x) ≡ true → (x.session ≡ 1) × (x.index ≡ 1)
the_second zero x at is = absurd (never (ap flushes at ∙ is))
the_second (suc zero) x at is = (sym (ap session_at at), sym (ap index_at at))
the_second (suc (suc zero)) x at is = absurd (never (ap flushes at ∙ is))
the_second (suc (suc (suc p))) x at is = absurd (never (ap flushes at ∙ is))

not_flushed_so : ¬ WasFlushed steps 1 0
not_flushed_so f =
    let named = f.names.1 in let is : f.step.index ≡ 1 = (the_second f.place f.step f.stands f.flushes).1 in
    absurd (omega (arith, named, is))

not_flushed_there : ¬ WasFlushed steps 2 1
not_flushed_there f =
    let named = f.names.0 in let is : f.step.session ≡ 1 = (the_second f.place f.step f.stands f.flushes).0 in
    absurd (omega (arith, named, is))

not_flushed_well : ¬ WasFlushed failed 1 1
not_flushed_well f = none_passes (λ x. is_barrier (change_of x)) failed f.place f.step refl f.stands f.flushes

-- ---- what was written

not_wrote_there : ¬ WroteBlock steps 1 0 0 2
not_wrote_there w = let named = w.names.1 in let is : 2 ≡ w.step.index = ap index_at w.stands in absurd (omega (arith, named, is))

not_wrote_so : ¬ WroteBlock steps 1 2 0 0
not_wrote_so w = let named = w.names.1 in let is : 0 ≡ w.step.index = ap index_at w.stands in absurd (omega (arith, named, is))

not_wrote_beside : ¬ WroteBlock steps 1 0 1 0
not_wrote_beside w = none_passes (λ x. changes_block (change_of x) 1) steps 0 w.step refl w.stands w.writes

not_wrote_well : ¬ WroteBlock failed 1 0 0 0
not_wrote_well w = none_passes (λ x. changes_block (change_of x) 0) failed 0 w.step refl w.stands w.writes

-- ---- what was put

put : WerePutSince steps 1 0 0 (1 ∷ [])
put = record { later = 0; step = step 0 op.Write (1 ∷ []); stands = refl; since = omega arith; writes = refl; are = refl }

-- what a step from the third on put into block 0 is byte 2
from_the_third : (p : ℕ) (x : Step) → 2 ≤ p → slice_get steps p ≡ Some x → changes_block (change_of x) 0 ≡ true → 2 ≡ first_byte (put_by 1 x.op x.bytes)
from_the_third zero x since at is = absurd (omega (arith, since))
from_the_third (suc zero) x since at is = absurd (omega (arith, since))
from_the_third (suc (suc zero)) x since at is = ap byte_of at
from_the_third (suc (suc (suc p))) x since at is = absurd (cc)

not_put_since : ¬ WerePutSince steps 1 0 2 (1 ∷ [])
not_put_since w =
    let are : 1 ≡ first_byte (put_by 1 w.step.op w.step.bytes) = ap first_byte w.are in
    let is : 2 ≡ first_byte (put_by 1 w.step.op w.step.bytes) = from_the_third w.later w.step w.since w.stands w.writes in
    absurd (omega (arith, are, is))

not_put_beside : ¬ WerePutSince steps 1 1 0 (1 ∷ [])
not_put_beside w = none_passes (λ x. changes_block (change_of x) 1) steps w.later w.step refl w.stands w.writes

not_put_else : ¬ WerePutSince steps 1 0 0 (3 ∷ [])
not_put_else w =
    let are : 3 ≡ first_byte (put_by 1 w.step.op w.step.bytes) = ap first_byte w.are in
    put_there w.later w.step w.stands w.writes (λ one. absurd (omega (arith, are, one))) (λ two. absurd (omega (arith, are, two)))

not_put_well : ¬ WerePutSince failed 1 0 0 (1 ∷ [])
not_put_well w = none_passes (λ x. changes_block (change_of x) 0) failed w.later w.step refl w.stands w.writes

-- ---- the rows

pub flushed_parts_exclude : FlushedPartsExclude
flushed_parts_exclude = record {
  had = had;
  not_had_yet = not_had_yet;
  not_had_later = not_had_later;
  flushed = flushed;
  not_flushed_yet = not_flushed_yet;
  not_flushed_so = not_flushed_so;
  not_flushed_there = not_flushed_there;
  not_flushed_well = not_flushed_well;
  wrote = wrote;
  not_wrote_there = not_wrote_there;
  not_wrote_so = not_wrote_so;
  not_wrote_beside = not_wrote_beside;
  not_wrote_well = not_wrote_well;
  put = put;
  not_put_since = not_put_since;
  not_put_beside = not_put_beside;
  not_put_else = not_put_else;
  not_put_well = not_put_well;
}
