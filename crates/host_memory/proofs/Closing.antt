-- A buffer that stands for a record holds pages, and holds them still once it is closed.
use Rattle.std.proofs.Common.{◌≡◌, ◌≢◌, ◌⊎◌, inl, inr, ℕ, ◌<◌, ◌==◌, Bool, true, false, if◌then◌else◌, List, [], ◌∷◌, ◌++◌, filter_map, Option, Some, None, refl, sym, ap, subst, ◌∙◌, eq-eqb}
use Rattle.std.specs.Prelude.{slice_get}
use Rattle.std.specs.Bool.{then_some}
use Rattle.std.specs.Option.{option_map_or, is_some}
use Rattle.std.proofs.lemmas.Bool.Decides.{eqb_tells}
use Rattle.atomic_table.specs.Seated.{TableId}
use Rattle.host_frames.specs.{SeenPages}
use Rattle.host_model.specs.{MemEvent, count, page_put_by, buffer_of, is_release_of}
use Rattle.host_model.specs.declared.memory.MemEvent.TheVariants as mem
use Rattle.host_memory.specs.{Attachment, attachment_by, attachment_of, closer_by, closer_of, holds_pages, is_before_close, is_released, page_count_of, pages_for, standing_in, ArePagesOf, closer_due, pins_on}
use Rattle.host_memory.proofs.Pinning.{pins_left_same}
use Rattle.host_memory.proofs.Pushed.{any_skip, filter_map_add, filter_map_skip, page_same}

holds_step : (z y : Bool) (j : ℕ) (a : Option Attachment) → is_some (if z then None else (if y then option_map_or (pages_for j) a None else None)) ≡ true
    → option_map_or (λ n. true) (if z then None else option_map_or (λ x. Some x.pages) a None) false ≡ true
holds_step true y j a e = absurd (cc)
holds_step false true j None e = absurd (cc)
holds_step false true j (Some x) e = refl
holds_step false false j a e = absurd (cc)

pub stands_holds : (v j : ℕ) (h : List MemEvent) → is_some (standing_in v j h) ≡ true → holds_pages v h ≡ true
stands_holds v j h e = holds_step (is_released v h) (is_before_close j (closer_of v h)) j (attachment_of v h) e

pub holds_still : (v : ℕ) (h : List MemEvent) (e : MemEvent) → attachment_by v e ≡ None → is_release_of v e ≡ false → holds_pages v (h ++ e ∷ []) ≡ holds_pages v h
holds_still v h e a r =
    ap (λ z. option_map_or (λ n. true) (if z then None else option_map_or (λ x. Some x.pages) (attachment_of v (h ++ e ∷ [])) None) false) (any_skip (is_release_of v) h e r)
    ∙ ap (λ l. option_map_or (λ n. true) (if is_released v h then None else option_map_or (λ x. Some x.pages) (slice_get l 0) None) false) (filter_map_skip (attachment_by v) h e a)

-- what pages have is the same before an entry that attaches nothing and puts nothing
pub pages_before : (pool : TableId × ℕ) (size v : ℕ) (h : List MemEvent) (e : MemEvent) (p : SeenPages) → attachment_by v e ≡ None → ((k : ℕ) → page_put_by size v k e ≡ None)
    → ArePagesOf pool size (h ++ e ∷ []) v (page_count_of v (h ++ e ∷ [])) p → ArePagesOf pool size h v (page_count_of v h) p
pages_before pool size v h e p a n are =
    let same : page_count_of v (h ++ e ∷ []) ≡ page_count_of v h = ap (λ l. option_map_or (λ x. x.pages) (slice_get l 0) 0) (filter_map_skip (attachment_by v) h e a) in
    record {
      of_pool = are.of_pool;
      number = are.number ∙ same;
      bytes = λ k lt. are.bytes k (subst (λ m. k < m) (sym same) lt) ∙ page_same size h v k e (n k);
    }

first_step : (l : List ℕ) (x : ℕ) → slice_get l 0 ≡ None → slice_get (l ++ x ∷ []) 0 ≡ Some x
first_step [] x e = refl
first_step (y ∷ ys) x e = absurd (cc)

-- once a record has closed the buffer
module _ (h : List MemEvent) (index v : ℕ) where
  pub closing_holds : is_some (standing_in v index h) ≡ true → holds_pages v (h ++ mem.Close index v ∷ []) ≡ true
  closing_holds e = holds_still v h (mem.Close index v) refl refl ∙ stands_holds v index h e

  pub closing_pins : pins_on v (h ++ mem.Close index v ∷ []) ≡ pins_on v h
  closing_pins = ap (λ ps. count (λ p. buffer_of p == v) ps) (pins_left_same h (mem.Close index v) (λ j. refl) refl)

  pub closing_closer : closer_of v h ≡ None → closer_of v (h ++ mem.Close index v ∷ []) ≡ Some index
  closing_closer e = ap (λ l. slice_get l 0) (filter_map_add (closer_by v) h (mem.Close index v) index (ap (λ z. then_some z index) (eq-eqb v v refl))) ∙ first_step (filter_map (closer_by v) h) index e

  pub closing_due : closer_of v h ≡ None → closer_due v (h ++ mem.Close index v ∷ []) ≡ (if pins_on v h == 0 then Some index else None)
  closing_due e = ap (λ n. if n == 0 then closer_of v (h ++ mem.Close index v ∷ []) else None) closing_pins ∙ ap (λ o. if pins_on v h == 0 then o else None) (closing_closer e)

free_step : (n index j : ℕ) → ((n == 0) ≡ true) × (n ≡ 0) ⊎ ((n == 0) ≡ false) × (n ≢ 0) → (if n == 0 then Some index else None) ≡ Some j → n ≡ 0
free_step n index j (inl e) s = e.1
free_step n index j (inr e) s = absurd (let f : None ≡ Some j = ap (λ b. if b then Some index else None) (sym e.0) ∙ s in cc)

-- a record that closed the buffer is found just where no pin is left
pub free_found : (n index j : ℕ) → (if n == 0 then Some index else None) ≡ Some j → n ≡ 0
free_found n index j s = free_step n index j (eqb_tells n 0) s

pub busy_found : (n index : ℕ) → (if n == 0 then Some index else None) ≡ None → n ≡ 0 → ⊥
busy_found n index s z = let f : Some index ≡ None = ap (λ b. if b then Some index else None) (sym (eq-eqb n 0 z)) ∙ s in cc
