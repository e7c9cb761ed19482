-- What the calls of the table ask and tell, for the functions of the pool.
use Rattle.std.proofs.Common.{◌≡◌, ℕ, ◌/◌, ◌%◌, ◌≤◌, List, [], ◌∷◌, bit_and, sym, refl, ap, subst, ◌∙◌}
use Rattle.std.specs.Prelude.{Option, Some, None}
use mathlib.Core.Option.{none}
use Rattle.atomic_table.specs.Table.{Me, step, Allows, rest}
use Rattle.host_frames.specs.{Opening, View, first_of, others, fetching_view, FetchesPage, LeavesSlot, TakesSlot, BringsHome, GivesUp, IsNextToFetch, IsNextHome}
use Rattle.host_frames.proofs.Bits.{but}
use Rattle.host_frames.proofs.Stepping as m

module _ {A : Type 0} where
  pub first_held : (l old : List (ℕ × A)) (slot frame : ℕ) (x : A) → slot ≡ frame → l ≡ (slot, x) ∷ old → (y : A) × (l ≡ (frame, y) ∷ rest l)
  first_held l old slot frame x is e = (x, e ∙ (λ i. (is i, x) ∷ rest (sym e i)))

module _ {P : Type 0} (IsBlank : ℕ → P → Type 0) (k : Opening) where
  abbrev K : m.St IsBlank k → Type 0
  K = m.K IsBlank k

  abbrev M : Type 0
  M = Me (Option P) View

  pub fetching : (n id : ℕ) (me : M) (frame : ℕ) → IsNextToFetch frame me → Allows K n id me 0 (λ x. x) (FetchesPage IsBlank (step n 0 0 0 none) me)
  fetching n id me frame is = m.fetches_keeps IsBlank k n id me is.0 (is.1 ∙ ap (λ z. z ∷ others me.0.to_fetch) (sym (ap first_of is.1)))

  pub settling : (n id : ℕ) (me : M) (v : View) (frame : ℕ) (l : List (ℕ × Option P)) → me ≡ (fetching_view v, (frame, None) ∷ l) → first_of v.to_fetch ≡ frame → v.share ≡ 1 → n ≡ k.frames → Allows K n id me 0 (λ x. x) (LeavesSlot IsBlank (step n 0 0 0 none) me)
  settling n id me v frame l is next seat slots = let Q : M → Type 0 = λ z. Allows K n id z 0 (λ x. x) (LeavesSlot IsBlank (step n 0 0 0 none) z) in
      subst Q (sym is) (m.leaves_keeps IsBlank k n id (fetching_view v, (frame, None) ∷ l) l slots seat refl (ap (λ z. (z, None) ∷ l) (sym next)))

  pub reaching : (n id : ℕ) (me : M) (frame : ℕ) → IsNextHome frame me → Allows K n id me 0 (λ x. x) (TakesSlot IsBlank (step n 0 0 0 none) me)
  reaching n id me frame is = m.takes_keeps IsBlank k n id me is.0 (is.1 ∙ ap (λ z. z ∷ others me.0.frames_out) (sym (ap first_of is.1)))

  -- the step that clears a bit, within a refused claim and at a return
  pub yielding : (n id : ℕ) (me : M) (f : ℕ) (p : P) (i mask : ℕ) → me.0.share ≡ 1 → 1 ≤ me.0.granted → me.0.slots_held ≡ f ∷ [] → me.1 ≡ (f, Some p) ∷ [] → n ≡ k.frames → IsBlank me.0.page_size p → i ≡ f / 64 → mask ≡ but (f % 64)
      → Allows K n id me i (λ x. bit_and x mask) (GivesUp IsBlank (step n i mask 0 none) me)
  yielding n id me f p i mask seat some held page slots blank word bits = subst (λ (z : ℕ × ℕ). Allows K n id me z.0 (λ x. bit_and x z.1) (GivesUp IsBlank (step n z.0 z.1 0 none) me)) (λ j. ((ap (λ l. first_of l / 64) held ∙ sym word) j, (ap (λ l. but (first_of l % 64)) held ∙ sym bits) j))
      (m.gives_up_keeps IsBlank k n id me p [] slots seat some (held ∙ ap (λ l. first_of l ∷ others l) (sym held)) (page ∙ ap (λ l. (first_of l, Some p) ∷ []) (sym held)) blank)

  pub giving : (n id : ℕ) (me : M) (f : ℕ) (p : P) (i mask : ℕ) → me.0.share ≡ 1 → me.0.slots_held ≡ f ∷ [] → me.1 ≡ (f, Some p) ∷ [] → n ≡ k.frames → IsBlank me.0.page_size p → i ≡ f / 64 → mask ≡ but (f % 64)
      → Allows K n id me i (λ x. bit_and x mask) (BringsHome IsBlank (step n i mask 0 none) me)
  giving n id me f p i mask seat held page slots blank word bits = subst (λ (z : ℕ × ℕ). Allows K n id me z.0 (λ x. bit_and x z.1) (BringsHome IsBlank (step n z.0 z.1 0 none) me)) (λ j. ((ap (λ l. first_of l / 64) held ∙ sym word) j, (ap (λ l. but (first_of l % 64)) held ∙ sym bits) j))
      (m.brings_keeps IsBlank k n id me p [] slots seat (held ∙ ap (λ l. first_of l ∷ others l) (sym held)) (page ∙ ap (λ l. (first_of l, Some p) ∷ []) (sym held)) blank)
