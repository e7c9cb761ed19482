-- A script can be played where it was begun.
use Rattle.std.proofs.Common.{◌≡◌, ℕ, ◌+◌, ◌≤◌, Bool, List, length, map, sym, ◌∙◌, ap, subst, None}
use Rattle.std.specs.Prelude.{All, Ok}
use Rattle.std.proofs.lemmas.List.{length-map}
use Rattle.std.proofs.lemmas.List.Elements.{All-map}
use Rattle.host_block.specs.declared.range.Range.{Range}
use Rattle.host_start.specs.{IsPlaced, IsFit, Place, Start}
use Rattle.script_model.proofs.SaidScript.{script_fits}
use Rattle.script_model.specs.{limit_of, PlannedSession, plans_of, script_of}

-- a script that a text means, within its limits
pub fit : (size : ℕ) (text : List ℕ) (plans : List PlannedSession) → script_of text ≡ Ok plans → limit_of size plans ≡ None → IsFit size plans
fit size text plans meant limits = record { said = script_fits text plans meant; limits = limits }

-- a place for each session
pub as_many : (tells : Bool) (image : List (List ℕ)) (start : Start) → IsPlaced tells image start → length start.places.items ≡ length (plans_of start.script)
as_many tells image start placed =
    sym (length-map start.places.items (λ (p : Place). p.part))
    ∙ ap length placed.places.named
    ∙ length-map (plans_of start.script) (λ (p : PlannedSession). p.part)

-- the ranges of places lie in the image
pub inside : (places : List Place) (ranges : List Range) (blocks ground_blocks : ℕ) → ranges ≡ map (λ (p : Place). p.range) places → ground_blocks ≡ blocks
    → All (λ (p : Place). p.range.first + p.range.count ≤ blocks) places → All (λ (r : Range). r.first + r.count ≤ ground_blocks) ranges
inside places ranges blocks ground_blocks are same all =
    let mapped = All-map (λ (r : Range). r.first + r.count ≤ blocks) (λ (p : Place). p.range) places all in
    subst (λ (n : ℕ). All (λ (r : Range). r.first + r.count ≤ n) ranges) (sym same) (subst (All (λ (r : Range). r.first + r.count ≤ blocks)) (sym are) mapped)
