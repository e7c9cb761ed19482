-- A buffer without entries.
use Rattle.std.proofs.Common.{◌≡◌, ℕ, ◌==◌, Bool, true, false, if◌then◌else◌, List, Option, None, refl, ap}
use Rattle.std.specs.Prelude.{slice_get}
use Rattle.std.specs.List.{list_any}
use Rattle.std.specs.Option.{option_map_or}
use Rattle.host_model.specs.{MemEvent, buffer_of}
use Rattle.host_memory.specs.{Attachment, attachment_by, attachment_of, closer_of, is_before_close, is_released, pages_for, standing_in}
use Rattle.host_memory.proofs.Telling.{leaves_alone, no_map}

pub absent_attachment : (v : ℕ) (h : List MemEvent) → list_any (λ e. buffer_of e == v) h ≡ false → attachment_of v h ≡ None
absent_attachment v h n = ap (λ l. slice_get l 0) (no_map v (attachment_by v) (λ e s. (leaves_alone 0 v e s).attachment) h n)

standing_step : (z y : Bool) (a : Option Attachment) (i : ℕ) → a ≡ None → (if z then None else (if y then option_map_or (pages_for i) a None else None)) ≡ None
standing_step true y a i e = refl
standing_step false true a i e = ap (λ o. option_map_or (pages_for i) o None) e
standing_step false false a i e = refl

pub absent_standing : (v i : ℕ) (h : List MemEvent) → attachment_of v h ≡ None → standing_in v i h ≡ None
absent_standing v i h e = standing_step (is_released v h) (is_before_close i (closer_of v h)) (attachment_of v h) i e
