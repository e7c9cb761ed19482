-- What a history tells of a buffer is what is kept of it.
use Rattle.std.proofs.Common.{◌≡◌, ℕ, Bool, true, false, if◌then◌else◌, List, Option, Some, None, refl, sym, ap, ◌∙◌}
use Rattle.std.specs.Prelude.{slice_get}
use Rattle.std.specs.Option.{option_map_or}
use Rattle.atomic_table.specs.Seated.{TableId}
use Rattle.host_frames.specs.{SeenPages}
use Rattle.host_model.specs.{MemEvent, is_within}
use Rattle.host_memory.specs.{Buffer, Attachment, attachment_of, closer_of, is_released, pages_held, has_blocks, standing_in, is_before_close, pages_for, IsToldBy, listed, outline, has_pages_at, pages_standing}

abbrev pub outline_count : Option ((TableId × ℕ) × ℕ) → Option ℕ
outline_count None = None
outline_count (Some o) = Some o.1

held_step : (pool : TableId × ℕ) (n from : ℕ) (z : Bool) (a : Option Attachment) (o : Option ((TableId × ℕ) × ℕ)) → a ≡ Some (record { pages = n; from = from }) → o ≡ (if z then None else Some (pool, n))
    → (if z then None else option_map_or (λ x. Some x.pages) a None) ≡ outline_count o
held_step pool n from true a o s e = sym (ap outline_count e)
held_step pool n from false a o s e = ap (λ x. option_map_or (λ y. Some y.pages) x None) s ∙ sym (ap outline_count e)

blocks_step : (p : Option SeenPages) (block cnt : ℕ) → option_map_or (is_within block cnt) (outline_count (outline p)) false ≡ has_pages_at p block cnt
blocks_step None block cnt = refl
blocks_step (Some p) block cnt = refl

listed_first : {A : Type 0} (o : Option A) → slice_get (listed o) 0 ≡ o
listed_first None = refl
listed_first (Some x) = refl

standing_step : (pool : TableId × ℕ) (n from i : ℕ) (p : Option SeenPages) (c : Option ℕ) (z : Bool) → outline p ≡ (if z then None else Some (pool, n))
    → (if z then None else (if is_before_close i c then pages_for i (record { pages = n; from = from }) else None)) ≡ pages_standing p c from n i
standing_step pool n from i None c true e = refl
standing_step pool n from i None c false e = absurd (cc)
standing_step pool n from i (Some p) c true e = absurd (cc)
standing_step pool n from i (Some p) c false e = refl

module _ (pool : TableId × ℕ) (size : ℕ) (h : List MemEvent) (v : ℕ) (b : Buffer) (t : IsToldBy pool size h v b) where
  pub attachment_is : attachment_of v h ≡ Some (record { pages = b.page_count; from = b.from })
  attachment_is = ap (λ l. slice_get l 0) t.attached

  pub closer_is : closer_of v h ≡ b.closer
  closer_is = ap (λ l. slice_get l 0) t.closed ∙ listed_first b.closer

  pub pages_held_is : pages_held v h ≡ outline_count (outline b.pages)
  pages_held_is = held_step pool b.page_count b.from (is_released v h) (attachment_of v h) (outline b.pages) attachment_is t.held

  pub has_blocks_is : (block cnt : ℕ) → has_blocks v h block cnt ≡ has_pages_at b.pages block cnt
  has_blocks_is block cnt = ap (λ o. option_map_or (is_within block cnt) o false) pages_held_is ∙ blocks_step b.pages block cnt

  pub standing_is : (i : ℕ) → standing_in v i h ≡ pages_standing b.pages b.closer b.from b.page_count i
  standing_is i =
      ap (λ o. if is_released v h then None else (if is_before_close i o then option_map_or (pages_for i) (attachment_of v h) None else None)) closer_is
      ∙ (ap (λ o. if is_released v h then None else (if is_before_close i b.closer then option_map_or (pages_for i) o None else None)) attachment_is
      ∙ standing_step pool b.page_count b.from i b.pages b.closer (is_released v h) t.held)
