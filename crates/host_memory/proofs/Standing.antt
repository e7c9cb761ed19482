-- A buffer that stands for a record has a place, and is held.
use Rattle.std.proofs.Common.{◌≡◌, ℕ, suc, ◌-◌, ◌<◌, ◌≤◌, Bool, true, false, if◌then◌else◌, List, length, get_or, Some, None, Option, refl, sym, ap, ◌∙◌, arith}
use Rattle.std.specs.Prelude.{slice_get}
use Rattle.std.specs.List.{list_any}
use Rattle.std.specs.Option.{option_map_or, is_some}
use Rattle.std.proofs.lemmas.Option.{slice_get_read}
use Rattle.atomic_table.specs.Seated.{TableId}
use Rattle.host_log.specs.{SwitchedLog}
use Rattle.host_model.specs.{MemEntry, is_close_of}
use Rattle.host_memory.specs.{Buffer, MemoryLimits, attachment_of, closer_of, is_before_close, is_released, pages_for, standing_in, IsMemoryKept, IsToldBy, listed, events}
use Rattle.host_memory.proofs.Absent.{absent_standing}
use Rattle.host_memory.proofs.Pinned.{unclosed}
use Rattle.host_memory.proofs.Present.{present}
use Rattle.host_memory.proofs.Seeing.{closer_is}

held_step : (z : Bool) (o : Option ℕ) → is_some (if z then None else o) ≡ true → z ≡ false
held_step true o e = absurd (cc)
held_step false o e = refl

nothing : (o : Option ℕ) → is_some o ≡ true → o ≡ None → ⊥
nothing None s n = absurd (cc)
nothing (Some x) s n = absurd (cc)

module _ (limits : MemoryLimits) (pool : TableId × ℕ) (l : SwitchedLog MemEntry) (moves left : ℕ) (bs : List Buffer) (k : IsMemoryKept limits pool l moves left bs)
    (id j : ℕ) (stands : is_some (standing_in id j (events l.items)) ≡ true) where
  pub stands_given : (1 ≤ id) × (id ≤ length bs)
  stands_given = present pool limits.size (events l.items) bs k.told id (λ a. nothing (standing_in id j (events l.items)) stands (absent_standing id j (events l.items) a))

  pub stands_within : id - 1 < length bs
  stands_within = let g = stands_given in let a = g.0 in let b = g.1 in omega arith

  pub stands_suc : suc (id - 1) ≡ id
  stands_suc = let g = stands_given in let a = g.0 in omega arith

  pub stands_held : is_released (suc (id - 1)) (events l.items) ≡ false
  stands_held = ap (λ v. is_released v (events l.items)) stands_suc ∙ held_step (is_released id (events l.items)) (if is_before_close j (closer_of id (events l.items)) then option_map_or (pages_for j) (attachment_of id (events l.items)) None else None) stands

  module _ (x : Buffer) (here : x ≡ get_or bs (id - 1) x) where
    pub stands_at : slice_get bs (id - 1) ≡ Some x
    stands_at = slice_get_read bs (length bs) (id - 1) x refl stands_within here

    pub stands_told : IsToldBy pool limits.size (events l.items) (suc (id - 1)) x
    stands_told = k.told.each (id - 1) x stands_at

    pub never_closed : closer_of id (events l.items) ≡ None → (x.closer ≡ None) × (list_any (is_close_of (suc (id - 1))) (events l.items) ≡ false)
    never_closed n =
        let none : x.closer ≡ None = sym (closer_is pool limits.size (events l.items) (suc (id - 1)) x stands_told) ∙ (ap (λ v. closer_of v (events l.items)) stands_suc ∙ n) in
        (none, unclosed (suc (id - 1)) (events l.items) (stands_told.closed ∙ ap (λ (o : Option ℕ). listed o) none))
