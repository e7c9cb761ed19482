-- A buffer that holds pages has a place.
use Rattle.std.proofs.Common.{◌≡◌, ℕ, suc, ◌-◌, ◌<◌, ◌≤◌, ◌==◌, Bool, true, false, if◌then◌else◌, List, length, get_or, Some, None, Option, refl, sym, ap, subst, ◌∙◌, arith}
use Rattle.std.specs.Prelude.{slice_get}
use Rattle.std.specs.Option.{option_map_or}
use Rattle.std.proofs.lemmas.Option.{slice_get_read}
use Rattle.atomic_table.specs.Seated.{TableId}
use Rattle.host_log.specs.{SwitchedLog}
use Rattle.host_frames.specs.{SeenPages, contents, pages_pool}
use Rattle.host_model.specs.{MemEntry}
use Rattle.host_memory.specs.{Buffer, MemoryLimits, Attachment, attachment_of, closer_of, holds_pages, is_released, page_count_of, IsMemoryKept, IsToldBy, release_owed, ArePagesOf, contents_held, outline, page_held, closer_due, events}
use Rattle.host_memory.proofs.Present.{present}
use Rattle.host_memory.proofs.Seeing.{attachment_is, closer_is}

held_step : (z : Bool) (o : Option ℕ) → option_map_or (λ n. true) (if z then None else o) false ≡ true → z ≡ false
held_step true o e = absurd (cc)
held_step false o e = refl

absent_step : (z : Bool) (a : Option Attachment) → option_map_or (λ n. true) (if z then None else option_map_or (λ x. Some x.pages) a None) false ≡ true → a ≡ None → ⊥
absent_step true a e n = absurd (cc)
absent_step false None e n = absurd (cc)
absent_step false (Some x) e n = absurd (cc)

some_step : (p : Option SeenPages) (o : (TableId × ℕ) × ℕ) → outline p ≡ Some o → release_owed p ≡ 1
some_step None o e = absurd (cc)
some_step (Some p) o e = refl

module _ (limits : MemoryLimits) (pool : TableId × ℕ) (l : SwitchedLog MemEntry) (moves left : ℕ) (bs : List Buffer) (k : IsMemoryKept limits pool l moves left bs)
    (id : ℕ) (holds : holds_pages id (events l.items) ≡ true) where
  pub holds_given : (1 ≤ id) × (id ≤ length bs)
  holds_given = present pool limits.size (events l.items) bs k.told id (absent_step (is_released id (events l.items)) (attachment_of id (events l.items)) holds)

  pub holds_within : id - 1 < length bs
  holds_within = let g = holds_given in let a = g.0 in let b = g.1 in omega arith

  pub holds_suc : suc (id - 1) ≡ id
  holds_suc = let g = holds_given in let a = g.0 in omega arith

  pub holds_held : is_released (suc (id - 1)) (events l.items) ≡ false
  holds_held = ap (λ v. is_released v (events l.items)) holds_suc ∙ held_step (is_released id (events l.items)) (option_map_or (λ x. Some x.pages) (attachment_of id (events l.items)) None) holds

  module _ (x : Buffer) (here : x ≡ get_or bs (id - 1) x) where
    pub holds_at : slice_get bs (id - 1) ≡ Some x
    holds_at = slice_get_read bs (length bs) (id - 1) x refl holds_within here

    pub holds_told : IsToldBy pool limits.size (events l.items) (suc (id - 1)) x
    holds_told = k.told.each (id - 1) x holds_at

    pub holds_outline : outline x.pages ≡ Some (pool, x.page_count)
    holds_outline = holds_told.held ∙ ap (λ z. if z then None else Some (pool, x.page_count)) holds_held

    pub holds_owed : release_owed x.pages ≡ 1
    holds_owed = some_step x.pages (pool, x.page_count) holds_outline

    pub holds_due : closer_due id (events l.items) ≡ (if x.pins == 0 then x.closer else None)
    holds_due = ap (λ v. closer_due v (events l.items)) (sym holds_suc)
        ∙ (ap (λ n. if n == 0 then closer_of (suc (id - 1)) (events l.items) else None) holds_told.pinned
        ∙ ap (λ o. if x.pins == 0 then o else None) (closer_is pool limits.size (events l.items) (suc (id - 1)) x holds_told))

    pub holds_pages_of : (p : SeenPages) → x.pages ≡ Some p → ArePagesOf pool limits.size (events l.items) (suc (id - 1)) x.page_count p
    holds_pages_of p e =
        let o : outline (Some p) ≡ Some (pool, x.page_count) = sym (ap outline e) ∙ holds_outline in
        let both : (pages_pool p, length (contents p)) ≡ (pool, x.page_count) = ap (λ z. option_map_or (λ y. y) z (pool, x.page_count)) o in
        record {
          of_pool = ap (λ z. z.0) both;
          number = ap (λ z. z.1) both;
          bytes = λ j lt. ap (λ z. page_held z j) (sym e) ∙ holds_told.bytes j (subst (λ z. j < length (contents_held z)) (sym e) (subst (λ n. j < n) (sym (ap (λ z. z.1) both)) lt));
        }

    pub holds_count : page_count_of id (events l.items) ≡ x.page_count
    holds_count = ap (λ v. page_count_of v (events l.items)) (sym holds_suc) ∙ ap (λ o. option_map_or (λ a. a.pages) o 0) (attachment_is pool limits.size (events l.items) (suc (id - 1)) x holds_told)
