-- A buffer that was attached has a place.
use Rattle.std.proofs.Common.{◌≡◌, ◌≢◌, inl, inr, ℕ, suc, ◌-◌, ◌≤◌, ◌==◌, false, List, filter_map, length, None, ap, subst, arith}
use Rattle.std.specs.Prelude.{slice_get}
use Rattle.std.specs.Option.{option_map_or}
use Rattle.std.specs.List.{list_any}
use Rattle.std.proofs.lemmas.Bool.Decides.{leb_tells}
use Rattle.atomic_table.specs.Seated.{TableId}
use Rattle.host_model.specs.{MemEvent, buffer_of}
use Rattle.host_memory.specs.{Buffer, Attachment, attachment_by, attachment_of, page_count_of, AreTold, IsToldBy}
use Rattle.host_memory.proofs.Absent.{absent_attachment}
use Rattle.host_log.proofs.Places.{some_at}
use Rattle.host_memory.proofs.Telling.{leaves_alone, no_map}

module _ (pool : TableId × ℕ) (size : ℕ) (h : List MemEvent) (bs : List Buffer) (t : AreTold pool size h bs) (id : ℕ) where
  pub present : attachment_of id h ≢ None → (1 ≤ id) × (id ≤ length bs)
  present n = elim (leb_tells 1 id) as (λ _. (1 ≤ id) × (id ≤ length bs)) [
    | inl p ↦ elim (leb_tells id (length bs)) as (λ _. (1 ≤ id) × (id ≤ length bs)) [ inl q ↦ (p.1, q.1) | inr q ↦ absurd (n (absent_attachment id h (t.fresh id q.1))) ]
    | inr p ↦ absurd (n (absent_attachment id h (let low = p.1 in let z : 0 ≡ id = omega arith in subst (λ v. list_any (λ e. buffer_of e == v) h ≡ false) z t.never)))
  ]

  never_attached : list_any (λ e. buffer_of e == id) h ≡ false → length (filter_map (attachment_by id) h) ≤ 1
  never_attached n = let none = ap length (no_map id (attachment_by id) (λ e m. (leaves_alone 0 id e m).attachment) h n) in omega arith

  -- no buffer is attached twice
  pub attached_once : length (filter_map (attachment_by id) h) ≤ 1
  attached_once = elim (leb_tells 1 id) as (λ _. length (filter_map (attachment_by id) h) ≤ 1) [
    | inl p ↦ elim (leb_tells id (length bs)) as (λ _. length (filter_map (attachment_by id) h) ≤ 1) [
      | inl q ↦ (let low = p.1 in let high = q.1 in let found = some_at bs (id - 1) (omega arith) in
          let named : suc (id - 1) ≡ id = omega arith in
          let one = ap length (subst (λ v. IsToldBy pool size h v found.0) named (t.each (id - 1) found.0 found.1)).attached in omega arith)
      | inr q ↦ never_attached (t.fresh id q.1)
    ]
    | inr p ↦ never_attached (let low = p.1 in let z : 0 ≡ id = omega arith in subst (λ v. list_any (λ e. buffer_of e == v) h ≡ false) z t.never)
  ]

  unattached_few : attachment_of id h ≡ None → page_count_of id h ≤ 4294967295
  unattached_few none = let same : page_count_of id h ≡ 0 = ap (λ o. option_map_or (λ (a : Attachment). a.pages) o 0) none in omega arith

  -- a buffer's pages have numbers of 32 bits
  pub few_pages : page_count_of id h ≤ 4294967295
  few_pages = elim (leb_tells 1 id) as (λ _. page_count_of id h ≤ 4294967295) [
    | inl p ↦ elim (leb_tells id (length bs)) as (λ _. page_count_of id h ≤ 4294967295) [
      | inl q ↦ (let low = p.1 in let high = q.1 in let found = some_at bs (id - 1) (omega arith) in
          let named : suc (id - 1) ≡ id = omega arith in
          let told : IsToldBy pool size h id found.0 = subst (λ v. IsToldBy pool size h v found.0) named (t.each (id - 1) found.0 found.1) in
          let same : page_count_of id h ≡ found.0.page_count = ap (λ l. option_map_or (λ (a : Attachment). a.pages) (slice_get l 0) 0) told.attached in
          let few = told.few in omega arith)
      | inr q ↦ unattached_few (absent_attachment id h (t.fresh id q.1))
    ]
    | inr p ↦ unattached_few (absent_attachment id h (let low = p.1 in let z : 0 ≡ id = omega arith in subst (λ v. list_any (λ e. buffer_of e == v) h ≡ false) z t.never))
  ]
