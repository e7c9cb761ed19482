-- The buffer at the place where its id was found.
use Rattle.std.proofs.Common.{◌≡◌, ℕ, suc, ◌+◌, ◌<◌, List, length, get_or, Some, refl, sym, ap, subst, ◌∙◌, arith}
use Rattle.std.specs.Prelude.{slice_get}
use Rattle.std.proofs.lemmas.Option.{slice_get_read}
use Rattle.atomic_table.specs.Seated.{TableId}
use Rattle.host_log.specs.{SwitchedLog}
use Rattle.host_model.specs.{MemEntry, MemEvent}
use Rattle.host_memory.specs.{Buffer, MemoryLimits, given_count, has_blocks, standing_in, IsMemoryKept, IsToldBy, has_pages_at, pages_standing, events}
use Rattle.host_memory.proofs.Seeing.{has_blocks_is, standing_is}

module _ (limits : MemoryLimits) (pool : TableId × ℕ) (l : SwitchedLog MemEntry) (moves left : ℕ) (bs : List Buffer) (k : IsMemoryKept limits pool l moves left bs)
    (h : List MemEvent) (seen : events l.items ≡ h) (i id : ℕ) (x : Buffer) (named : i + 1 ≡ id) (given : i < given_count h) (here : x ≡ get_or bs i x) where
  id_is : suc i ≡ id
  id_is = omega arith

  pub found_at : slice_get bs i ≡ Some x
  found_at = slice_get_read bs (length bs) i x refl (subst (λ z. i < z) k.told.given (subst (λ z. i < given_count z) (sym seen) given)) here

  pub found_told : IsToldBy pool limits.size (events l.items) (suc i) x
  found_told = k.told.each i x found_at

  pub found_blocks : (block cnt : ℕ) → has_blocks id h block cnt ≡ has_pages_at x.pages block cnt
  found_blocks block cnt = ap (λ z. has_blocks id z block cnt) (sym seen) ∙ (ap (λ v. has_blocks v (events l.items) block cnt) (sym id_is) ∙ has_blocks_is pool limits.size (events l.items) (suc i) x found_told block cnt)

  pub found_standing : (j : ℕ) → standing_in id j h ≡ pages_standing x.pages x.closer x.from x.page_count j
  found_standing j = ap (λ z. standing_in id j z) (sym seen) ∙ (ap (λ v. standing_in v j (events l.items)) (sym id_is) ∙ standing_is pool limits.size (events l.items) (suc i) x found_told j)
