-- The plain cells come to what the rows of their instances come to.
use Rattle.std.proofs.Common.{◌≡◌, ◌≢◌, ◌⊎◌, ℕ, zero, suc, ◌+◌, ◌^◌, ◌≤◌, ◌<◌, List, [], ◌∷◌, ◌++◌, length, map, set, get_or, sym, refl, ap, subst, ◌∙◌, inl, inr, arith}
use Rattle.std.specs.Prelude.{true, false, min}
use mathlib.Core.Option.{some, some-injective}
use lib.ListN.{get_elem?}
use Rattle.host_record.specs.declared.status.Status.{Status}
use Rattle.host_group.specs.{PlainCell, PlainCells, Member, Row, no_failure, failure_word, status_of, bit, name_of, fresh_row, IsRising, Tally, nothing, both, if_last, tally_of, IsEnd, empty_cell, plain_cell, added_cell, settled_cell, cell_end, whole, HasCome, HasRows, IsRowWaiting, settled_row, IsGoingOn}
use Rattle.host_log.proofs.Totals.{without, fold_at, fold_set, fold_snoc, fold_unit}
use Rattle.host_group.proofs.Tallies.{both_assoc, both_comm, both_nothing, Sound}
use Rattle.host_group.proofs.Counting.{rising_length, rising_snoc}
use Rattle.host_group.proofs.Endings.{sound_whole, AreRising, no_closer, is_end}

pub comes_empty : HasCome empty_cell nothing
comes_empty = record { members = refl; unsettled = refl; closed = refl; error = refl; device_front = refl; memory_front = refl; closing = λ e. absurd (let n : bit false ≡ bit true = ap bit e in omega arith) }

unit_whole : (rows : List Row) → both nothing (whole rows) ≡ whole rows
unit_whole rows = fold_unit both nothing both_assoc both_comm tally_of both_nothing rows

comes_added : (t : Tally) (c : PlainCell) (m : Member) → m.index < 2 ^ 32 → Sound t → both nothing t ≡ t → HasCome c t → c.closed ≡ false → HasCome (added_cell c m.index m.reqid m.last) (both (tally_of (fresh_row m)) t)
comes_added t c m low sound unit is clear = let a = is.members in let b = is.unsettled in let d = is.closed in let e = is.error in let f = is.device_front in let g = is.memory_front in let z : bit c.closed ≡ 0 = ap bit clear in
    let l : min no_failure t.error ≡ t.error = ap (λ x. x.error) unit in let n : t.closing ≡ 0 = sound.unnamed (omega arith) in record {
      members = omega arith;
      unsettled = omega arith;
      closed = omega arith;
      error = omega arith;
      device_front = omega arith;
      memory_front = omega arith;
      closing = λ last. let k : if_last m.last (name_of m) ≡ name_of m = ap (λ x. if_last x (name_of m)) last in (omega arith, low);
    }

comes_settled : (R : Tally) (c : PlainCell) (r : Row) (status : Status) (device memory : ℕ) → both nothing R ≡ R → HasCome c (both (tally_of (fresh_row r.member)) R) → HasCome (settled_cell c (failure_word r.member.index status) device memory) (both (tally_of (settled_row r status device memory)) R)
comes_settled R c r status device memory unit is = let a = is.members in let b = is.unsettled in let e = is.error in let f = is.device_front in let g = is.memory_front in let l : min no_failure R.error ≡ R.error = ap (λ x. x.error) unit in record {
  members = omega arith;
  unsettled = omega arith;
  closed = is.closed;
  error = omega arith;
  device_front = omega arith;
  memory_front = omega arith;
  closing = is.closing;
}

abbrev members : List Row → List Member
members rows = map (λ (r : Row). r.member) rows

members_snoc : (rows : List Row) (r : Row) → members (rows ++ r ∷ []) ≡ members rows ++ r.member ∷ []
members_snoc [] r = refl
members_snoc (x ∷ rows) r = ap (λ l. x.member ∷ l) (members_snoc rows r)

members_set : (rows : List Row) (i : ℕ) (r w : Row) → get_elem? rows i ≡ some r → w.member ≡ r.member → members (set rows i w) ≡ members rows
members_set [] i r w e same = refl
members_set (x ∷ rows) zero r w e same = ap (λ m. m ∷ members rows) (same ∙ sym (ap (λ (y : Row). y.member) (some-injective x r e)))
members_set (x ∷ rows) (suc i) r w e same = ap (λ l. x.member ∷ l) (members_set rows i r w e same)

rising_members : (rows : List Row) (from end : ℕ) → IsRising (members rows) from end → end ≤ 2 ^ 32 → AreRising rows from
rising_members [] from end rise le = tt
rising_members (r ∷ rows) from end rise le = let low = rise.0 in let top = rising_length (members rows) (r.member.index + 1) end rise.1 in (omega arith, omega arith, rising_members rows (r.member.index + 1) end rise.1 le)

later : (ms : List Member) (from end end' : ℕ) → end ≤ end' → IsRising ms from end → IsRising ms from end'
later [] from end end' le rise = omega arith
later (m ∷ ms) from end end' le rise = (rise.0, later ms (m.index + 1) end end' le rise.1)

-- ---- cells in a list
-- what would stand for a cell past the last doesn't matter at a cell that is there
pub cell_here : (cells : List PlainCell) (g : ℕ) (c d : PlainCell) → g < length cells → get_or cells g c ≡ get_or cells g d
cell_here [] g c d lt = absurd (omega arith)
cell_here (x ∷ cells) zero c d lt = refl
cell_here (x ∷ cells) (suc g) c d lt = cell_here cells g c d (omega arith)

pub cell_own : (cells : List PlainCell) (g : ℕ) (c : PlainCell) → g < length cells → get_or (set cells g c) g empty_cell ≡ c
cell_own [] g c lt = absurd (omega arith)
cell_own (x ∷ cells) zero c lt = refl
cell_own (x ∷ cells) (suc g) c lt = cell_own cells g c (omega arith)

cell_other : (cells : List PlainCell) (g h : ℕ) (c : PlainCell) → h ≢ g → get_or (set cells g c) h empty_cell ≡ get_or cells h empty_cell
cell_other [] g h c ne = refl
cell_other (x ∷ cells) zero zero c ne = absurd (ne refl)
cell_other (x ∷ cells) zero (suc h) c ne = refl
cell_other (x ∷ cells) (suc g) zero c ne = refl
cell_other (x ∷ cells) (suc g) (suc h) c ne = cell_other cells g h c (λ e. ne (ap suc e))

-- ---- the calls
pub rows_empty : (g : ℕ) (p : PlainCells) → plain_cell g p ≡ empty_cell → p.next < 2 ^ 32 → HasRows g p []
rows_empty g p e bound = record { rising = omega arith; bound = bound; come = subst (λ c. HasCome c nothing) (sym e) comes_empty }

-- the cells of p' are those of p, but that of g is c
pub record Replaces (g : ℕ) (p : PlainCells) (c : PlainCell) (p' : PlainCells) : Type 0 where
  pub number : g < length p.cells
  pub cells : p'.cells ≡ set p.cells g c
  pub next : p.next ≤ p'.next

own : (g : ℕ) (p p' : PlainCells) (c : PlainCell) → Replaces g p c p' → plain_cell g p' ≡ c
own g p p' c new = ap (λ l. get_or l g empty_cell) new.cells ∙ cell_own p.cells g c new.number

pub rows_else : (g h : ℕ) (p p' : PlainCells) (c : PlainCell) (rows : List Row) → Replaces g p c p' → p'.next < 2 ^ 32 → h ≢ g → HasRows h p rows → HasRows h p' rows
rows_else g h p p' c rows new bound ne has = record {
  rising = later (members rows) 0 p.next p'.next new.next has.rising;
  bound = bound;
  come = subst (λ x. HasCome x (whole rows)) (sym (ap (λ l. get_or l h empty_cell) new.cells ∙ cell_other p.cells g h c ne)) has.come;
}

pub rows_added : (g : ℕ) (p p' : PlainCells) (rows : List Row) (m : Member) → Replaces g p (added_cell (plain_cell g p) m.index m.reqid m.last) p' → p.next ≤ m.index → p'.next ≡ m.index + 1 → m.index + 1 < 2 ^ 32 → (plain_cell g p).closed ≡ false → HasRows g p rows
    → HasRows g p' (rows ++ fresh_row m ∷ [])
rows_added g p p' rows m new above next low clear has = record {
  bound = omega arith;
  rising = subst (λ l. IsRising l 0 p'.next) (sym (members_snoc rows (fresh_row m))) (subst (IsRising (members rows ++ m ∷ []) 0) (sym next) (rising_snoc (members rows) 0 p.next m has.rising above));
  come = subst (λ x. HasCome x (whole (rows ++ fresh_row m ∷ []))) (sym (own g p p' (added_cell (plain_cell g p) m.index m.reqid m.last) new))
      (subst (HasCome (added_cell (plain_cell g p) m.index m.reqid m.last)) (sym (fold_snoc both nothing both_assoc both_comm tally_of rows (fresh_row m))) (comes_added (whole rows) (plain_cell g p) m (omega arith) (sound_whole rows) (unit_whole rows) has.come clear));
}

module _ (g : ℕ) (p : PlainCells) (rows : List Row) (i : ℕ) (r : Row) (index : ℕ) (status : Status) (device memory : ℕ) (has : HasRows g p rows) (is : IsRowWaiting rows i index r) where
  abbrev pub cell : PlainCell
  cell = settled_cell (plain_cell g p) (failure_word index status) device memory

  abbrev pub after : List Row
  after = set rows i (settled_row r status device memory)

  come_after : HasCome cell (whole after)
  come_after = let R : Tally = whole (without rows i) in
      let split : whole rows ≡ both (tally_of (fresh_row r.member)) R = fold_at both nothing both_assoc both_comm tally_of rows i r is.0 ∙ ap (λ x. both (tally_of x) R) is.1 in
      subst (HasCome cell) (sym (fold_set both nothing both_assoc both_comm tally_of rows i r (settled_row r status device memory) is.0))
      (subst (λ n. HasCome (settled_cell (plain_cell g p) (failure_word n status) device memory) (both (tally_of (settled_row r status device memory)) R)) is.2
      (comes_settled R (plain_cell g p) r status device memory (unit_whole (without rows i)) (subst (HasCome (plain_cell g p)) split has.come)))

  same_members : members after ≡ members rows
  same_members = members_set rows i r (settled_row r status device memory) is.0 refl

  -- it goes on
  pub goes_on : (p' : PlainCells) → Replaces g p cell p' → p'.next ≡ p.next → (cell.closed ≡ false) ⊎ (0 < cell.unsettled) → HasRows g p' after × IsGoingOn after
  goes_on p' new next open' = (
    record {
      rising = subst (λ l. IsRising l 0 p'.next) (sym same_members) (later (members rows) 0 p.next p'.next new.next has.rising);
      bound = (let b = has.bound in omega arith);
      come = subst (λ x. HasCome x (whole after)) (sym (own g p p' cell new)) come_after;
    },
    going open',
  )
    where
      going : (cell.closed ≡ false) ⊎ (0 < cell.unsettled) → IsGoingOn after
      going (inl clear) = let closed = come_after.closed in let z : bit cell.closed ≡ 0 = ap bit clear in inr (no_closer after (omega arith))
      going (inr some') = let u = come_after.unsettled in inl (omega arith)

  -- it ends
  pub comes_to_end : (p' : PlainCells) → Replaces g p empty_cell p' → p'.next ≡ p.next → cell.closed ≡ true → HasRows g p' [] × IsEnd after (cell_end cell)
  comes_to_end p' new next shut = let bound = has.bound in let c = come_after.closing shut in let mark : bit cell.closed ≡ 1 = ap bit shut in let closed = come_after.closed in (
    rows_empty g p' (own g p p' empty_cell new) (omega arith),
    is_end after 0 (rising_members after 0 p.next (subst (λ l. IsRising l 0 p.next) (sym same_members) has.rising) (omega arith)) (omega arith) (cell_end cell)
        (ap status_of come_after.error) come_after.members c.0 c.1 come_after.device_front come_after.memory_front,
  )

-- new cells are empty, and so is what stands for a cell past the last
abbrev pub eight_cells : List PlainCell
eight_cells = empty_cell ∷ empty_cell ∷ empty_cell ∷ empty_cell ∷ empty_cell ∷ empty_cell ∷ empty_cell ∷ empty_cell ∷ []

pub blank_cells : (g : ℕ) → get_or eight_cells g empty_cell ≡ empty_cell
blank_cells zero = refl
blank_cells (suc zero) = refl
blank_cells (suc (suc zero)) = refl
blank_cells (suc (suc (suc zero))) = refl
blank_cells (suc (suc (suc (suc zero)))) = refl
blank_cells (suc (suc (suc (suc (suc zero))))) = refl
blank_cells (suc (suc (suc (suc (suc (suc zero)))))) = refl
blank_cells (suc (suc (suc (suc (suc (suc (suc zero))))))) = refl
blank_cells (suc (suc (suc (suc (suc (suc (suc (suc g)))))))) = refl
