-- Splits and joins keep the rule, and new cells meet it.
use Rattle.std.proofs.Common.{◌≡◌, ◌≢◌, ℕ, zero, suc, ◌+◌, ◌<◌, List, [], ◌∷◌, ◌++◌, set, sym, refl, ap, ap₂, subst, ◌∙◌, arith}
use mathlib.Core.Option.{some, some-injective, some-ne-none}
use lib.ListN.{get_elem?}
use Rattle.atomic_table.specs.Table.{Splits, Joins, opening}
use Rattle.atomic_table.proofs.Lists.{set_else}
use Rattle.host_group.specs.{View, Row, Resting, Added, Right, no_failure, Cell, cell, IsCellCurrent, is_admitting, claim_of, claim, OneEnd, Tally, nothing, both, unsettled_of, ending_of, tally_of, row_tally, rows_tally, tally_at, view_tally, tally, weight_at, weight, first_cell_view, spent_cell_view, view_after_splitting, right_view, joined_view}
use Rattle.host_log.specs.{total}
use Rattle.host_log.proofs.Totals.{without, total_set, total_snoc, fold_snoc, fold_unit}
use Rattle.host_log.proofs.Places.{here}
use Rattle.host_group.proofs.AdmitSteps.{as_seen, keep, regroup}
use Rattle.host_group.proofs.CellWords.{at_all}
use Rattle.host_group.proofs.RightSteps.{views_at, views_set}
use Rattle.host_group.proofs.Tallies.{both_assoc, both_comm, both_nothing}

at_snoc : {A : Type 0} (xs ys : List A) (j : ℕ) (a : A) → get_elem? xs j ≡ some a → get_elem? (xs ++ ys) j ≡ some a
at_snoc [] ys j a e = absurd (some-ne-none a (sym e))
at_snoc (x ∷ xs) ys zero a e = e
at_snoc (x ∷ xs) ys (suc j) a e = at_snoc xs ys j a e

-- the right to settle the row that was added
pub hands : (id : ℕ) (v : View) → id ≡ 0 → v.stage ≡ Added → Splits OneEnd id v (view_after_splitting v) (right_view v)
hands id v first is = subst (λ (z : ℕ). Splits OneEnd z v (view_after_splitting v) (right_view v)) (sym first)
    (λ s r at. let now = r.now in let l = as_seen s r v at in let a : View = view_after_splitting v in let b : View = right_view v in let vs : List View = set s.views 0 a in
    regroup s v a now l (vs ++ b ∷ []) (at_snoc vs (b ∷ []) 0 a (here s.views 0 v a at)) refl refl refl refl (omega arith)
    (λ g j. let R : Tally = tally g j (without s.views 0) in let old : view_tally g j v ≡ both (row_tally g j v.row) (rows_tally g j v.back) = ap (tally_at g j v) is in
    fold_snoc both nothing both_assoc both_comm (view_tally g j) vs b ∙ (ap (both (row_tally g j v.row)) (views_set g j s.views 0 v a at)
    ∙ (sym (both_assoc (row_tally g j v.row) (rows_tally g j v.back) R) ∙ (ap (λ z. both z R) (sym old) ∙ sym (views_at g j s.views 0 v at)))))
    (λ φ. let x = total_snoc (weight φ) vs b in let y = total_set (weight φ) s.views 0 v a at in let z : weight φ v ≡ φ v.row.member + total (λ (r : Row). φ r.member) v.back = ap (weight_at φ v) is in omega arith)
    l.back)

-- two views are joined_view
joined_tally : (g j : ℕ) (views : List View) (other : ℕ) (v w b c : View) → get_elem? views 0 ≡ some v → other ≢ 0 → get_elem? views other ≡ some w → both (view_tally g j b) (view_tally g j c) ≡ both (view_tally g j v) (view_tally g j w)
    → tally g j (set (set views 0 b) other c) ≡ tally g j views
joined_tally g j [] other v w b c a ne e same = absurd (some-ne-none v (sym a))
joined_tally g j (y ∷ ys) zero v w b c a ne e same = absurd (ne refl)
joined_tally g j (y ∷ ys) (suc i) v w b c a ne e same = let Q : Tally = tally g j (without ys i) in
    ap (both (view_tally g j b)) (views_set g j ys i w c e) ∙ (sym (both_assoc (view_tally g j b) (view_tally g j c) Q) ∙ (ap (λ z. both z Q) same
    ∙ (both_assoc (view_tally g j v) (view_tally g j w) Q ∙ (ap (both (view_tally g j v)) (sym (views_at g j ys i w e)) ∙ ap (λ z. both (view_tally g j z) (tally g j ys)) (sym (some-injective y v a))))))

swap3 : (a b c : Tally) → both a (both b c) ≡ both b (both a c)
swap3 a b c = sym (both_assoc a b c) ∙ (ap (λ z. both z c) (both_comm a b) ∙ both_assoc b a c)

pub returns : (id : ℕ) (v : View) (other : ℕ) (w : View) → id ≡ 0 → v.stage ≡ Resting → w.stage ≡ Right → unsettled_of w.row.progress ≡ 0 → ending_of w.row.progress ≡ 0 → Joins OneEnd id v other w (joined_view v w) spent_cell_view
returns id v other w first is right used quiet = subst (λ (z : ℕ). Joins OneEnd z v other w (joined_view v w) spent_cell_view) (sym first)
    (λ s r at ne at'. let now = r.now in let l = as_seen s r v at in let b : View = joined_view v w in let vs : List View = set (set s.views 0 b) other spent_cell_view in
    let e : get_elem? s.views other ≡ some w = sym (set_else s.views 0 other b ne) ∙ at' in
    let bt : (g j : ℕ) → view_tally g j b ≡ both (row_tally g j w.row) (rows_tally g j v.back) = λ g j. ap (tally_at g j b) is in
    let vt : (g j : ℕ) → view_tally g j v ≡ rows_tally g j v.back = λ g j. ap (tally_at g j v) is in
    let wt : (g j : ℕ) → view_tally g j w ≡ row_tally g j w.row = λ g j. ap (tally_at g j w) right in
    regroup s v b now l vs (set_else (set s.views 0 b) other 0 spent_cell_view (λ z. ne (sym z)) ∙ here s.views 0 v b at) (ap is_admitting is) (ap claim_of is) refl refl (omega arith)
    (λ g j. joined_tally g j s.views other v w b spent_cell_view at ne e
    (both_comm (view_tally g j b) nothing ∙ (ap (both nothing) (bt g j) ∙ (swap3 nothing (row_tally g j w.row) (rows_tally g j v.back)
    ∙ (ap (both (row_tally g j w.row)) (fold_unit both nothing both_assoc both_comm (row_tally g j) both_nothing v.back) ∙ (both_comm (row_tally g j w.row) (rows_tally g j v.back) ∙ ap₂ both (sym (vt g j)) (sym (wt g j))))))))
    (λ φ. let x = total_set (weight φ) s.views 0 v b at in let y = total_set (weight φ) (set s.views 0 b) other w spent_cell_view at' in
    let p : weight φ b ≡ φ w.row.member + total (λ (r : Row). φ r.member) v.back = ap (weight_at φ b) is in let q : weight φ v ≡ total (λ (r : Row). φ r.member) v.back = ap (weight_at φ v) is in let o : weight φ w ≡ φ w.row.member = ap (weight_at φ w) right in omega arith)
    (λ g j. let k = l.back g j in let k0 = k.0 in let k1 = k.1 in let m0 : (row_tally g j w.row).unsettled ≡ 0 = at_all g j w.row.member (tally_of w.row) nothing (λ t. t.unsettled ≡ 0) used refl in
    let m1 : (row_tally g j w.row).ending ≡ 0 = at_all g j w.row.member (tally_of w.row) nothing (λ t. t.ending ≡ 0) quiet refl in (omega arith, omega arith)))

-- ---- the start
abbrev pub first_words : List ℕ
first_words = 0 ∷ no_failure ∷ 0 ∷ 0 ∷ 0 ∷ 0 ∷ no_failure ∷ 0 ∷ 0 ∷ 0 ∷ 0 ∷ no_failure ∷ 0 ∷ 0 ∷ 0 ∷ 0 ∷ no_failure ∷ 0 ∷ 0 ∷ 0 ∷ 0 ∷ no_failure ∷ 0 ∷ 0 ∷ 0 ∷ 0 ∷ no_failure ∷ 0 ∷ 0 ∷ 0 ∷ 0 ∷ no_failure ∷ 0 ∷ 0 ∷ 0 ∷ 0 ∷ no_failure ∷ 0 ∷ 0 ∷ 0 ∷ []

abbrev first_cell : Cell
first_cell = record { left = 0; error = no_failure; device_front = 0; memory_front = 0; closing = 0 }

first_cells : (g : ℕ) → g < 8 → cell first_words g ≡ first_cell
first_cells zero lt = refl
first_cells (suc zero) lt = refl
first_cells (suc (suc zero)) lt = refl
first_cells (suc (suc (suc zero))) lt = refl
first_cells (suc (suc (suc (suc zero)))) lt = refl
first_cells (suc (suc (suc (suc (suc zero))))) lt = refl
first_cells (suc (suc (suc (suc (suc (suc zero)))))) lt = refl
first_cells (suc (suc (suc (suc (suc (suc (suc zero))))))) lt = refl
first_cells (suc (suc (suc (suc (suc (suc (suc (suc g)))))))) lt = absurd (omega arith)

first_current : (name : ℕ) → IsCellCurrent first_cell 0 name nothing
first_current name = record {
  left = refl;
  few = omega arith;
  many = omega arith;
  single = omega arith;
  error = ((λ _. refl), λ x. absurd (omega arith));
  device_front = ((λ _. refl), λ x. absurd (omega arith));
  memory_front = ((λ _. refl), λ x. absurd (omega arith));
  closing = λ x. absurd (omega arith);
  due = λ x. absurd (omega arith);
  idle = λ x. absurd (omega arith);
  early = λ _. refl;
  ended = refl;
  count = λ x. absurd (omega arith);
  claimed = λ x. absurd (omega arith);
  named = λ x. absurd (omega arith);
}

pub opens : OneEnd (opening first_words [] first_cell_view)
opens = let v : View = first_cell_view in keep (opening first_words [] v) v (λ _. 0) record {
  here = refl;
  admits = refl;
  size = refl;
  each = λ g j g8. let z : claim g j v ≡ 0 = at_all g j v.row.member 0 0 (λ y. y ≡ 0) refl refl in record {
    over = λ a. absurd (omega arith);
    current = λ _. subst (λ (y : Cell × ℕ). IsCellCurrent y.0 y.1 0 nothing) (λ i. (sym (first_cells g g8) i, sym z i)) (first_current 0);
    later = λ _. (refl, z);
  };
  counted = λ φ. refl;
  order = λ g g8. refl;
  back = λ g j. (refl, refl);
  rising = omega arith;
  bound = omega arith;
  room = omega arith;
  small = refl;
}
