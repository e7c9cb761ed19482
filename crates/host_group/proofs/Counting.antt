-- How many rows and members there are.
use Rattle.std.proofs.Common.{◌≡◌, ℕ, ◌+◌, ◌≤◌, List, [], ◌∷◌, ◌++◌, length, refl, ap, ap₂, ◌∙◌, arith, cond, eqb}
use Rattle.std.specs.Prelude.{Bool, true, false}
use Rattle.host_group.specs.{View, Row, Member, Stage, Resting, Looked, Placed, Added, Right, Spent, Tally, nothing, tally_of, row_tally, rows_tally, tally_at, tally, weight_at, weight, is_in_instance, member_count, row_count, IsRising}
use Rattle.host_log.specs.{total}
use Rattle.host_group.proofs.CellWords.{at_all}

rows_cond : (b : Bool) (x y : Tally) → (cond b x y).rows ≡ cond b x.rows y.rows
rows_cond true x y = refl
rows_cond false x y = refl

row_rows : (g j : ℕ) (r : Row) → (row_tally g j r).rows ≡ is_in_instance g j r.member
row_rows g j r = rows_cond (eqb r.member.number g) (cond (eqb r.member.instance j) (tally_of r) nothing) nothing ∙ ap (λ z. cond (eqb r.member.number g) z 0) (rows_cond (eqb r.member.instance j) (tally_of r) nothing)

pub rows_rows : (g j : ℕ) (rs : List Row) → (rows_tally g j rs).rows ≡ row_count g j rs
rows_rows g j [] = refl
rows_rows g j (r ∷ rs) = ap₂ (λ (a b : ℕ). a + b) (row_rows g j r) (rows_rows g j rs)

staged_rows : (g j : ℕ) (v : View) (a : Stage) → (tally_at g j v a).rows ≡ weight_at (is_in_instance g j) v a
staged_rows g j v Resting = rows_rows g j v.back
staged_rows g j v Looked = rows_rows g j v.back
staged_rows g j v Placed = rows_rows g j v.back
staged_rows g j v Added = ap₂ (λ (a b : ℕ). a + b) (row_rows g j v.row) (rows_rows g j v.back)
staged_rows g j v Right = row_rows g j v.row
staged_rows g j v Spent = refl

pub views_rows : (g j : ℕ) (vs : List View) → (tally g j vs).rows ≡ total (weight (is_in_instance g j)) vs
views_rows g j [] = refl
views_rows g j (v ∷ vs) = ap₂ (λ (a b : ℕ). a + b) (staged_rows g j v v.stage) (views_rows g j vs)

abbrev pub one : Member → ℕ
one m = 1

is_in_le : (g j : ℕ) (m : Member) → is_in_instance g j m ≤ 1
is_in_le g j m = at_all g j m 1 0 (λ z. z ≤ 1) (omega arith) (omega arith)

total_rows_le : (g j : ℕ) (rs : List Row) → total (λ (r : Row). is_in_instance g j r.member) rs ≤ total (λ (r : Row). one r.member) rs
total_rows_le g j [] = omega arith
total_rows_le g j (r ∷ rs) = let a = is_in_le g j r.member in let b = total_rows_le g j rs in omega arith

weighed_le : (g j : ℕ) (v : View) (a : Stage) → weight_at (is_in_instance g j) v a ≤ weight_at one v a
weighed_le g j v Resting = total_rows_le g j v.back
weighed_le g j v Looked = total_rows_le g j v.back
weighed_le g j v Placed = total_rows_le g j v.back
weighed_le g j v Added = let a = is_in_le g j v.row.member in let b = total_rows_le g j v.back in omega arith
weighed_le g j v Right = is_in_le g j v.row.member
weighed_le g j v Spent = omega arith

pub weight_le : (g j : ℕ) (vs : List View) → total (weight (is_in_instance g j)) vs ≤ total (weight one) vs
weight_le g j [] = omega arith
weight_le g j (v ∷ vs) = let a = weighed_le g j v v.stage in let b = weight_le g j vs in omega arith

pub members_le : (g j : ℕ) (ms : List Member) → member_count g j ms ≤ length ms
members_le g j [] = omega arith
members_le g j (m ∷ ms) = let a = is_in_le g j m in let b = members_le g j ms in omega arith

pub total_one : (ms : List Member) → total one ms ≡ length ms
total_one [] = refl
total_one (m ∷ ms) = let a = total_one ms in omega arith

pub rows_one : (rs : List Row) → total (λ (r : Row). one r.member) rs ≡ length rs
rows_one [] = refl
rows_one (r ∷ rs) = let a = rows_one rs in omega arith

-- indexes that rise leave room for as many numbers
pub rising_length : (ms : List Member) (from end : ℕ) → IsRising ms from end → from + length ms ≤ end
rising_length [] from end is = omega arith
rising_length (m ∷ ms) from end is = let first = is.0 in let more = rising_length ms (m.index + 1) end is.1 in omega arith

pub rising_snoc : (ms : List Member) (from end : ℕ) (m : Member) → IsRising ms from end → end ≤ m.index → IsRising (ms ++ m ∷ []) from (m.index + 1)
rising_snoc [] from end m is above = (omega arith, omega arith)
rising_snoc (x ∷ ms) from end m is above = (is.0, rising_snoc ms (x.index + 1) end m is.1 above)
