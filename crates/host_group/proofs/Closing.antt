-- What the admitting seat tells once every right came back.
use Rattle.std.proofs.Common.{◌≡◌, ◌≢◌, ℕ, ◌≤◌, ◌<◌, List, [], ◌∷◌, length, sym, refl, ap, ap₂, subst, ◌∙◌, ⊎_elim, arith}
use mathlib.Core.Option.{some}
use lib.ListN.{get_elem?}
use Rattle.atomic_table.specs.Table.{Final, Seen}
use Rattle.host_group.specs.{View, Row, Member, Stage, Resting, Looked, Placed, Added, Right, Spent, instance_rows, AreThoseAdmitted, HaveRows, HasItsEnd, whole, IsInstanceOver, OneEnd, nothing, both, row_tally, rows_tally, tally_at, tally, weight_at, weight, members_closing}
use Rattle.host_group.proofs.Endings.{has_end, no_end}
use Rattle.host_group.proofs.Gathering.{gathered, have_rows, rising_rows}
use Rattle.host_log.specs.{total}
use Rattle.host_log.proofs.Totals.{without, fold_unit, total_without}
use Rattle.host_group.proofs.AdmitSteps.{AsSeen, as_seen}
use Rattle.host_group.proofs.Counting.{one, total_one, rows_one}
use Rattle.host_group.proofs.RightSteps.{St, views_at, ordered}
use Rattle.host_group.proofs.Tallies.{both_assoc, both_comm, both_nothing}

-- a view with no row brings nothing
no_rows : (g j : ℕ) (rs : List Row) → total (λ (r : Row). one r.member) rs ≡ 0 → rows_tally g j rs ≡ nothing
no_rows g j [] e = refl
no_rows g j (r ∷ rs) e = absurd (omega arith)

no_row : (g j : ℕ) (v : View) (a : Stage) → weight_at one v a ≡ 0 → tally_at g j v a ≡ nothing
no_row g j v Resting e = no_rows g j v.back e
no_row g j v Looked e = no_rows g j v.back e
no_row g j v Placed e = no_rows g j v.back e
no_row g j v Added e = absurd (omega arith)
no_row g j v Right e = absurd (omega arith)
no_row g j v Spent e = refl

no_views : (g j : ℕ) (vs : List View) → total (weight one) vs ≡ 0 → tally g j vs ≡ nothing
no_views g j [] e = refl
no_views g j (v ∷ vs) e = ap₂ both (no_row g j v v.stage (omega arith)) (no_views g j vs (omega arith))

no_weight : (φ : Member → ℕ) (v : View) (a : Stage) → weight_at one v a ≡ 0 → weight_at φ v a ≡ 0
no_weight φ v Resting e = none_in v.back e
  where
    none_in : (rs : List Row) → total (λ (r : Row). one r.member) rs ≡ 0 → total (λ (r : Row). φ r.member) rs ≡ 0
    none_in [] e = refl
    none_in (r ∷ rs) e = absurd (omega arith)
no_weight φ v Looked e = none_in v.back e
  where
    none_in : (rs : List Row) → total (λ (r : Row). one r.member) rs ≡ 0 → total (λ (r : Row). φ r.member) rs ≡ 0
    none_in [] e = refl
    none_in (r ∷ rs) e = absurd (omega arith)
no_weight φ v Placed e = none_in v.back e
  where
    none_in : (rs : List Row) → total (λ (r : Row). one r.member) rs ≡ 0 → total (λ (r : Row). φ r.member) rs ≡ 0
    none_in [] e = refl
    none_in (r ∷ rs) e = absurd (omega arith)
no_weight φ v Added e = absurd (omega arith)
no_weight φ v Right e = absurd (omega arith)
no_weight φ v Spent e = refl

no_weights : (φ : Member → ℕ) (vs : List View) → total (weight one) vs ≡ 0 → total (weight φ) vs ≡ 0
no_weights φ [] e = refl
no_weights φ (v ∷ vs) e = let a = no_weight φ v v.stage (omega arith) in let b = no_weights φ vs (omega arith) in omega arith

module _ (s : St) (v : View) (now : ℕ → ℕ) (l : AsSeen s v now) (is : v.stage ≡ Resting) (out : length v.admitted ≡ length v.back) where
  alone : total (weight one) (without s.views 0) ≡ 0
  alone = let a = l.counted one in let b = total_without (weight one) s.views 0 v l.here in let c : weight one v ≡ length v.back = ap (weight_at one v) is ∙ rows_one v.back in let d = total_one v.admitted in omega arith

  -- all rows are in the admitting seat's list
  all_back : (g j : ℕ) → tally g j s.views ≡ rows_tally g j v.back
  all_back g j = views_at g j s.views 0 v l.here ∙ (ap₂ both (ap (tally_at g j v) is) (no_views g j (without s.views 0) alone)
      ∙ (both_comm (rows_tally g j v.back) nothing ∙ fold_unit both nothing both_assoc both_comm (row_tally g j) both_nothing v.back))

  pub those : AreThoseAdmitted v.admitted v.back
  those φ = let a = l.counted φ in let b = total_without (weight φ) s.views 0 v l.here in let c : weight φ v ≡ total (λ (r : Row). φ r.member) v.back = ap (weight_at φ v) is in let d = no_weights φ (without s.views 0) alone in omega arith

  -- nothing is open
  closed : (g : ℕ) → g < 8 → (members_closing g v.admitted ≡ now g) × ((rows_tally g (now g) v.back).ended ≡ 0)
  closed g g8 = let c = (l.each g (now g) g8).current refl in let b = l.back g (now g) in let o = l.order g g8 in let single = c.single in let b0 = b.0 in let b1 = b.1 in
      let u : (tally g (now g) s.views).unsettled ≡ (rows_tally g (now g) v.back).unsettled = ap (λ z. z.unsettled) (all_back g (now g)) in
      let e : (tally g (now g) s.views).ending ≡ (rows_tally g (now g) v.back).ending = ap (λ z. z.ending) (all_back g (now g)) in
      let m : (tally g (now g) s.views).closers ≢ 1 = λ x. let d = c.due x (omega arith) in omega arith in
      (omega arith, sym (ap (λ z. z.ended) (all_back g (now g))) ∙ c.ended)

  -- an instance that isn't closed has not ended
  open_still : (g j : ℕ) → g < 8 → members_closing g v.admitted ≤ j → (rows_tally g j v.back).ended ≡ 0
  open_still g j g8 le = let i = l.each g j g8 in let k = (closed g g8).0 in ⊎_elim (λ lt. absurd (omega arith)) (λ t. ⊎_elim
      (λ e. subst (λ (z : ℕ). (rows_tally g z v.back).ended ≡ 0) (sym e) (closed g g8).1)
      (λ lt. ap (λ z. z.ended) (sym (all_back g j) ∙ (i.later lt).0)) t) (ordered j (now g))

  -- each closed instance has its end, and no other has any
  pub its_end : (g j : ℕ) → g < 8 → HasItsEnd g j v.admitted v.back
  its_end g j g8 = let k = (closed g g8).0 in let bound = l.bound in
      let same : whole (instance_rows g j v.admitted v.back) ≡ rows_tally g j v.back = gathered g j v.admitted v.back 0 v.next l.rising those in (
        (λ lt. has_end (instance_rows g j v.admitted v.back) 0 (rising_rows g j v.admitted v.back 0 v.next l.rising (omega arith) (have_rows v.admitted v.back 0 v.next l.rising those))
            (subst IsInstanceOver (all_back g j ∙ sym same) ((l.each g j g8).over (omega arith)))),
        (λ le. no_end (instance_rows g j v.admitted v.back) (ap (λ t. t.ended) same ∙ open_still g j g8 le)),
      )

pub closing : (id : ℕ) (v : View) (ws : List ℕ) (xs : List (Unit {0})) → id ≡ 0 → v.stage ≡ Resting → length v.admitted ≡ length v.back → Final (Seen OneEnd id v) ws xs
    → HaveRows v.admitted v.back × AreThoseAdmitted v.admitted v.back × ((g j : ℕ) → g < 8 → HasItsEnd g j v.admitted v.back)
closing id v ws xs first is out f = let s : St = f.0 in let r = f.1.0 in let at : get_elem? s.views 0 ≡ some v = subst (λ (z : ℕ). get_elem? s.views z ≡ some v) first f.1.1 in let l = as_seen s r v at in
    (have_rows v.admitted v.back 0 v.next l.rising (those s v r.now l is out), those s v r.now l is out, its_end s v r.now l is out)
