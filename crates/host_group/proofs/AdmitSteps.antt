-- The steps of the admitting seat keep the rule.
use Rattle.std.proofs.Common.{◌≡◌, ◌≢◌, ◌⊎◌, ℕ, zero, suc, ◌+◌, ◌*◌, ◌/◌, ◌%◌, ◌^◌, ◌≤◌, ◌<◌, List, [], ◌∷◌, length, length-append, get_or, set, sym, refl, ap, subst, ◌∙◌, inl, inr, ⊎_elim, arith, cond, eqb, eq-eqb, ne_eqb}
use Rattle.std.specs.Prelude.{Bool, true, false}
use Rattle.std.proofs.lemmas.List.{set-get_or}
use Rattle.std.proofs.lemmas.Bool.{lt-ltb}
use mathlib.Core.Option.{none, some, some-injective}
use mathlib.Core.Logic.{dite}
use native.Mathlib.Decide.{ℕ_discrete}
use lib.ListN.{get_elem?}
use prog.Atomic.{either}
use Rattle.atomic_table.specs.Table.{Act, Valid, stepped, carried_after, step, keeps, Allows}
use Rattle.host_group.specs.{View, Row, Member, Stage, Resting, Looked, Placed, no_failure, Cell, cell, IsCellCurrent, IsInstanceOver, IsInstance, is_admitting, claim_of, claim, OneEnd, IsBusy, Looks, Places, AddsMember, Tally, nothing, both, tally_of, row_tally, rows_tally, tally_at, view_tally, tally, weight_at, weight, bit, is_in_instance, closes_of_group, members_closing, is_beyond, name_of, IsRising, fresh_row, refused_view, looking_cell_view, placed_view, new_member, added_view}
use Rattle.host_group.proofs.InstanceSteps as local
use Rattle.host_log.specs.{total}
use Rattle.host_log.proofs.Totals.{without, total_set, total_snoc, total_without}
use Rattle.host_log.proofs.Places.{here}
use Rattle.host_group.proofs.CellWords.{set_len, cell_else, cell_left, cell_closing, at_own, at_number, at_instance, at_all}
use Rattle.host_group.proofs.Counting.{rows_rows, views_rows, one, weight_le, members_le, total_one, rows_one, rising_length, rising_snoc}
use Rattle.host_group.proofs.RightSteps.{St, M, sound_views, unit_views, views_at, views_set, views_same, instance_as}
use Rattle.host_group.proofs.Tallies.{both_assoc, Sound}

pub record AsSeen (s : St) (v : View) (now : ℕ → ℕ) : Type 0 where
  pub here : get_elem? s.views 0 ≡ some v
  pub admits : is_admitting v.stage ≡ 1
  pub size : length s.words ≡ 40
  pub each : (g j : ℕ) → g < 8 → IsInstance (cell s.words g) (now g) j (claim g j v) (name_of v.row.member) (tally g j s.views)
  pub counted : (φ : Member → ℕ) → total φ v.admitted ≡ total (weight φ) s.views
  pub order : (g : ℕ) → g < 8 → members_closing g v.admitted ≡ now g + (tally g (now g) s.views).closers
  pub back : (g j : ℕ) → ((rows_tally g j v.back).unsettled ≡ 0) × ((rows_tally g j v.back).ending ≡ 0)
  pub rising : IsRising v.admitted 0 v.next
  pub bound : v.next < 2 ^ 32
  pub room : length v.admitted ≤ length v.back + 64
  pub small : total is_beyond v.admitted ≡ 0

pub as_seen : (s : St) (r : OneEnd s) (v : View) → get_elem? s.views 0 ≡ some v → AsSeen s v r.now
as_seen s r v e = subst (λ z. AsSeen s z r.now) (some-injective r.admitting v (sym r.here ∙ e)) record { here = r.here; admits = r.admits; size = r.size; each = r.each; counted = r.counted; order = r.order; back = r.back; rising = r.rising; bound = r.bound; room = r.room; small = r.small }

pub keep : (s : St) (v : View) (now : ℕ → ℕ) → AsSeen s v now → OneEnd s
keep s v now l = record { admitting = v; now = now; here = l.here; admits = l.admits; size = l.size; each = l.each; counted = l.counted; order = l.order; back = l.back; rising = l.rising; bound = l.bound; room = l.room; small = l.small }

back_of : (g j : ℕ) (v : View) → v.stage ≡ Resting → view_tally g j v ≡ rows_tally g j v.back
back_of g j v is = ap (tally_at g j v) is

pub recurrent : (c : Cell) (now j q q' name name' : ℕ) (t : Tally) → q' ≡ 0 → IsInstance c now j q name t → IsInstance c now j q' name' t
recurrent c now j q q' name name' t z h = record {
  over = h.over;
  current = λ e. local.reclaim c q name t q' name' (λ x. absurd (omega arith)) (λ x. absurd (omega arith)) (h.current e);
  later = λ e. ((h.later e).0, z);
}

module _ (s : St) (v : View) (now : ℕ → ℕ) (l : AsSeen s v now) where
  abbrev T : ℕ → ℕ → Tally
  T g j = tally g j s.views

  abbrev R : ℕ → ℕ → Tally
  R g j = tally g j (without s.views 0)

  -- the rule after the admitting seat did something about the number g, that brings no row
  pub claims : (w : View) (g : ℕ) → g < 8 → (words' : List ℕ) → length words' ≡ 40 → is_admitting w.stage ≡ 1 → w.row.member.number ≡ g → w.row.member.instance ≡ now g → w.admitted ≡ v.admitted → w.back ≡ v.back → w.next ≡ v.next
      → ((h j : ℕ) → view_tally h j w ≡ view_tally h j v) → ((φ : Member → ℕ) → weight φ w ≡ weight φ v) → ((h : ℕ) → h ≢ g → cell words' h ≡ cell s.words h)
      → (IsCellCurrent (cell s.words g) (claim g (now g) v) (name_of v.row.member) (T g (now g)) → IsCellCurrent (cell words' g) (claim_of w.stage) (name_of w.row.member) (T g (now g)))
      → AsSeen record { words = words'; homes = s.homes; views = set s.views 0 w } w now
  claims w g g8 words' len admits num inst adm bk nx tw ww else mine =
      let vs : List View = set s.views 0 w in let same : (h j : ℕ) → tally h j vs ≡ T h j = λ h j. views_same h j s.views 0 v w l.here (tw h j) in record {
        here = here s.views 0 v w l.here;
        admits = admits;
        size = len;
        each = λ h j h8. let old = l.each h j h8 in dite (ℕ_discrete g h)
            (λ e. let P : ℕ → Type 0 = λ z. IsInstance (cell words' z) (now z) j (claim z j w) (name_of w.row.member) (tally z j vs) in subst P e (let old = l.each g j g8 in record {
              over = λ a. subst IsInstanceOver (sym (same g j)) (old.over a);
              current = λ a. let c = mine ((l.each g (now g) g8).current refl) in
                  let q : claim g (now g) w ≡ claim_of w.stage = at_own g (now g) w.row.member (claim_of w.stage) 0 num inst in
                  subst (λ (z : ℕ). IsCellCurrent (cell words' g) (claim g z w) (name_of w.row.member) (tally g z vs)) (sym a)
                  (subst (λ (z : ℕ × Tally). IsCellCurrent (cell words' g) z.0 (name_of w.row.member) z.1) (λ i. (sym q i, sym (same g (now g)) i)) c);
              later = λ a. ((same g j ∙ (old.later a).0), at_instance g j w.row.member (claim_of w.stage) 0 (λ e. omega arith));
            }))
            (λ ne. recurrent (cell words' h) (now h) j (claim h j v) (claim h j w) (name_of v.row.member) (name_of w.row.member) (tally h j vs) (at_number h j w.row.member (claim_of w.stage) 0 (λ e. ne (sym num ∙ e)))
            (instance_as (cell s.words h) (cell words' h) (now h) j (claim h j v) (name_of v.row.member) (T h j) (tally h j vs) (else h (λ e. ne (sym e))) (same h j) old));
        counted = λ φ. ap (total φ) adm ∙ (l.counted φ ∙ (let a = total_set (weight φ) s.views 0 v w l.here in let b = ww φ in let c : total (weight φ) s.views ≡ total (weight φ) vs = omega arith in c));
        order = λ h h8. ap (members_closing h) adm ∙ (l.order h h8 ∙ ap (λ (z : Tally). now h + z.closers) (sym (same h (now h))));
        back = λ h j. subst (λ (z : List Row). ((rows_tally h j z).unsettled ≡ 0) × ((rows_tally h j z).ending ≡ 0)) (sym bk) (l.back h j);
        rising = subst (λ (z : List Member × ℕ). IsRising z.0 0 z.1) (λ i. (sym adm i, sym nx i)) l.rising;
        bound = subst (λ (z : ℕ). z < 2 ^ 32) (sym nx) l.bound;
        room = subst (λ (z : List Member × List Row). length z.0 ≤ length z.1 + 64) (λ i. (sym adm i, sym bk i)) l.room;
        small = ap (total is_beyond) adm ∙ l.small;
      }

  -- a closed instance that isn't ended has a right that is out
  pub busy : (g : ℕ) → g < 8 → v.stage ≡ Resting → (T g (now g)).closers ≡ 1 → IsBusy g v
  busy g g8 is m = let j = now g in let c = (l.each g j g8).current refl in let few = c.few in let at = views_at g j s.views 0 v l.here ∙ ap (λ z. both z (R g j)) (back_of g j v is) in
      let b = l.back g j in let u : (T g j).unsettled ≡ (rows_tally g j v.back).unsettled + (R g j).unsettled = ap (λ z. z.unsettled) at in
      let e : (T g j).ending ≡ (rows_tally g j v.back).ending + (R g j).ending = ap (λ z. z.ending) at in
      let n : (T g j).rows ≡ (rows_tally g j v.back).rows + (R g j).rows = ap (λ z. z.rows) at in
      let some' = (sound_views g j (without s.views 0)).some in let b0 = b.0 in let b1 = b.1 in
      let alive : 0 < (R g j).rows = ⊎_elim (λ z. let d = c.due m z in omega arith) (λ z. omega arith) (zero_or (T g j).unsettled) in
      let all = l.counted (is_in_instance g j) in let rr = views_rows g j s.views in let br = rows_rows g j v.back in
      (j, (let o = l.order g g8 in omega arith), omega arith)
    where
      zero_or : (n : ℕ) → (n ≡ 0) ⊎ (0 < n)
      zero_or zero = inl refl
      zero_or (suc n) = inr (omega arith)

  -- the admitting seat's claim is on the current instance
  pub claim_now : (g : ℕ) → g < 8 → 0 < claim_of v.stage → v.row.member.number ≡ g → v.row.member.instance ≡ members_closing g v.admitted → (v.row.member.instance ≡ now g) × ((T g (now g)).closers ≡ 0)
  claim_now g g8 some' num inst = let o = l.order g g8 in let c = (l.each g (now g) g8).current refl in let single = c.single in
      ⊎_elim (λ z. (omega arith, z))
      (λ z. let e : v.row.member.instance ≡ now g + 1 = omega arith in let later = ((l.each g (now g + 1) g8).later (omega arith)).1 in
      let own : claim g (now g + 1) v ≡ claim_of v.stage = at_own g (now g + 1) v.row.member (claim_of v.stage) 0 num e in absurd (omega arith))
      (two (T g (now g)).closers single)
    where
      two : (n : ℕ) → n ≤ 1 → (n ≡ 0) ⊎ (n ≡ 1)
      two zero le = inl refl
      two (suc n) le = inr (omega arith)

-- the rule where only the views change, and each instance comes to the same
pub regroup : (s : St) (v w : View) (now : ℕ → ℕ) (l : AsSeen s v now) (vs : List View) → get_elem? vs 0 ≡ some w → is_admitting w.stage ≡ 1 → claim_of w.stage ≡ 0 → w.admitted ≡ v.admitted → w.next ≡ v.next → length v.back ≤ length w.back
    → ((g j : ℕ) → tally g j vs ≡ tally g j s.views) → ((φ : Member → ℕ) → total (weight φ) vs ≡ total (weight φ) s.views) → ((g j : ℕ) → ((rows_tally g j w.back).unsettled ≡ 0) × ((rows_tally g j w.back).ending ≡ 0))
    → OneEnd record { words = s.words; homes = s.homes; views = vs }
regroup s v w now l vs at admits idle adm nx more same weights back = let room = l.room in let len : length w.admitted ≡ length v.admitted = ap length adm in keep record { words = s.words; homes = s.homes; views = vs } w now record {
  here = at;
  admits = admits;
  size = l.size;
  each = λ g j g8. recurrent (cell s.words g) (now g) j (claim g j v) (claim g j w) (name_of v.row.member) (name_of w.row.member) (tally g j vs) (at_all g j w.row.member (claim_of w.stage) 0 (λ z. z ≡ 0) idle refl)
      (instance_as (cell s.words g) (cell s.words g) (now g) j (claim g j v) (name_of v.row.member) (tally g j s.views) (tally g j vs) refl (same g j) (l.each g j g8));
  counted = λ φ. ap (total φ) adm ∙ (l.counted φ ∙ sym (weights φ));
  order = λ g g8. ap (members_closing g) adm ∙ (l.order g g8 ∙ ap (λ (z : Tally). now g + z.closers) (sym (same g (now g))));
  back = back;
  rising = subst (λ (z : List Member × ℕ). IsRising z.0 0 z.1) (λ i. (sym adm i, sym nx i)) l.rising;
  bound = subst (λ (z : ℕ). z < 2 ^ 32) (sym nx) l.bound;
  room = omega arith;
  small = ap (total is_beyond) adm ∙ l.small;
}

abbrev pub IsClaiming : Stage → ℕ → View → Type 0
IsClaiming a g v = (v.stage ≡ a) × (v.row.member.number ≡ g) × (v.row.member.instance ≡ members_closing g v.admitted)

module _ (n id : ℕ) (me : M) (g : ℕ) (g8 : g < 8) (first : id ≡ 0) where
  abbrev v : View
  v = me.0

  pub looks : (x : ℕ) → v.stage ≡ Resting → Allows OneEnd n id me (5 * g) (λ y. either (eqb y no_failure) x y) (Looks (step n (5 * g) no_failure x none) me)
  looks x is = subst (λ (z : ℕ). Allows OneEnd n z me (5 * g) (λ y. either (eqb y no_failure) x y) (Looks (step n (5 * g) no_failure x none) me)) (sym first)
      (λ s r wide at small. let now = r.now in let l = as_seen s r v at in let y : ℕ = get_or s.words (5 * g) 0 in let ws : List ℕ = set s.words (5 * g) y in let same : ws ≡ s.words = set-get_or s.words (5 * g) 0 in
      let c = (l.each g (now g) g8).current refl in let o = l.order g g8 in
      let closers : y / 128 % 2 ≡ (tally g (now g) s.views).closers = local.unmarked (cell s.words g) (claim g (now g) v) (name_of v.row.member) (tally g (now g) s.views) c in
      let left = c.left in let few = c.few in let many = c.many in let single' = c.single in let kept : either (eqb y no_failure) x y ≡ y = ap (λ b. either b x y) (ne_eqb y no_failure (λ e. omega arith)) in
      subst (λ (z : ℕ). (w : View) × (a : Act (Unit {0})) × Valid s.homes me.1 a × OneEnd (stepped s (5 * g) z 0 me.1 w a) × Looks (step n (5 * g) no_failure x none) me y (w, carried_after me.1 a)) (sym kept) (
      dite (ℕ_discrete (y / 128 % 2) 0)
      (λ free. let w : View = looking_cell_view v g x in (
        w,
        keeps,
        tt,
        keep record { words = ws; homes = s.homes; views = set s.views 0 w } w now (claims s v now l w g g8 ws (set_len s.words (5 * g) y ∙ l.size) refl refl (let e : members_closing g v.admitted ≡ now g = omega arith in e) refl refl refl
            (λ h j. sym (back_of h j v is))
            (λ φ. sym (ap (weight_at φ v) is))
            (λ h _. ap (λ z. cell z h) same)
            (λ x. subst (λ z. IsCellCurrent z 1 (name_of w.row.member) (tally g (now g) s.views)) (ap (λ z. cell z g) (sym same))
            (local.reclaim (cell s.words g) (claim g (now g) v) (name_of v.row.member) (tally g (now g) s.views) 1 (name_of w.row.member) (λ _. sym closers ∙ free) (λ k. absurd (omega arith)) x))),
        (g, refl, (λ _. refl), λ ne. absurd (ne free)),
      ))
      (λ closed. let single = c.single in let w : View = refused_view v in let vs : List View = set s.views 0 w in
      let tallies : (h j : ℕ) → view_tally h j w ≡ view_tally h j v = λ h j. ap (tally_at h j w) is ∙ sym (back_of h j v is) in
      let weights : (φ : Member → ℕ) → weight φ w ≡ weight φ v = λ φ. ap (weight_at φ w) is ∙ sym (ap (weight_at φ v) is) in (
        w,
        keeps,
        tt,
        subst (λ (z : List ℕ). OneEnd record { words = z; homes = s.homes; views = vs }) (sym same)
            (regroup s v w now l vs (here s.views 0 v w l.here) (ap is_admitting is) (ap claim_of is) refl refl (omega arith)
            (λ h j. views_same h j s.views 0 v w l.here (tallies h j))
            (λ φ. let a = total_set (weight φ) s.views 0 v w l.here in let b = weights φ in omega arith)
            l.back),
        (g, refl, (λ z. absurd (closed z)), λ _. (refl, busy s v now l g g8 is (omega arith))),
      ))))

  places_own : IsClaiming Looked g v → Allows OneEnd n id me (5 * g + 4) (λ _. (name_of v.row.member)) (Places (step n (5 * g + 4) (name_of v.row.member) 0 none) me)
  places_own is = let x : ℕ = (name_of v.row.member) in subst (λ (z : ℕ). Allows OneEnd n z me (5 * g + 4) (λ _. x) (Places (step n (5 * g + 4) x 0 none) me)) (sym first)
      (λ s r wide at small. let now = r.now in let l = as_seen s r v at in let ws : List ℕ = set s.words (5 * g + 4) x in let w : View = placed_view v in let len = l.size in
      let k = claim_now s v now l g g8 (subst (λ (z : Stage). 0 < claim_of z) (sym is.0) (omega arith)) is.1 is.2 in (
        w,
        keeps,
        tt,
        keep record { words = ws; homes = s.homes; views = set s.views 0 w } w now (claims s v now l w g g8 ws (set_len s.words (5 * g + 4) x ∙ l.size) refl is.1 k.0 refl refl refl
            (λ h j. sym (ap (tally_at h j v) is.0))
            (λ φ. sym (ap (weight_at φ v) is.0))
            (λ h ne. cell_else s.words g x (5 * g + 4) h (omega arith) (omega arith) ne)
            (λ c. subst (λ z. IsCellCurrent z 2 x (tally g (now g) s.views)) (sym (cell_closing s.words g x (omega arith)))
            (local.place (cell s.words g) (claim g (now g) v) (name_of v.row.member) (tally g (now g) s.views) x k.1 c))),
        refl,
      ))

  pub places : (x : ℕ) → x ≡ (name_of v.row.member) → IsClaiming Looked g v → Allows OneEnd n id me (5 * g + 4) (λ _. x) (Places (step n (5 * g + 4) x 0 none) me)
  places x nm is = subst (λ (y : ℕ). Allows OneEnd n id me (5 * g + 4) (λ _. y) (Places (step n (5 * g + 4) y 0 none) me)) (sym nm) (places_own is)

  -- the admitting seat adds its row
  pub adds : (a : Stage) (q : ℕ) (b : Bool) (s : St) (now : ℕ → ℕ) (l : AsSeen s v now) → IsClaiming a g v → claim_of a ≡ q → 0 < q → ((h j : ℕ) → tally_at h j v a ≡ rows_tally h j v.back) → ((φ : Member → ℕ) → weight_at φ v a ≡ total (λ (r : Row). φ r.member) v.back) → length v.admitted < length v.back + 64 → v.next ≤ v.row.member.index → v.row.member.index + 1 < 2 ^ 32
      → (words' : List ℕ) (c' : Cell) → length words' ≡ 40 → ((h : ℕ) → h ≢ g → cell words' h ≡ cell s.words h) → cell words' g ≡ c'
      → ((t : Tally) → Sound t → both nothing t ≡ t → t.unsettled + 1 < 128 → t.rows + 1 < 2 ^ 32 → IsCellCurrent (cell s.words g) q (name_of v.row.member) t → IsCellCurrent c' 0 (name_of v.row.member) (both (tally_of (fresh_row (new_member b v))) t))
      → OneEnd record { words = words'; homes = s.homes; views = set s.views 0 (added_view b v) }
  adds a q b s now l is cl pos st wt out rising bound words' c' len else mine step' =
      let w : View = added_view b v in let m : Member = new_member b v in let vs : List View = set s.views 0 w in let k = claim_now s v now l g g8 (subst (λ (z : Stage). 0 < claim_of z) (sym is.0) (let e = cl in omega arith)) is.1 is.2 in
      let old : (h j : ℕ) → view_tally h j v ≡ rows_tally h j v.back = λ h j. ap (tally_at h j v) is.0 ∙ st h j in
      let at : (h j : ℕ) → tally h j s.views ≡ both (rows_tally h j v.back) (tally h j (without s.views 0)) = λ h j. views_at h j s.views 0 v l.here ∙ ap (λ z. both z (tally h j (without s.views 0))) (old h j) in
      let new : (h j : ℕ) → tally h j vs ≡ both (row_tally h j w.row) (tally h j s.views) = λ h j. views_set h j s.views 0 v w l.here ∙ (both_assoc (row_tally h j w.row) (rows_tally h j v.back) (tally h j (without s.views 0)) ∙ ap (both (row_tally h j w.row)) (sym (at h j))) in
      let own : tally g (now g) vs ≡ both (tally_of w.row) (tally g (now g) s.views) = new g (now g) ∙ ap (λ z. both z (tally g (now g) s.views)) (at_own g (now g) m (tally_of w.row) nothing is.1 k.0) in
      let others : (h j : ℕ) → row_tally h j w.row ≡ nothing → tally h j vs ≡ tally h j s.views = λ h j e. new h j ∙ (ap (λ z. both z (tally h j s.views)) e ∙ unit_views h j s.views) in
      let j : ℕ = now g in let bk = l.back g j in let b0 = bk.0 in
      let u : (tally g j s.views).unsettled ≡ (rows_tally g j v.back).unsettled + (tally g j (without s.views 0)).unsettled = ap (λ z. z.unsettled) (at g j) in
      let some' = (sound_views g j (without s.views 0)).some in
      let wo = total_without (weight one) s.views 0 v l.here in let wv : weight one v ≡ length v.back = ap (weight_at one v) is.0 ∙ (wt one ∙ rows_one v.back) in let all = l.counted one in let all' = total_one v.admitted in
      let le = weight_le g j (without s.views 0) in let rr = views_rows g j (without s.views 0) in let room = l.room in
      let le' = members_le g j v.admitted in let rr' = views_rows g j s.views in let all'' = l.counted (is_in_instance g j) in let ri = rising_length v.admitted 0 v.next l.rising in
      let cur = step' (tally g j s.views) (sound_views g j s.views) (unit_views g j s.views) (omega arith) (omega arith)
      (subst (λ (z : ℕ). IsCellCurrent (cell s.words g) z (name_of v.row.member) (tally g j s.views)) (at_own g j v.row.member (claim_of v.stage) 0 is.1 k.0 ∙ (ap claim_of is.0 ∙ cl)) ((l.each g j g8).current refl)) in
      let more : length w.admitted ≡ length v.admitted + 1 = length-append v.admitted (m ∷ []) in
      keep record { words = words'; homes = s.homes; views = vs } w now record {
        here = here s.views 0 v w l.here;
        admits = refl;
        size = len;
        each = λ h i h8. let e = l.each h i h8 in dite (ℕ_discrete g h)
            (λ same. let P : ℕ → Type 0 = λ z. IsInstance (cell words' z) (now z) i (claim z i w) (name_of w.row.member) (tally z i vs) in subst P same (let e = l.each g i g8 in dite (ℕ_discrete i (now g))
            (λ f. let Q : ℕ → Type 0 = λ z. IsInstance (cell words' g) (now g) z (claim g z w) (name_of w.row.member) (tally g z vs) in subst Q (sym f) record {
              over = λ a. absurd (omega arith);
              current = λ _. let z : claim g (now g) w ≡ 0 = at_all g (now g) m 0 0 (λ y. y ≡ 0) refl refl in
                  subst (λ (y : Cell × ℕ × Tally). IsCellCurrent y.0 y.1 (name_of w.row.member) y.2) (λ d. (sym mine d, sym z d, sym own d)) cur;
              later = λ a. absurd (omega arith);
            })
            (λ ne. let t : tally g i vs ≡ tally g i s.views = others g i (at_instance g i m (tally_of w.row) nothing (λ e. ne (sym e ∙ k.0))) in record {
              over = λ a. subst IsInstanceOver (sym t) (e.over a);
              current = λ a. absurd (ne a);
              later = λ a. (t ∙ (e.later a).0, at_all g i m 0 0 (λ y. y ≡ 0) refl refl);
            })))
            (λ ne. let t : tally h i vs ≡ tally h i s.views = others h i (at_number h i m (tally_of w.row) nothing (λ e. ne (sym is.1 ∙ e))) in
            recurrent (cell words' h) (now h) i (claim h i v) (claim h i w) (name_of v.row.member) (name_of w.row.member) (tally h i vs) (at_all h i m 0 0 (λ y. y ≡ 0) refl refl)
            (instance_as (cell s.words h) (cell words' h) (now h) i (claim h i v) (name_of v.row.member) (tally h i s.views) (tally h i vs) (else h (λ e. ne (sym e))) t e));
        counted = λ φ. let a = total_set (weight φ) s.views 0 v w l.here in let c = l.counted φ in let d = total_snoc φ v.admitted m in let e : weight φ v ≡ total (λ (r : Row). φ r.member) v.back = ap (weight_at φ v) is.0 ∙ wt φ in omega arith;
        order = λ h h8. let d = total_snoc (closes_of_group h) v.admitted m in let o = l.order h h8 in dite (ℕ_discrete g h)
            (λ same. let P : ℕ → Type 0 = λ z. members_closing z w.admitted ≡ now z + (tally z (now z) vs).closers in subst P same
            (let d = total_snoc (closes_of_group g) v.admitted m in let o = l.order g g8 in let x : (tally g (now g) vs).closers ≡ bit b + (tally g (now g) s.views).closers = ap (λ z. z.closers) own in
            let y : closes_of_group g m ≡ bit b = ap (λ z. cond z (bit b) 0) (eq-eqb m.number g is.1) in omega arith))
            (λ ne. let x : (tally h (now h) vs).closers ≡ (tally h (now h) s.views).closers = ap (λ z. z.closers) (others h (now h) (at_number h (now h) m (tally_of w.row) nothing (λ e. ne (sym is.1 ∙ e)))) in
            let y : closes_of_group h m ≡ 0 = ap (λ z. cond z (bit b) 0) (ne_eqb m.number h (λ e. ne (sym is.1 ∙ e))) in omega arith);
        back = l.back;
        rising = rising_snoc v.admitted 0 v.next m l.rising rising;
        bound = bound;
        room = omega arith;
        small = (let d = total_snoc is_beyond v.admitted m in let o = l.small in let h : m.number ≡ g = is.1 in let z : is_beyond m ≡ 0 = ap (λ (t : Bool). cond t 0 1) (lt-ltb m.number 8 (omega arith)) in omega arith);
      }

  pub adds_open : IsClaiming Looked g v → length v.admitted < length v.back + 64 → v.next ≤ v.row.member.index → v.row.member.index + 1 < 2 ^ 32 → Allows OneEnd n id me (5 * g) (λ y. (y + 257) % 2 ^ 64) (AddsMember false (step n (5 * g) 257 0 none) me)
  adds_open is out rising bound = subst (λ (z : ℕ). Allows OneEnd n z me (5 * g) (λ y. (y + 257) % 2 ^ 64) (AddsMember false (step n (5 * g) 257 0 none) me)) (sym first)
      (λ s r wide at small. let l = as_seen s r v at in let x : ℕ = (get_or s.words (5 * g) 0 + 257) % 2 ^ 64 in let len = l.size in (
        added_view false v,
        keeps,
        tt,
        adds Looked 1 false s r.now l is refl (omega arith) (λ _ _. refl) (λ _. refl) out rising bound (set s.words (5 * g) x) (record (cell s.words g) { left = x }) (set_len s.words (5 * g) x ∙ l.size) (λ h ne. cell_else s.words g x (5 * g) h (omega arith) (omega arith) ne) (cell_left s.words g x (omega arith))
            (λ t sound unit few many c. local.add (cell s.words g) 1 (name_of v.row.member) t sound unit (new_member false v) refl few many c),
        refl,
      ))

  pub adds_last : IsClaiming Placed g v → length v.admitted < length v.back + 64 → v.next ≤ v.row.member.index → v.row.member.index + 1 < 2 ^ 32 → Allows OneEnd n id me (5 * g) (λ y. (y + 385) % 2 ^ 64) (AddsMember true (step n (5 * g) 385 0 none) me)
  adds_last is out rising bound = subst (λ (z : ℕ). Allows OneEnd n z me (5 * g) (λ y. (y + 385) % 2 ^ 64) (AddsMember true (step n (5 * g) 385 0 none) me)) (sym first)
      (λ s r wide at small. let l = as_seen s r v at in let x : ℕ = (get_or s.words (5 * g) 0 + 385) % 2 ^ 64 in let len = l.size in (
        added_view true v,
        keeps,
        tt,
        adds Placed 2 true s r.now l is refl (omega arith) (λ _ _. refl) (λ _. refl) out rising bound (set s.words (5 * g) x) (record (cell s.words g) { left = x }) (set_len s.words (5 * g) x ∙ l.size) (λ h ne. cell_else s.words g x (5 * g) h (omega arith) (omega arith) ne) (cell_left s.words g x (omega arith))
            (λ t sound unit few many c. local.add_last (cell s.words g) 2 (name_of v.row.member) t sound unit (new_member true v) refl refl few many c),
        refl,
      ))
