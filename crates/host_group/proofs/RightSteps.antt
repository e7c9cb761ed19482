-- The steps of a right keep the rule.
use Rattle.std.proofs.Common.{◌≡◌, ◌≢◌, ◌⊎◌, ℕ, zero, suc, ◌+◌, ◌-◌, ◌*◌, ◌/◌, ◌%◌, ◌^◌, ◌<◌, List, length, get_or, set, sym, refl, ap, subst, ◌∙◌, inl, inr, ⊎_elim, arith, cond, eqb, eq-eqb, ne_eqb}
use Rattle.std.specs.Prelude.{min, max}
use mathlib.Core.Option.{none, some, some-injective}
use mathlib.Core.Logic.{dite}
use native.Mathlib.Decide.{ℕ_discrete}
use lib.ListN.{get_elem?}
use Rattle.atomic_table.specs.Table.{State, Me, step, keeps, Allows}
use Rattle.atomic_table.proofs.Lists.{set_else}
use Rattle.host_group.specs.{View, Row, Member, Stage, Resting, Looked, Placed, Added, Right, Spent, Progress, Unsettled, Last, TookError, TookDeviceFront, TookMemoryFront, TookClosing, Ended, Passed, no_failure, failure_word, status_of, Cell, cell, IsCellCurrent, IsInstanceOver, IsInstance, is_admitting, claim, OneEnd, PutsError, PutsDeviceFront, PutsMemoryFront, Settles, TakesError, TakesDeviceFront, TakesMemoryFront, TakesClosing, Frees, Tally, nothing, both, unsettled_of, ending_of, tally_of, row_tally, rows_tally, tally_at, view_tally, tally, weight_at, weight, bit, where_in, members_closing, name_of, with_row}
use Rattle.host_record.specs.declared.status.Status.{Status}
use Rattle.host_record.specs.{Ok}
use Rattle.host_group.proofs.InstanceSteps as local
use Rattle.host_log.specs.{total}
use Rattle.host_log.proofs.Totals.{without, total_set, fold_at, fold_set, fold_same, fold_unit, fold_all}
use Rattle.host_group.proofs.CellWords.{set_len, cell_else, cell_left, cell_error, cell_device_front, cell_memory_front, cell_closing, at_own, at_all, at_same}
use Rattle.host_group.proofs.InstanceSteps.{being}
use Rattle.host_group.proofs.Tallies.{both_assoc, both_comm, both_nothing, Sound, sound_nothing, sound_both, sound_tally}

abbrev pub St : Type 0
St = State (Unit {0}) View

abbrev pub M : Type 0
M = Me (Unit {0}) View

pub same_view : (views : List View) (h id : ℕ) (u v : View) → get_elem? views h ≡ some u → get_elem? views id ≡ some v → h ≡ id → u ≡ v
same_view views h id u v a b e = some-injective u v (sym a ∙ (ap (λ i. get_elem? views i) e ∙ b))

pub sound_row : (g j : ℕ) (r : Row) → Sound (row_tally g j r)
sound_row g j r = at_all g j r.member (tally_of r) nothing Sound (sound_tally r) sound_nothing

pub sound_rows : (g j : ℕ) (rs : List Row) → Sound (rows_tally g j rs)
sound_rows g j rs = fold_all both nothing both_assoc both_comm (row_tally g j) Sound sound_nothing sound_both (sound_row g j) rs

sound_staged : (g j : ℕ) (v : View) (a : Stage) → Sound (tally_at g j v a)
sound_staged g j v Resting = sound_rows g j v.back
sound_staged g j v Looked = sound_rows g j v.back
sound_staged g j v Placed = sound_rows g j v.back
sound_staged g j v Added = sound_both (row_tally g j v.row) (rows_tally g j v.back) (sound_row g j v.row) (sound_rows g j v.back)
sound_staged g j v Right = sound_row g j v.row
sound_staged g j v Spent = sound_nothing

pub sound_views : (g j : ℕ) (vs : List View) → Sound (tally g j vs)
sound_views g j vs = fold_all both nothing both_assoc both_comm (view_tally g j) Sound sound_nothing sound_both (λ v. sound_staged g j v v.stage) vs

pub unit_views : (g j : ℕ) (vs : List View) → both nothing (tally g j vs) ≡ tally g j vs
unit_views g j vs = fold_unit both nothing both_assoc both_comm (view_tally g j) both_nothing vs

pub views_at : (g j : ℕ) (vs : List View) (i : ℕ) (v : View) → get_elem? vs i ≡ some v → tally g j vs ≡ both (view_tally g j v) (tally g j (without vs i))
views_at g j vs i v e = fold_at both nothing both_assoc both_comm (view_tally g j) vs i v e

pub views_set : (g j : ℕ) (vs : List View) (i : ℕ) (v w : View) → get_elem? vs i ≡ some v → tally g j (set vs i w) ≡ both (view_tally g j w) (tally g j (without vs i))
views_set g j vs i v w e = fold_set both nothing both_assoc both_comm (view_tally g j) vs i v w e

pub views_same : (g j : ℕ) (vs : List View) (i : ℕ) (v w : View) → get_elem? vs i ≡ some v → view_tally g j w ≡ view_tally g j v → tally g j (set vs i w) ≡ tally g j vs
views_same g j vs i v w e s = fold_same both nothing both_assoc both_comm (view_tally g j) vs i v w e s

pub instance_as : (c c' : Cell) (n j q name : ℕ) (t t' : Tally) → c' ≡ c → t' ≡ t → IsInstance c n j q name t → IsInstance c' n j q name t'
instance_as c c' n j q name t t' e f h = subst (λ (z : Cell × Tally). IsInstance z.0 n j q name z.1) (λ i. (sym e i, sym f i)) h

pub ordered : (a b : ℕ) → (a < b) ⊎ ((a ≡ b) ⊎ (b < a))
ordered zero zero = inr (inl refl)
ordered zero (suc b) = inl (omega arith)
ordered (suc a) zero = inr (inr (omega arith))
ordered (suc a) (suc b) = ⊎_elim (λ t. inl (omega arith)) (λ t. ⊎_elim (λ u. inr (inl (ap suc u))) (λ u. inr (inr (omega arith))) t) (ordered a b)

module _ (s : St) (r : OneEnd s) (id : ℕ) (v : View) (at : get_elem? s.views id ≡ some v) (is : v.stage ≡ Right) where
  abbrev num : ℕ
  num = v.row.member.number

  abbrev inst : ℕ
  inst = v.row.member.instance

  abbrev others : ℕ → ℕ → Tally
  others g j = tally g j (without s.views id)

  not_first : 0 ≢ id
  not_first e = let same : r.admitting ≡ v = same_view s.views 0 id r.admitting v r.here at e in let l : is_admitting v.stage ≡ 1 = ap (λ (z : View). is_admitting z.stage) (sym same) ∙ r.admits in
      let o : is_admitting v.stage ≡ 0 = ap is_admitting is in omega arith

  row_of : (g j : ℕ) (x : Row) → view_tally g j (with_row v x) ≡ row_tally g j x
  row_of g j x = ap (λ z. tally_at g j (with_row v x) z) is

  tally_own : tally num inst s.views ≡ both (tally_of v.row) (others num inst)
  tally_own = views_at num inst s.views id v at ∙ ap (λ z. both z (others num inst)) (row_of num inst v.row ∙ at_own num inst v.row.member (tally_of v.row) nothing refl refl)

  module _ (x : Row) (same : x.member ≡ v.row.member) where
    tally_new : tally num inst (set s.views id (with_row v x)) ≡ both (tally_of x) (others num inst)
    tally_new = views_set num inst s.views id v (with_row v x) at ∙ ap (λ z. both z (others num inst)) (row_of num inst x ∙ at_own num inst x.member (tally_of x) nothing (ap (λ m. m.number) same) (ap (λ m. m.instance) same))

    tally_else : (g j : ℕ) → (num ≡ g → inst ≡ j → ⊥) → tally g j (set s.views id (with_row v x)) ≡ tally g j s.views
    tally_else g j f = views_same g j s.views id v (with_row v x) at
        (row_of g j x ∙ (ap (λ m. where_in g j m (tally_of x) nothing) same ∙ (at_same g j v.row.member (tally_of x) (tally_of v.row) nothing f ∙ sym (row_of g j v.row))))

    weight_same : (φ : Member → ℕ) → total (weight φ) (set s.views id (with_row v x)) ≡ total (weight φ) s.views
    weight_same φ = let a = total_set (weight φ) s.views id v (with_row v x) at in
        let b : weight φ (with_row v x) ≡ weight φ v = ap (λ z. weight_at φ (with_row v x) z) is ∙ (ap φ same ∙ sym (ap (λ z. weight_at φ v z) is)) in omega arith

  -- an instance that a row is in, and that isn't over, is the current one
  is_now : num < 8 → 0 < (tally_of v.row).unsettled + (tally_of v.row).ending → inst ≡ r.now num
  is_now lt alive = let t = tally_own in let e = r.each num inst lt in
      let u : (tally num inst s.views).unsettled ≡ (tally_of v.row).unsettled + (others num inst).unsettled = ap (λ z. z.unsettled) t in
      let n : (tally num inst s.views).ending ≡ (tally_of v.row).ending + (others num inst).ending = ap (λ z. z.ending) t in ⊎_elim
      (λ a. let o = e.over a in let x = o.unsettled in let y = o.ending in absurd (omega arith))
      (λ b. ⊎_elim (λ a. a) (λ a. let o = (e.later a).0 in let x : (tally num inst s.views).unsettled ≡ 0 = ap (λ z. z.unsettled) o in let y : (tally num inst s.views).ending ≡ 0 = ap (λ z. z.ending) o in absurd (omega arith)) b)
      (ordered inst (r.now num))

  abbrev q : ℕ
  q = claim num inst r.admitting

  abbrev name : ℕ
  name = (name_of r.admitting.row.member)

  -- the word of a current instance counts fewer than 2^32 members
  pub small_count : num < 8 → 0 < (tally_of v.row).unsettled + (tally_of v.row).ending → get_or s.words (5 * num) 0 / 256 < 2 ^ 32
  small_count lt alive = let c = (r.each num inst lt).current (is_now lt alive) in let left = c.left in let few = c.few in let many = c.many in let single = c.single in omega arith

  -- what stays where a row changes within its instance
  pub moved : num < 8 → 0 < (tally_of v.row).unsettled + (tally_of v.row).ending → (x : Row) → x.member ≡ v.row.member → (words' : List ℕ) → length words' ≡ 40 → ((g : ℕ) → g ≢ num → cell words' g ≡ cell s.words g)
      → (c' : Cell) → cell words' num ≡ c'
      → ((R : Tally) → Sound R → both nothing R ≡ R → IsCellCurrent (cell s.words num) q name (both (tally_of v.row) R) → IsCellCurrent c' q name (both (tally_of x) R))
      → OneEnd record { words = words'; homes = s.homes; views = set s.views id (with_row v x) }
  moved lt alive x same words' len else c' mine step = let now = is_now lt alive in record {
    admitting = r.admitting;
    now = r.now;
    here = set_else s.views id 0 (with_row v x) not_first ∙ r.here;
    admits = r.admits;
    size = len;
    each = λ g j g8. let old = r.each g j g8 in dite (ℕ_discrete num g)
        (λ e. dite (ℕ_discrete inst j)
        (λ f. let P : ℕ × ℕ → Type 0 = λ z. IsInstance (cell words' z.0) (r.now z.0) z.1 (claim z.0 z.1 r.admitting) name (tally z.0 z.1 (set s.views id (with_row v x))) in
        let cur = (r.each num inst lt).current now in
        let cur' = subst (λ z. IsCellCurrent (cell s.words num) q name z) tally_own cur in
        let new = step (others num inst) (sound_views num inst (without s.views id)) (unit_views num inst (without s.views id)) cur' in
        let mine' : IsCellCurrent (cell words' num) q name (tally num inst (set s.views id (with_row v x))) = subst (λ (z : Cell × Tally). IsCellCurrent z.0 q name z.1) (λ i. (sym mine i, sym (tally_new x same) i)) new in
        subst P (λ i. (e i, f i)) record { over = λ a. absurd (omega arith); current = λ _. mine'; later = λ a. absurd (omega arith) })
        (λ ne. let t = tally_else x same g j (λ _ b. ne b) in
        record {
          over = λ a. subst IsInstanceOver (sym t) (old.over a);
          current = λ a. absurd (ne (now ∙ (ap r.now e ∙ sym a)));
          later = λ a. let o = old.later a in (t ∙ o.0, o.1);
        }))
        (λ ne. instance_as (cell s.words g) (cell words' g) (r.now g) j (claim g j r.admitting) name (tally g j s.views) (tally g j (set s.views id (with_row v x))) (else g (λ e. ne (sym e))) (tally_else x same g j (λ a _. ne a)) old);
    counted = λ φ. r.counted φ ∙ sym (weight_same x same φ);
    order = λ g g8. r.order g g8 ∙ ap (λ z. r.now g + z) (dite (ℕ_discrete num g)
        (λ e. let P : ℕ × ℕ → Type 0 = λ z. (tally z.0 z.1 s.views).closers ≡ (tally z.0 z.1 (set s.views id (with_row v x))).closers in
        subst P (λ i. (e i, (now ∙ ap r.now e) i)) (ap (λ z. z.closers) tally_own ∙ (ap (λ (m : Member). bit m.last + (others num inst).closers) (sym same) ∙ ap (λ z. z.closers) (sym (tally_new x same)))))
        (λ ne. ap (λ z. z.closers) (sym (tally_else x same g (r.now g) (λ a _. ne a)))));
    back = r.back;
    rising = r.rising;
    bound = r.bound;
    room = r.room;
    small = r.small;
  }

  -- the ending one frees the words
  pub frees : num < 8 → v.row.progress ≡ TookClosing → OneEnd record { words = set s.words (5 * num) 0; homes = s.homes; views = set s.views id (with_row v record v.row { progress = Ended }) }
  frees lt p = let x : Row = record v.row { progress = Ended } in let ws : List ℕ = set s.words (5 * num) 0 in let vs : List View = set s.views id (with_row v x) in
      let len = r.size in
      let now = is_now lt (subst (λ (z : Progress). 0 < unsettled_of z + ending_of z) (sym p) (omega arith)) in
      let cur = subst (λ z. IsCellCurrent (cell s.words num) q name z) tally_own ((r.each num inst lt).current now) in
      let cur' = subst (λ (z : Row). IsCellCurrent (cell s.words num) q name (both (tally_of z) (others num inst))) (λ i. record v.row { progress = p i }) cur in
      let sound = sound_views num inst (without s.views id) in let unit = unit_views num inst (without s.views id) in
      let done = local.over (cell s.words num) q name v.row (others num inst) sound unit cur' in
      let done' : IsInstanceOver (tally num inst vs) = subst IsInstanceOver (sym (tally_new x refl)) done in
      let marked : (tally num (r.now num) s.views).closers ≡ 1 = subst (λ (z : ℕ). (tally num z s.views).closers ≡ 1) now
      (ap (λ z. z.closers) tally_own ∙ (local.ends (cell s.words num) q name v.row (others num inst) sound unit TookClosing refl refl cur').10) in
      let now' : ℕ → ℕ = λ g. cond (eqb num g) (r.now num + 1) (r.now g) in
      let own : now' num ≡ r.now num + 1 = ap (λ b. cond b (r.now num + 1) (r.now num)) (eq-eqb num num refl) in
      let same : (g : ℕ) → num ≢ g → now' g ≡ r.now g = λ g ne. ap (λ b. cond b (r.now num + 1) (r.now g)) (ne_eqb num g ne) in
      let empty : (tally num (r.now num + 1) vs ≡ nothing) × (claim num (r.now num + 1) r.admitting ≡ 0) = (let o = (r.each num (r.now num + 1) lt).later (omega arith) in (tally_else x refl num (r.now num + 1) (λ _ b. omega arith) ∙ o.0, o.1)) in
      let cellx : cell ws num ≡ record (cell s.words num) { left = 0 } = cell_left s.words num 0 (omega arith) in record {
        admitting = r.admitting;
        now = now';
        here = set_else s.views id 0 (with_row v x) not_first ∙ r.here;
        admits = r.admits;
        size = set_len s.words (5 * num) 0 ∙ r.size;
        each = λ g j g8. dite (ℕ_discrete num g)
            (λ e. let P : ℕ → Type 0 = λ z. IsInstance (cell ws z) (now' z) j (claim z j r.admitting) name (tally z j vs) in
            subst P e (subst (λ (z : ℕ). IsInstance (cell ws num) z j (claim num j r.admitting) name (tally num j vs)) (sym own) (dite (ℕ_discrete inst j)
            (λ f. subst (λ (z : ℕ). IsInstance (cell ws num) (r.now num + 1) z (claim num z r.admitting) name (tally num z vs)) f record { over = λ _. done'; current = λ a. absurd (omega arith); later = λ a. absurd (omega arith) })
            (λ ne. let t = tally_else x refl num j (λ _ b. ne b) in let old = r.each num j lt in record {
              over = λ a. subst IsInstanceOver (sym t) (old.over (omega arith));
              current = λ a. let fresh_row = local.free (cell s.words num) q name v.row (others num inst) sound unit cur' name in
                  let to : (claim num j r.admitting ≡ 0) × (tally num j vs ≡ nothing) = subst (λ (z : ℕ). (claim num z r.admitting ≡ 0) × (tally num z vs ≡ nothing)) (sym a) (empty.1, empty.0) in
                  subst (λ (z : Cell × ℕ × Tally). IsCellCurrent z.0 z.1 name z.2) (λ i. (sym cellx i, sym to.0 i, sym to.1 i)) fresh_row;
              later = λ a. let o = old.later (omega arith) in (t ∙ o.0, o.1);
            }))))
            (λ ne. subst (λ (z : ℕ). IsInstance (cell ws g) z j (claim g j r.admitting) name (tally g j vs)) (sym (same g ne))
            (instance_as (cell s.words g) (cell ws g) (r.now g) j (claim g j r.admitting) name (tally g j s.views) (tally g j vs) (cell_else s.words num 0 (5 * num) g (omega arith) (omega arith) (λ e. ne (sym e))) (tally_else x refl g j (λ a _. ne a)) (r.each g j g8)));
        counted = λ φ. r.counted φ ∙ sym (weight_same x refl φ);
        order = λ g g8. dite (ℕ_discrete num g)
            (λ e. subst (λ (z : ℕ). members_closing z r.admitting.admitted ≡ now' z + (tally z (now' z) vs).closers) e
            (subst (λ (z : ℕ). members_closing num r.admitting.admitted ≡ z + (tally num z vs).closers) (sym own)
            (let o = r.order num lt in let z : (tally num (r.now num + 1) vs).closers ≡ 0 = ap (λ t. t.closers) empty.0 in omega arith)))
            (λ ne. subst (λ (z : ℕ). members_closing g r.admitting.admitted ≡ z + (tally g z vs).closers) (sym (same g ne))
            (r.order g g8 ∙ ap (λ z. r.now g + z) (ap (λ z. z.closers) (sym (tally_else x refl g (r.now g) (λ a _. ne a))))));
        back = r.back;
        rising = r.rising;
        bound = r.bound;
        room = r.room;
        small = r.small;
      }

module _ (n id : ℕ) (me : M) (g : ℕ) (g8 : g < 8) (is : me.0.stage ≡ Right) (has : me.0.row.member.number ≡ g) where
  abbrev v : View
  v = me.0

  alive : (p : Progress) → v.row.progress ≡ p → 0 < unsettled_of p + ending_of p → 0 < (tally_of v.row).unsettled + (tally_of v.row).ending
  alive p e h = subst (λ (z : Progress). 0 < unsettled_of z + ending_of z) (sym e) h

  pub puts_error : (x : ℕ) (status : Status) → x ≡ failure_word me.0.row.member.index status → status_of x ≡ status → me.0.row.progress ≡ Unsettled → me.0.row.status ≡ Ok → Allows OneEnd n id me (5 * g + 1) (λ y. min y x) (PutsError (step n (5 * g + 1) x 0 none) me)
  puts_error x status word told p e = subst (λ (z : ℕ). z < 8 → Allows OneEnd n id me (5 * z + 1) (λ y. min y x) (PutsError (step n (5 * z + 1) x 0 none) me)) has
      (λ lt s r wide at small. let y : Row = record v.row { status = status_of x } in let h : ℕ = v.row.member.number in let len = r.size in let new : ℕ = min (get_or s.words (5 * v.row.member.number + 1) 0) x in (
        with_row v y,
        keeps,
        tt,
        moved s r id v at is lt (alive Unsettled p (omega arith)) y refl (set s.words (5 * h + 1) new) (set_len s.words (5 * h + 1) new ∙ r.size)
            (λ i ne. cell_else s.words h new (5 * h + 1) i (omega arith) (omega arith) ne) (record (cell s.words h) { error = new }) (cell_error s.words h new (omega arith))
            (λ R sound unit c. subst (λ (z : Progress). IsCellCurrent record (cell s.words h) { error = new } (claim h v.row.member.instance r.admitting) (name_of r.admitting.row.member) (both (tally_of record y { progress = z }) R)) (sym p)
            (local.put_error (cell s.words h) (claim h v.row.member.instance r.admitting) (name_of r.admitting.row.member) v.row R sound unit x (status_of x) (word ∙ ap (failure_word v.row.member.index) (sym told)) e
            (subst (λ (z : Progress). IsCellCurrent (cell s.words h) (claim h v.row.member.instance r.admitting) (name_of r.admitting.row.member) (both (tally_of (being z v.row)) R)) p c))),
        refl,
      )) g8

  pub puts_device_front : (x : ℕ) → me.0.row.progress ≡ Unsettled → me.0.row.device_front ≡ 0 → Allows OneEnd n id me (5 * g + 2) (λ y. max y x) (PutsDeviceFront (step n (5 * g + 2) x 0 none) me)
  puts_device_front x p e = subst (λ (z : ℕ). z < 8 → Allows OneEnd n id me (5 * z + 2) (λ y. max y x) (PutsDeviceFront (step n (5 * z + 2) x 0 none) me)) has
      (λ lt s r wide at small. let y : Row = record v.row { device_front = x } in let h : ℕ = v.row.member.number in let len = r.size in let new : ℕ = max (get_or s.words (5 * v.row.member.number + 2) 0) x in (
        with_row v y,
        keeps,
        tt,
        moved s r id v at is lt (alive Unsettled p (omega arith)) y refl (set s.words (5 * h + 2) new) (set_len s.words (5 * h + 2) new ∙ r.size)
            (λ i ne. cell_else s.words h new (5 * h + 2) i (omega arith) (omega arith) ne) (record (cell s.words h) { device_front = new }) (cell_device_front s.words h new (omega arith))
            (λ R sound unit c. subst (λ (z : Progress). IsCellCurrent record (cell s.words h) { device_front = new } (claim h v.row.member.instance r.admitting) (name_of r.admitting.row.member) (both (tally_of record y { progress = z }) R)) (sym p)
            (local.put_device_front (cell s.words h) (claim h v.row.member.instance r.admitting) (name_of r.admitting.row.member) v.row R sound unit x e
            (subst (λ (z : Progress). IsCellCurrent (cell s.words h) (claim h v.row.member.instance r.admitting) (name_of r.admitting.row.member) (both (tally_of (being z v.row)) R)) p c))),
        refl,
      )) g8

  pub puts_memory_front : (x : ℕ) → me.0.row.progress ≡ Unsettled → me.0.row.memory_front ≡ 0 → Allows OneEnd n id me (5 * g + 3) (λ y. max y x) (PutsMemoryFront (step n (5 * g + 3) x 0 none) me)
  puts_memory_front x p e = subst (λ (z : ℕ). z < 8 → Allows OneEnd n id me (5 * z + 3) (λ y. max y x) (PutsMemoryFront (step n (5 * z + 3) x 0 none) me)) has
      (λ lt s r wide at small. let y : Row = record v.row { memory_front = x } in let h : ℕ = v.row.member.number in let len = r.size in let new : ℕ = max (get_or s.words (5 * v.row.member.number + 3) 0) x in (
        with_row v y,
        keeps,
        tt,
        moved s r id v at is lt (alive Unsettled p (omega arith)) y refl (set s.words (5 * h + 3) new) (set_len s.words (5 * h + 3) new ∙ r.size)
            (λ i ne. cell_else s.words h new (5 * h + 3) i (omega arith) (omega arith) ne) (record (cell s.words h) { memory_front = new }) (cell_memory_front s.words h new (omega arith))
            (λ R sound unit c. subst (λ (z : Progress). IsCellCurrent record (cell s.words h) { memory_front = new } (claim h v.row.member.instance r.admitting) (name_of r.admitting.row.member) (both (tally_of record y { progress = z }) R)) (sym p)
            (local.put_memory_front (cell s.words h) (claim h v.row.member.instance r.admitting) (name_of r.admitting.row.member) v.row R sound unit x e
            (subst (λ (z : Progress). IsCellCurrent (cell s.words h) (claim h v.row.member.instance r.admitting) (name_of r.admitting.row.member) (both (tally_of (being z v.row)) R)) p c))),
        refl,
      )) g8

  pub takes_error : me.0.row.progress ≡ Last → Allows OneEnd n id me (5 * g + 1) (λ _. no_failure) (TakesError (step n (5 * g + 1) no_failure 0 none) me)
  takes_error p = subst (λ (z : ℕ). z < 8 → Allows OneEnd n id me (5 * z + 1) (λ _. no_failure) (TakesError (step n (5 * z + 1) no_failure 0 none) me)) has
      (λ lt s r wide at small. let h : ℕ = v.row.member.number in let found : ℕ = get_or s.words (5 * h + 1) 0 in let y : Row = record v.row { progress = TookError; end_error = found } in let len = r.size in (
        with_row v y,
        keeps,
        tt,
        moved s r id v at is lt (alive Last p (omega arith)) y refl (set s.words (5 * h + 1) no_failure) (set_len s.words (5 * h + 1) no_failure ∙ r.size)
            (λ i ne. cell_else s.words h no_failure (5 * h + 1) i (omega arith) (omega arith) ne) (record (cell s.words h) { error = no_failure }) (cell_error s.words h no_failure (omega arith))
            (λ R sound unit c. local.take_error (cell s.words h) (claim h v.row.member.instance r.admitting) (name_of r.admitting.row.member) v.row R sound unit found refl
            (subst (λ (z : Progress). IsCellCurrent (cell s.words h) (claim h v.row.member.instance r.admitting) (name_of r.admitting.row.member) (both (tally_of (being z v.row)) R)) p c)),
        refl,
      )) g8

  pub takes_device_front : me.0.row.progress ≡ TookError → Allows OneEnd n id me (5 * g + 2) (λ _. 0) (TakesDeviceFront (step n (5 * g + 2) 0 0 none) me)
  takes_device_front p = subst (λ (z : ℕ). z < 8 → Allows OneEnd n id me (5 * z + 2) (λ _. 0) (TakesDeviceFront (step n (5 * z + 2) 0 0 none) me)) has
      (λ lt s r wide at small. let h : ℕ = v.row.member.number in let found : ℕ = get_or s.words (5 * h + 2) 0 in let y : Row = record v.row { progress = TookDeviceFront; end_device_front = found } in let len = r.size in (
        with_row v y,
        keeps,
        tt,
        moved s r id v at is lt (alive TookError p (omega arith)) y refl (set s.words (5 * h + 2) 0) (set_len s.words (5 * h + 2) 0 ∙ r.size)
            (λ i ne. cell_else s.words h 0 (5 * h + 2) i (omega arith) (omega arith) ne) (record (cell s.words h) { device_front = 0 }) (cell_device_front s.words h 0 (omega arith))
            (λ R sound unit c. local.take_device_front (cell s.words h) (claim h v.row.member.instance r.admitting) (name_of r.admitting.row.member) v.row R sound unit found refl
            (subst (λ (z : Progress). IsCellCurrent (cell s.words h) (claim h v.row.member.instance r.admitting) (name_of r.admitting.row.member) (both (tally_of (being z v.row)) R)) p c)),
        refl,
      )) g8

  pub takes_memory_front : me.0.row.progress ≡ TookDeviceFront → Allows OneEnd n id me (5 * g + 3) (λ _. 0) (TakesMemoryFront (step n (5 * g + 3) 0 0 none) me)
  takes_memory_front p = subst (λ (z : ℕ). z < 8 → Allows OneEnd n id me (5 * z + 3) (λ _. 0) (TakesMemoryFront (step n (5 * z + 3) 0 0 none) me)) has
      (λ lt s r wide at small. let h : ℕ = v.row.member.number in let found : ℕ = get_or s.words (5 * h + 3) 0 in let y : Row = record v.row { progress = TookMemoryFront; end_memory_front = found } in let len = r.size in (
        with_row v y,
        keeps,
        tt,
        moved s r id v at is lt (alive TookDeviceFront p (omega arith)) y refl (set s.words (5 * h + 3) 0) (set_len s.words (5 * h + 3) 0 ∙ r.size)
            (λ i ne. cell_else s.words h 0 (5 * h + 3) i (omega arith) (omega arith) ne) (record (cell s.words h) { memory_front = 0 }) (cell_memory_front s.words h 0 (omega arith))
            (λ R sound unit c. local.take_memory_front (cell s.words h) (claim h v.row.member.instance r.admitting) (name_of r.admitting.row.member) v.row R sound unit found refl
            (subst (λ (z : Progress). IsCellCurrent (cell s.words h) (claim h v.row.member.instance r.admitting) (name_of r.admitting.row.member) (both (tally_of (being z v.row)) R)) p c)),
        refl,
      )) g8

  pub takes_closing : me.0.row.progress ≡ TookMemoryFront → Allows OneEnd n id me (5 * g + 4) (λ _. 0) (TakesClosing (step n (5 * g + 4) 0 0 none) me)
  takes_closing p = subst (λ (z : ℕ). z < 8 → Allows OneEnd n id me (5 * z + 4) (λ _. 0) (TakesClosing (step n (5 * z + 4) 0 0 none) me)) has
      (λ lt s r wide at small. let h : ℕ = v.row.member.number in let found : ℕ = get_or s.words (5 * h + 4) 0 in let y : Row = record v.row { progress = TookClosing; end_closing = found } in let len = r.size in (
        with_row v y,
        keeps,
        tt,
        moved s r id v at is lt (alive TookMemoryFront p (omega arith)) y refl (set s.words (5 * h + 4) 0) (set_len s.words (5 * h + 4) 0 ∙ r.size)
            (λ i ne. cell_else s.words h 0 (5 * h + 4) i (omega arith) (omega arith) ne) (record (cell s.words h) { closing = 0 }) (cell_closing s.words h 0 (omega arith))
            (λ R sound unit c. local.take_closing (cell s.words h) (claim h v.row.member.instance r.admitting) (name_of r.admitting.row.member) v.row R sound unit found refl
            (subst (λ (z : Progress). IsCellCurrent (cell s.words h) (claim h v.row.member.instance r.admitting) (name_of r.admitting.row.member) (both (tally_of (being z v.row)) R)) p c)),
        refl,
      )) g8

  pub settles : me.0.row.progress ≡ Unsettled → Allows OneEnd n id me (5 * g) (λ y. (y + (2 ^ 64 - 1)) % 2 ^ 64) (Settles (step n (5 * g) 1 0 none) me)
  settles p = subst (λ (z : ℕ). z < 8 → Allows OneEnd n id me (5 * z) (λ y. (y + (2 ^ 64 - 1)) % 2 ^ 64) (Settles (step n (5 * z) 1 0 none) me)) has
      (λ lt s r wide at small. let h : ℕ = v.row.member.number in let found : ℕ = get_or s.words (5 * h) 0 in let new : ℕ = (found + (2 ^ 64 - 1)) % 2 ^ 64 in let len = r.size in dite (ℕ_discrete (found % 256) 129)
      (λ hit. let y : Row = record v.row { progress = Last; found = found } in (
        with_row v y,
        keeps,
        tt,
        moved s r id v at is lt (alive Unsettled p (omega arith)) y refl (set s.words (5 * h) new) (set_len s.words (5 * h) new ∙ r.size)
            (λ i ne. cell_else s.words h new (5 * h) i (omega arith) (omega arith) ne) (record (cell s.words h) { left = new }) (cell_left s.words h new (omega arith))
            (λ R sound unit c. local.settle_last (cell s.words h) (claim h v.row.member.instance r.admitting) (name_of r.admitting.row.member) v.row R sound unit found refl hit
            (subst (λ (z : Progress). IsCellCurrent (cell s.words h) (claim h v.row.member.instance r.admitting) (name_of r.admitting.row.member) (both (tally_of (being z v.row)) R)) p c)),
        (small_count s r id v at is lt (alive Unsettled p (omega arith)), (λ _. refl), λ miss. absurd (miss hit)),
      ))
      (λ miss. let y : Row = record v.row { progress = Passed; found = found } in (
        with_row v y,
        keeps,
        tt,
        moved s r id v at is lt (alive Unsettled p (omega arith)) y refl (set s.words (5 * h) new) (set_len s.words (5 * h) new ∙ r.size)
            (λ i ne. cell_else s.words h new (5 * h) i (omega arith) (omega arith) ne) (record (cell s.words h) { left = new }) (cell_left s.words h new (omega arith))
            (λ R sound unit c. local.settle_else (cell s.words h) (claim h v.row.member.instance r.admitting) (name_of r.admitting.row.member) v.row R sound unit found refl miss
            (subst (λ (z : Progress). IsCellCurrent (cell s.words h) (claim h v.row.member.instance r.admitting) (name_of r.admitting.row.member) (both (tally_of (being z v.row)) R)) p c)),
        (small_count s r id v at is lt (alive Unsettled p (omega arith)), (λ hit. absurd (miss hit)), λ _. refl),
      ))) g8

  pub frees_word : me.0.row.progress ≡ TookClosing → Allows OneEnd n id me (5 * g) (λ _. 0) (λ _. Frees (step n (5 * g) 0 0 none) me 0)
  frees_word p = subst (λ (z : ℕ). z < 8 → Allows OneEnd n id me (5 * z) (λ _. 0) (λ _. Frees (step n (5 * z) 0 0 none) me 0)) has
      (λ lt s r wide at small. (with_row v record v.row { progress = Ended }, keeps, tt, frees s r id v at is lt p, refl)) g8
