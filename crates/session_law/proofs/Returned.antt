-- The rights that came back to a session's cells, and the answers that records' ends made due.
use Rattle.std.proofs.Common.{◌≡◌, ℕ, zero, suc, ◌+◌, ◌<◌, ◌≤◌, ◌==◌, Bool, true, false, not, ◌&&◌, nat_eq, nat_le, nat_lt, List, [], ◌∷◌, length, filter, map, Option, Some, refl, sym, ap, subst, ◌∙◌, arith, eq-eqb}
use Rattle.std.specs.Prelude.{unwrap_or}
use Rattle.std.specs.List.{list_any, slice_get}
use Rattle.std.proofs.lemmas.Bool.{eqb-true, leb-true, ltb-false, ltb-true}
use Rattle.std.proofs.lemmas.List.{get_or_past, length-map}
use Rattle.host_block.proofs.Places.{any_at, in_map, range_at}
use Rattle.host_record.specs.declared.request.Request.{Request}
use Rattle.host_record.specs.{is_grouped, request_of}
use Rattle.host_model.specs.{TakenRow, is_member, below, count, request_at, row_at}
use Rattle.host_group.specs.{GroupEnd, CellSeat, Member, Row, AreThoseAdmitted, HasItsEnd, HaveRows, IsEnd, end_of, ends_of, instance_rows, members_of, row_of, admitted, back}
use Rattle.host_group.specs.Views as cell
use Rattle.host_intake.specs.{Landing, Taking, is_landing_of, place_of, request_in, requests_of, HaveOutcomes, AreInCells, AreLanded, Ending, backs, is_member_at, is_of_member, is_right_out, landing_ending, member_at, members, row_ending, is_open, row_in}
use Rattle.host_session.proofs.Times.{range_once}
use Rattle.session_law.proofs.Ends.{in_ends, in_members_of, member_says, member_there}
use Rattle.session_law.proofs.Finding.{from_map, in_reverse}
use Rattle.session_law.proofs.Landings.{find_here, landing_taken, outcome_is, row_outcome}
use Rattle.session_law.proofs.Lending.{eq_flip}
use Rattle.host_log.proofs.Places.{some_at, in_filter}
use Rattle.session_law.proofs.Sums.{count_within, counted_none}
use Rattle.host_log.proofs.Bools.{and_left, not_false}

-- All records taken have ended, and all rights came back.
pub record AreAllLanded (ts : List Taking) (ls : List Landing) (seat : CellSeat) : Type 0 where
  pub places : (i : ℕ) (t : Taking) → slice_get ts i ≡ Some t → place_of t ≡ i
  pub landed : AreLanded ts ls
  pub all : length ls ≡ length ts
  pub cells : AreInCells ts ls seat
  pub rows : HaveRows (admitted seat) (back seat)
  pub those : AreThoseAdmitted (admitted seat) (back seat)
  pub ends : (g j : ℕ) → g < 8 → HasItsEnd g j (admitted seat) (back seat)

pub have_row : (ms : List Member) (qs : List Row) (k : ℕ) (m : Member) → HaveRows ms qs → slice_get ms k ≡ Some m → (row_of qs m).member ≡ m
have_row [] qs zero m h at = absurd (cc)
have_row [] qs (suc k) m h at = absurd (cc)
have_row (x ∷ ms) qs zero m h at = let same : x ≡ m = cc in subst (λ (w : Member). (row_of qs w).member ≡ w) same h.0
have_row (x ∷ ms) qs (suc k) m h at = have_row ms qs k m h.1 at

grouped_below : (r : Request) → is_member r ≡ true → r.group < 8
grouped_below r e = step (is_grouped r) (nat_le r.group 7) refl e
  where
    step : (b c : Bool) → nat_le r.group 7 ≡ c → (b && c) ≡ true → r.group < 8
    step true true f g = let l = leb-true r.group 7 f in omega arith
    step true false f g = absurd (cc)
    step false c f g = absurd (cc)

none_past : (rs : List Request) (i : ℕ) (m : Member) → member_at rs i ≡ Some m → i < length rs
none_past rs i m e = step (nat_lt i (length rs)) refl
  where
    step : (b : Bool) → nat_lt i (length rs) ≡ b → i < length rs
    step true f = ltb-true i (length rs) f
    step false f =
        let past : request_at rs i ≡ request_of [] = get_or_past rs i (request_of []) (ltb-false i (length rs) f) in
        let z : is_member (request_of []) ≡ true = ap is_member (sym past) ∙ (member_says rs i m e).is in
        absurd (cc z)

module _ (ts : List Taking) (ls : List Landing) (seat : CellSeat) (a : AreAllLanded ts ls seat) where
  abbrev rs : List Request
  rs = requests_of ts

  abbrev rows : List TakenRow
  rows = map (row_in ls) ts

  -- ---- one row for each member

  alike : (x : ℕ) → count (λ (r : Row). r.member.index == x) (back seat) ≤ 1
  alike x =
      let out : backs (λ i. i == x) (back seat) + count (λ i. (i == x) && is_right_out (requests_of ts) ls i) (below (length ts)) ≡ count (λ i. (i == x) && is_member_at (requests_of ts) i) (below (length ts)) = a.cells.out (λ i. i == x) in
      let few : count (λ i. (i == x) && is_member_at (requests_of ts) i) (below (length ts)) ≤ count (nat_eq x) (below (length ts)) =
      count_within (λ i. (i == x) && is_member_at (requests_of ts) i) (nat_eq x) (below (length ts)) (λ n i _ e. sym (eq_flip i x) ∙ and_left (i == x) (is_member_at (requests_of ts) i) e) in
      omega (arith, out, few, range_once x 0 (length ts))

  pub row_is : (k : ℕ) (q : Row) → slice_get (back seat) k ≡ Some q → row_of (back seat) q.member ≡ q
  row_is k q at =
      ap (λ o. unwrap_or o (cell.fresh_row q.member)) (find_here (λ (r : Row). r.member.index == q.member.index) (back seat) k q at (eq-eqb q.member.index q.member.index refl) (alike q.member.index))

  -- a member's landing came back
  pub back_of : (k : ℕ) (l : Landing) → slice_get ls k ≡ Some l → is_of_member (requests_of ts) l ≡ true → (j : ℕ) × (q : Row) × (slice_get (back seat) j ≡ Some q) × (row_ending q ≡ landing_ending l)
  back_of k l at is =
      let f = in_filter (is_of_member (requests_of ts)) ls k l at is in
      let m = in_map landing_ending (filter (is_of_member (requests_of ts)) ls) f.0 l f.1 in
      let r = in_reverse (map landing_ending (filter (is_of_member (requests_of ts)) ls)) f.0 (landing_ending l) m in
      let q = from_map row_ending (back seat) r.0 (landing_ending l) (ap (λ x. slice_get x r.0) a.cells.came_back ∙ r.1) in
      (r.0, q.0, q.1, q.2)

  -- every record has its landing
  pub landing_at : (i : ℕ) → i < length ts → (k : ℕ) × (l : Landing) × (slice_get ls k ≡ Some l) × (l.index ≡ i)
  landing_at i lt =
      let none : count (is_open ls) (below (length ts)) ≡ 0 = let o = a.landed.once in let e = a.all in omega arith in
      let z : 0 + i ≡ i = omega arith in
      let closed : not (list_any (is_landing_of i) ls) ≡ false = counted_none (is_open ls) (below (length ts)) i i none (range_at 0 (length ts) i lt ∙ ap Some z) in
      let r = any_at (is_landing_of i) ls (not_false (list_any (is_landing_of i) ls) closed) in
      (r.0, r.1, r.2, eqb-true r.1.index i r.3)

  pub outcome_at : (k : ℕ) (l : Landing) → slice_get ls k ≡ Some l → (row_at (map (row_in ls) ts) l.index).outcome ≡ l.end.outcome
  outcome_at k l at =
      let t = some_at ts l.index (landing_taken ts ls a.landed k l at) in
      row_outcome ts ls a.landed l.index t.0 t.1 (a.places l.index t.0 t.1) ∙ outcome_is ts ls a.landed k l at

  pub outcomes : HaveOutcomes (requests_of ts) (map (row_in ls) ts) (back seat)
  outcomes i m e =
      let lt : i < length ts = let n = none_past (requests_of ts) i m e in let w = length-map ts request_in in omega arith in
      let says = member_says (requests_of ts) i m e in
      let t = landing_at i lt in
      let l : Landing = t.1 in
      let is : is_of_member (requests_of ts) l ≡ true = ap (λ n. is_member (request_at (requests_of ts) n)) t.3 ∙ says.is in
      let b = back_of t.0 l t.2 is in
      let q : Row = b.1 in
      let of = a.cells.of_members b.0 q b.2 in
      let index : q.member.index ≡ i = ap (λ (x : Ending). x.0) b.3 ∙ t.3 in
      let same : q.member ≡ m = ap (λ (o : Option Member). unwrap_or o m) (sym of.1 ∙ (ap (member_at (requests_of ts)) index ∙ e)) in
      let own : row_of (back seat) m ≡ q = ap (row_of (back seat)) (sym same) ∙ row_is b.0 q b.2 in
      let status : q.status ≡ l.end.outcome = ap (λ (x : Ending). x.1.0.outcome) b.3 in
      let out : (row_at (map (row_in ls) ts) i).outcome ≡ l.end.outcome = ap (λ n. (row_at (map (row_in ls) ts) n).outcome) (sym t.3) ∙ outcome_at t.0 l t.2 in
      (ap (λ (r : Row). r.member) own ∙ same, ap (λ (r : Row). r.status) own ∙ (status ∙ sym out))

  -- ---- the end that a row was told

  pub record IsToldEnd (q : Row) (e : GroupEnd) : Type 0 where
    pub end : IsEnd (instance_rows q.member.number q.member.instance (members (requests_of ts)) (back seat)) e
    pub one : length (ends_of (instance_rows q.member.number q.member.instance (members (requests_of ts)) (back seat))) ≤ 1

  pub end_told : (k : ℕ) (q : Row) (e : GroupEnd) → slice_get (back seat) k ≡ Some q → end_of q ≡ Some e → IsToldEnd q e
  end_told k q e at is =
      let g : ℕ = q.member.number in let j : ℕ = q.member.instance in
      let ms : List Member = members (requests_of ts) in
      let of = a.cells.of_members k q at in
      let says = member_says (requests_of ts) q.member.index q.member of.1 in
      let small : g < 8 = let s = grouped_below (request_at (requests_of ts) q.member.index) says.is in let w = says.group in omega arith in
      let long : length (requests_of ts) ≡ length ts = length-map ts request_in in
      let there = member_there (requests_of ts) q.member.index q.member (let l = of.0 in omega arith) of.1 in
      let inside = in_members_of g j ms there.0 q.member there.1 refl refl in
      let row : slice_get (map (row_of (back seat)) (members_of g j ms)) inside.0 ≡ Some q = in_map (row_of (back seat)) (members_of g j ms) inside.0 q.member inside.1 ∙ ap Some (row_is k q at) in
      let found = in_ends (instance_rows g j ms (back seat)) inside.0 q e row is in
      let h : HasItsEnd g j ms (back seat) = subst (λ (w : List Member). HasItsEnd g j w (back seat)) a.cells.told (a.ends g j small) in
      let r = split g j ms found.0 found.1 h (nat_lt j (cell.members_closing g ms)) refl in
      record { end = r.0; one = r.1 }
    where
      none_at : (l : List GroupEnd) (n : ℕ) → l ≡ [] → slice_get l n ≡ Some e → ⊥
      none_at [] zero f t = cc
      none_at [] (suc n) f t = cc
      none_at (x ∷ l) n f t = cc f

      only : (l : List GroupEnd) (x : GroupEnd) (n : ℕ) → l ≡ x ∷ [] → slice_get l n ≡ Some e → x ≡ e
      only l x zero f t = let u : slice_get (x ∷ []) 0 ≡ Some e = ap (λ w. slice_get w 0) (sym f) ∙ t in cc
      only l x (suc n) f t = absurd (past n (ap (λ w. slice_get w (suc n)) (sym f) ∙ t))
        where
          past : (n : ℕ) → slice_get (x ∷ []) (suc n) ≡ Some e → ⊥
          past zero u = cc
          past (suc n) u = cc

      split : (g j : ℕ) (ms : List Member) (n : ℕ) → slice_get (ends_of (instance_rows g j ms (back seat))) n ≡ Some e → HasItsEnd g j ms (back seat) → (b : Bool) → nat_lt j (cell.members_closing g ms) ≡ b
          → (IsEnd (instance_rows g j ms (back seat)) e) × (length (ends_of (instance_rows g j ms (back seat))) ≤ 1)
      split g j ms n f h true x =
          let o = h.0 (ltb-true j (cell.members_closing g ms) x) in
          let same : o.0 ≡ e = only (ends_of (instance_rows g j ms (back seat))) o.0 n o.1 f in
          let len = ap length o.1 in
          (subst (λ (w : GroupEnd). IsEnd (instance_rows g j ms (back seat)) w) same o.2, omega arith)
      split g j ms n f h false x = absurd (none_at (ends_of (instance_rows g j ms (back seat))) n (h.1 (ltb-false j (cell.members_closing g ms) x)) f)
