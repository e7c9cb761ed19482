-- The answers that records' ends made due: each is that of an owing record of its own, with the fronts of all that it answers.
use Rattle.std.proofs.Common.{◌≡◌, ℕ, suc, ◌<◌, ◌≤◌, ◌==◌, Bool, true, false, not, ◌&&◌, ◌||◌, nat_le, nat_lt, cond, List, [], ◌∷◌, length, map, take, Option, Some, None, refl, sym, ap, subst, ◌∙◌, arith}
use Rattle.std.specs.Prelude.{find, unwrap_or}
use Rattle.std.specs.Str.{bytes_eq}
use Rattle.std.specs.List.{list_all, slice_get}
use Rattle.std.specs.Option.{option_map}
use Rattle.std.proofs.lemmas.Bool.{eqb-true, le-leb, leb-true, lt-ltb, ltb-true}
use Rattle.std.proofs.lemmas.List.{length-map}
use Rattle.std.proofs.lemmas.Slice.Eq.{bytes_eq-Decides}
use Rattle.host_block.proofs.Places.{in_map}
use Rattle.host_record.specs.declared.request.Request.{Request}
use Rattle.host_record.specs.{is_last}
use Rattle.host_model.specs.{TakenRow, answer_bytes, answers_for, closings, instance_of, is_closing, is_member, is_owing, same_instance, implies, request_at}
use Rattle.host_model.proofs.ListTests.{and-from, both, implied, implies-from}
use Rattle.host_intake.proofs.Readiness.{all_at}
use Rattle.host_group.specs.{GroupEnd, CellSeat, Member, Row, IsEnd, end_of, greatest, instance_rows, members_of, row_of, back, member}
use Rattle.host_rings.specs.{Slip}
use Rattle.host_intake.specs.{group_slip, lone_slip, row_slip, Landing, Taking, is_landing_of, requests_of, request_in, Ending, is_of_member, member_at, members, row_in}
use Rattle.session_law.proofs.Ends.{closer, closes_it, in_members_of, member_says, member_there, slip_is, slip_within}
use Rattle.session_law.proofs.Gathered.{greatest_at}
use Rattle.session_law.proofs.Handing.{answers_of}
use Rattle.session_law.proofs.Landings.{found_landing, landing_taken}
use Rattle.session_law.proofs.Lone.{lone_is}
use Rattle.session_law.proofs.Places.{found_at}
use Rattle.session_law.proofs.Returned.{AreAllLanded, back_of, end_told, outcome_at, outcomes, row_is}
use Rattle.host_log.proofs.Bools.{and_parts, and_right, either_way}

-- ---- members of one instance

instance_member : (rs : List Request) (k g j : ℕ) → same_instance (Some (g, j)) (instance_of rs k) ≡ true → (m : Member) × (member_at rs k ≡ Some m) × (m.number ≡ g) × (m.instance ≡ j)
instance_member rs k g j e = step (is_member (request_at rs k)) (member (request_at rs k).group (closings (request_at rs k).group (take k rs)) k (request_at rs k).reqid (is_last (request_at rs k))) e
  where
    step : (b : Bool) (m : Member) → same_instance (Some (g, j)) (cond b (Some (m.number, m.instance)) None) ≡ true → (w : Member) × (cond b (Some m) None ≡ Some w) × (w.number ≡ g) × (w.instance ≡ j)
    step true m f = let p = and_parts (g == m.number) (j == m.instance) f in (m, refl, sym (eqb-true g m.number p.0), sym (eqb-true j m.instance p.1))
    step false m f = absurd (cc)

instance_is : (rs : List Request) (i : ℕ) (m : Member) → member_at rs i ≡ Some m → instance_of rs i ≡ Some (m.number, m.instance)
instance_is rs i m e =
    let s = member_says rs i m e in
    ap (λ b. cond b (Some ((request_at rs i).group, closings (request_at rs i).group (take i rs))) None) s.is
    ∙ (ap (λ n. Some (n, closings (request_at rs i).group (take i rs))) s.group ∙ ap (λ n. Some (m.number, n)) s.instance)

answered_instance : (rs : List Request) (i k : ℕ) (m : Member) → member_at rs i ≡ Some m → answers_for rs i k ≡ true → same_instance (Some (m.number, m.instance)) (instance_of rs k) ≡ true
answered_instance rs i k m e f =
    let s = member_says rs i m e in
    let g : (is_closing (request_at rs i) && same_instance (instance_of rs i) (instance_of rs k)) ≡ true = sym (ap (λ b. cond b (is_closing (request_at rs i) && same_instance (instance_of rs i) (instance_of rs k)) (i == k)) s.is) ∙ f in
    ap (λ o. same_instance o (instance_of rs k)) (sym (instance_is rs i m e)) ∙ and_right (is_closing (request_at rs i)) (same_instance (instance_of rs i) (instance_of rs k)) g

module _ (ts : List Taking) (ls : List Landing) (seat : CellSeat) (a : AreAllLanded ts ls seat) where
  -- the answer of an owing record that was taken, with fronts no smaller than those of the records that it answers
  pub record IsRight (s : Slip) : Type 0 where
    pub bytes : s.bytes ≡ answer_bytes (requests_of ts) (map (row_in ls) ts) s.index
    pub taken : s.index < length ts
    pub owing : is_owing (request_at (requests_of ts) s.index) ≡ true
    pub covers : (k : ℕ) (l : Landing) → slice_get ls k ≡ Some l → answers_for (requests_of ts) s.index l.index ≡ true → (l.end.device_front ≤ s.device_front) × (l.end.memory_front ≤ s.memory_front)

  same_landing : (k n : ℕ) (l m : Landing) → slice_get ls k ≡ Some l → slice_get ls n ≡ Some m → l.index ≡ m.index → l ≡ m
  same_landing k n l m at bt e =
      let f = found_landing ts ls a.landed k l at in
      let g = found_landing ts ls a.landed n m bt in
      let h : find (is_landing_of l.index) ls ≡ Some m = ap (λ i. find (is_landing_of i) ls) e ∙ g in
      cc (f, h)

  lone_right : (k : ℕ) (l : Landing) → slice_get ls k ≡ Some l → is_of_member (requests_of ts) l ≡ false → IsRight (lone_slip (request_at (requests_of ts) l.index) l.index l.end)
  lone_right k l at lone = record {
    bytes = lone_is (requests_of ts) (map (row_in ls) ts) l.index l.end lone (sym (outcome_at ts ls seat a k l at));
    taken = landing_taken ts ls a.landed k l at;
    owing = ap (λ b. not b || (b && is_last (request_at (requests_of ts) l.index))) lone;
    covers = λ n m bt f.
        let same : (l.index == m.index) ≡ true = sym (ap (λ b. cond b (is_closing (request_at (requests_of ts) l.index) && same_instance (instance_of (requests_of ts) l.index) (instance_of (requests_of ts) m.index)) (l.index == m.index)) lone) ∙ f in
        let one : l ≡ m = same_landing k n l m at bt (eqb-true l.index m.index same) in
        let d : m.end.device_front ≡ l.end.device_front = ap (λ (x : Landing). x.end.device_front) (sym one) in
        let e : m.end.memory_front ≡ l.end.memory_front = ap (λ (x : Landing). x.end.memory_front) (sym one) in
        (omega (arith, d), omega (arith, e));
  }

  -- the fronts of a member's landing are within those of the end
  member_covered : (e : GroupEnd) (g j n : ℕ) (l : Landing) (m : Member) → IsEnd (instance_rows g j (members (requests_of ts)) (back seat)) e → slice_get ls n ≡ Some l → member_at (requests_of ts) l.index ≡ Some m → m.number ≡ g → m.instance ≡ j
      → (l.end.device_front ≤ e.device_front) × (l.end.memory_front ≤ e.memory_front)
  member_covered e g j n l m end bt at ng ij =
      let ms : List Member = members (requests_of ts) in
      let says = member_says (requests_of ts) l.index m at in
      let b = back_of ts ls seat a n l bt says.is in
      let q : Row = b.1 in
      let of = a.cells.of_members b.0 q b.2 in
      let index : q.member.index ≡ l.index = ap (λ (x : Ending). x.0) b.3 in
      let same : q.member ≡ m = ap (λ (o : Option Member). unwrap_or o m) (sym of.1 ∙ (ap (member_at (requests_of ts)) index ∙ at)) in
      let long : length (requests_of ts) ≡ length ts = length-map ts request_in in
      let lt : l.index < length ts = landing_taken ts ls a.landed n l bt in
      let there = member_there (requests_of ts) l.index m (omega (arith, lt, long)) at in
      let inside = in_members_of g j ms there.0 m there.1 ng ij in
      let own : row_of (back seat) m ≡ q = ap (row_of (back seat)) (sym same) ∙ row_is ts ls seat a b.0 q b.2 in
      let row : slice_get (instance_rows g j ms (back seat)) inside.0 ≡ Some q = in_map (row_of (back seat)) (members_of g j ms) inside.0 m inside.1 ∙ ap Some own in
      let d : q.device_front ≤ greatest (map (λ (r : Row). r.device_front) (instance_rows g j ms (back seat))) =
      greatest_at (map (λ (r : Row). r.device_front) (instance_rows g j ms (back seat))) inside.0 q.device_front (in_map (λ (r : Row). r.device_front) (instance_rows g j ms (back seat)) inside.0 q row) in
      let f : q.memory_front ≤ greatest (map (λ (r : Row). r.memory_front) (instance_rows g j ms (back seat))) =
      greatest_at (map (λ (r : Row). r.memory_front) (instance_rows g j ms (back seat))) inside.0 q.memory_front (in_map (λ (r : Row). r.memory_front) (instance_rows g j ms (back seat)) inside.0 q row) in
      let dl : q.device_front ≡ l.end.device_front = ap (λ (x : Ending). x.1.0.device_front) b.3 in
      let fl : q.memory_front ≡ l.end.memory_front = ap (λ (x : Ending). x.1.0.memory_front) b.3 in
      let ed : e.device_front ≡ greatest (map (λ (r : Row). r.device_front) (instance_rows g j ms (back seat))) = end.device_front in
      let ef : e.memory_front ≡ greatest (map (λ (r : Row). r.memory_front) (instance_rows g j ms (back seat))) = end.memory_front in
      (omega (arith, d, dl, ed), omega (arith, f, fl, ef))

  group_right : (k : ℕ) (q : Row) (e : GroupEnd) → slice_get (back seat) k ≡ Some q → end_of q ≡ Some e → IsRight (group_slip q.member.number e)
  group_right k q e at is =
      let g : ℕ = q.member.number in let j : ℕ = q.member.instance in
      let rs : List Request = requests_of ts in let rows : List TakenRow = map (row_in ls) ts in
      let t = end_told ts ls seat a k q e at is in
      let have = outcomes ts ls seat a in
      let c = closer rs rows (back seat) have g j e t.end in
      let long : length (requests_of ts) ≡ length ts = length-map ts request_in in
      let lt : e.index < length rs = slip_within rs rows (back seat) have g j e t.end in
      record {
        bytes = slip_is rs rows (back seat) have g j e t.end;
        taken = omega (arith, lt, long);
        owing = either_way (is_member (request_at rs e.index)) (is_closing (request_at rs e.index)) (closes_it rs rows (back seat) have g j e t.end);
        covers = λ n l bt f.
            let i = instance_member rs l.index c.0.number c.0.instance (answered_instance rs e.index l.index c.0 c.1.at f) in
            member_covered e g j n l i.0 t.end bt i.1 (i.2 ∙ c.1.number) (i.3 ∙ c.1.instance);
      }

  -- an answer is that of the landing that made it due
  pub record IsAnswerOf (l : Landing) (s : Slip) : Type 0 where
    pub right : IsRight s
    pub lone : is_of_member (requests_of ts) l ≡ false → s.index ≡ l.index
    pub grouped : is_of_member (requests_of ts) l ≡ true → is_member (request_at (requests_of ts) s.index) ≡ true

  pub row_end : (q : Row) (s : Slip) → row_slip q ≡ Some s → (e : GroupEnd) × (end_of q ≡ Some e) × (group_slip q.member.number e ≡ s)
  row_end q s f = step (end_of q) f
    where
      step : (o : Option GroupEnd) → option_map (group_slip q.member.number) o ≡ Some s → (e : GroupEnd) × (o ≡ Some e) × (group_slip q.member.number e ≡ s)
      step None g = absurd (cc)
      step (Some e) g = (e, refl, ap (λ (o : Option Slip). unwrap_or o s) g)

  pub closer_member : (k : ℕ) (q : Row) (e : GroupEnd) → slice_get (back seat) k ≡ Some q → end_of q ≡ Some e → (m : Member) × (member_at (requests_of ts) e.index ≡ Some m) × (m.number ≡ q.member.number) × (m.instance ≡ q.member.instance)
  closer_member k q e at is =
      let t = end_told ts ls seat a k q e at is in
      let c = closer (requests_of ts) (map (row_in ls) ts) (back seat) (outcomes ts ls seat a) q.member.number q.member.instance e t.end in
      (c.0, c.1.at, c.1.number, c.1.instance)

  pub answer_is_of : (k : ℕ) (l : Landing) (s : Slip) → slice_get ls k ≡ Some l → l.answer ≡ Some s → IsAnswerOf l s
  answer_is_of k l s at is = step (is_of_member (requests_of ts) l) refl
    where
      step : (b : Bool) → is_of_member (requests_of ts) l ≡ b → IsAnswerOf l s
      step false f =
          let same : lone_slip (request_at (requests_of ts) l.index) l.index l.end ≡ s = ap (λ (o : Option Slip). unwrap_or o s) (sym (a.landed.answers k l at f) ∙ is) in
          record {
            right = subst IsRight same (lone_right k l at f);
            lone = λ _. ap (λ (x : Slip). x.index) (sym same);
            grouped = λ g. absurd (let z : true ≡ false = sym g ∙ f in cc);
          }
      step true f =
          let b = back_of ts ls seat a k l at f in
          let q : Row = b.1 in
          let r = row_end q s (ap (λ (x : Ending). x.1.1) b.3 ∙ is) in
          let c = closer_member b.0 q r.0 b.2 r.1 in
          record {
            right = subst IsRight r.2 (group_right b.0 q r.0 b.2 r.1);
            lone = λ g. absurd (let z : true ≡ false = sym f ∙ g in cc);
            grouped = λ _. ap (λ (x : Slip). is_member (request_at (requests_of ts) x.index)) (sym r.2) ∙ (member_says (requests_of ts) r.0.index c.0 c.1).is;
          }

  -- ---- the same as a test

  fronts_test : Slip → Landing → Bool
  fronts_test s l = implies (answers_for (requests_of ts) s.index l.index) (nat_le l.end.device_front s.device_front && nat_le l.end.memory_front s.memory_front)

  pub right_test : Slip → Bool
  right_test s = (bytes_eq s.bytes (answer_bytes (requests_of ts) (map (row_in ls) ts) s.index) && nat_lt s.index (length ts)) && (is_owing (request_at (requests_of ts) s.index) && list_all (fronts_test s) ls)

  all_from : (p : Landing → Bool) (xs : List Landing) → ((k : ℕ) (l : Landing) → slice_get xs k ≡ Some l → p l ≡ true) → list_all p xs ≡ true
  all_from p [] h = refl
  all_from p (x ∷ xs) h = and-from (p x) (list_all p xs) (h 0 x refl) (all_from p xs (λ k l at. h (suc k) l at))

  pub test_from : (s : Slip) → IsRight s → right_test s ≡ true
  unfolding right_test fronts_test
  test_from s r =
      and-from (bytes_eq s.bytes (answer_bytes (requests_of ts) (map (row_in ls) ts) s.index) && nat_lt s.index (length ts)) (is_owing (request_at (requests_of ts) s.index) && list_all (fronts_test s) ls)
      (and-from (bytes_eq s.bytes (answer_bytes (requests_of ts) (map (row_in ls) ts) s.index)) (nat_lt s.index (length ts)) ((bytes_eq-Decides s.bytes (answer_bytes (requests_of ts) (map (row_in ls) ts) s.index)).1 r.bytes) (lt-ltb s.index (length ts) r.taken))
      (and-from (is_owing (request_at (requests_of ts) s.index)) (list_all (fronts_test s) ls) r.owing
      (all_from (fronts_test s) ls (λ k l at. implies-from (answers_for (requests_of ts) s.index l.index) (nat_le l.end.device_front s.device_front && nat_le l.end.memory_front s.memory_front)
      (λ f. let c = r.covers k l at f in and-from (nat_le l.end.device_front s.device_front) (nat_le l.end.memory_front s.memory_front) (le-leb l.end.device_front s.device_front c.0) (le-leb l.end.memory_front s.memory_front c.1)))))

  pub right_from : (s : Slip) → right_test s ≡ true → IsRight s
  unfolding right_test fronts_test
  right_from s e =
      let p = both (bytes_eq s.bytes (answer_bytes (requests_of ts) (map (row_in ls) ts) s.index) && nat_lt s.index (length ts)) (is_owing (request_at (requests_of ts) s.index) && list_all (fronts_test s) ls) e in
      let q = both (bytes_eq s.bytes (answer_bytes (requests_of ts) (map (row_in ls) ts) s.index)) (nat_lt s.index (length ts)) p.0 in
      let r = both (is_owing (request_at (requests_of ts) s.index)) (list_all (fronts_test s) ls) p.1 in
      record {
        bytes = (bytes_eq-Decides s.bytes (answer_bytes (requests_of ts) (map (row_in ls) ts) s.index)).0 q.0;
        taken = ltb-true s.index (length ts) q.1;
        owing = r.0;
        covers = λ k l at f.
            let t = implied (answers_for (requests_of ts) s.index l.index) (nat_le l.end.device_front s.device_front && nat_le l.end.memory_front s.memory_front) (all_at (fronts_test s) ls r.1 k l at) f in
            let u = both (nat_le l.end.device_front s.device_front) (nat_le l.end.memory_front s.memory_front) t in
            (leb-true l.end.device_front s.device_front u.0, leb-true l.end.memory_front s.memory_front u.1);
      }

  -- every answer that was made due is right
  pub all_right : (j : ℕ) (s : Slip) → slice_get (answers_of ls) j ≡ Some s → IsRight s
  all_right j s at = let r = found_at (λ (l : Landing). l.answer) ls j s at in (answer_is_of r.0 r.1 s r.2 r.3).right
