-- No two answers are those of one record.
use Rattle.std.proofs.Common.{◌≡◌, ◌⊎◌, inl, inr, ℕ, suc, ◌+◌, ◌≤◌, ◌==◌, Bool, true, false, nat_eq, nat_lt, cond, List, [], ◌∷◌, length, filter, map, reverse, Option, Some, None, refl, sym, ap, ◌∙◌, arith, eq-eqb}
use Rattle.std.specs.Prelude.{find, unwrap_or}
use Rattle.std.specs.List.{slice_get}
use Rattle.std.specs.Option.{option_map, option_map_or}
use Rattle.std.proofs.lemmas.Bool.{eqb-true, ltb-false, ltb-true}
use Rattle.host_model.specs.{is_member, count, request_at}
use Rattle.host_group.specs.{GroupEnd, CellSeat, Member, Row, end_of, ends_of, instance_rows, members_of, row_of, admitted, back}
use Rattle.host_log.specs.{total}
use Rattle.host_group.specs.Views as cell
use Rattle.host_rings.specs.{Slip}
use Rattle.host_intake.specs.{group_slip, row_slip, Landing, Taking, is_landing_of, requests_of, Ending, is_of_member, landing_ending, member_at, members, row_ending}
use Rattle.host_session.proofs.Counting.{count-map}
use Rattle.session_law.proofs.Ends.{few_ends}
use Rattle.session_law.proofs.Finding.{find_place}
use Rattle.session_law.proofs.Handing.{answers_of}
use Rattle.session_law.proofs.Landings.{landings_once}
use Rattle.session_law.proofs.Returned.{AreAllLanded, end_told, have_row, row_is}
use Rattle.session_law.proofs.Right.{answer_is_of, closer_member}
use Rattle.session_law.proofs.Sums.{bit, count_filter, count_one, count_reverse, count_told, count_within, somewhere}

-- a slip that names record z
abbrev pub names : ℕ → Slip → Bool
names z s = nat_eq z s.index

abbrev names_answer : ℕ → Option Slip → Bool
names_answer z o = option_map_or (names z) o false

abbrev row_names : ℕ → Row → Bool
row_names z q = names_answer z (row_slip q)

-- ---- lists

total_same : {A : Type 0} (f g : A → ℕ) (xs : List A) → ((n : ℕ) (x : A) → slice_get xs n ≡ Some x → f x ≡ g x) → total f xs ≡ total g xs
total_same f g [] h = refl
total_same f g (x ∷ xs) h = let a = h 0 x refl in let b = total_same f g xs (λ n y at. h (suc n) y at) in omega arith

total_count : {A : Type 0} (p : A → Bool) (xs : List A) → total (λ x. bit (p x)) xs ≡ count p xs
total_count p [] = refl
total_count p (x ∷ xs) = omega (arith, total_count p xs, count_one p x xs)

total_map : {A B : Type 0} (p : B → Bool) (f : A → B) (xs : List A) → total (λ x. bit (p (f x))) xs ≡ count p (map f xs)
total_map p f [] = refl
total_map p f (x ∷ xs) = omega (arith, total_map p f xs, count_one p (f x) (map f xs))

-- a function that is zero outside an instance
total_inside : (f : Member → ℕ) (g j : ℕ) (ms : List Member) → ((n : ℕ) (m : Member) → slice_get ms n ≡ Some m → (f m ≡ 0) ⊎ ((m.number ≡ g) × (m.instance ≡ j))) → total f ms ≡ total f (members_of g j ms)
total_inside f g j [] h = refl
total_inside f g j (x ∷ ms) h = step (x.number == g) (x.instance == j) refl refl (h 0 x refl) (total_inside f g j ms (λ n m at. h (suc n) m at))
  where
    step : (b c : Bool) → (x.number == g) ≡ b → (x.instance == j) ≡ c → (f x ≡ 0) ⊎ ((x.number ≡ g) × (x.instance ≡ j)) → total f ms ≡ total f (members_of g j ms)
        → f x + total f ms ≡ total f (cond b (cond c (x ∷ members_of g j ms) (members_of g j ms)) (members_of g j ms))
    step true true p q o e = omega (arith, e)
    step true false p q (inl z) e = omega (arith, e, z)
    step true false p q (inr y) e = absurd (let w : true ≡ false = sym (eq-eqb x.instance j y.1) ∙ q in cc)
    step false c p q (inl z) e = omega (arith, e, z)
    step false c p q (inr y) e = absurd (let w : true ≡ false = sym (eq-eqb x.number g y.0) ∙ p in cc)

module _ (ts : List Taking) (ls : List Landing) (seat : CellSeat) (a : AreAllLanded ts ls seat) (z : ℕ) where
  -- a row whose end names the record
  pub record IsNamed (q : Row) : Type 0 where
    pub end : GroupEnd
    pub told : end_of q ≡ Some end
    pub index : end.index ≡ z

  named_row : (q : Row) → row_names z q ≡ true → IsNamed q
  named_row q e = step (end_of q) refl e
    where
      step : (o : Option GroupEnd) → end_of q ≡ o → names_answer z (option_map (group_slip q.member.number) o) ≡ true → IsNamed q
      step None f g = absurd (cc)
      step (Some x) f g = record { end = x; told = f; index = sym (eqb-true z x.index g) }

  -- the row of a member, where its end names the record
  row_back : (m : Member) → row_names z (row_of (back seat) m) ≡ true → (k : ℕ) × (slice_get (back seat) k ≡ Some (row_of (back seat) m))
  row_back m e = step (find (λ (r : Row). r.member.index == m.index) (back seat)) refl e
    where
      step : (o : Option Row) → find (λ (r : Row). r.member.index == m.index) (back seat) ≡ o → row_names z (unwrap_or o (cell.fresh_row m)) ≡ true → (k : ℕ) × (slice_get (back seat) k ≡ Some (unwrap_or o (cell.fresh_row m)))
      step None f g = absurd (cc)
      step (Some r) f g = let p = find_place (λ (q : Row). q.member.index == m.index) (back seat) r f in (p.0, p.1)

  abbrev value : Member → ℕ
  value m = bit (row_names z (row_of (back seat) m))

  module _ (k : ℕ) (q : Row) (at : slice_get (back seat) k ≡ Some q) (named : row_names z q ≡ true) where
    -- every row that names the record is of one instance
    one_instance : (n : ℕ) (m : Member) → slice_get (admitted seat) n ≡ Some m → (value m ≡ 0) ⊎ ((m.number ≡ q.member.number) × (m.instance ≡ q.member.instance))
    one_instance n m there = step (row_names z (row_of (back seat) m)) refl
      where
        step : (b : Bool) → row_names z (row_of (back seat) m) ≡ b → (bit b ≡ 0) ⊎ ((m.number ≡ q.member.number) × (m.instance ≡ q.member.instance))
        step false f = inl refl
        step true f =
            let r : Row = row_of (back seat) m in
            let p = row_back m f in
            let x = named_row r f in
            let y = named_row q named in
            let own : r.member ≡ m = have_row (admitted seat) (back seat) n m a.rows there in
            let c = closer_member ts ls seat a p.0 r x.end p.1 x.told in
            let d = closer_member ts ls seat a k q y.end at y.told in
            let same : c.0 ≡ d.0 = ap (λ (o : Option Member). unwrap_or o d.0) (sym c.1 ∙ (ap (member_at (requests_of ts)) (x.index ∙ sym y.index) ∙ d.1)) in
            inr (
              ap (λ (w : Member). w.number) (sym own) ∙ (sym c.2 ∙ (ap (λ (w : Member). w.number) same ∙ d.2)),
              ap (λ (w : Member). w.instance) (sym own) ∙ (sym c.3 ∙ (ap (λ (w : Member). w.instance) same ∙ d.3)),
            )

    few_named : count (row_names z) (back seat) ≤ 1
    few_named =
        let g : ℕ = q.member.number in let j : ℕ = q.member.instance in
        let y = named_row q named in
        let one = (end_told ts ls seat a k q y.end at y.told).one in
        let b : total (λ (r : Row). value r.member) (back seat) ≡ total (λ (r : Row). bit (row_names z r)) (back seat) = total_same (λ (r : Row). value r.member) (λ (r : Row). bit (row_names z r)) (back seat) (λ n r there. ap (λ (w : Row). bit (row_names z w)) (row_is ts ls seat a n r there)) in
        let c : total (λ (r : Row). bit (row_names z r)) (back seat) ≡ count (row_names z) (back seat) = total_count (row_names z) (back seat) in
        let t : total value (admitted seat) ≡ total (λ (r : Row). value r.member) (back seat) = a.those value in
        let i : total value (admitted seat) ≡ total value (members_of g j (admitted seat)) = total_inside value g j (admitted seat) one_instance in
        let m : total value (members_of g j (admitted seat)) ≡ count (row_names z) (instance_rows g j (admitted seat) (back seat)) = total_map (row_names z) (row_of (back seat)) (members_of g j (admitted seat)) in
        let e : count (row_names z) (instance_rows g j (admitted seat) (back seat)) ≤ length (ends_of (instance_rows g j (admitted seat) (back seat))) =
        few_ends (row_names z) (λ r f. let x = named_row r f in (x.end, x.told)) (instance_rows g j (admitted seat) (back seat)) in
        let l : length (ends_of (instance_rows g j (admitted seat) (back seat))) ≡ length (ends_of (instance_rows g j (members (requests_of ts)) (back seat))) = ap (λ (w : List Member). length (ends_of (instance_rows g j w (back seat)))) a.cells.told in
        omega (arith, one, b, c, t, i, m, e, l)

  rows_once : count (row_names z) (back seat) ≤ 1
  rows_once = step (nat_lt 0 (count (row_names z) (back seat))) refl
    where
      step : (b : Bool) → nat_lt 0 (count (row_names z) (back seat)) ≡ b → count (row_names z) (back seat) ≤ 1
      step true e = let r = somewhere (row_names z) (back seat) (ltb-true 0 (count (row_names z) (back seat)) e) in few_named r.0 r.1 r.2 r.3
      step false e = let g = ltb-false 0 (count (row_names z) (back seat)) e in omega arith

  abbrev landing_names : Landing → Bool
  landing_names l = names_answer z l.answer

  answer_of : (o : Option Slip) → names_answer z o ≡ true → (s : Slip) × (o ≡ Some s) × (s.index ≡ z)
  answer_of None e = absurd (cc)
  answer_of (Some s) e = (s, refl, sym (eqb-true z s.index e))

  -- a member's answer is that of a member
  grouped_names : (k : ℕ) (l : Landing) → slice_get ls k ≡ Some l → landing_names l ≡ true → is_member (request_at (requests_of ts) z) ≡ is_of_member (requests_of ts) l
  grouped_names k l at e =
      let s = answer_of l.answer e in
      let i = answer_is_of ts ls seat a k l s.0 at s.1 in
      step s.0 (is_of_member (requests_of ts) l) refl i.lone i.grouped s.2
    where
      step : (s : Slip) (b : Bool) → is_of_member (requests_of ts) l ≡ b → (is_of_member (requests_of ts) l ≡ false → s.index ≡ l.index) → (is_of_member (requests_of ts) l ≡ true → is_member (request_at (requests_of ts) s.index) ≡ true) → s.index ≡ z
          → is_member (request_at (requests_of ts) z) ≡ b
      step s false f lone grouped index = ap (λ n. is_member (request_at (requests_of ts) n)) (sym index ∙ lone f) ∙ f
      step s true f lone grouped index = ap (λ n. is_member (request_at (requests_of ts) n)) (sym index) ∙ grouped f

  lone_names : (k : ℕ) (l : Landing) → slice_get ls k ≡ Some l → is_member (request_at (requests_of ts) z) ≡ false → landing_names l ≡ true → is_landing_of z l ≡ true
  lone_names k l at none e =
      let s = answer_of l.answer e in
      let i = answer_is_of ts ls seat a k l s.0 at s.1 in
      let f : is_of_member (requests_of ts) l ≡ false = sym (grouped_names k l at e) ∙ none in
      eq-eqb l.index z (sym (i.lone f) ∙ s.2)

  pub answers_once : count (names z) (answers_of ls) ≤ 1
  answers_once = step (is_member (request_at (requests_of ts) z)) refl
    where
      all : count (names z) (answers_of ls) ≡ count landing_names ls
      all = count_told (names z) (λ (l : Landing). l.answer) ls

      step : (b : Bool) → is_member (request_at (requests_of ts) z) ≡ b → count (names z) (answers_of ls) ≤ 1
      step false f =
          let w : count landing_names ls ≤ count (is_landing_of z) ls = count_within landing_names (is_landing_of z) ls (λ k l at e. lone_names k l at f e) in
          let o = landings_once ts ls a.landed z in
          let c = all in
          omega (arith, w, o, c)
      step true f =
          let kept : count landing_names (filter (is_of_member (requests_of ts)) ls) ≡ count landing_names ls = count_filter landing_names (is_of_member (requests_of ts)) ls (λ k l at e. sym (grouped_names k l at e) ∙ f) in
          let ended : count (λ (x : Ending). names_answer z x.1.1) (map landing_ending (filter (is_of_member (requests_of ts)) ls)) ≡ count landing_names (filter (is_of_member (requests_of ts)) ls) =
          count-map (λ (x : Ending). names_answer z x.1.1) landing_ending (filter (is_of_member (requests_of ts)) ls) in
          let turned : count (λ (x : Ending). names_answer z x.1.1) (reverse (map landing_ending (filter (is_of_member (requests_of ts)) ls))) ≡ count (λ (x : Ending). names_answer z x.1.1) (map landing_ending (filter (is_of_member (requests_of ts)) ls)) =
          count_reverse (λ (x : Ending). names_answer z x.1.1) (map landing_ending (filter (is_of_member (requests_of ts)) ls)) in
          let came : count (λ (x : Ending). names_answer z x.1.1) (map row_ending (back seat)) ≡ count (λ (x : Ending). names_answer z x.1.1) (reverse (map landing_ending (filter (is_of_member (requests_of ts)) ls))) =
          ap (count (λ (x : Ending). names_answer z x.1.1)) a.cells.came_back in
          let rows : count (λ (x : Ending). names_answer z x.1.1) (map row_ending (back seat)) ≡ count (row_names z) (back seat) = count-map (λ (x : Ending). names_answer z x.1.1) row_ending (back seat) in
          let o = rows_once in
          let c = all in
          omega (arith, kept, ended, turned, came, rows, o, c)
