-- A busy group number has a closed instance, and some member of that still flies.
use Rattle.std.proofs.Common.{◌≡◌, ℕ, zero, suc, ◌+◌, ◌≤◌, ◌<◌, ◌==◌, Bool, true, false, ◌&&◌, cond, List, [], ◌∷◌, length, filter, filter_map, take, Option, Some, None, refl, sym, ap, ◌∙◌, arith}
use Rattle.std.specs.Prelude.{slice_get}
use Rattle.std.specs.List.{cons_option, range_with_len}
use Rattle.std.specs.Option.{option_map_or}
use Rattle.std.proofs.lemmas.Bool.{lt-ltb, eqb-true}
use Rattle.std.proofs.lemmas.List.{length-map}
use Rattle.host_record.specs.declared.request.Request.{Request}
use Rattle.host_record.specs.{is_last}
use Rattle.host_model.specs.{closings, instance_of, is_member, below, count, request_at}
use Rattle.host_group.specs.{CellSeat, Member, Row, admitted, back, member, view_of, IsBusy, is_in_instance, member_count, row_count}
use Rattle.host_log.specs.{total}
use Rattle.host_group.specs.Views as cell
use Rattle.host_intake.specs.{Taking, Landing, request_in, requests_of, AreInCells, backs, is_member_at, is_right_out, member_at, is_open, is_out}
use Rattle.host_intake.proofs.Counting.{count_agree}
use Rattle.host_log.proofs.Bools.{and_left, and_right}
use Rattle.host_intake.proofs.Membering.{closings_same}

-- where some pass, one of them does
some_from : (f : ℕ → Bool) (a n : ℕ) → 1 ≤ count f (range_with_len a n) → (i : ℕ) × (i < a + n) × (f i ≡ true)
some_from f a zero h = absurd (omega arith)
some_from f a (suc n) h = step (f a) refl h (λ g. some_from f (a + 1) n g)
  where
    step : (b : Bool) → f a ≡ b → 1 ≤ length (cond b (a ∷ filter f (range_with_len (a + 1) n)) (filter f (range_with_len (a + 1) n)))
        → (1 ≤ count f (range_with_len (a + 1) n) → (i : ℕ) × (i < a + 1 + n) × (f i ≡ true)) → (i : ℕ) × (i < a + suc n) × (f i ≡ true)
    step true e h more = (a, omega arith, e)
    step false e h more = let r = more h in (r.0, (let b = r.1 in omega arith), r.2)

module _ (g j : ℕ) where
  abbrev pub in_instance : Member → Bool
  in_instance m = m.number == g && m.instance == j

  abbrev pub is_of : List Request → ℕ → Bool
  is_of rs i = option_map_or in_instance (member_at rs i) false

  count_one : {A : Type 0} (m : Member) (x : A) (l : List A) (n : ℕ) → n ≡ length l → is_in_instance g j m + n ≡ length (cond (in_instance m) (x ∷ l) l)
  count_one m x l n e = step (m.number == g) (m.instance == j)
    where
      step : (a b : Bool) → cond a (cond b 1 0) 0 + n ≡ length (cond (a && b) (x ∷ l) l)
      step true true = omega arith
      step true false = omega arith
      step false b = omega arith

  members_counted : (rs : List Request) (ns : List ℕ) → total (is_in_instance g j) (filter_map (member_at rs) ns) ≡ count (is_of rs) ns
  members_counted rs [] = refl
  members_counted rs (n ∷ ns) = step (member_at rs n) (members_counted rs ns)
    where
      step : (o : Option Member) → total (is_in_instance g j) (filter_map (member_at rs) ns) ≡ count (is_of rs) ns
          → total (is_in_instance g j) (cons_option o (filter_map (member_at rs) ns)) ≡ length (cond (option_map_or in_instance o false) (n ∷ filter (is_of rs) ns) (filter (is_of rs) ns))
      step None e = e
      step (Some m) e = count_one m n (filter (is_of rs) ns) (total (is_in_instance g j) (filter_map (member_at rs) ns)) e

  rows_counted : (rs : List Request) (l : List Row) → ((k : ℕ) (r : Row) → slice_get l k ≡ Some r → member_at rs r.member.index ≡ Some r.member) → row_count g j l ≡ backs (is_of rs) l
  rows_counted rs [] h = refl
  rows_counted rs (r ∷ l) h =
      count_one r.member r (filter (λ (q : Row). is_of rs q.member.index) l) (row_count g j l) (rows_counted rs l (λ k q e. h (suc k) q e))
      ∙ ap (λ (o : Option Member). length (cond (option_map_or in_instance o false) (r ∷ filter (λ (q : Row). is_of rs q.member.index) l) (filter (λ (q : Row). is_of rs q.member.index) l))) (sym (h 0 r refl))

  pub of_member : (rs : List Request) (i : ℕ) → (is_of rs i && is_member_at rs i) ≡ is_of rs i
  of_member rs i = let r = request_at rs i in step (is_member r) (member r.group (closings r.group (take i rs)) i r.reqid (is_last r))
    where
      and_true : (b : Bool) → (b && true) ≡ b
      and_true true = refl
      and_true false = refl

      step : (b : Bool) (m : Member) → (option_map_or in_instance (cond b (Some m) None) false && b) ≡ option_map_or in_instance (cond b (Some m) None) false
      step true m = and_true (in_instance m)
      step false m = refl

  pub of_instance : (rs : List Request) (i : ℕ) → is_of rs i ≡ true → instance_of rs i ≡ Some (g, j)
  of_instance rs i e = let r = request_at rs i in step (is_member r) r.group (closings r.group (take i rs)) r.reqid (is_last r) e
    where
      step : (b : Bool) (h c q : ℕ) (l : Bool) → option_map_or in_instance (cond b (Some (member h c i q l)) None) false ≡ true → cond {A = Option (ℕ × ℕ)} b (Some (h, c)) None ≡ Some (g, j)
      step true h c q l e =
          ap (λ n. Some (n, c)) (eqb-true h g (and_left (h == g) (c == j) e)) ∙ ap (λ n. Some (g, n)) (eqb-true c j (and_right (h == g) (c == j) e))
      step false h c q l e = absurd (cc)

pub flies : (ts : List Taking) (ls : List Landing) (q : CellSeat) (g : ℕ) → AreInCells ts ls q → IsBusy g (view_of q)
    → (i j : ℕ) × (is_out i (length ts) ls ≡ true) × (instance_of (requests_of ts) i ≡ Some (g, j)) × (j < closings g (requests_of ts))
flies ts ls q g k busy =
    let j = busy.0 in let rs = requests_of ts in let n = length ts in
    let a : member_count g j (admitted q) ≡ count (is_of g j rs) (below n) =
    ap (λ l. member_count g j l) k.told ∙ (members_counted g j rs (below (length rs)) ∙ ap (λ m. count (is_of g j rs) (below m)) (length-map ts request_in)) in
    let b : row_count g j (back q) ≡ backs (is_of g j rs) (back q) = rows_counted g j rs (back q) (λ m r e. (k.of_members m r e).1) in
    let c : count (λ i. is_of g j rs i && is_member_at rs i) (below n) ≡ count (is_of g j rs) (below n) = count_agree (λ i. is_of g j rs i && is_member_at rs i) (is_of g j rs) 0 n (λ i lo hi. of_member g j rs i) in
    let o = k.out (is_of g j rs) in let less = busy.2 in
    let some = some_from (λ i. is_of g j rs i && is_right_out rs ls i) 0 n (omega arith) in
    let i = some.0 in let within = some.1 in
    let of = and_left (is_of g j rs i) (is_right_out rs ls i) some.2 in let out = and_right (is_of g j rs i) (is_right_out rs ls i) some.2 in
    let closed : closings g rs ≡ j + 1 = sym (ap (λ l. cell.members_closing g l) k.told ∙ closings_same g rs) ∙ busy.1 in (
      i,
      j,
      ap (λ z. z && is_open ls i) (lt-ltb i n (omega arith)) ∙ and_right (is_member_at rs i) (is_open ls i) out,
      of_instance g j rs i of,
      omega arith,
    )
