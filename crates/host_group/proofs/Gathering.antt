-- The rows that came back, in the order in which their members were admitted.
use Rattle.std.proofs.Common.{◌≡◌, ◌≢◌, ◌⊎◌, ℕ, zero, suc, ◌+◌, ◌^◌, ◌≤◌, ◌<◌, List, [], ◌∷◌, map, sym, refl, ap, ap₂, subst, ◌∙◌, inl, inr, ⊎_elim, arith, cond, eqb, eq-eqb, ne_eqb}
use Rattle.std.specs.Prelude.{Bool, true, false, find, unwrap_or, Some}
use mathlib.Core.Option.{some, some-injective, some-ne-none}
use mathlib.Core.Logic.{dite}
use native.Mathlib.Decide.{ℕ_discrete}
use lib.ListN.{get_elem?}
use Rattle.host_group.specs.{Row, Member, bit, where_in, IsRising, fresh_row, nothing, both, tally_of, row_tally, rows_tally, members_of, row_of, instance_rows, AreThoseAdmitted, HaveRows, whole}
use Rattle.host_log.specs.{total}
use Rattle.host_log.proofs.Totals.{without, fold_at, fold_unit, total_without}
use Rattle.host_group.proofs.Tallies.{both_assoc, both_comm, both_nothing}
use Rattle.host_group.proofs.CellWords.{at_own, at_number, at_instance}
use Rattle.host_group.proofs.Counting.{one, rising_length}
use Rattle.host_group.proofs.Endings.{AreRising}

-- ---- which member a row is of
-- what f gives of a member with the index n
abbrev pick : (Member → ℕ) → ℕ → Member → ℕ
pick f n m = cond (eqb m.index n) (f m) 0

pick_own : (f : Member → ℕ) (n : ℕ) (m : Member) → m.index ≡ n → pick f n m ≡ f m
pick_own f n m e = ap (λ b. cond b (f m) 0) (eq-eqb m.index n e)

pick_else : (f : Member → ℕ) (n : ℕ) (m : Member) → m.index ≢ n → pick f n m ≡ 0
pick_else f n m ne = ap (λ b. cond b (f m) 0) (ne_eqb m.index n ne)

abbrev picked : (Member → ℕ) → ℕ → List Row → ℕ
picked f n rs = total (λ (r : Row). pick f n r.member) rs

-- indexes that rise from above n have no n among them
none_below : (f : Member → ℕ) (n : ℕ) (ms : List Member) (from end : ℕ) → IsRising ms from end → n < from → total (pick f n) ms ≡ 0
none_below f n [] from end rise lt = refl
none_below f n (m ∷ ms) from end rise lt = let low = rise.0 in let z = pick_else f n m (λ e. omega arith) in let more = none_below f n ms (m.index + 1) end rise.1 (omega arith) in omega arith

-- a row with the index n, where one is counted
row_with : (n : ℕ) (rs : List Row) → 0 < picked one n rs → (i : ℕ) × (r : Row) × (get_elem? rs i ≡ some r) × (r.member.index ≡ n)
row_with n [] lt = absurd (omega arith)
row_with n (x ∷ rs) lt = dite (ℕ_discrete x.member.index n)
    (λ e. (zero, x, refl, e))
    (λ ne. let z = pick_else one n x.member ne in let more = row_with n rs (omega arith) in (suc more.0, more.1, more.2, more.3))

-- where none is counted there is none
none_picked : (f : Member → ℕ) (n : ℕ) (rs : List Row) → picked one n rs ≡ 0 → picked f n rs ≡ 0
none_picked f n [] z = refl
none_picked f n (x ∷ rs) z = dite (ℕ_discrete x.member.index n)
    (λ e. let o = pick_own one n x.member e in absurd (omega arith))
    (λ ne. let o = pick_else f n x.member ne in let more = none_picked f n rs (omega arith) in omega arith)

bit_same : (a b : Bool) → bit a ≡ bit b → a ≡ b
bit_same true true e = refl
bit_same true false e = absurd (omega arith)
bit_same false true e = absurd (omega arith)
bit_same false false e = refl

-- members that nothing tells apart are the same
same_member : (a b : Member) → ((f : Member → ℕ) → f a ≡ f b) → a ≡ b
same_member a b h = let number = h (λ m. m.number) in let instance = h (λ m. m.instance) in let index = h (λ m. m.index) in let reqid = h (λ m. m.reqid) in let last = bit_same a.last b.last (h (λ m. bit m.last)) in
    λ i. record { number = number i; instance = instance i; index = index i; reqid = reqid i; last = last i }

-- ---- the search
abbrev pub has_index : ℕ → Row → Bool
has_index n r = eqb r.member.index n

-- the row is found, where the others have other indexes
find_only : (n : ℕ) (rs : List Row) (i : ℕ) (r : Row) → get_elem? rs i ≡ some r → r.member.index ≡ n → picked one n (without rs i) ≡ 0 → find (has_index n) rs ≡ Some r
find_only n [] i r e own z = absurd (some-ne-none r (sym e))
find_only n (x ∷ rs) zero r e own z = let same = some-injective x r e in ap (λ b. cond b (Some x) (find (has_index n) rs)) (eq-eqb x.member.index n (ap (λ (y : Row). y.member.index) same ∙ own)) ∙ ap Some same
find_only n (x ∷ rs) (suc i) r e own z = dite (ℕ_discrete x.member.index n)
    (λ hit. let o = pick_own one n x.member hit in absurd (omega arith))
    (λ miss. let o = pick_else one n x.member miss in ap (λ b. cond b (Some x) (find (has_index n) rs)) (ne_eqb x.member.index n miss) ∙ find_only n rs i r e own (omega arith))

-- a row with another index doesn't matter
find_without : (n : ℕ) (rs : List Row) (i : ℕ) (r : Row) → get_elem? rs i ≡ some r → r.member.index ≢ n → find (has_index n) rs ≡ find (has_index n) (without rs i)
find_without n [] i r e other = absurd (some-ne-none r (sym e))
find_without n (x ∷ rs) zero r e other = let same = some-injective x r e in ap (λ b. cond b (Some x) (find (has_index n) rs)) (ne_eqb x.member.index n (λ hit. other (sym (ap (λ (y : Row). y.member.index) same) ∙ hit)))
find_without n (x ∷ rs) (suc i) r e other = ap (λ f. cond (eqb x.member.index n) (Some x) f) (find_without n rs i r e other)

-- ---- all members
-- the row of the first member, and those of the others
pub record FirstRow (m : Member) (ms : List Member) (rs : List Row) : Type 0 where
  pub place : ℕ
  pub row : Row
  pub found : get_elem? rs place ≡ some row
  pub is_of : row.member ≡ m
  pub alone : picked one m.index (without rs place) ≡ 0
  pub others : AreThoseAdmitted ms (without rs place)

first_row : (m : Member) (ms : List Member) (rs : List Row) (from end : ℕ) → IsRising (m ∷ ms) from end → AreThoseAdmitted (m ∷ ms) rs → FirstRow m ms rs
first_row m ms rs from end rise those = let n : ℕ = m.index in
    let mine : (f : Member → ℕ) → picked f n rs ≡ f m = λ f. let a = those (pick f n) in let b = pick_own f n m refl in let c = none_below f n ms (n + 1) end rise.1 (omega arith) in omega arith in
    let at = row_with n rs (let a = mine one in omega arith) in let i : ℕ = at.0 in let r : Row = at.1 in
    let split : (f : Member → ℕ) → picked f n rs ≡ f r.member + picked f n (without rs i) = λ f. let a = total_without (λ (x : Row). pick f n x.member) rs i r at.2 in let b = pick_own f n r.member at.3 in omega arith in
    let alone : picked one n (without rs i) ≡ 0 = (let a = split one in let b = mine one in omega arith) in
    let same : r.member ≡ m = same_member r.member m (λ f. let a = split f in let b = mine f in let c = none_picked f n (without rs i) alone in omega arith) in record {
      place = i;
      row = r;
      found = at.2;
      is_of = same;
      alone = alone;
      others = λ f. let a = those f in let b = total_without (λ (x : Row). f x.member) rs i r at.2 in let c : f r.member ≡ f m = ap f same in omega arith;
    }

-- a member is of the instance or not
abbrev IsOut : ℕ → ℕ → Member → Type 0
IsOut g j m = (m.number ≢ g) ⊎ (m.instance ≢ j)

cases : (g j : ℕ) (m : Member) → ((m.number ≡ g) × (m.instance ≡ j)) ⊎ IsOut g j m
cases g j m = dite (ℕ_discrete m.number g)
    (λ a. dite (ℕ_discrete m.instance j) (λ b. inl (a, b)) (λ b. inr (inr b)))
    (λ a. inr (inl a))

at_out : {T : Type 0} (g j : ℕ) (m : Member) (x y : T) → IsOut g j m → where_in g j m x y ≡ y
at_out g j m x y out = ⊎_elim (λ a. at_number g j m x y a) (λ b. at_instance g j m x y b) out

later_row : (m : Member) (rs : List Row) (i : ℕ) (r : Row) → get_elem? rs i ≡ some r → r.member.index < m.index → row_of rs m ≡ row_of (without rs i) m
later_row m rs i r e lt = ap (λ o. unwrap_or o (fresh_row m)) (find_without m.index rs i r e (λ hit. omega arith))

-- the rows of later members are those in the others
later_rows : (g j : ℕ) (ms : List Member) (rs : List Row) (i : ℕ) (r : Row) (from end : ℕ) → get_elem? rs i ≡ some r → r.member.index < from → IsRising ms from end → instance_rows g j ms rs ≡ instance_rows g j ms (without rs i)
later_rows g j [] rs i r from end e lt rise = refl
later_rows g j (m ∷ ms) rs i r from end e lt rise = let low = rise.0 in let more = later_rows g j ms rs i r (m.index + 1) end e (omega arith) rise.1 in ⊎_elim
    (λ is. let own : members_of g j (m ∷ ms) ≡ m ∷ members_of g j ms = at_own g j m (m ∷ members_of g j ms) (members_of g j ms) is.0 is.1 in
    ap (map (row_of rs)) own ∙ (ap₂ (λ (x : Row) xs. x ∷ xs) (later_row m rs i r e (omega arith)) more ∙ sym (ap (map (row_of (without rs i))) own)))
    (λ out. let else : members_of g j (m ∷ ms) ≡ members_of g j ms = at_out g j m (m ∷ members_of g j ms) (members_of g j ms) out in
    ap (map (row_of rs)) else ∙ (more ∙ sym (ap (map (row_of (without rs i))) else)))
    (cases g j m)

own_row : (m : Member) (ms : List Member) (rs : List Row) (f : FirstRow m ms rs) → row_of rs m ≡ f.row
own_row m ms rs f = ap (λ o. unwrap_or o (fresh_row m)) (find_only m.index rs f.place f.row f.found (ap (λ (x : Member). x.index) f.is_of) f.alone)

-- the rows of an instance, in order, come to what its rows come to in any order
pub gathered : (g j : ℕ) (ms : List Member) (rs : List Row) (from end : ℕ) → IsRising ms from end → AreThoseAdmitted ms rs → whole (instance_rows g j ms rs) ≡ rows_tally g j rs
gathered g j [] [] from end rise those = refl
gathered g j [] (r ∷ rs) from end rise those = let a = those one in absurd (omega arith)
gathered g j (m ∷ ms) rs from end rise those = let f = first_row m ms rs from end rise those in let r : Row = f.row in let rest : List Row = without rs f.place in
    let more = gathered g j ms rest (m.index + 1) end rise.1 f.others in let split = fold_at both nothing both_assoc both_comm (row_tally g j) rs f.place r f.found in
    let index : r.member.index ≡ m.index = ap (λ (x : Member). x.index) f.is_of in
    let others : whole (instance_rows g j ms rs) ≡ rows_tally g j rest = ap whole (later_rows g j ms rs f.place r (m.index + 1) end f.found (omega arith) rise.1) ∙ more in ⊎_elim
    (λ is. let own : members_of g j (m ∷ ms) ≡ m ∷ members_of g j ms = at_own g j m (m ∷ members_of g j ms) (members_of g j ms) is.0 is.1 in
    let mine : row_tally g j r ≡ tally_of r = at_own g j r.member (tally_of r) nothing (ap (λ (x : Member). x.number) f.is_of ∙ is.0) (ap (λ (x : Member). x.instance) f.is_of ∙ is.1) in
    ap (λ l. whole (map (row_of rs) l)) own ∙ (ap₂ both (ap tally_of (own_row m ms rs f)) others ∙ (ap (λ t. both t (rows_tally g j rest)) (sym mine) ∙ sym split)))
    (λ out. let else : members_of g j (m ∷ ms) ≡ members_of g j ms = at_out g j m (m ∷ members_of g j ms) (members_of g j ms) out in
    let mine : row_tally g j r ≡ nothing = ap (λ (x : Member). where_in g j x (tally_of r) nothing) f.is_of ∙ at_out g j m (tally_of r) nothing out in
    ap (λ l. whole (map (row_of rs) l)) else ∙ (others ∙ (sym (fold_unit both nothing both_assoc both_comm (row_tally g j) both_nothing rest) ∙ (ap (λ t. both t (rows_tally g j rest)) (sym mine) ∙ sym split))))
    (cases g j m)

have_later : (ms : List Member) (rs : List Row) (i : ℕ) (r : Row) (from end : ℕ) → get_elem? rs i ≡ some r → r.member.index < from → IsRising ms from end → HaveRows ms (without rs i) → HaveRows ms rs
have_later [] rs i r from end e lt rise have = tt
have_later (m ∷ ms) rs i r from end e lt rise have = let low = rise.0 in
    (ap (λ (x : Row). x.member) (later_row m rs i r e (omega arith)) ∙ have.0, have_later ms rs i r (m.index + 1) end e (omega arith) rise.1 have.1)

pub have_rows : (ms : List Member) (rs : List Row) (from end : ℕ) → IsRising ms from end → AreThoseAdmitted ms rs → HaveRows ms rs
have_rows [] rs from end rise those = tt
have_rows (m ∷ ms) rs from end rise those = let f = first_row m ms rs from end rise those in let index : f.row.member.index ≡ m.index = ap (λ (x : Member). x.index) f.is_of in
    (ap (λ (x : Row). x.member) (own_row m ms rs f) ∙ f.is_of, have_later ms rs f.place f.row (m.index + 1) end f.found (omega arith) rise.1 (have_rows ms (without rs f.place) (m.index + 1) end rise.1 f.others))

-- the indexes of an instance's rows rise
rising_from : (rows : List Row) (a b : ℕ) → a ≤ b → AreRising rows b → AreRising rows a
rising_from [] a b le rise = tt
rising_from (r ∷ rs) a b le rise = let low = rise.0 in (omega arith, rise.1, rise.2)

pub rising_rows : (g j : ℕ) (ms : List Member) (rs : List Row) (from end : ℕ) → IsRising ms from end → end ≤ 2 ^ 32 → HaveRows ms rs → AreRising (instance_rows g j ms rs) from
rising_rows g j [] rs from end rise le have = tt
rising_rows g j (m ∷ ms) rs from end rise le have = let low = rise.0 in let more = rising_rows g j ms rs (m.index + 1) end rise.1 le have.1 in let top = rising_length ms (m.index + 1) end rise.1 in
    let index : (row_of rs m).member.index ≡ m.index = ap (λ (x : Member). x.index) have.0 in ⊎_elim
    (λ is. subst (λ l. AreRising (map (row_of rs) l) from) (sym (at_own g j m (m ∷ members_of g j ms) (members_of g j ms) is.0 is.1))
    (omega arith, omega arith, subst (λ n. AreRising (instance_rows g j ms rs) (n + 1)) (sym index) more))
    (λ out. subst (λ l. AreRising (map (row_of rs) l) from) (sym (at_out g j m (m ∷ members_of g j ms) (members_of g j ms) out)) (rising_from (instance_rows g j ms rs) from (m.index + 1) (omega arith) more))
    (cases g j m)
