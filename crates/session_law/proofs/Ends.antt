-- What the end of a group's instance tells of the record that closed it.
use Rattle.std.proofs.Common.{◌≡◌, ℕ, zero, suc, ◌+◌, ◌<◌, ◌≤◌, ◌==◌, Bool, true, false, ◌&&◌, cond, List, [], ◌∷◌, length, filter, filter_map, map, take, Option, Some, None, refl, sym, ap, ◌∙◌, arith, eq-eqb}
use Rattle.std.specs.Prelude.{unwrap_or}
use Rattle.std.specs.List.{cons_option, slice_get}
use Rattle.std.proofs.lemmas.Bool.{eqb-true}
use Rattle.host_block.proofs.Places.{from_filter, range_at}
use Rattle.host_record.specs.declared.request.Request.{Request}
use Rattle.host_record.specs.{is_last, response_bytes}
use Rattle.host_model.specs.{TakenRow, answer_bytes, closings, is_closing, is_member, below, count, request_at}
use Rattle.host_group.specs.{GroupEnd, Member, Row, IsEnd, end_of, ends_of, instance_rows, members_of, row_of, member}
use Rattle.host_intake.specs.{group_slip, HaveOutcomes, member_at, members}
use Rattle.host_intake.proofs.EndAnswers.{answer_is, index_within}
use Rattle.host_intake.proofs.Membering.{member_index}
use Rattle.session_law.proofs.Finding.{from_map}
use Rattle.session_law.proofs.Places.{found_at, has_found}
use Rattle.session_law.proofs.Sums.{bit, count_one}

-- ---- members

-- a member tells its request
pub record IsMemberOf (rs : List Request) (i : ℕ) (m : Member) : Type 0 where
  pub is : is_member (request_at rs i) ≡ true
  pub group : (request_at rs i).group ≡ m.number
  pub instance : closings (request_at rs i).group (take i rs) ≡ m.instance
  pub index : i ≡ m.index
  pub last : is_last (request_at rs i) ≡ m.last

pub member_says : (rs : List Request) (i : ℕ) (m : Member) → member_at rs i ≡ Some m → IsMemberOf rs i m
member_says rs i m e = step (is_member (request_at rs i)) refl e
  where
    step : (b : Bool) → is_member (request_at rs i) ≡ b → cond b (Some (member (request_at rs i).group (closings (request_at rs i).group (take i rs)) i (request_at rs i).reqid (is_last (request_at rs i)))) None ≡ Some m → IsMemberOf rs i m
    step true t f =
        let same : member (request_at rs i).group (closings (request_at rs i).group (take i rs)) i (request_at rs i).reqid (is_last (request_at rs i)) ≡ m = ap (λ (o : Option Member). unwrap_or o m) f in
        record {
          is = t;
          group = ap (λ (w : Member). w.number) same;
          instance = ap (λ (w : Member). w.instance) same;
          index = ap (λ (w : Member). w.index) same;
          last = ap (λ (w : Member). w.last) same;
        }
    step false t f = absurd (cc)

pub member_there : (rs : List Request) (i : ℕ) (m : Member) → i < length rs → member_at rs i ≡ Some m → (k : ℕ) × (slice_get (members rs) k ≡ Some m)
member_there rs i m lt e =
    let z : 0 + i ≡ i = omega arith in
    let at : slice_get (below (length rs)) i ≡ Some i = range_at 0 (length rs) i lt ∙ ap Some z in
    (length (filter_map (member_at rs) (take i (below (length rs)))), has_found (member_at rs) (below (length rs)) i i m at e)

pub member_from : (rs : List Request) (k : ℕ) (m : Member) → slice_get (members rs) k ≡ Some m → (i : ℕ) × (member_at rs i ≡ Some m)
member_from rs k m at = let r = found_at (member_at rs) (below (length rs)) k m at in (r.1, r.3)

-- ---- the members of an instance

pub from_members_of : (g j : ℕ) (ms : List Member) (n : ℕ) (m : Member) → slice_get (members_of g j ms) n ≡ Some m → (k : ℕ) × (slice_get ms k ≡ Some m) × (m.number ≡ g) × (m.instance ≡ j)
from_members_of g j [] zero m at = absurd (cc)
from_members_of g j [] (suc n) m at = absurd (cc)
from_members_of g j (x ∷ ms) n m at = step (x.number == g) (x.instance == j) refl refl n at (λ i e. from_members_of g j ms i m e)
  where
    step : (b c : Bool) → (x.number == g) ≡ b → (x.instance == j) ≡ c → (n : ℕ) → slice_get (cond b (cond c (x ∷ members_of g j ms) (members_of g j ms)) (members_of g j ms)) n ≡ Some m
        → ((i : ℕ) → slice_get (members_of g j ms) i ≡ Some m → (k : ℕ) × (slice_get ms k ≡ Some m) × (m.number ≡ g) × (m.instance ≡ j))
        → (k : ℕ) × (slice_get (x ∷ ms) k ≡ Some m) × (m.number ≡ g) × (m.instance ≡ j)
    step true true p q zero e more =
        let same : x ≡ m = cc in
        (0, e, ap (λ (w : Member). w.number) (sym same) ∙ eqb-true x.number g p, ap (λ (w : Member). w.instance) (sym same) ∙ eqb-true x.instance j q)
    step true true p q (suc i) e more = let r = more i e in (suc r.0, r.1, r.2, r.3)
    step true false p q i e more = let r = more i e in (suc r.0, r.1, r.2, r.3)
    step false c p q i e more = let r = more i e in (suc r.0, r.1, r.2, r.3)

pub in_members_of : (g j : ℕ) (ms : List Member) (k : ℕ) (m : Member) → slice_get ms k ≡ Some m → m.number ≡ g → m.instance ≡ j → (n : ℕ) × (slice_get (members_of g j ms) n ≡ Some m)
in_members_of g j [] zero m at a b = absurd (cc)
in_members_of g j [] (suc k) m at a b = absurd (cc)
in_members_of g j (x ∷ ms) zero m at a b =
    let same : x ≡ m = cc in
    let p : (x.number == g) ≡ true = eq-eqb x.number g (ap (λ (w : Member). w.number) same ∙ a) in
    let q : (x.instance == j) ≡ true = eq-eqb x.instance j (ap (λ (w : Member). w.instance) same ∙ b) in (
      0,
      ap (λ t. slice_get (cond t (cond (x.instance == j) (x ∷ members_of g j ms) (members_of g j ms)) (members_of g j ms)) 0) p
          ∙ (ap (λ t. slice_get (cond t (x ∷ members_of g j ms) (members_of g j ms)) 0) q ∙ ap Some same),
    )
in_members_of g j (x ∷ ms) (suc k) m at a b = step (x.number == g) (x.instance == j) (in_members_of g j ms k m at a b)
  where
    step : (b c : Bool) → (n : ℕ) × (slice_get (members_of g j ms) n ≡ Some m) → (n : ℕ) × (slice_get (cond b (cond c (x ∷ members_of g j ms) (members_of g j ms)) (members_of g j ms)) n ≡ Some m)
    step true true r = (suc r.0, r.1)
    step true false r = r
    step false c r = r

-- ---- ends

pub in_ends : (rows : List Row) (n : ℕ) (q : Row) (e : GroupEnd) → slice_get rows n ≡ Some q → end_of q ≡ Some e → (m : ℕ) × (slice_get (ends_of rows) m ≡ Some e)
in_ends [] zero q e at is = absurd (cc)
in_ends [] (suc n) q e at is = absurd (cc)
in_ends (r ∷ rows) zero q e at is = let same : r ≡ q = cc in (0, ap (λ o. slice_get (cons_option o (ends_of rows)) 0) (ap end_of same ∙ is))
in_ends (r ∷ rows) (suc n) q e at is = step (end_of r) (in_ends rows n q e at is)
  where
    step : (o : Option GroupEnd) → (m : ℕ) × (slice_get (ends_of rows) m ≡ Some e) → (m : ℕ) × (slice_get (cons_option o (ends_of rows)) m ≡ Some e)
    step None r = r
    step (Some x) r = (suc r.0, r.1)

-- no more rows pass than have an end, where only those pass
pub few_ends : (p : Row → Bool) → ((q : Row) → p q ≡ true → (e : GroupEnd) × (end_of q ≡ Some e)) → (rows : List Row) → count p rows ≤ length (ends_of rows)
few_ends p ended [] = omega arith
few_ends p ended (r ∷ rows) = step (p r) (end_of r) refl refl (count_one p r rows) (few_ends p ended rows)
  where
    step : (b : Bool) (o : Option GroupEnd) → p r ≡ b → end_of r ≡ o → count p (r ∷ rows) ≡ bit b + count p rows → count p rows ≤ length (ends_of rows) → count p (r ∷ rows) ≤ length (cons_option o (ends_of rows))
    step true None a b c h = absurd (let z = ended r a in let y : None ≡ Some z.0 = sym b ∙ z.1 in cc)
    step true (Some e) a b c h = omega (arith, c, h)
    step false None a b c h = omega (arith, c, h)
    step false (Some e) a b c h = omega (arith, c, h)

module _ (rs : List Request) (rows : List TakenRow) (back : List Row) (have : HaveOutcomes rs rows back) (g j : ℕ) (e : GroupEnd) (end : IsEnd (instance_rows g j (members rs) back) e) where
  -- the member that closed the instance
  pub record IsCloser (m : Member) : Type 0 where
    pub at : member_at rs e.index ≡ Some m
    pub number : m.number ≡ g
    pub instance : m.instance ≡ j
    pub last : m.last ≡ true

  abbrev name_of : Row → ℕ × ℕ
  name_of r = (r.member.index, r.member.reqid)

  pub closer : (m : Member) × IsCloser m
  closer =
      let all : List Row = instance_rows g j (members rs) back in
      let first : slice_get (map name_of (filter (λ (r : Row). r.member.last) all)) 0 ≡ Some (e.index, e.reqid) = ap (λ l. slice_get l 0) end.closed_by in
      let named = from_map name_of (filter (λ (r : Row). r.member.last) all) 0 (e.index, e.reqid) first in
      let r : Row = named.0 in
      let f = from_filter (λ (q : Row). q.member.last) all 0 r named.1 in
      let o = from_map (row_of back) (members_of g j (members rs)) f.0 r f.1 in
      let m : Member = o.0 in
      let of = from_members_of g j (members rs) f.0 m o.1 in
      let i = member_from rs of.0 m of.1 in
      let own : r.member ≡ m = ap (λ (q : Row). q.member) (sym o.2) ∙ (have i.0 m i.1).0 in
      let index : m.index ≡ e.index = ap (λ (w : Member). w.index) (sym own) ∙ ap (λ (p : ℕ × ℕ). p.0) named.2 in
      let place : i.0 ≡ e.index = sym (member_index rs i.0 m i.1) ∙ index in (
        m,
        record {
          at = ap (member_at rs) (sym place) ∙ i.1;
          number = of.2;
          instance = of.3;
          last = ap (λ (w : Member). w.last) (sym own) ∙ f.2;
        },
      )

  pub closes_it : is_closing (request_at rs e.index) ≡ true
  closes_it =
      let s = member_says rs e.index closer.0 closer.1.at in
      let l : is_last (request_at rs e.index) ≡ true = s.last ∙ closer.1.last in
      ap (λ b. b && is_last (request_at rs e.index)) s.is ∙ l

  -- the slip of the end has the answer of that record
  pub slip_is : (group_slip g e).bytes ≡ answer_bytes rs rows e.index
  slip_is = ap response_bytes (sym (answer_is rs rows back g j e have end))

  pub slip_within : e.index < length rs
  slip_within = index_within rs rows back g j e have end
