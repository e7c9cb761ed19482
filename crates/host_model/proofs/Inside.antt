-- The steps of a lawful session stay inside its partition.
use Rattle.std.proofs.Common.{◌≡◌, ℕ, zero, suc, ◌+◌, ◌-◌, ◌<◌, Bool, true, false, not, ◌==◌, ◌&&◌, nat_le, nat_lt, subst, List, [], ◌∷◌, Option, Some, None, cond, length, map, ◌++◌, get_or, refl, sym, ap, ◌∙◌, arith, IsTrue, IsFalse}
use Rattle.std.specs.List.{AllByRecursion, list_all, range_with_len}
use Rattle.host_block.specs.declared.range.Range.{Range}
use Rattle.host_block.specs.{Op}
use Rattle.host_block.specs.declared.op.Op.TheVariants as op
use Rattle.host_model.specs.{Step, Accepted, Refused, StaysIn, StepsStayInside, Ask, asked, asked_by, flush_after, flush_ask, for_each_block, carries_out, is_step_for, same_op, steps_of, asked_in, IsLawfulSession, is_nil, requests, request_at, given_before, row_at, is_within, checks, first_check, judged, verdict_of}
use Rattle.host_record.specs.{Opcode, Read, Write, Flush, Trim, Close, opcode, is_forced, names_blocks, Io}
use Rattle.host_record.specs.declared.request.Request.{Request}
use Rattle.host_record.specs.declared.status.Status.{Status}
use Rattle.host_model.specs.declared.verdict.Verdict.{Verdict}
use Rattle.host_model.specs.Session.{Session}
use Rattle.std.proofs.lemmas.Bool.{leb-true, eqb-true, eq-eqb, ltb-true}
use Rattle.host_model.proofs.Growth.{verdict_at}
use Rattle.host_model.proofs.ListTests.{both}
use Rattle.std.proofs.lemmas.List.{get_or-map}

-- where nothing was refused, each check was answered no
refused_or : (b : Bool) (status : Status) (v : Verdict) → cond b (Refused status) v ≡ Accepted → IsFalse b × (v ≡ Accepted)
refused_or true status v e = absurd (cc e)
refused_or false status v e = (refl, e)

checked : (checks : List (Bool × Status)) → first_check checks ≡ Accepted → AllByRecursion (λ c. IsFalse c.0) checks
checked [] e = tt
checked (c ∷ cs) e = let h : IsFalse c.0 × (first_check cs ≡ Accepted) = refused_or c.0 c.1 (first_check cs) e in (h.0, checked cs h.1)

only_not : (a b : Bool) → a && not b ≡ false → a ≡ true → IsTrue b
only_not true true e f = refl
only_not true false e f = absurd (cc e)
only_not false b e f = absurd (cc f)

-- an accepted request on blocks lies within its partition
within : (range : Range) (pages : Option ℕ) (r : Request) → judged range pages r ≡ Accepted → names_blocks (opcode r) ≡ true → IsTrue (is_within r.dev_offset r.length range.count)
unfolding judged
within range pages r e on =
    let h : AllByRecursion (λ (c : Bool × Status). IsFalse c.0) (checks range pages r) = checked (checks range pages r) e in
    only_not (names_blocks (opcode r)) (is_within r.dev_offset r.length range.count) h.1.1.1.1.0 on

-- each block from an offset on, of a number that lies within the range
block_stays : (range : Range) (kind : Op) (offset len k : ℕ) → IsTrue (is_within offset len range.count) → k < len → StaysIn range kind (range.first + offset + k)
block_stays range op.Flush offset len k w p = tt
block_stays range op.Read offset len k w p =
    let h : IsTrue (nat_le len range.count) × IsTrue (nat_le offset (range.count - len)) = both _ _ w in
    (omega arith, omega (arith, leb-true _ _ h.0, leb-true _ _ h.1, p))
block_stays range op.Write offset len k w p =
    let h : IsTrue (nat_le len range.count) × IsTrue (nat_le offset (range.count - len)) = both _ _ w in
    (omega arith, omega (arith, leb-true _ _ h.0, leb-true _ _ h.1, p))
block_stays range op.Trim offset len k w p =
    let h : IsTrue (nat_le len range.count) × IsTrue (nat_le offset (range.count - len)) = both _ _ w in
    (omega arith, omega (arith, leb-true _ _ h.0, leb-true _ _ h.1, p))

mapped : (P : Ask → Type 0) (f : ℕ → Ask) (a n : ℕ) → ((k : ℕ) → k < a + n → P (f k)) → AllByRecursion P (map f (range_with_len a n))
mapped P f a zero h = tt
mapped P f a (suc n) h = (h a (omega arith), mapped P f (a + 1) n (λ k p. h k (omega (arith, p))))

blocks_stay : (range : Range) (kind : Op) (r : Request) → IsTrue (is_within r.dev_offset r.length range.count)
    → AllByRecursion (λ (a : Ask). StaysIn range a.op a.block) (for_each_block kind range r)
blocks_stay range kind r w = mapped (λ a. StaysIn range a.op a.block) _ 0 r.length (λ k p. block_stays range kind r.dev_offset r.length k w (omega (arith, p)))

-- a flush is on no block
flush_stays : (range : Range) (forced : Bool) (k : ℕ) → AllByRecursion (λ (a : Ask). StaysIn range a.op a.block) (cond forced (flush_ask k ∷ []) [])
flush_stays range true k = (tt, tt)
flush_stays range false k = tt

all_joined : (P : Ask → Type 0) (xs ys : List Ask) → AllByRecursion P xs → AllByRecursion P ys → AllByRecursion P (xs ++ ys)
all_joined P [] ys h e = e
all_joined P (x ∷ xs) ys h e = (h.0, all_joined P xs ys h.1 e)

asked_stay : (range : Range) (r : Request) (o : Option Opcode) → (names_blocks o ≡ true → IsTrue (is_within r.dev_offset r.length range.count))
    → AllByRecursion (λ (a : Ask). StaysIn range a.op a.block) (asked_by o range r)
asked_stay range r (Some Read) h = blocks_stay range op.Read r (h refl)
asked_stay range r (Some Write) h = all_joined (λ a. StaysIn range a.op a.block) (for_each_block op.Write range r) (flush_after r) (blocks_stay range op.Write r (h refl)) (flush_stays range (is_forced r) r.length)
asked_stay range r (Some Trim) h = blocks_stay range op.Trim r (h refl)
asked_stay range r (Some Flush) h = (tt, tt)
asked_stay range r (Some Close) h = tt
asked_stay range r None h = tt

-- an accepted record asks for steps inside alone
pub accepted_stay : (range : Range) (pages : Option ℕ) (r : Request) (v : Verdict) → judged range pages r ≡ v
    → AllByRecursion (λ (a : Ask). StaysIn range a.op a.block) (asked v range r)
accepted_stay range pages r Accepted e = asked_stay range r (opcode r) (within range pages r e)
accepted_stay range pages r (Refused status) e = tt

same_op_is : (a b : Op) → same_op a b ≡ true → a ≡ b
same_op_is op.Read op.Read e = refl
same_op_is op.Write op.Write e = refl
same_op_is op.Trim op.Trim e = refl
same_op_is op.Flush op.Flush e = refl
same_op_is op.Read op.Write e = absurd (cc e)
same_op_is op.Read op.Trim e = absurd (cc e)
same_op_is op.Read op.Flush e = absurd (cc e)
same_op_is op.Write op.Read e = absurd (cc e)
same_op_is op.Write op.Trim e = absurd (cc e)
same_op_is op.Write op.Flush e = absurd (cc e)
same_op_is op.Trim op.Read e = absurd (cc e)
same_op_is op.Trim op.Write e = absurd (cc e)
same_op_is op.Trim op.Flush e = absurd (cc e)
same_op_is op.Flush op.Read e = absurd (cc e)
same_op_is op.Flush op.Write e = absurd (cc e)
same_op_is op.Flush op.Trim e = absurd (cc e)

made : (range : Range) (ask : Ask) (step : Step) → is_step_for ask step ≡ true → StaysIn range ask.op ask.block → StaysIn range step.op step.block
made range ask step e h =
    let p : IsTrue ((step.k == ask.k) && same_op step.op ask.op) × IsTrue (step.block == ask.block) = both _ _ e in
    let q : IsTrue (step.k == ask.k) × IsTrue (same_op step.op ask.op) = both _ _ p.0 in
    subst (λ o. StaysIn range o step.block) (sym (same_op_is step.op ask.op q.1)) (subst (λ b. StaysIn range ask.op b) (sym (eqb-true step.block ask.block p.1)) h)

rest_stays : (range : Range) (asks : List Ask) (steps : List Step) (faulted : Bool) → cond faulted (is_nil steps) (carries_out asks steps) ≡ true
    → (carries_out asks steps ≡ true → AllByRecursion (λ (st : Step). StaysIn range st.op st.block) steps) → AllByRecursion (λ (st : Step). StaysIn range st.op st.block) steps
rest_stays range asks [] faulted e h = tt
rest_stays range asks (step ∷ steps) true e h = absurd (cc e)
rest_stays range asks (step ∷ steps) false e h = h e

-- so do the steps that carry it out
pub steps_stay : (range : Range) (asks : List Ask) (steps : List Step) → AllByRecursion (λ (a : Ask). StaysIn range a.op a.block) asks
    → carries_out asks steps ≡ true → AllByRecursion (λ (st : Step). StaysIn range st.op st.block) steps
steps_stay range asks [] h e = tt
steps_stay range [] (step ∷ steps) h e = absurd (cc e)
steps_stay range (ask ∷ asks) (step ∷ steps) h e =
    let p : IsTrue (is_step_for ask step) × IsTrue (cond step.faulted (is_nil steps) (carries_out asks steps)) = both _ _ e in
    (made range ask step p.0 h.0, rest_stays range asks steps step.faulted p.1 (λ g. steps_stay range asks steps h.1 g))

-- the row of a record has its verdict
pub row_verdict : (s : Session) → IsLawfulSession s → (i : ℕ) → i < length s.rows → (row_at s.rows i).verdict ≡ verdict_of s.log s.range i
row_verdict s h i p =
    sym (get_or-map (λ row. row.verdict) s.rows i (record { verdict = Refused Io; outcome = Io }) (Refused Io) p)
    ∙ ap (λ vs. get_or vs i (Refused Io)) h.taken.verdicts
    ∙ verdict_at (requests s.log) (given_before s.log) s.range (length s.rows) i (Refused Io) p

-- so do the steps of a record that was taken
record_stays : (s : Session) → IsLawfulSession s → (i : ℕ) → i < length s.rows
    → AllByRecursion (λ (st : Step). StaysIn s.range st.op st.block) (steps_of i s.steps)
record_stays s h i p =
    steps_stay s.range (asked_in s i) (steps_of i s.steps)
    (accepted_stay s.range _ (request_at (requests s.log) i) (row_at s.rows i).verdict (sym (row_verdict s h i p)))
    (h.carried.each i p).steps

-- ---- from the steps of each record to all steps

later : (P : Step → Type 0) (x : Step) (rest : List Step) (b : Bool) → AllByRecursion P (cond b (x ∷ rest) rest) → AllByRecursion P rest
later P x rest true h = h.1
later P x rest false h = h

first : (P : Step → Type 0) (x : Step) (rest : List Step) (b : Bool) → b ≡ true → AllByRecursion P (cond b (x ∷ rest) rest) → P x
first P x rest true e h = h.0
first P x rest false e h = absurd (cc e)

of_records : (P : Step → Type 0) (n : ℕ) (xs : List Step) → list_all (λ step. nat_lt step.index n) xs ≡ true → ((i : ℕ) → i < n → AllByRecursion P (steps_of i xs)) → AllByRecursion P xs
of_records P n [] e h = tt
of_records P n (x ∷ xs) e h =
    let t : IsTrue (nat_lt x.index n) × IsTrue (list_all (λ step. nat_lt step.index n) xs) = both _ _ e in (
      first P x (steps_of x.index xs) (x.index == x.index) (eq-eqb x.index x.index refl) (h x.index (ltb-true x.index n t.0)),
      of_records P n xs t.1 (λ i p. later P x (steps_of i xs) (x.index == i) (h i p)),
    )

pub steps_stay_inside : StepsStayInside
steps_stay_inside s h = of_records (λ st. StaysIn s.range st.op st.block) (length s.rows) s.steps h.carried.others (record_stays s h)
