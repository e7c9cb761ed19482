-- Among a record's own steps those that put bytes come before a flush.
use Rattle.std.proofs.Common.{◌≡◌, ℕ, zero, suc, ◌+◌, ◌<◌, ◌≤◌, ◌==◌, ◌⊎◌, inl, inr, Bool, true, false, cond, List, [], ◌∷◌, ◌++◌, length, Option, Some, None, refl, sym, ap, ◌∙◌, arith}
use Rattle.std.specs.List.{slice_get}
use Rattle.host_block.specs.{Op, is_flush, puts_bytes}
use Rattle.host_block.specs.declared.op.Op.TheVariants as op
use Rattle.host_block.specs.declared.range.Range.{Range}
use Rattle.host_block.proofs.Places.{within}
use Rattle.host_record.specs.{Opcode, Read, Write, Flush, Trim, Close, is_forced, opcode}
use Rattle.host_record.specs.declared.request.Request.{Request}
use Rattle.host_model.specs.{Step, Accepted, Refused, Ask, asked, asked_by, asked_in, carries_out, flush_after, flush_ask, for_each_block, is_step_for, same_op, steps_of, IsLawfulSession, below, is_nil, request_at, requests, row_at}
use Rattle.host_model.specs.declared.verdict.Verdict.{Verdict}
use Rattle.host_model.specs.Session.{Session}
use Rattle.host_model.proofs.ListTests.{both}
use Rattle.crash_law.proofs.Places.{at_rank, from_map, rank, rank_order}
use Rattle.crash_law.proofs.Steps.{last_two}

-- ---- what a step was made for

-- the step at a place is for what is asked for at that place
module _ (n : ℕ) (x : Step) where
  abbrev IsAskedAt : List Ask → ℕ → Type 0
  IsAskedAt asks m = (ask : Ask) × (slice_get asks m ≡ Some ask) × (is_step_for ask x ≡ true)

  after_one : (asks : List Ask) (m : ℕ) (faulted : Bool) (more : List Step) → cond faulted (is_nil more) (carries_out asks more) ≡ true → slice_get more m ≡ Some x → (carries_out asks more ≡ true → IsAskedAt asks m) → IsAskedAt asks m
  after_one asks m true [] e at next = absurd (let w = within [] m x at in omega (arith, w))
  after_one asks m true (s ∷ more) e at next = absurd (cc e)
  after_one asks m false more e at next = next e

for_place : (asks : List Ask) (steps : List Step) (n : ℕ) (x : Step) → carries_out asks steps ≡ true → slice_get steps n ≡ Some x → IsAskedAt n x asks n
for_place asks [] n x c at = absurd (let w = within [] n x at in omega (arith, w))
for_place [] (s ∷ steps) n x c at = absurd (cc c)
for_place (a ∷ asks) (s ∷ steps) zero x c at =
    let same : s ≡ x = cc in
    (a, refl, ap (is_step_for a) (sym same) ∙ (both (is_step_for a s) (cond s.faulted (is_nil steps) (carries_out asks steps)) c).0)
for_place (a ∷ asks) (s ∷ steps) (suc n) x c at = after_one n x asks n s.faulted steps (both (is_step_for a s) (cond s.faulted (is_nil steps) (carries_out asks steps)) c).1 at (λ d. for_place asks steps n x d at)

put_asked : (o p : Op) → same_op o p ≡ true → puts_bytes o ≡ true → puts_bytes p ≡ true
put_asked op.Write op.Write e t = refl
put_asked op.Trim op.Trim e t = refl
put_asked _ _ e t = absurd (cc)

flush_asked : (o p : Op) → same_op o p ≡ true → is_flush o ≡ true → is_flush p ≡ true
flush_asked op.Flush op.Flush e t = refl
flush_asked _ _ e t = absurd (cc)

-- ---- the order of what is asked for

sides : {A : Type 0} (xs ys : List A) (n : ℕ) (x : A) → slice_get (xs ++ ys) n ≡ Some x → ((n < length xs) × (slice_get xs n ≡ Some x)) ⊎ ((length xs ≤ n) × ((m : ℕ) × (slice_get ys m ≡ Some x)))
sides [] ys n x at = inr (omega arith, (n, at))
sides (y ∷ xs) ys zero x at = inl (omega arith, at)
sides (y ∷ xs) ys (suc n) x at = step (sides xs ys n x at)
  where
    step : ((n < length xs) × (slice_get xs n ≡ Some x)) ⊎ ((length xs ≤ n) × ((m : ℕ) × (slice_get ys m ≡ Some x))) → ((suc n < length (y ∷ xs)) × (slice_get xs n ≡ Some x)) ⊎ ((length (y ∷ xs) ≤ suc n) × ((m : ℕ) × (slice_get ys m ≡ Some x)))
    step (inl l) = inl (let f = l.0 in omega arith, l.1)
    step (inr r) = inr (let f = r.0 in omega arith, r.1)

block_op : (kind : Op) (range : Range) (r : Request) (n : ℕ) (ask : Ask) → slice_get (for_each_block kind range r) n ≡ Some ask → kind ≡ ask.op
block_op kind range r n ask at = ap (λ (a : Ask). a.op) (from_map (λ (k : ℕ). let a : Ask = record { k = k; op = kind; block = range.first + r.dev_offset + k } in a) (below r.length) n ask at).2

flush_op : (forced : Bool) (k m : ℕ) (ask : Ask) → slice_get (cond forced (flush_ask k ∷ []) []) m ≡ Some ask → op.Flush ≡ ask.op
flush_op true k zero ask at = let same : flush_ask k ≡ ask = cc in ap (λ (a : Ask). a.op) same
flush_op true k (suc m) ask at = absurd (let w = within [] m ask at in omega (arith, w))
flush_op false k m ask at = absurd (let w = within [] m ask at in omega (arith, w))

no_flush : (kind : Op) (b : Ask) → is_flush kind ≡ false → kind ≡ b.op → is_flush b.op ≡ true → ⊥
no_flush kind b plain is f = let z : false ≡ true = sym plain ∙ (ap is_flush is ∙ f) in absurd (cc z)

no_put : (a : Ask) → op.Flush ≡ a.op → puts_bytes a.op ≡ true → ⊥
no_put a is p = let z : false ≡ true = ap puts_bytes is ∙ p in absurd (cc z)

puts_first : (o : Option Opcode) (range : Range) (r : Request) (i j : ℕ) (a b : Ask) → slice_get (asked_by o range r) i ≡ Some a → slice_get (asked_by o range r) j ≡ Some b → puts_bytes a.op ≡ true → is_flush b.op ≡ true → i < j
puts_first (Some Read) range r i j a b at bt p f = absurd (no_flush op.Read b refl (block_op op.Read range r j b bt) f)
puts_first (Some Trim) range r i j a b at bt p f = absurd (no_flush op.Trim b refl (block_op op.Trim range r j b bt) f)
puts_first (Some Flush) range r i j a b at bt p f = absurd (no_put a (flush_op true 0 i a at) p)
puts_first (Some Close) range r i j a b at bt p f = absurd (let w = within [] i a at in omega (arith, w))
puts_first None range r i j a b at bt p f = absurd (let w = within [] i a at in omega (arith, w))
puts_first (Some Write) range r i j a b at bt p f = step (sides (for_each_block op.Write range r) (flush_after r) i a at) (sides (for_each_block op.Write range r) (flush_after r) j b bt)
  where
    step : ((i < length (for_each_block op.Write range r)) × (slice_get (for_each_block op.Write range r) i ≡ Some a)) ⊎ ((length (for_each_block op.Write range r) ≤ i) × ((m : ℕ) × (slice_get (flush_after r) m ≡ Some a)))
        → ((j < length (for_each_block op.Write range r)) × (slice_get (for_each_block op.Write range r) j ≡ Some b)) ⊎ ((length (for_each_block op.Write range r) ≤ j) × ((m : ℕ) × (slice_get (flush_after r) m ≡ Some b))) → i < j
    step (inl x) (inl y) = absurd (no_flush op.Write b refl (block_op op.Write range r j b y.1) f)
    step (inl x) (inr y) = let few = x.0 in let most = y.0 in omega arith
    step (inr x) y = absurd (no_put a (flush_op (is_forced r) r.length x.1.0 a x.1.1) p)

asked_first : (v : Verdict) (range : Range) (r : Request) (i j : ℕ) (a b : Ask) → slice_get (asked v range r) i ≡ Some a → slice_get (asked v range r) j ≡ Some b → puts_bytes a.op ≡ true → is_flush b.op ≡ true → i < j
asked_first Accepted range r i j a b at bt p f = puts_first (opcode r) range r i j a b at bt p f
asked_first (Refused status) range r i j a b at bt p f = absurd (let w = within [] i a at in omega (arith, w))

-- ---- the order of the steps

pub before_flush : (s : Session) → IsLawfulSession s → (i p q : ℕ) (x y : Step) → i < length s.rows → slice_get s.steps p ≡ Some x → (x.index == i) ≡ true → puts_bytes x.op ≡ true
    → slice_get s.steps q ≡ Some y → (y.index == i) ≡ true → is_flush y.op ≡ true → p < q
before_flush s l i p q x y taken at named puts bt bnamed flush =
    let of = λ (step : Step). step.index == i in
    let carried = (l.carried.each i taken).steps in
    let a = for_place (asked_in s i) (steps_of i s.steps) (rank (λ (step : Step). step.index == i) s.steps p) x carried (at_rank (λ (step : Step). step.index == i) s.steps p x at named) in
    let b = for_place (asked_in s i) (steps_of i s.steps) (rank (λ (step : Step). step.index == i) s.steps q) y carried (at_rank (λ (step : Step). step.index == i) s.steps q y bt bnamed) in
    let m = last_two (x.k == a.0.k) (same_op x.op a.0.op) (x.block == a.0.block) a.2 in
    let n = last_two (y.k == b.0.k) (same_op y.op b.0.op) (y.block == b.0.block) b.2 in
    rank_order (λ (step : Step). step.index == i) s.steps p q
    (asked_first (row_at s.rows i).verdict s.range (request_at (requests s.log) i) (rank (λ (step : Step). step.index == i) s.steps p) (rank (λ (step : Step). step.index == i) s.steps q) a.0 b.0 a.1 b.1
    (put_asked x.op a.0.op m.0 puts) (flush_asked y.op b.0.op n.0 flush))
