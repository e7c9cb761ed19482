-- What a transfer asks for, step by step.
use Rattle.std.proofs.Common.{◌≡◌, ℕ, zero, suc, ◌+◌, ◌-◌, ◌<◌, ◌∙◌, ◌≤◌, ◌&&◌, Bool, true, false, cond, drop, take, get_or, nat_eq, List, [], ◌∷◌, length, length-append, append-nil, ◌++◌, if◌then◌else◌, refl, sym, ap, ap₂, arith}
use Rattle.std.proofs.Math.Seq.{take-length}
use Rattle.std.proofs.lemmas.Bool.{ne_eqb}
use Rattle.std.proofs.lemmas.List.{length-map}
use Rattle.host_block.specs.{Op}
use Rattle.host_block.specs.declared.op.Op.TheVariants as op
use Rattle.host_block.specs.declared.range.Range.{Range}
use Rattle.host_record.specs.declared.request.Request.{Request}
use Rattle.host_record.specs.declared.status.Status.TheVariants as status
use Rattle.host_model.specs.{Step, Ask, is_step_for, carries_out, ended, for_each_block, below, is_nil}
use Rattle.record_check.specs.{asks_from, asks_on, ended_after, flush_of}
use Rattle.record_check.proofs.GroupLemmas.{length-below}

abbrev ask_at : Op → Range → Request → ℕ → Ask
ask_at kind range r k = record { k = k; op = kind; block = range.first + r.dev_offset + k }

more : (kind : Op) (range : Range) (r : Request) (k left less : ℕ) → left ≡ less + 1 → asks_from kind range r k left ≡ ask_at kind range r k ∷ asks_from kind range r (k + 1) less
more kind range r k zero less e = absurd (omega (arith, e))
more kind range r k (suc n) less e = let same : n ≡ less = omega (arith, e) in ap (λ m. ask_at kind range r k ∷ asks_from kind range r (k + 1) m) same

-- where a block is left, it is asked for first
pub more_asked : (kind : Op) (range : Range) (r : Request) (forced : Bool) (k : ℕ) → k < r.length
    → asks_on kind range r forced k ≡ ask_at kind range r k ∷ asks_on kind range r forced (k + 1)
more_asked kind range r forced k p = ap (λ asks. asks ++ flush_of forced r.length) (more kind range r k (r.length - k) (r.length - (k + 1)) (let n = r.length in omega (arith, p)))

-- where none is left, the flush alone
pub all_asked : (kind : Op) (range : Range) (r : Request) (forced : Bool) (k : ℕ) → k ≡ r.length → asks_on kind range r forced k ≡ flush_of forced k
all_asked kind range r forced k e =
    let none : r.length - k ≡ 0 = (let n = r.length in omega (arith, e)) in
    ap (λ n. asks_from kind range r k n ++ flush_of forced r.length) none ∙ ap (flush_of forced) (sym e)

pub unforced : (kind : Op) (range : Range) (r : Request) → asks_on kind range r false 0 ≡ for_each_block kind range r
unforced kind range r = let all : r.length - 0 ≡ r.length = (let n = r.length in omega arith) in append-nil (asks_from kind range r 0 (r.length - 0)) ∙ ap (asks_from kind range r 0) all

pub none_asked : (steps : List Step) → carries_out [] steps ≡ is_nil steps
none_asked [] = refl
none_asked (step ∷ steps) = refl

pub length_asked : (kind : Op) (range : Range) (r : Request) → length (for_each_block kind range r) ≡ r.length
length_asked kind range r = length-map (below r.length) (λ k. record { k = k; op = kind; block = range.first + r.dev_offset + k }) ∙ length-below r.length

-- whether it is forced, as a number
abbrev one_if : Bool → ℕ
one_if forced = if forced then 1 else 0

length-flush : (forced : Bool) (n : ℕ) → length (flush_of forced n) ≡ one_if forced
length-flush true n = refl
length-flush false n = refl

pub length_written : (range : Range) (r : Request) (forced : Bool) → length (for_each_block op.Write range r ++ flush_of forced r.length) ≡ r.length + one_if forced
length_written range r forced = length-append (for_each_block op.Write range r) (flush_of forced r.length) ∙ ap₂ (λ a b. a + b) (length_asked op.Write range r) (length-flush forced r.length)

ended-length : (asks : List Ask) (steps : List Step) → ended asks steps ≡ ended_after (length asks) steps
ended-length [] [] = refl
ended-length (ask ∷ asks) [] = let e : nat_eq (suc (length asks)) 0 ≡ false = ne_eqb (suc (length asks)) 0 (λ z. absurd (omega (arith, z))) in ap (λ b. cond b status.Ok status.NoMemory) (sym e)
ended-length [] (step ∷ steps) = ap (λ st. cond step.faulted status.Io st) (ended-length [] steps)
ended-length (ask ∷ asks) (step ∷ steps) = let e : length asks ≡ suc (length asks) - 1 = omega arith in ap (λ st. cond step.faulted status.Io st) (ended-length asks steps ∙ ap (λ n. ended_after n steps) e)

pub ended_is : (asks : List Ask) (steps : List Step) (n : ℕ) → n ≡ length asks → ended_after n steps ≡ ended asks steps
ended_is asks steps n e = ap (λ m. ended_after m steps) e ∙ sym (ended-length asks steps)

-- what a slice pattern calls the rest
pub tail_is : {A : Type 0} (x : A) (xs : List A) → take (length (x ∷ xs) - 1) (drop 1 (x ∷ xs)) ≡ xs
tail_is x xs = let e : suc (length xs) - 1 ≡ length xs = omega arith in ap (λ n. take n xs) e ∙ take-length xs

-- where a block is left, the first step is that on it, and the others are judged by what comes after
pub first_made : (kind : Op) (range : Range) (r : Request) (forced : Bool) (k : ℕ) (steps : List Step) (step : Step) → k < r.length → 1 ≤ length steps → step ≡ get_or steps 0 step
    → carries_out (asks_on kind range r forced k) steps
    ≡ (is_step_for (ask_at kind range r k) step && cond step.faulted (is_nil (take (length steps - 1) (drop 1 steps))) (carries_out (asks_on kind range r forced (k + 1)) (take (length steps - 1) (drop 1 steps))))
first_made kind range r forced k [] step some one here = absurd (omega (arith, one))
first_made kind range r forced k (s ∷ rest) step some one here =
    ap (λ asks. carries_out asks (s ∷ rest)) (more_asked kind range r forced k some)
    ∙ ap₂ (λ x l. is_step_for (ask_at kind range r k) x && cond x.faulted (is_nil l) (carries_out (asks_on kind range r forced (k + 1)) l)) (sym here) (sym (tail_is s rest))

-- the three ends of a judgement on the first step
pub and_off : (a b : Bool) → a ≡ false → false ≡ (a && b)
and_off false b e = refl
and_off true b e = absurd (cc)

pub and_if : (a f b c : Bool) → a ≡ true → f ≡ true → b ≡ (a && cond f b c)
and_if true true b c e g = refl
and_if true false b c e g = absurd (cc)
and_if false f b c e g = absurd (cc)

pub and_else : (a f b c : Bool) → a ≡ true → f ≡ false → c ≡ (a && cond f b c)
and_else true false b c e g = refl
and_else true true b c e g = absurd (cc)
and_else false f b c e g = absurd (cc)
