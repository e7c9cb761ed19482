-- The records taken, as the buffer history grows and one more is taken.
use Rattle.std.proofs.Common.{◌≡◌, ◌⊎◌, inl, inr, ℕ, zero, suc, ◌+◌, ◌≤◌, ◌<◌, ◌==◌, Bool, true, false, not, ◌&&◌, cond, List, [], ◌∷◌, ◌++◌, length, filter, take, drop, Option, Some, None, MatchOption, refl, sym, ap, subst, ◌∙◌, arith, length-append, append-nil, eq-eqb}
use Rattle.std.specs.Prelude.{slice_get, flat_map, unwrap_or}
use mathlib.Core.List.{IsPrefix}
use Rattle.std.proofs.lemmas.List.{map-append, length-map, length-take, take-append-le, drop-append-le, length-drop}
use Rattle.std.proofs.lemmas.List.Concat.{flat_map-append}
use Rattle.std.proofs.lemmas.List.Elements.{filter-append}
use Rattle.std.proofs.lemmas.Option.{slice_get_within}
use Rattle.host_block.specs.declared.range.Range.{Range}
use Rattle.host_model.specs.{MemEntry, MemEvent, Pin, Release, Accepted, Refused, below, index_of, judged, is_accepted}
use Rattle.host_model.specs.declared.memory.MemEvent.TheVariants as mem
use Rattle.host_model.specs.declared.verdict.Verdict.{Verdict}
use Rattle.host_record.specs.{Opcode, Read, Write, Flush, Trim, Close, opcode, is_close}
use Rattle.host_memory.specs.{standing_in, pins_on, events}
use Rattle.host_log.specs.{entries_of, Continues}
use Rattle.host_intake.specs.{Taking, place_of, request_in, AreTaken, IsJudged, IsPastJudging, judged_on, left_by, made, made_for, made_under, under}
use Rattle.host_intake.proofs.Counting.{below_more}
use Rattle.host_intake.proofs.Removing.{get_snoc}
use Rattle.host_log.proofs.Places.{get_append, get_last, nothing_more}

abbrev pub hand_of : MemEntry → ℕ
hand_of e = e.hand

-- ---- beginnings

take_shorter : {A : Type 0} (n : ℕ) (xs ys zs : List A) → xs ++ zs ≡ ys → n ≤ length xs → take n ys ≡ take n xs
take_shorter n xs ys zs e h = ap (λ l. take n l) (sym e) ∙ take-append-le n xs zs h

-- what stands at a place of a history stands there as it grows
pub left_stays : {A : Type 0} (n m : ℕ) (xs ys zs left : List A) → xs ++ zs ≡ ys → n ≤ length xs → length left ≡ m → take m (drop n xs) ≡ left → take m (drop n ys) ≡ left
left_stays n m xs ys zs left e h long at =
    let a = ap length at in let b = length-take m (drop n xs) in
    ap (λ l. take m (drop n l)) (sym e) ∙ (ap (λ l. take m l) (drop-append-le n xs zs h) ∙ (take-append-le m (drop n xs) zs (omega arith) ∙ at))

pub length_left : (number : ℕ) (t : Taking) → length (left_by number t) ≡ length (made t)
length_left number t = length-map (made t) (λ (what : MemEvent). record { hand = number; what = what })

-- a record that was judged on a history is so on a longer one
pub judged_longer : (part : Range) (number : ℕ) (xs ys : List MemEntry) (t : Taking) → IsPrefix xs ys → IsJudged part number xs t → IsJudged part number ys t
judged_longer part number xs ys t p k =
    let same : judged_on ys t ≡ judged_on xs t = ap events (take_shorter t.seen xs ys p.0 p.1 k.seen) in
    let long = ap length (sym p.1) ∙ length-append xs p.0 in let seen = k.seen in
    record {
      front = k.front;
      seen = omega arith;
      verdict = subst (λ h. t.verdict ≡ judged part (standing_in (request_in t).vmoid (place_of t) h) (request_in t)) (sym same) k.verdict;
      waits = subst (λ h. t.waits ≡ (is_accepted t.verdict && is_close (opcode (request_in t)) && not (pins_on (request_in t).vmoid h == 0))) (sym same) k.waits;
      left = left_stays t.seen (length (made t)) xs ys p.0 (left_by number t) p.1 k.seen (length_left number t) k.left;
    }

-- ---- elements

module _ {A : Type 0} where
  pub get_more : (xs : List A) (x y : A) (n : ℕ) → slice_get xs n ≡ Some y → slice_get (xs ++ x ∷ []) n ≡ Some y
  get_more [] x y zero e = absurd (cc)
  get_more [] x y (suc n) e = absurd (cc)
  get_more (z ∷ zs) x y zero e = e
  get_more (z ∷ zs) x y (suc n) e = get_more zs x y n e

  -- an element that passes is among those that pass
  pub passes_some : (p : A → Bool) (xs : List A) (n : ℕ) (x : A) → slice_get xs n ≡ Some x → p x ≡ true → filter p xs ≡ [] → ⊥
  passes_some p [] zero x e y none = cc
  passes_some p [] (suc n) x e y none = cc
  passes_some p (z ∷ zs) zero x e y none = step (p z) z (filter p zs) (ap (λ (o : Option A). p (unwrap_or o z)) e ∙ y) none
    where
      step : (b : Bool) (z : A) (l : List A) → b ≡ true → cond b (z ∷ l) l ≡ [] → ⊥
      step true z l e none = let n = ap length none in omega arith
      step false z l e none = cc
  passes_some p (z ∷ zs) (suc n) x e y none = passes_some p zs n x e y (rest (p z) z (filter p zs) none)
    where
      rest : (b : Bool) (z : A) (l : List A) → cond b (z ∷ l) l ≡ [] → l ≡ []
      rest true z l none = absurd (let n = ap length none in omega arith)
      rest false z l none = none

-- ---- the history grew by entries of others

pub taken_longer : (part : Range) (number : ℕ) (xs ys : List MemEntry) (ts : List Taking) → Continues hand_of number xs ys → AreTaken part number xs ts → AreTaken part number ys ts
taken_longer part number xs ys ts more k = record {
  indexes = k.indexes;
  judged = λ i t e. judged_longer part number xs ys t more.0 (k.judged i t e);
  left = more.1 ∙ k.left;
  order = λ n e at own. old_place n e own (get_append xs more.0.0 n e (ap (λ l. slice_get l n) more.0.1 ∙ at));
  rising = k.rising;
}
  where
    none_new : entries_of hand_of number more.0.0 ≡ []
    none_new = nothing_more (entries_of hand_of number xs) (entries_of hand_of number more.0.0)
        (sym (filter-append (λ e. hand_of e == number) xs more.0.0) ∙ (ap (λ l. entries_of hand_of number l) more.0.1 ∙ more.1))

    old_place : (n : ℕ) (e : MemEntry) → e.hand ≡ number → (slice_get xs n ≡ Some e) ⊎ ((m : ℕ) × (n ≡ length xs + m) × (slice_get more.0.0 m ≡ Some e)) → IsPastJudging ts n e.what
    old_place n e own (inl at) = k.order n e at own
    old_place n e own (inr f) = absurd (passes_some (λ e. hand_of e == number) more.0.0 f.0 e f.2 (eq-eqb e.hand number own) none_new)

-- ---- one more was taken

pub past_more : (ts : List Taking) (t : Taking) (n : ℕ) (e : MemEvent) → IsPastJudging ts n e → IsPastJudging (ts ++ t ∷ []) n e
past_more ts t n e p = step (index_of e) p
  where
    found : (i : ℕ) (o : Option Taking) → slice_get ts i ≡ o → MatchOption o ⊥ (λ t. t.seen ≤ n) → MatchOption (slice_get (ts ++ t ∷ []) i) ⊥ (λ t. t.seen ≤ n)
    found i None e m = absurd m
    found i (Some u) e m = subst (λ (z : Option Taking). MatchOption z ⊥ (λ t. t.seen ≤ n)) (sym (get_more ts t u i e)) m

    step : (o : Option ℕ) → MatchOption o (Unit {0}) (λ i. MatchOption (slice_get ts i) ⊥ (λ t. t.seen ≤ n)) → MatchOption o (Unit {0}) (λ i. MatchOption (slice_get (ts ++ t ∷ []) i) ⊥ (λ t. t.seen ≤ n))
    step None m = m
    step (Some i) m = found i (slice_get ts i) refl m

own_all : (number : ℕ) (es : List MemEvent) → entries_of hand_of number (under number es) ≡ under number es
own_all number [] = refl
own_all number (e ∷ es) = ap (λ b. cond b (record { hand = number; what = e } ∷ entries_of hand_of number (under number es)) (entries_of hand_of number (under number es))) (eq-eqb number number refl)
    ∙ ap (λ (l : List MemEntry). record { hand = number; what = e } ∷ l) (own_all number es)

-- what a taking leaves names its record, if any
pub single : (x : MemEntry) (m : ℕ) (e : MemEntry) → slice_get (x ∷ []) m ≡ Some e → x ≡ e
single x zero e at = ap (λ (o : Option MemEntry). unwrap_or o x) at
single x (suc m) e at = absurd (cc)

abbrev IsOf : ℕ → MemEvent → Type 0
IsOf i what = MatchOption (index_of what) (Unit {0}) (λ j. j ≡ i)

left_names : (v : Verdict) (o : Option Opcode) (i id hand : ℕ) (waits : Bool) (number m : ℕ) (e : MemEntry) → slice_get (under number (made_under v (made_for o i id hand waits))) m ≡ Some e → IsOf i e.what
left_names (Refused s) o i id hand waits number zero e at = absurd (cc)
left_names (Refused s) o i id hand waits number (suc m) e at = absurd (cc)
left_names Accepted None i id hand waits number zero e at = absurd (cc)
left_names Accepted None i id hand waits number (suc m) e at = absurd (cc)
left_names Accepted (Some Flush) i id hand waits number zero e at = absurd (cc)
left_names Accepted (Some Flush) i id hand waits number (suc m) e at = absurd (cc)
left_names Accepted (Some Trim) i id hand waits number zero e at = absurd (cc)
left_names Accepted (Some Trim) i id hand waits number (suc m) e at = absurd (cc)
left_names Accepted (Some Read) i id hand waits number m e at = subst (λ (z : MemEntry). IsOf i z.what) (single (record { hand = number; what = Pin i id hand }) m e at) refl
left_names Accepted (Some Write) i id hand waits number m e at = subst (λ (z : MemEntry). IsOf i z.what) (single (record { hand = number; what = Pin i id hand }) m e at) refl
left_names Accepted (Some Close) i id hand true number m e at = subst (λ (z : MemEntry). IsOf i z.what) (single (record { hand = number; what = mem.Close i id }) m e at) refl
left_names Accepted (Some Close) i id hand false number zero e at = subst (λ (z : MemEntry). IsOf i z.what) (ap (λ (o : Option MemEntry). unwrap_or o (record { hand = number; what = mem.Close i id })) at) refl
left_names Accepted (Some Close) i id hand false number (suc m) e at = subst (λ (z : MemEntry). IsOf i z.what) (single (record { hand = number; what = Release id }) m e at) tt

pub taken_one : (part : Range) (number : ℕ) (whole : List MemEntry) (ts : List Taking) (t : Taking) → AreTaken part number whole ts → place_of t ≡ length ts → t.seen ≡ length whole → t.envelope.memory_front ≤ t.seen
    → t.verdict ≡ judged part (standing_in (request_in t).vmoid (place_of t) (events whole)) (request_in t)
    → t.waits ≡ (is_accepted t.verdict && is_close (opcode (request_in t)) && not (pins_on (request_in t).vmoid (events whole) == 0))
    → AreTaken part number (whole ++ left_by number t) (ts ++ t ∷ [])
taken_one part number whole ts t k next seen front verdict waits = record {
  indexes = map-append place_of ts (t ∷ []) ∙ (ap (λ l. l ++ place_of t ∷ []) k.indexes ∙ (ap (λ n. below (length ts) ++ n ∷ []) next ∙ (sym (below_more (length ts)) ∙ ap below (sym (length-append ts (t ∷ []))))));
  judged = λ i u e. each i u (get_snoc ts t i u e);
  left = filter-append (λ e. hand_of e == number) whole (left_by number t) ∙ (ap (λ l. l ++ entries_of hand_of number (left_by number t)) k.left
      ∙ (ap (λ l. flat_map (left_by number) ts ++ l) (own_all number (made t)) ∙ (ap (λ l. flat_map (left_by number) ts ++ l) (sym (append-nil (left_by number t))) ∙ sym (flat_map-append (left_by number) ts (t ∷ [])))));
  order = λ n e at own. placed n e own (get_append whole (left_by number t) n e at);
  rising = λ i j u w at bt less. rise i j u w (get_snoc ts t i u at) (get_snoc ts t j w bt) less;
}
  where
    all_seen : judged_on (whole ++ left_by number t) t ≡ events whole
    all_seen = ap events (ap (λ n. take n (whole ++ left_by number t)) seen ∙ take_all whole (left_by number t))
      where
        take_all : (xs ys : List MemEntry) → take (length xs) (xs ++ ys) ≡ xs
        take_all [] ys = refl
        take_all (x ∷ xs) ys = ap (λ l. x ∷ l) (take_all xs ys)

    left_there : take (length (made t)) (drop t.seen (whole ++ left_by number t)) ≡ left_by number t
    left_there = ap (λ n. take (length (made t)) (drop n (whole ++ left_by number t))) seen ∙ (ap (λ l. take (length (made t)) l) (drop_all whole (left_by number t)) ∙ take_whole (made t))
      where
        drop_all : (xs ys : List MemEntry) → drop (length xs) (xs ++ ys) ≡ ys
        drop_all [] ys = refl
        drop_all (x ∷ xs) ys = drop_all xs ys

        take_whole : (es : List MemEvent) → take (length es) (under number es) ≡ under number es
        take_whole [] = refl
        take_whole (e ∷ es) = ap (λ (l : List MemEntry). record { hand = number; what = e } ∷ l) (take_whole es)

    the_last : IsJudged part number (whole ++ left_by number t) t
    the_last = record {
      front = front;
      seen = let n = length-append whole (left_by number t) in omega arith;
      verdict = subst (λ h. t.verdict ≡ judged part (standing_in (request_in t).vmoid (place_of t) h) (request_in t)) (sym all_seen) verdict;
      waits = subst (λ h. t.waits ≡ (is_accepted t.verdict && is_close (opcode (request_in t)) && not (pins_on (request_in t).vmoid h == 0))) (sym all_seen) waits;
      left = left_there;
    }

    each : (i : ℕ) (u : Taking) → (slice_get ts i ≡ Some u) ⊎ ((i ≡ length ts) × (t ≡ u)) → IsJudged part number (whole ++ left_by number t) u
    each i u (inl e) = judged_longer part number whole (whole ++ left_by number t) u (left_by number t, refl) (k.judged i u e)
    each i u (inr e) = subst (λ (z : Taking). IsJudged part number (whole ++ left_by number t) z) e.1 the_last

    -- what a record left stands within the whole
    left_within : (u : Taking) → IsJudged part number whole u → u.seen + length (made u) ≤ length whole
    left_within u j =
        let a = ap length j.left ∙ length_left number u in let b = length-take (length (made u)) (drop u.seen whole) in let c = length-drop u.seen whole in let d = j.seen in omega arith

    rise : (i j : ℕ) (u w : Taking) → (slice_get ts i ≡ Some u) ⊎ ((i ≡ length ts) × (t ≡ u)) → (slice_get ts j ≡ Some w) ⊎ ((j ≡ length ts) × (t ≡ w)) → i < j → u.seen + length (made u) ≤ w.seen
    rise i j u w (inl a) (inl b) less = k.rising i j u w a b less
    rise i j u w (inl a) (inr b) less = let l = left_within u (k.judged i u a) in let e = ap (λ (z : Taking). z.seen) b.1 in let s = seen in omega arith
    rise i j u w (inr a) (inl b) less = absurd (let n = slice_get_within ts j w b in let e = a.0 in omega arith)
    rise i j u w (inr a) (inr b) less = absurd (let e = a.0 in let f = b.0 in omega arith)

    past_new : (n m : ℕ) (what : MemEvent) → n ≡ length whole + m → IsOf (place_of t) what → IsPastJudging (ts ++ t ∷ []) n what
    past_new n m what at of = step (index_of what) of
      where
        step : (o : Option ℕ) → MatchOption o (Unit {0}) (λ j. j ≡ place_of t) → MatchOption o (Unit {0}) (λ i. MatchOption (slice_get (ts ++ t ∷ []) i) ⊥ (λ t. t.seen ≤ n))
        step None of = tt
        step (Some i) of = subst (λ (z : Option Taking). MatchOption z ⊥ (λ t. t.seen ≤ n)) (sym (ap (λ j. slice_get (ts ++ t ∷ []) j) (of ∙ next) ∙ get_last ts t)) (let s = seen in omega arith)

    placed : (n : ℕ) (e : MemEntry) → e.hand ≡ number → (slice_get whole n ≡ Some e) ⊎ ((m : ℕ) × (n ≡ length whole + m) × (slice_get (left_by number t) m ≡ Some e)) → IsPastJudging (ts ++ t ∷ []) n e.what
    placed n e own (inl at) = past_more ts t n e.what (k.order n e at own)
    placed n e own (inr f) = past_new n f.0 e.what f.1 (left_names t.verdict (opcode (request_in t)) (place_of t) (request_in t).vmoid t.hand t.waits number f.0 e f.2)
