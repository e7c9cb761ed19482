-- What a hand told of its own, and what stays as a history grows.
use Rattle.std.proofs.Common.{◌≡◌, ℕ, zero, suc, ◌+◌, ◌<◌, ◌==◌, Bool, true, false, ◌||◌, cond, List, [], ◌∷◌, ◌++◌, length, Option, Some, None, refl, sym, ap, ◌∙◌, arith, append_assoc, append-nil, length-append}
use Rattle.std.specs.Prelude.{slice_get, unwrap_or}
use Rattle.std.specs.List.{cons_option, list_any}
use Rattle.std.proofs.lemmas.List.Elements.{filter_map-append}
use Rattle.host_log.specs.{entries_of}
use Rattle.host_log.proofs.Histories.{entries-append}
use Rattle.host_intake.specs.{IntakeEntry, Took, Landed, Passed, Turned, Taking, Landing, is_landing_of, landing_of, landings, maker_of, request_in, requests_of, taking_of, takings, member_at}
use Rattle.host_intake.proofs.Admitting.{member_same}
use Rattle.host_model.specs.{request_at}
use Rattle.host_log.proofs.Bools.{or_parts}

-- ---- own landings

module _ (i hand : ℕ) where
  abbrev own : List IntakeEntry → List IntakeEntry
  own fs = entries_of maker_of hand fs

  abbrev ended : List IntakeEntry → Bool
  ended fs = list_any (is_landing_of i) (landings fs)

  skipped : (x : IntakeEntry) (b : Bool) (xs : List IntakeEntry) → landing_of x ≡ None → ended (cond b (x ∷ xs) xs) ≡ ended xs
  skipped x true xs e = ap (λ (o : Option Landing). list_any (is_landing_of i) (cons_option o (landings xs))) e
  skipped x false xs e = refl

  -- where nobody told the end of record i, the hand didn't
  pub own_none : (fs : List IntakeEntry) → ended fs ≡ false → ended (own fs) ≡ false
  own_none [] none = refl
  own_none (Took h envelope verdict waits seen ∷ fs) none = skipped (Took h envelope verdict waits seen) (h == hand) (own fs) refl ∙ own_none fs none
  own_none (Passed h ∷ fs) none = skipped (Passed h) (h == hand) (own fs) refl ∙ own_none fs none
  own_none (Turned h phase ∷ fs) none = skipped (Turned h phase) (h == hand) (own fs) refl ∙ own_none fs none
  own_none (Landed h index end answer kept ∷ fs) none = let p = or_parts (index == i) (ended fs) none in step (h == hand) p.0 (own_none fs p.1)
    where
      step : (b : Bool) → (index == i) ≡ false → ended (own fs) ≡ false → ended (cond b (Landed h index end answer kept ∷ own fs) (own fs)) ≡ false
      step true p none_own = ap (λ c. c || ended (own fs)) p ∙ none_own
      step false p none_own = none_own

  or_false : (a b : Bool) → a ≡ false → b ≡ false → (a || b) ≡ false
  or_false a b p q = ap (λ c. c || b) p ∙ q

  any_append : (xs ys : List Landing) → list_any (is_landing_of i) xs ≡ false → list_any (is_landing_of i) ys ≡ false → list_any (is_landing_of i) (xs ++ ys) ≡ false
  any_append [] ys a b = b
  any_append (x ∷ xs) ys a b = let p = or_parts (is_landing_of i x) (list_any (is_landing_of i) xs) a in or_false (is_landing_of i x) (list_any (is_landing_of i) (xs ++ ys)) p.0 (any_append xs ys p.1 b)

  none_of : (ls : List Landing) → length ls ≡ 0 → list_any (is_landing_of i) ls ≡ false
  none_of [] e = refl
  none_of (l ∷ ls) e = absurd (cc)

  -- entries without a landing leave the hand's landings as they were
  pub own_same : (es fs more : List IntakeEntry) → fs ≡ es ++ more → landings fs ≡ landings es → ended (own es) ≡ false → ended (own fs) ≡ false
  own_same es fs more now same none =
      let split : landings fs ≡ landings es ++ landings more = ap landings now ∙ filter_map-append landing_of es more in
      let count : length (landings more) ≡ 0 = omega (arith, ap length (sym split ∙ same), length-append (landings es) (landings more)) in
      let mine : own fs ≡ own es ++ own more = ap own now ∙ entries-append maker_of hand es more in
      ap ended mine ∙ (ap (λ (ls : List Landing). list_any (is_landing_of i) ls) (filter_map-append landing_of (own es) (own more))
      ∙ any_append (landings (own es)) (landings (own more)) none (own_none more (none_of (landings more) count)))

-- ---- as a history grows

pub get_front : {A : Type 0} (xs ys : List A) (n : ℕ) (y : A) → slice_get xs n ≡ Some y → slice_get (xs ++ ys) n ≡ Some y
get_front [] ys zero y e = absurd (cc)
get_front [] ys (suc n) y e = absurd (cc)
get_front (x ∷ xs) ys zero y e = e
get_front (x ∷ xs) ys (suc n) y e = get_front xs ys n y e

pub takings_append : (fs gs : List IntakeEntry) → takings (fs ++ gs) ≡ takings fs ++ takings gs
takings_append fs gs = filter_map-append taking_of fs gs

-- which member a record is doesn't depend on later ones
pub member_front : (ts more : List Taking) (i : ℕ) → i < length ts → member_at (requests_of (ts ++ more)) i ≡ member_at (requests_of ts) i
member_front ts [] i h = ap (λ l. member_at (requests_of l) i) (append-nil ts)
member_front ts (m ∷ more) i h =
    let n : length (ts ++ m ∷ []) ≡ length ts + 1 = length-append ts (m ∷ []) in
    ap (λ l. member_at (requests_of l) i) (sym (append_assoc ts (m ∷ []) more)) ∙ (member_front (ts ++ m ∷ []) more i (omega arith) ∙ member_same ts m i h)

same_of : {A : Type 0} (x y : A) → Some x ≡ Some y → x ≡ y
same_of {A} x y e = ap (λ (o : Option A). unwrap_or o x) e

pub request_taken : (ts : List Taking) (i : ℕ) (t : Taking) → slice_get ts i ≡ Some t → request_at (requests_of ts) i ≡ request_in t
request_taken [] zero t e = absurd (cc)
request_taken [] (suc i) t e = absurd (cc)
request_taken (u ∷ ts) zero t e = ap request_in (same_of u t e)
request_taken (u ∷ ts) (suc i) t e = request_taken ts i t e
