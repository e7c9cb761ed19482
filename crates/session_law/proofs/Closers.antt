-- The record that closes a buffer by the client's log is the one whose close was taken.
use Rattle.std.proofs.Common.{◌≡◌, ℕ, zero, suc, ◌<◌, ◌==◌, Bool, true, false, ◌&&◌, nat_lt, cond, List, [], ◌∷◌, length, get_or, Option, Some, None, refl, sym, ap, ◌∙◌, arith, eq-eqb}
use Rattle.std.specs.Prelude.{is_some, position, unwrap_or}
use Rattle.std.specs.List.{list_any, slice_get, zip}
use Rattle.std.proofs.lemmas.Bool.{eqb-true, ltb-false, ltb-true}
use Rattle.std.proofs.lemmas.List.Quantifiers.{position-Some}
use Rattle.std.proofs.lemmas.Option.{get_or_from_slice_get}
use Rattle.host_block.specs.declared.range.Range.{Range}
use Rattle.host_block.proofs.Places.{within}
use Rattle.host_record.specs.{Opcode, Read, Write, Flush, Trim, Close, is_close, names_buffer, opcode, request_of}
use Rattle.host_record.specs.declared.request.Request.{Request}
use Rattle.host_model.specs.declared.verdict.Verdict.{Verdict}
use Rattle.host_model.specs.{Accepted, Refused, request_at, close_in, closes, is_accepted, is_closed, judged, verdict_after, verdicts_on}
use Rattle.host_model.proofs.Growth.{length-verdicts_on, verdict_at}
use Rattle.host_intake.proofs.Accepting.{accepted_attached}
use Rattle.host_intake.proofs.Leaving.{position_none}
use Rattle.host_log.proofs.Places.{any_here}

-- ---- pairs

zip_at : {A B : Type 0} (xs : List A) (ys : List B) (n : ℕ) (x : A) (y : B) → slice_get xs n ≡ Some x → slice_get ys n ≡ Some y → slice_get (zip xs ys) n ≡ Some (x, y)
zip_at [] ys zero x y a b = absurd (cc)
zip_at [] ys (suc n) x y a b = absurd (cc)
zip_at (w ∷ xs) [] zero x y a b = absurd (cc)
zip_at (w ∷ xs) [] (suc n) x y a b = absurd (cc)
zip_at (w ∷ xs) (z ∷ ys) zero x y a b = let p : w ≡ x = cc in let q : z ≡ y = cc in ap (λ v. Some (v, z)) p ∙ ap (λ v. Some (x, v)) q
zip_at (w ∷ xs) (z ∷ ys) (suc n) x y a b = zip_at xs ys n x y a b

zip_from : {A B : Type 0} (xs : List A) (ys : List B) (n : ℕ) (p : A × B) → slice_get (zip xs ys) n ≡ Some p → (slice_get xs n ≡ Some p.0) × (slice_get ys n ≡ Some p.1)
zip_from [] ys zero p a = absurd (cc)
zip_from [] ys (suc n) p a = absurd (cc)
zip_from (w ∷ xs) [] zero p a = absurd (cc)
zip_from (w ∷ xs) [] (suc n) p a = absurd (cc)
zip_from {A} {B} (w ∷ xs) (z ∷ ys) zero p a = let e : (w, z) ≡ p = ap (λ (o : Option (A × B)). unwrap_or o p) a in (ap (λ (v : A × B). Some v.0) e, ap (λ (v : A × B). Some v.1) e)
zip_from (w ∷ xs) (z ∷ ys) (suc n) p a = zip_from xs ys n p a

get_some : {A : Type 0} (xs : List A) (n : ℕ) (d : A) → n < length xs → slice_get xs n ≡ Some (get_or xs n d)
get_some [] n d h = absurd (omega arith)
get_some (x ∷ xs) zero d h = refl
get_some (x ∷ xs) (suc n) d h = get_some xs n d (omega arith)

some_there : (o : Option ℕ) → (o ≡ None → ⊥) → is_some o ≡ true
some_there None h = absurd (h refl)
some_there (Some n) h = refl

-- ---- what an accepted close is

close_names : (o : Option Opcode) → is_close o ≡ true → names_buffer o ≡ true
close_names None e = absurd (cc)
close_names (Some Read) e = absurd (cc)
close_names (Some Write) e = absurd (cc)
close_names (Some Flush) e = absurd (cc)
close_names (Some Trim) e = absurd (cc)
close_names (Some Close) e = refl

accepted_is : (v : Verdict) → is_accepted v ≡ true → v ≡ Accepted
accepted_is Accepted e = refl
accepted_is (Refused status) e = absurd (cc)

pub record IsClosing (v : ℕ) (r : Request) (d : Verdict) : Type 0 where
  pub accepted : d ≡ Accepted
  pub close : is_close (opcode r) ≡ true
  pub buffer : r.vmoid ≡ v

pub closing_says : (v : ℕ) (r : Request) (d : Verdict) → closes v r d ≡ true → IsClosing v r d
closing_says v r d e = step (is_accepted d) (is_close (opcode r)) refl refl e
  where
    step : (b c : Bool) → is_accepted d ≡ b → is_close (opcode r) ≡ c → (b && c && r.vmoid == v) ≡ true → IsClosing v r d
    step true true p q f = record { accepted = accepted_is d p; close = q; buffer = eqb-true r.vmoid v f }
    step true false p q f = absurd (cc)
    step false c p q f = absurd (cc)

pub closing_from : (v : ℕ) (r : Request) (d : Verdict) → IsClosing v r d → closes v r d ≡ true
closing_from v r d c =
    ap (λ x. is_accepted x && is_close (opcode r) && r.vmoid == v) c.accepted ∙ (ap (λ b. b && r.vmoid == v) c.close ∙ eq-eqb r.vmoid v c.buffer)

-- ---- one close alone is accepted

module _ (rs : List Request) (lent : ℕ → ℕ → Option ℕ) (range : Range) where
  pub verdict_there : (n i : ℕ) → i < n → slice_get (verdicts_on rs lent range n) i ≡ Some (verdict_after rs lent range (verdicts_on rs lent range i) i)
  verdict_there n i lt = get_some (verdicts_on rs lent range n) i Accepted (let e = length-verdicts_on rs lent range n in omega arith) ∙ ap Some (verdict_at rs lent range n i Accepted lt)

  -- record i closes buffer v by its verdict
  abbrev pub closes_by : ℕ → ℕ → Bool
  closes_by v i = closes v (request_at rs i) (verdict_after rs lent range (verdicts_on rs lent range i) i)

  closed_before : (v a b : ℕ) → a < b → b < length rs → closes_by v a ≡ true → is_closed v rs (verdicts_on rs lent range b) ≡ true
  closed_before v a b lt within_rs is =
      let pair : slice_get (zip rs (verdicts_on rs lent range b)) a ≡ Some (request_at rs a, verdict_after rs lent range (verdicts_on rs lent range a) a) =
      zip_at rs (verdicts_on rs lent range b) a (request_at rs a) (verdict_after rs lent range (verdicts_on rs lent range a) a) (get_some rs a (request_of []) (omega arith)) (verdict_there b a lt) in
      let p : Request × Verdict → Bool = λ q. closes v q.0 q.1 in
      let any : list_any (λ (q : Request × Verdict). closes v q.0 q.1) (zip rs (verdicts_on rs lent range b)) ≡ true =
      any_here (λ (q : Request × Verdict). closes v q.0 q.1) (zip rs (verdicts_on rs lent range b)) a (request_at rs a, verdict_after rs lent range (verdicts_on rs lent range a) a) pair is in
      some_there (position (λ (q : Request × Verdict). closes v q.0 q.1) (zip rs (verdicts_on rs lent range b)))
      (λ e. let none = position_none (λ (q : Request × Verdict). closes v q.0 q.1) (zip rs (verdicts_on rs lent range b)) e in let z : true ≡ false = sym any ∙ none in cc)

  no_second : (v a b : ℕ) → a < b → b < length rs → closes_by v a ≡ true → closes_by v b ≡ true → ⊥
  no_second v a b lt within_rs first second =
      let c = closing_says v (request_at rs b) (verdict_after rs lent range (verdicts_on rs lent range b) b) second in
      let r : Request = request_at rs b in
      let closed : is_closed r.vmoid rs (verdicts_on rs lent range b) ≡ true = ap (λ n. is_closed n rs (verdicts_on rs lent range b)) c.buffer ∙ closed_before v a b lt within_rs first in
      let judged_none : judged range None (request_at rs b) ≡ Accepted = sym (ap (λ x. judged range (cond x None (lent b (request_at rs b).vmoid)) (request_at rs b)) closed) ∙ c.accepted in
      let some : false ≡ true = accepted_attached range None (request_at rs b) judged_none (close_names (opcode r) c.close) in
      cc

  pub only_close : (v a b : ℕ) → a < length rs → b < length rs → closes_by v a ≡ true → closes_by v b ≡ true → a ≡ b
  only_close v a b la lb first second = step (nat_lt a b) (nat_lt b a) refl refl
    where
      step : (x y : Bool) → nat_lt a b ≡ x → nat_lt b a ≡ y → a ≡ b
      step true y e f = absurd (no_second v a b (ltb-true a b e) lb first second)
      step false true e f = absurd (no_second v b a (ltb-true b a f) la second first)
      step false false e f = let p = ltb-false a b e in let q = ltb-false b a f in omega arith

  -- what is found closes it
  pub close_found : (v i : ℕ) → close_in v rs (verdicts_on rs lent range (length rs)) ≡ Some i → (i < length rs) × (closes_by v i ≡ true)
  close_found v i e =
      let all : List (Request × Verdict) = zip rs (verdicts_on rs lent range (length rs)) in
      let d : Request × Verdict = (request_of [], Accepted) in
      let r = position-Some (λ (q : Request × Verdict). closes v q.0 q.1) all i (request_of [], Accepted) e in
      let at : slice_get all i ≡ Some (get_or all i (request_of [], Accepted)) = get_some all i (request_of [], Accepted) r.0 in
      let f = zip_from rs (verdicts_on rs lent range (length rs)) i (get_or all i (request_of [], Accepted)) at in
      let lt : i < length rs = within rs i (get_or all i (request_of [], Accepted)).0 f.0 in
      let q : request_at rs i ≡ (get_or all i (request_of [], Accepted)).0 = get_or_from_slice_get rs i (get_or all i (request_of [], Accepted)).0 (request_of []) f.0 in
      let w : verdict_after rs lent range (verdicts_on rs lent range i) i ≡ (get_or all i (request_of [], Accepted)).1 =
      ap (λ (o : Option Verdict). unwrap_or o Accepted) (sym (verdict_there (length rs) i lt) ∙ f.1) in
      (lt, ap (λ x. closes v x (verdict_after rs lent range (verdicts_on rs lent range i) i)) q ∙ (ap (closes v (get_or all i (request_of [], Accepted)).0) w ∙ r.1))

  -- the record that closes it is found
  pub close_is : (v i : ℕ) → i < length rs → closes_by v i ≡ true → close_in v rs (verdicts_on rs lent range (length rs)) ≡ Some i
  close_is v i lt is = step (close_in v rs (verdicts_on rs lent range (length rs))) refl
    where
      step : (o : Option ℕ) → close_in v rs (verdicts_on rs lent range (length rs)) ≡ o → o ≡ Some i
      step (Some j) e = let r = close_found v j e in ap Some (only_close v j i r.0 lt r.1 is)
      step None e =
          let pair : slice_get (zip rs (verdicts_on rs lent range (length rs))) i ≡ Some (request_at rs i, verdict_after rs lent range (verdicts_on rs lent range i) i) =
          zip_at rs (verdicts_on rs lent range (length rs)) i (request_at rs i) (verdict_after rs lent range (verdicts_on rs lent range i) i) (get_some rs i (request_of []) lt) (verdict_there (length rs) i lt) in
          let any = any_here (λ (q : Request × Verdict). closes v q.0 q.1) (zip rs (verdicts_on rs lent range (length rs))) i (request_at rs i, verdict_after rs lent range (verdicts_on rs lent range i) i) pair is in
          absurd (let none = position_none (λ (q : Request × Verdict). closes v q.0 q.1) (zip rs (verdicts_on rs lent range (length rs))) e in let z : true ≡ false = sym any ∙ none in cc)
