-- What stays as logs and stories grow at their end.
use Rattle.std.proofs.Common.{◌≡◌, ℕ, zero, suc, ◌+◌, ◌≤◌, ◌<◌, Bool, ◌&&◌, List, [], ◌∷◌, ◌++◌, Option, None, is_some, position, cond, length, get_or, refl, sym, ap, ◌∙◌, arith, length-append, append_assoc, append-nil, inl, inr, ◌⊎◌}
use Rattle.std.specs.List.{zip}
use Rattle.std.proofs.Math.Bool.{and-true, and_assoc}
use Rattle.std.proofs.Math.Nat.{eq-or-lt_of_le}
use Rattle.std.proofs.Math.Seq.{get_or-append_seam}
use Rattle.std.proofs.Math.ListN.{get_or-append}
use Rattle.host_block.specs.declared.range.Range.{Range}
use Rattle.host_record.specs.declared.request.Request.{Request}
use Rattle.host_model.specs.declared.verdict.Verdict.{Verdict}
use Rattle.host_model.specs.{all_after, all_with_before, request_at, verdicts_on, verdict_after, is_closed, judged, closes}
use Rattle.host_record.specs.{request_of}

-- the last element passes, and those before it as before
all_after-push : {A : Type 0} (test : List A → A → Bool) (before xs : List A) (x : A) → all_after test before (xs ++ x ∷ []) ≡ (all_after test before xs && test (before ++ xs) x)
all_after-push test before [] x = and-true (test before x) ∙ ap (λ b. test b x) (sym (append-nil before))
all_after-push test before (y ∷ ys) x =
    ap (λ b. test before y && b) (all_after-push test (before ++ y ∷ []) ys x)
    ∙ sym (and_assoc (test before y) (all_after test (before ++ y ∷ []) ys) (test ((before ++ y ∷ []) ++ ys) x))
    ∙ ap (λ b. (test before y && all_after test (before ++ y ∷ []) ys) && test b x) (append_assoc before (y ∷ []) ys)

pub all_with_before-push : {A : Type 0} (test : List A → A → Bool) (xs : List A) (x : A) → all_with_before test (xs ++ x ∷ []) ≡ (all_with_before test xs && test xs x)
all_with_before-push test xs x = all_after-push test [] xs x

-- there is a verdict for each record
pub length-verdicts_on : (rs : List Request) (lent : ℕ → ℕ → Option ℕ) (range : Range) (n : ℕ) → length (verdicts_on rs lent range n) ≡ n
length-verdicts_on rs lent range zero = refl
length-verdicts_on rs lent range (suc n) =
    length-append (verdicts_on rs lent range n) (verdict_after rs lent range (verdicts_on rs lent range n) n ∷ [])
    ∙ ap (λ k. k + 1) (length-verdicts_on rs lent range n) ∙ omega arith

-- records sent later close nothing for the first ones
zip-more : {A B : Type 0} (xs more : List A) (ys : List B) → length ys ≤ length xs → zip (xs ++ more) ys ≡ zip xs ys
zip-more [] [] [] h = refl
zip-more [] (m ∷ more) [] h = refl
zip-more [] more (y ∷ ys) h = absurd (omega (arith, h))
zip-more (x ∷ xs) more [] h = refl
zip-more (x ∷ xs) more (y ∷ ys) h = ap (λ rest. (x, y) ∷ rest) (zip-more xs more ys (omega (arith, h)))

pub is_closed-append : (v : ℕ) (rs more : List Request) (verdicts : List Verdict) → length verdicts ≤ length rs → is_closed v (rs ++ more) verdicts ≡ is_closed v rs verdicts
is_closed-append v rs more verdicts h = ap (λ pairs. is_some (position (λ p. closes v p.0 p.1) pairs)) (zip-more rs more verdicts h)

-- and change no verdict
verdict_after-append : (rs more : List Request) (lent : ℕ → ℕ → Option ℕ) (range : Range) (earlier : List Verdict) (n : ℕ) → n < length rs → length earlier ≤ length rs
    → verdict_after (rs ++ more) lent range earlier n ≡ verdict_after rs lent range earlier n
verdict_after-append rs more lent range earlier n h room =
    ap (λ r. judged range (cond (is_closed r.vmoid (rs ++ more) earlier) None (lent n r.vmoid)) r) (get_or-append rs more (request_of []) n h)
    ∙ ap (λ b. judged range (cond b None (lent n (request_at rs n).vmoid)) (request_at rs n)) (is_closed-append (request_at rs n).vmoid rs more earlier room)

pub verdicts_on-append : (rs more : List Request) (lent : ℕ → ℕ → Option ℕ) (range : Range) (n : ℕ) → n ≤ length rs → verdicts_on (rs ++ more) lent range n ≡ verdicts_on rs lent range n
verdicts_on-append rs more lent range zero h = refl
verdicts_on-append rs more lent range (suc n) h =
    let earlier : verdicts_on (rs ++ more) lent range n ≡ verdicts_on rs lent range n = verdicts_on-append rs more lent range n (omega (arith, h)) in
    let room : length (verdicts_on rs lent range n) ≤ length rs = omega (arith, h, length-verdicts_on rs lent range n) in
    ap (λ e. e ++ verdict_after (rs ++ more) lent range e n ∷ []) earlier
    ∙ ap (λ v. verdicts_on rs lent range n ++ v ∷ []) (verdict_after-append rs more lent range (verdicts_on rs lent range n) n h room)

last_verdict : (rs : List Request) (lent : ℕ → ℕ → Option ℕ) (range : Range) (n i : ℕ) (d : Verdict) → i ≡ n
    → get_or (verdicts_on rs lent range (suc n)) i d ≡ verdict_after rs lent range (verdicts_on rs lent range i) i
last_verdict rs lent range n i d e =
    let before : List Verdict = verdicts_on rs lent range n in
    let v : Verdict = verdict_after rs lent range before n in
    ap (λ k. get_or (before ++ v ∷ []) k d) (e ∙ sym (length-verdicts_on rs lent range n))
    ∙ get_or-append_seam before v [] d
    ∙ ap (λ k. verdict_after rs lent range (verdicts_on rs lent range k) k) (sym e)

-- the verdict on record i is that after the verdicts on the records before it
pub verdict_at : (rs : List Request) (lent : ℕ → ℕ → Option ℕ) (range : Range) (n i : ℕ) (d : Verdict) → i < n
    → get_or (verdicts_on rs lent range n) i d ≡ verdict_after rs lent range (verdicts_on rs lent range i) i
verdict_at rs lent range zero i d h = absurd (omega (arith, h))
verdict_at rs lent range (suc n) i d h =
    let split : (suc i ≡ suc n) ⊎ (suc i < suc n) = eq-or-lt_of_le h in
    elim split [
      | inl e ↦ last_verdict rs lent range n i d (omega (arith, e))
      | inr p ↦ get_or-append (verdicts_on rs lent range n) (verdict_after rs lent range (verdicts_on rs lent range n) n ∷ []) d i (omega (arith, p, length-verdicts_on rs lent range n))
          ∙ verdict_at rs lent range n i d (omega (arith, p))
    ]
