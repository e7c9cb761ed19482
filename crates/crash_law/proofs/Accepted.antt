-- A record that ended well was accepted, since no check refuses one with that status.
use Rattle.std.proofs.Common.{◌≡◌, ℕ, zero, suc, ◌<◌, Bool, true, false, List, [], ◌∷◌, get_or, length, map, Option, Some, refl, sym, ap, subst, ◌∙◌}
use Rattle.std.specs.List.{list_all, slice_get}
use Rattle.host_block.specs.declared.range.Range.{Range}
use Rattle.host_record.specs.declared.request.Request.{Request}
use Rattle.host_record.specs.declared.status.Status.{Status}
use Rattle.host_record.specs.declared.status.Status.TheVariants as status
use Rattle.host_model.specs.{TakenRow, Accepted, Refused, is_failure, asked_in, outcome_of, steps_of, IsLawfulSession, IsByFirstCheck, given_before, request_at, requests, row_at, checks, judged, verdict_of}
use Rattle.host_model.specs.declared.verdict.Verdict.{Verdict}
use Rattle.host_model.specs.Session.{Session}
use Rattle.host_model.proofs.Checks.{first_check_decides}
use Rattle.host_model.proofs.Growth.{verdict_at}
use Rattle.host_model.proofs.ListTests.{both}

pub all_at : {A : Type 0} (p : A → Bool) (xs : List A) (n : ℕ) (x : A) → list_all p xs ≡ true → slice_get xs n ≡ Some x → p x ≡ true
all_at p [] zero x all at = absurd (cc)
all_at p [] (suc n) x all at = absurd (cc)
all_at p (y ∷ ys) zero x all at = let same : y ≡ x = cc in ap p (sym same) ∙ (both (p y) (list_all p ys) all).0
all_at p (y ∷ ys) (suc n) x all at = all_at p ys n x (both (p y) (list_all p ys) all).1 at

got_map : {A B : Type 0} (f : A → B) (xs : List A) (i : ℕ) (d : A) → get_or (map f xs) i (f d) ≡ f (get_or xs i d)
got_map f [] zero d = refl
got_map f [] (suc i) d = refl
got_map f (x ∷ xs) zero d = refl
got_map f (x ∷ xs) (suc i) d = got_map f xs i d

-- each check refuses with a failure
refusals_fail : (range : Range) (pages : Option ℕ) (r : Request) (st : Status) → judged range pages r ≡ Refused st → is_failure st ≡ true
refusals_fail range pages r st e =
    let d = subst (IsByFirstCheck (checks range pages r)) e (first_check_decides range pages r) in
    all_at (λ (c : Bool × Status). is_failure c.1) (checks range pages r) d.place (true, st) refl d.fails

pub accepted_so : (s : Session) → IsLawfulSession s → (i : ℕ) → i < length s.rows → (row_at s.rows i).outcome ≡ status.Ok → (row_at s.rows i).verdict ≡ Accepted
accepted_so s l i lt ok = step (row_at s.rows i).verdict refl
  where
    judged_so : (row_at s.rows i).verdict ≡ verdict_of s.log s.range i
    judged_so =
        sym (got_map (λ (row : TakenRow). row.verdict) s.rows i (record { verdict = Refused status.Io; outcome = status.Io }))
        ∙ (ap (λ vs. get_or vs i (Refused status.Io)) l.taken.verdicts ∙ verdict_at (requests s.log) (given_before s.log) s.range (length s.rows) i (Refused status.Io) lt)

    step : (v : Verdict) → (row_at s.rows i).verdict ≡ v → (row_at s.rows i).verdict ≡ Accepted
    step Accepted e = e
    step (Refused st) e =
        let same : status.Ok ≡ st = sym ok ∙ ((l.carried.each i lt).outcome ∙ ap (λ v. outcome_of v (asked_in s i) (steps_of i s.steps)) e) in
        let fails : is_failure st ≡ true = refusals_fail s.range _ (request_at (requests s.log) i) st (sym judged_so ∙ e) in
        absurd (let z : false ≡ true = ap is_failure same ∙ fails in cc)
