-- The first check that fails decides.
use Rattle.std.proofs.Common.{◌≡◌, suc, Bool, true, false, cond, List, [], ◌∷◌, Some, refl, ap}
use Rattle.host_record.specs.declared.status.Status.{Status}
use Rattle.host_model.specs.declared.verdict.Verdict.{Verdict}
use Rattle.host_model.specs.{Accepted, Refused, FirstCheckDecides, IsByFirstCheck, checks, first_check, judged}

-- a check that is passed changes nothing
later : (c : Bool × Status) (cs : List (Bool × Status)) (verdict : Verdict) → c.0 ≡ false → IsByFirstCheck cs verdict → IsByFirstCheck (c ∷ cs) verdict
later c cs Accepted e h = (e, h)
later c cs (Refused status) e h = record { place = suc h.place; fails = h.fails; before = (e, h.before) }

decided : (c : Bool × Status) (cs : List (Bool × Status)) → IsByFirstCheck cs (first_check cs) → (b : Bool) → c.0 ≡ b → IsByFirstCheck (c ∷ cs) (cond b (Refused c.1) (first_check cs))
decided c cs h true e = record { place = 0; fails = ap (λ b. Some (b, c.1)) e; before = tt }
decided c cs h false e = later c cs (first_check cs) e h

first_check-decides : (cs : List (Bool × Status)) → IsByFirstCheck cs (first_check cs)
first_check-decides [] = tt
first_check-decides (c ∷ cs) = decided c cs (first_check-decides cs) c.0 refl

pub first_check_decides : FirstCheckDecides
unfolding judged
first_check_decides range pages r = first_check-decides (checks range pages r)
