-- What an idle visit excludes.
use Rattle.std.proofs.Common.{◌≡◌, ℕ, ◌≤◌, true, false, [], ◌∷◌, length, ap, arith}
use Rattle.std.specs.Prelude.{nat_lt}
use Rattle.std.proofs.lemmas.Bool.{ltb-true}
use Rattle.host_log.proofs.Bools.{and_left}
use Rattle.host_rings.specs.{Envelope, FoundEmpty, RingId, taker_of}
use Rattle.host_hand.specs.{CannotTake, all_taken, at_limit, finished, stalled}
use Rattle.session_law.specs.{IdleVisitsTell}

one_sent : CannotTake 1 [] → ⊥
one_sent (finished over) = let e : false ≡ true = over in cc e
one_sent (at_limit runs load) = let e : 0 ≡ 64 = load in omega (arith, e)
one_sent (all_taken may all) = let e : 1 ≤ 0 = all in omega (arith, e)
one_sent (stalled may g flies) =
    let below = ltb-true flies.0 0 (and_left (nat_lt flies.0 0) true flies.2) in omega (arith, below)

one_heard : (ring : RingId) (depth records : ℕ) (e : Envelope) → FoundEmpty (taker_of ring depth records [] (e ∷ [])) → ⊥
one_heard ring depth records e k = omega (arith, k.1, ap length k.2.1)

pub idle_visits_tell : IdleVisitsTell
idle_visits_tell = record { one_was_sent = one_sent; one_was_heard = one_heard }
