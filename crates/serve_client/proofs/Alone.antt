-- A client and a hand that are alone at a server.
use Rattle.std.proofs.Common.{◌≡◌, ℕ, zero, suc, ◌+◌, ◌≤◌, Bool, true, List, [], ◌∷◌, ◌++◌, length, map, All, Some, refl, sym, ap, subst, ◌∙◌, inl, arith, length-append}
use Rattle.std.specs.Prelude.{slice_get, sum_by}
use Rattle.std.specs.List.{list_any}
use Rattle.std.proofs.lemmas.List.Elements.{All-cons, All-nil}
use Rattle.std.proofs.lemmas.List.Sums.{sum_by-cons}
use Rattle.host_frames.specs.{PoolSeat, frames_asked, given_back, granted}
use Rattle.host_log.specs.{total}
use Rattle.host_io.specs.declared.disk.Disk as disk
use Rattle.host_report.specs.{is_short_of_frames}
use Rattle.host_session.specs.{ClientState, SessionPlan}
use Rattle.host_worker.specs.{Hand, Server, AreAccounted, frames_of, pages_attached, pages_wanted, pool_seats_of, released_of, AreClosed, AreHands, IsHandOf, plan_of_session}
use Rattle.host_play.specs.{IsSquare}
use Rattle.host_play.proofs.Accounts.{or_left}

-- the last of a list of one
pub only : {A : Type 0} (x y : A) (xs : List A) → x ∷ [] ≡ xs ++ y ∷ [] → (xs ≡ []) × (x ≡ y)
only x y [] e = (refl, cc e)
only x y (z ∷ xs) e = absurd (omega (arith, ap length e, length-append xs (y ∷ [])))

one_sum : {A : Type 0} (f : A → ℕ) (x : A) → sum_by f (x ∷ []) ≡ f x
one_sum f x = let s = sum_by-cons f x [] in let none : sum_by f [] ≡ 0 = refl in omega (arith, s, none)

module _ {D : Type 0} {g : disk.Ghosts D} (hand : Hand D g) (client : ClientState) where
  one_total : (f : PoolSeat → ℕ) → total f (pool_seats_of (hand ∷ [])) ≡ f hand.pool_seat
  one_total f = let s : total f (pool_seats_of (hand ∷ [])) ≡ f hand.pool_seat + 0 = refl in omega (arith, s)

  pub accounted : IsSquare hand client → AreAccounted (hand ∷ []) (client ∷ [])
  accounted square = record {
    granted_are = one_total granted ∙ (square.granted_is ∙ sym (one_sum pages_attached client));
    asked_are = omega (arith, one_total frames_asked, square.asked_within, one_sum pages_wanted client);
    refused = λ short. inl (square.refused (or_left (list_any is_short_of_frames client.log) short));
    given_back_are = omega (arith, one_total given_back, square.given_back_is, one_sum (frames_of {D = D} {g = g}) hand, one_sum released_of client);
  }

  module _ (server : Server D g) where
    pub are_hands : server.hands ≡ 1 → hand.number ≡ 0 → IsHandOf server hand → AreHands server (hand ∷ [])
    are_hands one number own = record { count = sym one; each = λ n x at. by n x at }
      where
        by : (n : ℕ) (x : Hand D g) → slice_get (hand ∷ []) n ≡ Some x → (x.number ≡ n) × IsHandOf server x
        by zero x at = let same : hand ≡ x = cc at in subst (λ (h : Hand D g). (h.number ≡ 0) × IsHandOf server h) same (number, own)
        by (suc n) x at = absurd (cc at)

    pub are_closed : (plan : SessionPlan) → map plan_of_session server.sessions.items ≡ plan ∷ [] → client.plan ≡ plan → client.closed ≡ true → AreClosed server (client ∷ [])
    are_closed plan plans same closed = record {
      plans = ap (λ (p : SessionPlan). p ∷ []) same ∙ sym plans;
      closed = All-cons (λ (c : ClientState). c.closed ≡ true) client [] closed (All-nil (λ (c : ClientState). c.closed ≡ true));
    }
