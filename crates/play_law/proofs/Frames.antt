-- All frames are home: what the clients attached was taken out by hands and clients.
use Rattle.std.proofs.Common.{◌≡◌, ℕ, suc, ◌+◌, List, [], ◌∷◌, length, Some, refl, sym, ap, ap₂, ◌∙◌, arith}
use Rattle.std.specs.Prelude.{sum_by}
use Rattle.std.specs.List.{cons_option, slice_get}
use Rattle.std.specs.Option.{option_map_or}
use Rattle.std.proofs.lemmas.List.Sums.{sum_by-cons}
use Rattle.host_block.proofs.Places.{within}
use Rattle.host_model.specs.{Event, Attached}
use Rattle.host_report.specs.{Report, session_of}
use Rattle.host_hand.specs.{frames_out}
use Rattle.host_session.specs.{SessionHand, ClientState}
use Rattle.host_worker.specs.{pages_attached, pages_attached_by, released_of, EndsState, HandEnd, frames_from, shares_in, IsReportGathered}
use Rattle.host_log.proofs.Places.{some_at}
use Rattle.session_law.proofs.Sums.{sum_below, sum_both, sum_none, sum_same}
use Rattle.session_law.specs.{attached_by, taken_from}
use Rattle.session_law.proofs.Pages.{pages_come_back}
use Rattle.session_law.proofs.Totals.{sum_alike, sum_first}
use Rattle.session_law.proofs.Whole.{all_one}
use Rattle.play_law.proofs.Sessions.{gathered, have_kept}

-- ---- sums by places

module _ {A : Type 0} where
  sum_places : (f : A → ℕ) (at : ℕ → ℕ) (xs : List A) → ((k : ℕ) (x : A) → slice_get xs k ≡ Some x → f x ≡ at k) → sum_by f xs ≡ sum_below (length xs) at
  sum_places f at [] h = refl
  sum_places f at (x ∷ xs) h = sum_by-cons f x xs ∙ (ap₂ ◌+◌ (h 0 x refl) (sum_places f (λ k. at (suc k)) xs (λ k y e. h (suc k) y e)) ∙ sym (sum_first (length xs) at))

  sum_and : (f g : A → ℕ) (at : ℕ → ℕ) (xs : List A) → ((k : ℕ) (x : A) → slice_get xs k ≡ Some x → f x ≡ at k + g x) → sum_by f xs ≡ sum_below (length xs) at + sum_by g xs
  sum_and f g at [] h = refl
  sum_and f g at (x ∷ xs) h =
      let r : sum_by f xs ≡ sum_below (length xs) (λ k. at (suc k)) + sum_by g xs = sum_and f g (λ k. at (suc k)) xs (λ k y e. h (suc k) y e) in
      let first : f x ≡ at 0 + g x = h 0 x refl in
      let split : sum_below (suc (length xs)) at ≡ at 0 + sum_below (length xs) (λ k. at (suc k)) = sum_first (length xs) at in
      joined (sum_by f (x ∷ xs)) (f x) (sum_by f xs) (at 0) (g x) (sum_below (length xs) (λ k. at (suc k))) (sum_by g xs) (sum_below (suc (length xs)) at) (sum_by g (x ∷ xs)) (sum_by-cons f x xs) (sum_by-cons g x xs) first r split
    where
      joined : (all first rest here own below more whole owns : ℕ) → all ≡ first + rest → owns ≡ own + more → first ≡ here + own → rest ≡ below + more → whole ≡ here + below → all ≡ whole + owns
      joined all first rest here own below more whole owns a b c d e = omega arith

-- ---- session by session

-- what hand n took out of the buffers of session k
abbrev out_at : ℕ → HandEnd → ℕ → ℕ
out_at n x k = option_map_or (frames_out n) (slice_get x.shares k) 0

-- what the hands took out of the buffers of all sessions
by_sessions : (many n : ℕ) (hands : List HandEnd) → ((k : ℕ) (hand : HandEnd) → slice_get hands k ≡ Some hand → length hand.shares ≡ many) → sum_below many (λ k. taken_from n (shares_in k hands)) ≡ frames_from n hands
by_sessions many n [] all = sum_none many
by_sessions many n (x ∷ hands) all =
    sum_same many (λ k. taken_from n (shares_in k (x ∷ hands))) (λ k. out_at n x k + taken_from (n + 1) (shares_in k hands)) (λ k lt. of_session k (some_at x.shares k (let e = all 0 x refl in omega (arith, e, lt))))
    ∙ (sum_both many (out_at n x) (λ k. taken_from (n + 1) (shares_in k hands))
    ∙ ap₂ ◌+◌
    (ap (λ m. sum_below m (out_at n x)) (sym (all 0 x refl)) ∙ sym (sum_places (frames_out n) (out_at n x) x.shares (λ k y at. sym (ap (λ o. option_map_or (frames_out n) o 0) at))))
    (by_sessions many (n + 1) hands (λ k hand at. all (suc k) hand at)))
  where
    of_session : (k : ℕ) → (y : SessionHand) × (slice_get x.shares k ≡ Some y) → taken_from n (shares_in k (x ∷ hands)) ≡ out_at n x k + taken_from (n + 1) (shares_in k hands)
    of_session k y =
        ap (λ o. taken_from n (cons_option o (shares_in k hands))) y.1
        ∙ ap (λ o. option_map_or (frames_out n) o 0 + taken_from (n + 1) (shares_in k hands)) (sym y.1)

same_pages : (e : Event) → pages_attached_by e ≡ attached_by e
same_pages (Attached pages id) = refl
same_pages _ = refl

module _ (ends : EndsState) (report : Report) (g : IsReportGathered ends report) where
  client_pages : (k : ℕ) (client : ClientState) → slice_get g.clients k ≡ Some client → pages_attached client ≡ taken_from 0 (shares_in k g.hands) + released_of client
  client_pages k client c =
      let e = some_at ends.sessions k (let w = within g.clients k client c in let n = g.ended.count in omega (arith, w, n)) in
      sum_alike pages_attached_by attached_by client.log (λ n x at. same_pages x)
      ∙ pages_come_back client (shares_in k g.hands) e.0.memory.items ends.story (session_of report e.0) (gathered ends report g k client e.0 c e.1) (have_kept ends report g k client e.0 c e.1)

  all_pages : sum_by pages_attached g.clients ≡ frames_from 0 g.hands + sum_by released_of g.clients
  all_pages =
      sum_and pages_attached released_of (λ k. taken_from 0 (shares_in k g.hands)) g.clients client_pages
      ∙ ap (λ n. n + sum_by released_of g.clients) (by_sessions (length g.clients) 0 g.hands (λ k hand at. all_one (λ (x : HandEnd). length x.shares ≡ length g.clients) g.hands g.ended.shares k hand at))

  pub frames_home : report.frames_home ≡ 4096
  frames_home = g.home_is ∙ balance ends.frames_home (sum_by pages_attached g.clients) (frames_from 0 g.hands) (sum_by released_of g.clients) g.ended.home all_pages
    where
      balance : (home attached hands clients : ℕ) → home + attached ≡ 4096 + (hands + clients) → attached ≡ hands + clients → home ≡ 4096
      balance home attached hands clients a b = omega arith
