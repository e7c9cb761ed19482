-- The pages that a session's client attached were taken out of its buffers again.
use Rattle.std.proofs.Common.{◌≡◌, ℕ, zero, suc, ◌+◌, ◌<◌, ◌==◌, Bool, true, false, nat_lt, List, [], ◌∷◌, filter, get_or, length, map, take, Option, Some, None, refl, sym, ap, ap₂, subst, ◌∙◌, arith, eq-eqb}
use Rattle.std.specs.Prelude.{sum, sum_by}
use Rattle.std.specs.List.{slice_get}
use Rattle.std.specs.Option.{option_map, option_map_or}
use Rattle.std.proofs.lemmas.Bool.{ltb-false, ltb-true}
use Rattle.std.proofs.lemmas.Option.{get_or_from_slice_get}
use Rattle.host_block.proofs.Places.{from_filter, within}
use Rattle.host_model.specs.{MemEntry, MemEvent, Step, all_with_before, given, comes_before_release, released, released_id}
use Rattle.host_model.specs.Session.{Session}
use Rattle.host_memory.specs.{Attachment, attachment_of, events}
use Rattle.host_log.specs.{Continues, entries_of}
use Rattle.host_turn.specs.{seen_by}
use Rattle.host_intake.specs.{IntakeEntry, Took, Landed, Passed, Turned, Taking, maker_of, taking_of, takings}
use Rattle.host_intake.proofs.Readiness.{all_at}
use Rattle.host_session.specs.{SessionHand, ClientState, is_turn}
use Rattle.host_hand.specs.{closed_by, frames_out, is_closer, pages_named, released_by}
use Rattle.host_hand.proofs.Framing.{closed_longer, released_still}
use Rattle.session_law.specs.{IsSessionGathered, HaveKept, PagesComeBack, attached_by, taken_from}
use Rattle.session_law.proofs.Buffers.{released_times}
use Rattle.host_memory.proofs.Remaining.{given_times}
use Rattle.session_law.proofs.Gathered.{taken_whole}
use Rattle.session_law.proofs.Lending.{attached_times}
use Rattle.session_law.proofs.Places.{found_at, has_found}
use Rattle.host_log.proofs.Places.{in_filter}
use Rattle.session_law.proofs.Released.{none_there}
use Rattle.session_law.proofs.Seen.{given_pages}
use Rattle.session_law.proofs.Sums.{sum_below, sum_both, sum_same}
use Rattle.session_law.proofs.Given.{given_sum, pages_in_log}
use Rattle.session_law.proofs.Kept.{IsHandOf, hand_at, turned}
use Rattle.session_law.proofs.Releasing.{admitted_sum, closed_pages, closed_sum, pages, released_pages, released_sum}
use Rattle.session_law.proofs.Totals.{sum_alike, sum_first, sum_makers, sum_mapped, sum_nothing, sum_times, sum_told}

-- hands by their numbers
hands_sum : (n : ℕ) (hs : List SessionHand) (f : ℕ → ℕ) → ((m : ℕ) (x : SessionHand) → slice_get hs m ≡ Some x → frames_out (n + m) x ≡ f (n + m)) → taken_from n hs ≡ sum_below (length hs) (λ m. f (n + m))
hands_sum n [] f h = refl
hands_sum n (x ∷ hs) f h =
    let here : n ≡ n + 0 = omega arith in
    let first : frames_out n x ≡ f (n + 0) = ap (λ m. frames_out m x) here ∙ h 0 x refl in
    let rest : taken_from (n + 1) hs ≡ sum_below (length hs) (λ m. f (n + 1 + m)) = hands_sum (n + 1) hs f (λ m y at. let e : n + 1 + m ≡ n + suc m = omega arith in ap (λ i. frames_out i y) e ∙ (h (suc m) y at ∙ ap f (sym e))) in
    let same : sum_below (length hs) (λ m. f (n + 1 + m)) ≡ sum_below (length hs) (λ m. f (n + suc m)) =
    sum_same (length hs) (λ m. f (n + 1 + m)) (λ m. f (n + suc m)) (λ m _. let e : n + 1 + m ≡ n + suc m = omega arith in ap f e) in
    ap₂ ◌+◌ first (rest ∙ same) ∙ sym (sum_first (length hs) (λ m. f (n + m)))

balance : (attached whole r client_r own q client_q closed es taken client_out : ℕ) → whole ≡ attached → r + client_r + own ≡ whole → own ≡ closed → q + client_q ≡ es → closed ≡ es → client_q ≡ 0 → taken ≡ r + q → client_out ≡ client_r → attached ≡ taken + client_out
balance attached whole r client_r own q client_q closed es taken client_out a b c d e f g h = omega arith

module _ (client : ClientState) (hands : List SessionHand) (h : List MemEntry) (steps : List Step) (s : Session) (g : IsSessionGathered client hands h s) (k : HaveKept client hands steps) where
  abbrev es : List IntakeEntry
  es = g.whole.intake.entries

  last : all_with_before comes_before_release (events h) ≡ true
  last = g.whole.memory_history.last

  -- the pages of a buffer that was released, and of a buffer that a record closed
  abbrev out : MemEntry → ℕ
  out e = released_pages h last e

  abbrev in_entry : IntakeEntry → ℕ
  in_entry e = option_map_or (closed_pages h last) (taking_of e) 0

  abbrev released_at : ℕ → ℕ
  released_at n = sum_by out (entries_of (λ (e : MemEntry). e.hand) n h)

  abbrev closed_at : ℕ → ℕ
  closed_at n = sum_by in_entry (entries_of maker_of n es)

  -- ---- all releases

  attachment_pages : (o : Option Attachment) → option_map_or (λ (a : Attachment). a.pages) o 0 ≡ option_map_or (λ (n : ℕ). n) (option_map (λ (a : Attachment). a.pages) o) 0
  attachment_pages None = refl
  attachment_pages (Some a) = refl

  all_released : sum_by out h ≡ sum_by attached_by client.log
  all_released =
      let told = g.whole.client_of.told in
      sym (sum_mapped (λ (e : MemEntry). e.what) (λ (w : MemEvent). option_map_or (pages h last) (released_id w) 0) h)
      ∙ (sym (sum_told released_id (pages h last) (events h))
      ∙ (sum_times (pages h last) (released (events h)) (given client.log) (λ v. released_times v (events h) ∙ (g.whole.memory_history.once v ∙ (given_times v (events h) ∙ attached_times v client.log (events h) told.entries)))
      ∙ (sum_alike (pages h last) (pages_in_log client.log told.ids) (given client.log) (λ n v at. attachment_pages (attachment_of v (events h)) ∙ ap (λ o. option_map_or (λ (i : ℕ). i) o 0) (sym (given_pages v client.log (events h) told.entries)))
      ∙ sym (given_sum client.log told.ids))))

  maker_few : (p : ℕ) (e : MemEntry) → slice_get h p ≡ Some e → e.hand < suc (suc client.plan.hands)
  maker_few p e at = step (nat_lt (client.plan.hands + 1) e.hand) refl
    where
      step : (b : Bool) → nat_lt (client.plan.hands + 1) e.hand ≡ b → e.hand < suc (suc client.plan.hands)
      step false x = let le = ltb-false (client.plan.hands + 1) e.hand x in omega arith
      step true x =
          let f = in_filter (λ (w : MemEntry). w.hand == e.hand) h p e at (eq-eqb e.hand e.hand refl) in
          absurd (none_there (entries_of (λ (w : MemEntry). w.hand) e.hand h) f.0 e (g.whole.memory_history.others e.hand (ltb-true (client.plan.hands + 1) e.hand x)) f.1)

  -- ---- all closes

  intake_few : (p : ℕ) (e : IntakeEntry) → slice_get es p ≡ Some e → maker_of e < suc client.plan.hands
  intake_few p e at = step (nat_lt client.plan.hands (maker_of e)) refl
    where
      nothing : (xs : List IntakeEntry) (j : ℕ) → xs ≡ [] → slice_get xs j ≡ Some e → ⊥
      nothing [] zero n y = cc
      nothing [] (suc j) n y = cc
      nothing (z ∷ xs) j n y = cc n

      step : (b : Bool) → nat_lt client.plan.hands (maker_of e) ≡ b → maker_of e < suc client.plan.hands
      step false x = let le = ltb-false client.plan.hands (maker_of e) x in omega arith
      step true x =
          let f = in_filter (λ (w : IntakeEntry). maker_of w == maker_of e) es p e at (eq-eqb (maker_of e) (maker_of e) refl) in
          absurd (nothing (entries_of maker_of (maker_of e) es) f.0 (g.whole.intake_history.others (maker_of e) (ltb-true client.plan.hands (maker_of e) x)) f.1)

  turn_closes_none : (e : IntakeEntry) → is_turn e ≡ true → in_entry e ≡ 0
  turn_closes_none (Took hand envelope verdict waits seen) t = absurd (cc)
  turn_closes_none (Landed hand index end answer kept) t = refl
  turn_closes_none (Passed hand) t = refl
  turn_closes_none (Turned hand phase) t = refl

  client_closes_none : closed_at client.plan.hands ≡ 0
  client_closes_none = sum_nothing in_entry (entries_of maker_of client.plan.hands es) (λ n e at. turn_closes_none e (all_at is_turn (entries_of maker_of client.plan.hands es) (turned client hands h steps s g k) n e at))

  own_takings_stand : (n m : ℕ) (u : Taking) → slice_get (takings (entries_of maker_of n es)) m ≡ Some u → (i : ℕ) × (slice_get (takings es) i ≡ Some u)
  own_takings_stand n m u at =
      let r = found_at taking_of (entries_of maker_of n es) m u at in
      let f = from_filter (λ (x : IntakeEntry). maker_of x == n) es r.0 r.1 r.2 in
      (length (takings (take f.0 es)), has_found taking_of es f.0 r.1 u f.1 r.3)

  -- ---- hand by hand

  out_is : (n : ℕ) (x : SessionHand) → slice_get hands n ≡ Some x → frames_out n x ≡ released_at n + closed_at n
  out_is n x at =
      let same : get_or hands n x ≡ x = get_or_from_slice_get hands n x x at in
      subst (λ (y : SessionHand). frames_out n y ≡ released_at n + closed_at n) same (step (hand_at client hands h steps s g k n x (within hands n x at)))
    where
      step : IsHandOf client hands h steps s g k n (get_or hands n x) → frames_out n (get_or hands n x) ≡ released_at n + closed_at n
      step o =
          let gone : released_by n (seen_by (get_or hands n x).memory) ≡ released_at n = sym (released_still n (seen_by (get_or hands n x).memory) h o.memory) ∙ released_sum h last n in
          let by_records : closed_by n es h ≡ closed_at n =
          closed_sum h last client.plan.spec.part (client.plan.hands + 1) (takings es) (taken_whole client hands h s g) (takings (entries_of maker_of n es)) (own_takings_stand n) ∙ sum_told taking_of (closed_pages h last) (entries_of maker_of n es) in
          let closed : closed_by n (seen_by (get_or hands n x).intake) (seen_by (get_or hands n x).memory) ≡ closed_at n =
          sym (closed_longer n (seen_by (get_or hands n x).intake) (seen_by (get_or hands n x).memory) h o.memory.0 o.kept.keeps.seen)
          ∙ (ap (λ (l : List IntakeEntry). sum (map (pages_named h) (filter is_closer (takings l)))) (sym o.intake.1) ∙ by_records) in
          ap₂ ◌+◌ gone closed

  taken_is : taken_from 0 hands ≡ sum_below client.plan.hands released_at + sum_below client.plan.hands closed_at
  taken_is =
      hands_sum 0 hands (λ n. released_at n + closed_at n) (λ m x at. let e : 0 + m ≡ m = omega arith in ap (λ i. frames_out i x) e ∙ (out_is m x at ∙ ap (λ i. released_at i + closed_at i) (sym e)))
      ∙ (sum_same (length hands) (λ m. released_at (0 + m) + closed_at (0 + m)) (λ m. released_at m + closed_at m) (λ m _. let e : 0 + m ≡ m = omega arith in ap (λ i. released_at i + closed_at i) e)
      ∙ (ap (λ n. sum_below n (λ m. released_at m + closed_at m)) k.dealt.0
      ∙ sum_both client.plan.hands released_at closed_at))

  client_is : released_by client.plan.hands (seen_by client.memory_seat) ≡ released_at client.plan.hands
  client_is =
      sym (released_still client.plan.hands (seen_by client.memory_seat) h
      (subst (λ (n : ℕ). Continues (λ (e : MemEntry). e.hand) n (seen_by client.memory_seat) h) g.whole.client_of.kept.memory_seat.number_is g.whole.memory_history.of_client))
      ∙ released_sum h last client.plan.hands

  pub pages_back : sum_by attached_by client.log ≡ taken_from 0 hands + released_by client.plan.hands (seen_by client.memory_seat)
  pages_back =
      let next : suc client.plan.hands ≡ client.plan.hands + 1 = omega arith in
      balance (sum_by attached_by client.log) (sum_by out h) (sum_below client.plan.hands released_at) (released_at client.plan.hands) (released_at (suc client.plan.hands))
      (sum_below client.plan.hands closed_at) (closed_at client.plan.hands) (sum_by (closed_pages h last) (takings es)) (sum_by in_entry es) (taken_from 0 hands) (released_by client.plan.hands (seen_by client.memory_seat))
      all_released
      (sum_makers (λ (e : MemEntry). e.hand) out (suc (suc client.plan.hands)) h maker_few)
      (ap released_at next ∙ admitted_sum h last client.plan.spec.part (client.plan.hands + 1) (takings es) (taken_whole client hands h s g))
      (sum_makers maker_of in_entry (suc client.plan.hands) es intake_few)
      (sum_told taking_of (closed_pages h last) es)
      client_closes_none
      taken_is
      client_is

pub pages_come_back : PagesComeBack
pages_come_back client hands h steps s g k = pages_back client hands h steps s g k
