-- A gathered report is lawful for an image.
use Rattle.std.proofs.Common.{◌≡◌, ℕ, zero, suc, ◌+◌, ◌<◌, ◌==◌, Bool, true, false, cond, nat_lt, List, [], ◌∷◌, ◌++◌, filter, length, map, Some, refl, sym, ap, ap₂, subst, ◌∙◌, arith, append-nil, eq-eqb}
use Rattle.std.specs.List.{range_with_len, slice_get}
use Rattle.std.proofs.lemmas.Bool.{lt-ltb, ltb-false, ltb-true}
use Rattle.std.proofs.lemmas.List.Elements.{filter-append}
use Rattle.host_block.specs.{IsLegal}
use Rattle.host_block.proofs.Places.{within}
use Rattle.host_model.specs.{Step, changes_of, implies}
use Rattle.host_report.specs.{Closing, Good, Fault, Cut, NoMemory, Report, SessionReport, IsLawfulRun, closing_steps, is_of_sessions, pages_asked, ran_short}
use Rattle.host_log.specs.{entries_of}
use Rattle.host_intake.proofs.Readiness.{all_at}
use Rattle.host_worker.specs.{EndsState, IsReportGathered}
use Rattle.host_log.proofs.Places.{some_at, in_filter}
use Rattle.play_law.specs.{GatheredReportsAreLawful, GatheredRunsAreLawful, IsLawfulOnAnyDisk}
use Rattle.play_law.proofs.Frames.{frames_home}
use Rattle.play_law.proofs.Sessions.{gathered_sessions_are_lawful}

-- ---- lists

numbers_are : (a : ℕ) (xs : List SessionReport) → ((k : ℕ) (x : SessionReport) → slice_get xs k ≡ Some x → x.number ≡ a + k) → map (λ (x : SessionReport). x.number) xs ≡ range_with_len a (length xs)
numbers_are a [] h = refl
numbers_are a (x ∷ xs) h =
    let here : x.number ≡ a = let e = h 0 x refl in omega (arith, e) in
    ap₂ (λ n l. n ∷ l) here (numbers_are (a + 1) xs (λ k y at. let e = h (suc k) y at in omega (arith, e)))

all_pass : {A : Type 0} (p : A → Bool) (xs : List A) → ((k : ℕ) (x : A) → slice_get xs k ≡ Some x → p x ≡ true) → filter p xs ≡ xs
all_pass p [] h = refl
all_pass p (x ∷ xs) h =
    ap (λ b. cond b (x ∷ filter p xs) (filter p xs)) (h 0 x refl) ∙ ap (λ l. x ∷ l) (all_pass p xs (λ k y at. h (suc k) y at))

none_closing : (n : ℕ) (c : Closing) → filter (is_of_sessions n) (closing_steps c) ≡ []
none_closing n Good = refl
none_closing n Fault = refl
none_closing n Cut = refl
none_closing n NoMemory = refl

only_where : (b : Bool) (n : ℕ) → (b ≡ true → 4096 < n) → implies b (nat_lt 4096 n) ≡ true
only_where true n h = lt-ltb 4096 n (h refl)
only_where false n h = refl

-- ---- the report

module _ (ends : EndsState) (report : Report) (g : IsReportGathered ends report) where
  many : length report.sessions.items ≡ length g.clients
  many = ap length g.sessions_are ∙ g.ended.count

  number_is : (k : ℕ) (x : SessionReport) → slice_get report.sessions.items k ≡ Some x → x.number ≡ 1 + k
  number_is k x at =
      let s : slice_get ends.sessions k ≡ Some x = ap (λ l. slice_get l k) (sym g.sessions_are) ∙ at in
      let c = some_at g.clients k (let w = within ends.sessions k x s in let n = g.ended.count in omega (arith, w, n)) in
      let e = (g.ended.each k c.0 x c.1 s).number_is.0 in
      omega (arith, e)

  -- each step of the server's names one of its sessions
  named : (p : ℕ) (step : Step) → slice_get ends.story p ≡ Some step → is_of_sessions (length report.sessions.items) step ≡ true
  named p step at = ap (λ n. is_of_sessions n step) many ∙ by_hand (nat_lt step.hand (length g.hands)) refl
    where
      nothing : (xs : List Step) (j : ℕ) → xs ≡ [] → slice_get xs j ≡ Some step → ⊥
      nothing [] zero n y = cc
      nothing [] (suc j) n y = cc
      nothing (z ∷ xs) j n y = cc n

      by_hand : (b : Bool) → nat_lt step.hand (length g.hands) ≡ b → is_of_sessions (length g.clients) step ≡ true
      by_hand false f =
          let r = in_filter (λ (x : Step). x.hand == step.hand) ends.story p step at (eq-eqb step.hand step.hand refl) in
          absurd (nothing (entries_of (λ (x : Step). x.hand) step.hand ends.story) r.0 (g.ended.steps.others step.hand (ltb-false step.hand (length g.hands) f)) r.1)
      by_hand true f =
          let r = in_filter (λ (x : Step). x.hand == step.hand) ends.story p step at (eq-eqb step.hand step.hand refl) in
          let hand = some_at g.hands step.hand (ltb-true step.hand (length g.hands) f) in
          let seen : slice_get (entries_of (λ (x : Step). x.hand) step.hand hand.0.steps) r.0 ≡ Some step = ap (λ l. slice_get l r.0) (sym (g.ended.steps.of_hands step.hand hand.0 hand.1).1) ∙ r.1 in
          all_at (is_of_sessions (length g.clients)) (entries_of (λ (x : Step). x.hand) step.hand hand.0.steps) (g.ended.steps.named step.hand hand.0 hand.1) r.0 step seen

  closing_is : report.steps.items ≡ filter (is_of_sessions (length report.sessions.items)) report.steps.items ++ closing_steps report.closing
  closing_is =
      let own : filter (is_of_sessions (length report.sessions.items)) report.steps.items ≡ ends.story =
      ap (filter (is_of_sessions (length report.sessions.items))) g.steps_are
      ∙ (filter-append (is_of_sessions (length report.sessions.items)) ends.story (closing_steps report.closing)
      ∙ (ap₂ ◌++◌ (all_pass (is_of_sessions (length report.sessions.items)) ends.story named) (none_closing (length report.sessions.items) report.closing) ∙ append-nil ends.story)) in
      g.steps_are ∙ ap (λ l. l ++ closing_steps report.closing) (sym own)

  lawful_run : IsLawfulOnAnyDisk report
  lawful_run = record {
    numbers = numbers_are 1 report.sessions.items number_is;
    sessions = gathered_sessions_are_lawful ends report g;
    closing = closing_is;
    frames = only_where (ran_short report.sessions.items) (pages_asked report.sessions.items)
        (λ short. subst (λ l. 4096 < pages_asked l) (sym g.sessions_are) (g.ended.short (ap ran_short (sym g.sessions_are) ∙ short)));
    home = frames_home ends report g;
  }

pub gathered_runs_are_lawful : GatheredRunsAreLawful
gathered_runs_are_lawful ends report g = lawful_run ends report g

-- with the image that its steps are a legal history of
run_lawful : (image : List (List ℕ)) (ends : EndsState) (report : Report) → IsReportGathered ends report → IsLegal image (changes_of report.steps.items) → IsLawfulRun image report
run_lawful image ends report g legal =
    let run = lawful_run ends report g in
    record { numbers = run.numbers; sessions = run.sessions; closing = run.closing; legal = legal; frames = run.frames; home = run.home }

pub gathered_reports_are_lawful : GatheredReportsAreLawful
gathered_reports_are_lawful image ends report g of_image on_table legal = record { of_image = of_image; on_table = on_table; run = run_lawful image ends report g legal }
