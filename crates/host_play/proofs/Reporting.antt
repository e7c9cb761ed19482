-- The report of a run, from what its clients have played and how its server ended.
use Rattle.std.proofs.Common.{◌≡◌, ℕ, zero, suc, ◌+◌, ◌-◌, List, [], ◌∷◌, length, map, Some, refl, sym, ap, subst, ◌∙◌, arith}
use Rattle.std.specs.Prelude.{slice_get}
use Rattle.std.proofs.lemmas.List.{length-map}
use Rattle.std.proofs.lemmas.Option.{slice_get_within}
use Rattle.host_block.specs.declared.range.Range.{Range}
use Rattle.host_report.specs.{IsPlayedBy, Plan, Report, SessionReport}
use Rattle.host_session.specs.{ClientState, SessionSpec}
use Rattle.host_worker.specs.{IsSessionEnd}
use Rattle.host_worker.proofs.Lists.{map_at, map_from}
use Rattle.script_model.specs.{PlannedSession}
use Rattle.script_played.specs.{PlaysPlans, asked_of}
use Rattle.host_play.specs.{HasPlayedSession, HasPlayedOut, spec_for, specs_from, IsReportOf}
use Rattle.host_play.proofs.Reversed.{some_same, zipped_at}
use Rattle.host_log.proofs.Places.{some_at}

-- ---- the specs of sessions

pub specs_length : (n : ℕ) (plans : List PlannedSession) (ranges : List Range) (size depth : ℕ) → length ranges ≡ length plans → length (specs_from n plans ranges size depth) ≡ length plans
specs_length n [] ranges size depth same = refl
specs_length n (plan ∷ plans) [] size depth same = absurd (omega arith)
specs_length n (plan ∷ plans) (range ∷ ranges) size depth same = ap suc (specs_length (n + 1) plans ranges size depth (omega arith))

-- the spec at a place is of the plan and the range there
pub spec_at : (n : ℕ) (plans : List PlannedSession) (ranges : List Range) (size depth k : ℕ) (plan : PlannedSession) (spec : SessionSpec) → slice_get plans k ≡ Some plan → slice_get (specs_from n plans ranges size depth) k ≡ Some spec
    → (range : Range) × (slice_get ranges k ≡ Some range) × (spec ≡ spec_for (n + k) plan range size depth)
spec_at n [] ranges size depth k plan spec here there = absurd (cc here)
spec_at n (p ∷ plans) [] size depth k plan spec here there = absurd (cc there)
spec_at n (p ∷ plans) (r ∷ ranges) size depth zero plan spec here there =
    let same : p ≡ plan = cc here in
    let is : spec_for n p r size depth ≡ spec = cc there in
    (r, refl, sym is ∙ ap (λ q. spec_for n q r size depth) same ∙ ap (λ m. spec_for m plan r size depth) (omega arith))
spec_at n (p ∷ plans) (r ∷ ranges) size depth (suc k) plan spec here there =
    let more = spec_at (n + 1) plans ranges size depth k plan spec here there in
    (more.0, more.1, more.2 ∙ ap (λ m. spec_for m plan more.0 size depth) (omega arith))

-- ---- places

same_places : {A : Type 0} (xs ys : List A) → length xs ≡ length ys → ((k : ℕ) (x y : A) → slice_get xs k ≡ Some x → slice_get ys k ≡ Some y → x ≡ y) → xs ≡ ys
same_places [] [] n h = refl
same_places [] (y ∷ ys) n h = absurd (omega arith)
same_places (x ∷ xs) [] n h = absurd (omega arith)
same_places {A} (x ∷ xs) (y ∷ ys) n h =
    ap (λ (a : A). a ∷ xs) (h 0 x y refl refl) ∙ ap (λ l. y ∷ l) (same_places xs ys (omega arith) (λ k a b at there. h (suc k) a b at there))

-- ---- one session

-- the session's report is that of the plan at its place
module _ (plans : List PlannedSession) (ranges : List Range) (report : Report) (workers depth : ℕ) (is : IsReportOf plans ranges workers depth report)
    (played : (k : ℕ) (client : ClientState) → slice_get is.clients k ≡ Some client → (before : ClientState) × HasPlayedSession plans before client) where
  clients_stand : (k : ℕ) (s : SessionReport) → slice_get report.sessions.items k ≡ Some s → (client : ClientState) × (slice_get is.clients k ≡ Some client)
  clients_stand k s at = some_at is.clients k (omega (arith, slice_get_within report.sessions.items k s at, ap (λ (l : List SessionReport). length l) is.gathered.sessions_are, is.ended.count))

  ended_so : (k : ℕ) (s : SessionReport) (at : slice_get report.sessions.items k ≡ Some s) → IsSessionEnd k (clients_stand k s at).0 is.hands s
  ended_so k s at = is.ended.each k (clients_stand k s at).0 s (clients_stand k s at).1 (ap (λ l. slice_get l k) (sym is.gathered.sessions_are) ∙ at)

  spec_stands : (k : ℕ) (s : SessionReport) (at : slice_get report.sessions.items k ≡ Some s) → slice_get (specs_from 1 plans ranges report.size depth) k ≡ Some (clients_stand k s at).0.plan.spec
  spec_stands k s at = ap (λ l. slice_get l k) (sym is.specs_are) ∙ map_at (λ (client : ClientState). client.plan.spec) is.clients k (clients_stand k s at).0 (clients_stand k s at).1

  played_by : (k : ℕ) (plan : PlannedSession) (s : SessionReport) → slice_get plans k ≡ Some plan → slice_get report.sessions.items k ≡ Some s → IsPlayedBy (asked_of plan) s
  played_by k plan s here at =
      let client = (clients_stand k s at).0 in
      let end = ended_so k s at in
      let before = played k client (clients_stand k s at).1 in
      let session = before.1 in
      let number : before.0.plan.spec.number - 1 ≡ k = omega (arith, end.number_is.1, ap (λ p. p.spec.number) session.same_plan) in
      let same : session.plan ≡ plan = some_same (sym session.stands ∙ ap (slice_get plans) number ∙ here) in
      let spec = spec_at 1 plans ranges report.size depth k plan client.plan.spec here (spec_stands k s at) in
      let log_is : s.log.items ≡ client.log = end.whole.log_is in
      let out : HasPlayedOut plan.finish plan.lines s.log.items =
      subst (λ l. HasPlayedOut plan.finish plan.lines l) (sym log_is) (subst (λ (p : PlannedSession). HasPlayedOut p.finish p.lines client.log) same session.played) in
      record {
        part = end.plan.0 ∙ ap (λ (sp : SessionSpec). sp.part_number) spec.2;
        finish = some_same (sym end.finish_is ∙ session.finish_is ∙ ap (λ (p : PlannedSession). Some p.finish) same);
        calls = out.calls;
        waits = out.waits;
      }

  count : length ranges ≡ length plans → length report.sessions.items ≡ length plans
  count same = ap (λ (l : List SessionReport). length l) is.gathered.sessions_are ∙ is.ended.count
      ∙ sym (length-map is.clients (λ (client : ClientState). client.plan.spec)) ∙ ap (λ (l : List SessionSpec). length l) is.specs_are
      ∙ specs_length 1 plans ranges report.size depth same

  plays_at : (k : ℕ) (asked : Plan) (s : SessionReport) → slice_get (map asked_of plans) k ≡ Some asked → slice_get report.sessions.items k ≡ Some s → IsPlayedBy asked s
  plays_at k asked s here at =
      let from = map_from asked_of plans k asked here in
      subst (λ (a : Plan). IsPlayedBy a s) (sym from.2) (played_by k from.0 s from.1 at)

  pub plays : length ranges ≡ length plans → PlaysPlans plans report
  plays same = zipped_at IsPlayedBy (map asked_of plans) report.sessions.items (count same ∙ sym (length-map plans asked_of)) plays_at

  range_at : (k : ℕ) (r range : Range) → length ranges ≡ length plans → slice_get (map (λ (s : SessionReport). s.range) report.sessions.items) k ≡ Some r → slice_get ranges k ≡ Some range → r ≡ range
  range_at k r range same at there =
      let from = map_from (λ (s : SessionReport). s.range) report.sessions.items k r at in
      let plan = some_at plans k (omega (arith, same, slice_get_within ranges k range there)) in
      let spec = spec_at 1 plans ranges report.size depth k plan.0 (clients_stand k from.0 from.1).0.plan.spec plan.1 (spec_stands k from.0 from.1) in
      from.2 ∙ (ended_so k from.0 from.1).plan.1 ∙ ap (λ (sp : SessionSpec). sp.part) spec.2 ∙ some_same (sym spec.1 ∙ there)

  pub ranges_are : length ranges ≡ length plans → map (λ (s : SessionReport). s.range) report.sessions.items ≡ ranges
  ranges_are same = same_places (map (λ (s : SessionReport). s.range) report.sessions.items) ranges (length-map report.sessions.items (λ (s : SessionReport). s.range) ∙ count same ∙ sym same) (λ k r range at there. range_at k r range same at there)
