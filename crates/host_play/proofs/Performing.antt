-- A server that is finished once all have played their parts, and the report of it.
use Rattle.std.proofs.Common.{◌≡◌, ℕ, ◌+◌, List, [], ◌∷◌, ◌++◌, suc, length, map, take, drop, Some, Vec, refl, sym, ap, subst, ◌∙◌, arith}
use Rattle.std.specs.declared.alloc.Global.{Global}
use Rattle.std.specs.Prelude.{slice_get}
use Rattle.std.proofs.lemmas.List.{length-map, length-reverse, take-append-le, take_all}
use Rattle.std.proofs.lemmas.List.FromFn.{length-range_with_len}
use mathlib.Core.List.{map-map}
use Rattle.host_block.specs.declared.range.Range.{Range}
use Rattle.host_io.specs.declared.disk.Disk as disk
use Rattle.host_model.specs.{below}
use Rattle.host_report.specs.{Report, SessionReport}
use Rattle.host_session.specs.{ClientState, SessionPlan as Fixed}
use Rattle.host_worker.specs.{Server, Session, AreEnded, EndsState, hand_end, IsReportGathered, IsServer, plan_of_session, specs_of}
use Rattle.script_model.specs.{PlannedSession}
use Rattle.script_played.specs.{PlaysPlans}
use Rattle.host_play.specs.{Actor, HasPlayedPart, AllHavePlayed, clients_in, hands_in, numbers_of, of_clients, specs_from, HasPerformed, IsReportOf}
use Rattle.host_play.proofs.Leaving.{are_hands, fixed_same, sessions_played}
use Rattle.host_play.proofs.Reporting.{plays, ranges_are}
use Rattle.host_play.proofs.Reversed.{zipped_length}

map_places : {A B : Type 0} (f h : A → B) (xs : List A) → ((k : ℕ) (x : A) → slice_get xs k ≡ Some x → f x ≡ h x) → map f xs ≡ map h xs
map_places f h [] same = refl
map_places {A} {B} f h (x ∷ xs) same = ap (λ (b : B). b ∷ map f xs) (same 0 x refl) ∙ ap (λ l. h x ∷ l) (map_places f h xs (λ k y at. same (suc k) y at))

-- ---- all that took part

-- all of a list that was lent
written_back : {A : Type 0} (n : ℕ) (old new : List A) → n ≡ length old → length new ≡ length old → take n (new ++ drop (length new) old) ≡ new
written_back n old new many same = take-append-le n new (drop (length new) old) (omega (arith, many, same)) ∙ take_all n new (omega (arith, many, same))

-- those of the stage played their parts
pub stage_played : {D : Type 0} {g : disk.Ghosts D} (server : Server D g) (plans : List PlannedSession) (actors : Vec (Actor D g) Global) (lent new : List (Actor D g)) → lent ≡ actors.items → AllHavePlayed server plans lent new
    → AllHavePlayed server plans actors.items new × (take actors.len (new ++ drop (length new) actors.items) ≡ new)
stage_played {D} {g} server plans actors lent new same z =
    let all : AllHavePlayed server plans actors.items new = subst (λ (l : List (Actor D g)). AllHavePlayed server plans l new) same z in
    (all, written_back actors.len actors.items new actors.ok.0 (zipped_length (HasPlayedPart server plans) actors.items new all))

module _ {D : Type 0} {g : disk.Ghosts D} (server : Server D g) (plans : List PlannedSession) (old new : List (Actor D g)) (z : AllHavePlayed server plans old new)
    (numbers : numbers_of old ≡ below server.hands) (clients : of_clients (λ client. client.plan) old ≡ map plan_of_session server.sessions.items) where
  -- as many as the server has hands, and as many clients as it has sessions
  pub all_count : length new ≡ server.hands
  all_count =
      zipped_length _ old new z ∙ sym (length-reverse (map (λ (actor : Actor D g). actor.hand.number) old) ∙ length-map old (λ (actor : Actor D g). actor.hand.number))
      ∙ ap (λ (l : List ℕ). length l) numbers ∙ length-range_with_len 0 server.hands

  pub client_count : length (clients_in new) ≡ length server.sessions.items
  client_count =
      sym (length-map (clients_in new) (λ (client : ClientState). client.plan)) ∙ ap (λ (l : List Fixed). length l) (fixed_same server plans old new z ∙ clients)
      ∙ length-map server.sessions.items plan_of_session

  pub performed : (ends : EndsState) → AreEnded (clients_in new) (map hand_end (hands_in new)) ends → HasPerformed plans server ends
  performed ends ended = record {
    clients = clients_in new;
    hands = map hand_end (hands_in new);
    ended = ended;
    plans_are = fixed_same server plans old new z ∙ clients;
    hand_count = length-map (hands_in new) hand_end ∙ (are_hands server plans old new z numbers).count;
    played = sessions_played server plans old new z;
  }

-- ---- the report

module _ {D : Type 0} {g : disk.Ghosts D} (server : Server D g) (running : IsServer server) (plans : List PlannedSession) (ranges : List Range) (workers depth : ℕ) (report : Report) (ends : EndsState)
    (h : HasPerformed plans server ends) (gathered : IsReportGathered ends report) (specs : specs_of server.sessions.items ≡ specs_from 1 plans ranges report.size depth) (hands : server.hands ≡ workers + length plans) where
  client_specs : map (λ (client : ClientState). client.plan.spec) h.clients ≡ specs_from 1 plans ranges report.size depth
  client_specs =
      sym (map-map (λ (p : Fixed). p.spec) (λ (client : ClientState). client.plan) h.clients) ∙ ap (map (λ (p : Fixed). p.spec)) h.plans_are
      ∙ map-map (λ (p : Fixed). p.spec) plan_of_session server.sessions.items
      ∙ map_places (λ (s : Session). (plan_of_session s).spec) (λ (s : Session). s.spec) server.sessions.items (λ k s at. (running.sessions k s at).spec)
      ∙ specs

  is_report : IsReportOf plans ranges workers depth report
  is_report = record {
    clients = h.clients;
    hands = h.hands;
    ends = ends;
    ended = h.ended;
    gathered = gathered;
    specs_are = client_specs;
    hand_count = h.hand_count ∙ hands;
  }

  -- it plays the script, on the ranges that were handed in
  pub told : length ranges ≡ length plans → IsReportOf plans ranges workers depth report × PlaysPlans plans report × (map (λ (s : SessionReport). s.range) report.sessions.items ≡ ranges)
  unfolding is_report
  told same = (is_report, plays plans ranges report workers depth is_report h.played same, ranges_are plans ranges report workers depth is_report h.played same)
