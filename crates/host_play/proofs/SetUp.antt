-- What a run stands on, from what was taken and started.
use Rattle.std.proofs.Common.{◌≡◌, ℕ, ◌+◌, ◌^◌, ◌<◌, ◌≤◌, true, List, length, map, All, Some, sym, ap, subst, ◌∙◌, arith, vec_capacity}
use Rattle.std.specs.Prelude.{slice_get}
use Rattle.std.proofs.lemmas.List.{length-map, length-reverse}
use Rattle.std.proofs.lemmas.List.FromFn.{length-range_with_len}
use Rattle.std.proofs.lemmas.Option.{slice_get_within}
use Rattle.host_block.specs.declared.range.Range.{Range}
use Rattle.host_device.specs.{Device}
use Rattle.host_device.specs.Seen as device
use Rattle.host_io.specs.declared.disk.Disk as disk
use Rattle.host_model.specs.{below}
use Rattle.host_session.specs.{SessionSpec}
use Rattle.host_worker.specs.{Session, session_count, AreSpecs, IsPlanned}
use Rattle.host_worker.proofs.Lists.{at_place, each_place}
use Rattle.script_model.specs.{PlannedSession}
use Rattle.script_played.specs.{steps_ahead}
use Rattle.host_play.specs.{Actor, Setting, Props, Stage, numbers_of, spec_for, specs_from, AreProps, IsSet, IsStaged}
use Rattle.host_play.proofs.Reporting.{spec_at, specs_length}
use Rattle.host_log.proofs.Places.{some_at}

-- ---- the specs of sessions on ranges of so many blocks

module _ (plans : List PlannedSession) (ranges : List Range) (size depth blocks : ℕ) (same : length ranges ≡ length plans) where
  -- the spec at a place is that of a range
  placed : (k : ℕ) (spec : SessionSpec) → slice_get (specs_from 1 plans ranges size depth) k ≡ Some spec → (plan : PlannedSession) × (range : Range) × (slice_get ranges k ≡ Some range) × (spec ≡ spec_for (1 + k) plan range size depth)
  placed k spec at =
      let plan = some_at plans k (omega (arith, slice_get_within (specs_from 1 plans ranges size depth) k spec at, specs_length 1 plans ranges size depth same)) in
      let found = spec_at 1 plans ranges size depth k plan.0 spec plan.1 at in
      (plan.0, found.0, found.1, found.2)

  pub are_specs : length plans ≤ 16 → All (λ range. range.first + range.count ≤ blocks) ranges → blocks < 2 ^ 64 → (1 ≤ depth) × (depth ≤ 128) → AreSpecs true blocks size (specs_from 1 plans ranges size depth)
  are_specs few inside word deep = record {
    few = omega (arith, few, specs_length 1 plans ranges size depth same);
    numbers = λ k spec at. let number : spec.number ≡ 1 + k = ap (λ (s : SessionSpec). s.number) (placed k spec at).3 in omega (arith, number);
    planned = each_place (IsPlanned size) (specs_from 1 plans ranges size depth) (λ k spec at.
        let is = (placed k spec at).3 in
        record {
          depth = subst (λ (n : ℕ). (1 ≤ n) × (n ≤ 128)) (sym (ap (λ (s : SessionSpec). s.depth) is)) deep;
          size_is = ap (λ (s : SessionSpec). s.size) is;
        });
    kept = each_place (λ (spec : SessionSpec). spec.keeps ≡ true) (specs_from 1 plans ranges size depth) (λ k spec at. ap (λ (s : SessionSpec). s.keeps) (placed k spec at).3);
    parts = each_place (λ (spec : SessionSpec). (spec.part.first + spec.part.count ≤ blocks) × (spec.part.first + spec.part.count < 2 ^ 64)) (specs_from 1 plans ranges size depth) (λ k spec at.
        let p = placed k spec at in
        let fits : p.1.first + p.1.count ≤ blocks = at_place (λ (r : Range). r.first + r.count ≤ blocks) ranges k p.1 inside p.2 in
        subst (λ (r : Range). (r.first + r.count ≤ blocks) × (r.first + r.count < 2 ^ 64)) (sym (ap (λ (s : SessionSpec). s.part) p.3)) (fits, omega (arith, fits, word)));
  }

-- ---- the stage

module _ {D : Type 0} {g : disk.Ghosts D} where
  -- as many as their numbers
  pub as_many : (n : ℕ) (actors : List (Actor D g)) → numbers_of actors ≡ below n → length actors ≡ n
  as_many n actors numbers =
      sym (length-reverse (map (λ (actor : Actor D g). actor.hand.number) actors) ∙ length-map actors (λ (actor : Actor D g). actor.hand.number))
      ∙ ap (λ (l : List ℕ). length l) numbers ∙ length-range_with_len 0 n

  pub is_set : (opened : D) (plans : List PlannedSession) (ranges : List Range) (size : ℕ) (setting : Setting) (made : Device D g) (props : Props D g) (hands : ℕ) (stage : Stage D g)
      → IsStaged made props hands stage → device.opening_of made ≡ opened → (device.shape_of made).size ≡ size → (device.steps_of made).kept ≡ true → (device.steps_of made).room ≡ steps_ahead plans → hands ≡ setting.workers + length plans → length ranges ≡ length plans → AreProps plans (specs_from 1 plans ranges size setting.depth) size hands props
      → IsSet opened plans ranges size setting stage
  is_set opened plans ranges size setting made props hands stage st opening size_is keeps room hands_are same pr =
      let specs : length props.specs.items ≡ length plans = ap (λ (l : List SessionSpec). length l) pr.specs_are ∙ specs_length 1 plans ranges size setting.depth same in
      record {
        server = st.server;
        opening = ap device.opening_of st.opening ∙ opening;
        block_size = ap (λ (d : Device D g). (device.shape_of d).size) st.opening ∙ size_is;
        keeps = ap (λ (d : Device D g). (device.steps_of d).kept) st.opening ∙ keeps;
        steps_room = ap (λ (d : Device D g). (device.steps_of d).room) st.opening ∙ room;
        hand_count = st.hand_count ∙ hands_are;
        specs_are = st.specs_are ∙ pr.specs_are;
        numbers = subst (λ (n : ℕ). numbers_of stage.actors.items ≡ below n) hands_are st.numbers;
        clients = st.clients;
        cast = st.cast plans ranges size setting.depth same pr.specs_are pr.pieces_are;
        clients_room =
            let fits = ap vec_capacity st.room.0 in
            (ap (λ v. v.items) st.room.0 ∙ pr.room.clients.0, omega (arith, fits, pr.room.clients.1, specs));
        hands_room =
            let fits = ap vec_capacity st.room.1 in
            (ap (λ v. v.items) st.room.1 ∙ pr.room.hands_fit.0, omega (arith, fits, pr.room.hands_fit.1, hands_are));
      }

  -- as many sessions as plans
  pub sessions_set : (opened : D) (plans : List PlannedSession) (ranges : List Range) (size : ℕ) (setting : Setting) (stage : Stage D g) → length ranges ≡ length plans → IsSet opened plans ranges size setting stage → session_count stage.server ≡ length plans
  sessions_set opened plans ranges size setting stage same set =
      sym (length-map stage.server.sessions.items (λ (s : Session). s.spec)) ∙ ap (λ (l : List SessionSpec). length l) set.specs_are ∙ specs_length 1 plans ranges size setting.depth same
