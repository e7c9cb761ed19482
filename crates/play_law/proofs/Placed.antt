-- The sessions of a run are on the partitions that its start found.
use Rattle.std.proofs.Common.{◌≡◌, Bool, ℕ, zero, suc, ◌+◌, List, [], ◌∷◌, length, map, true, Option, Some, refl, sym, ap, subst, ◌∙◌, arith}
use Rattle.std.specs.Prelude.{unwrap_or}
use Rattle.std.specs.List.{slice_get}
use Rattle.host_block.specs.declared.range.Range.{Range}
use Rattle.host_block.proofs.Places.{in_map, within}
use Rattle.host_gpt.specs.{IsTable}
use Rattle.host_part.specs.{IsRangeOf}
use Rattle.host_report.specs.{Report, SessionReport, IsOnTable}
use Rattle.host_session.specs.{SessionSpec, ClientState}
use Rattle.host_start.specs.{Place, Start, IsLayoutOn, IsPlaced, parts_of}
use Rattle.script_model.specs.{PlannedSession, plans_of}
use Rattle.host_play.specs.{spec_for, specs_from, IsReportOf}
use Rattle.session_law.proofs.Finding.{from_map}
use Rattle.session_law.proofs.Places.{only_at}
use Rattle.host_log.proofs.Places.{some_at}
use Rattle.session_law.proofs.Whole.{all_one}
use Rattle.play_law.proofs.Shares.{all_by}
use Rattle.play_law.specs.{IsLaidOut}

-- spec k is that of plan k on range k
pub record IsSpecOf (plans : List PlannedSession) (ranges : List Range) (size depth n k : ℕ) (spec : SessionSpec) : Type 0 where
  pub plan : PlannedSession
  pub range : Range
  pub planned : slice_get plans k ≡ Some plan
  pub ranged : slice_get ranges k ≡ Some range
  pub part_is : spec.part_number ≡ plan.part
  pub range_is : spec.part ≡ range

spec_at : (plans : List PlannedSession) (ranges : List Range) (size depth n k : ℕ) (spec : SessionSpec) → slice_get (specs_from n plans ranges size depth) k ≡ Some spec → IsSpecOf plans ranges size depth n k spec
spec_at [] ranges size depth n zero spec at = absurd (cc)
spec_at [] ranges size depth n (suc k) spec at = absurd (cc)
spec_at (plan ∷ plans) [] size depth n zero spec at = absurd (cc)
spec_at (plan ∷ plans) [] size depth n (suc k) spec at = absurd (cc)
spec_at (plan ∷ plans) (range ∷ ranges) size depth n zero spec at =
    let same : spec_for n plan range size depth ≡ spec = ap (λ (o : Option SessionSpec). unwrap_or o spec) at in
    record { plan = plan; range = range; planned = refl; ranged = refl; part_is = ap (λ (x : SessionSpec). x.part_number) (sym same); range_is = ap (λ (x : SessionSpec). x.part) (sym same) }
spec_at (plan ∷ plans) (range ∷ ranges) size depth n (suc k) spec at =
    let r = spec_at plans ranges size depth (n + 1) k spec at in
    record { plan = r.plan; range = r.range; planned = r.planned; ranged = r.ranged; part_is = r.part_is; range_is = r.range_is }

module _ (tells : Bool) (image : List (List ℕ)) (start : Start) (workers depth : ℕ) (report : Report) (placed : IsPlaced tells image start)
    (run : IsReportOf (plans_of start.script) (map (λ (place : Place). place.range) start.places.items) workers depth report) where
  its_range : (k : ℕ) (e : SessionReport) → slice_get report.sessions.items k ≡ Some e → IsRangeOf placed.layout e.part e.range
  its_range k e at =
      let g = run.gathered in
      let s : slice_get run.ends.sessions k ≡ Some e = ap (λ l. slice_get l k) (sym g.sessions_are) ∙ at in
      let c = some_at run.clients k (let w = within run.ends.sessions k e s in let n = run.ended.count in omega (arith, w, n)) in
      let end = run.ended.each k c.0 e c.1 s in
      let spec = spec_at (plans_of start.script) (map (λ (place : Place). place.range) start.places.items) report.size depth 1 k c.0.plan.spec
      (ap (λ l. slice_get l k) (sym run.specs_are) ∙ in_map (λ (client : ClientState). client.plan.spec) run.clients k c.0 c.1) in
      let place = from_map (λ (p : Place). p.range) start.places.items k spec.range spec.ranged in
      let named : slice_get (parts_of (plans_of start.script)) k ≡ Some place.0.part = ap (λ l. slice_get l k) (sym placed.places.named) ∙ in_map (λ (p : Place). p.part) start.places.items k place.0 place.1 in
      let planned : slice_get (parts_of (plans_of start.script)) k ≡ Some spec.plan.part = in_map (λ (p : PlannedSession). p.part) (plans_of start.script) k spec.plan spec.planned in
      let part : place.0.part ≡ e.part = only_at (parts_of (plans_of start.script)) k place.0.part spec.plan.part named planned ∙ (sym spec.part_is ∙ sym end.plan.0) in
      let range : place.0.range ≡ e.range = place.2 ∙ (sym spec.range_is ∙ sym end.plan.1) in
      let is : IsRangeOf placed.layout place.0.part place.0.range = all_one (λ (p : Place). IsRangeOf placed.layout p.part p.range) start.places.items placed.places.ranges k place.0 place.1 in
      subst (λ (r : Range). IsRangeOf placed.layout e.part r) range (subst (λ (n : ℕ). IsRangeOf placed.layout n place.0.range) part is)

  pub laid_out : report.blocks ≡ start.blocks → IsLaidOut report
  laid_out blocks = record {
    layout = placed.layout;
    blocks = placed.blocks ∙ sym blocks;
    used = placed.used;
    ranges = all_by (λ (s : SessionReport). IsRangeOf placed.layout s.part s.range) report.sessions.items its_range;
  }

module _ (image : List (List ℕ)) (start : Start) (workers depth : ℕ) (report : Report) (placed : IsPlaced true image start)
    (run : IsReportOf (plans_of start.script) (map (λ (place : Place). place.range) start.places.items) workers depth report) where
  on_image : IsLayoutOn image start.which placed.layout
  on_image = placed.on_image refl

  pub on_table : report.which ≡ start.which → IsOnTable image report
  on_table which = record {
    disk_id = on_image.disk_id;
    first_usable = placed.layout.first_usable;
    last_usable = placed.layout.last_usable;
    entries = placed.layout.entries;
    table = subst (λ w. IsTable image w on_image.disk_id placed.layout.first_usable placed.layout.last_usable placed.layout.entries) (sym which) on_image.table;
    ranges = all_by (λ (s : SessionReport). IsRangeOf (record { first_usable = placed.layout.first_usable; last_usable = placed.layout.last_usable; blocks = length image; entries = placed.layout.entries }) s.part s.range) report.sessions.items
        (λ k e at. subst (λ (b : ℕ). IsRangeOf (record { first_usable = placed.layout.first_usable; last_usable = placed.layout.last_usable; blocks = b; entries = placed.layout.entries }) e.part e.range) on_image.blocks (its_range true image start workers depth report placed run k e at));
  }
