use Rattle.std.proofs.Common.{◌≡◌, ◌∙◌, ℕ, ◌+◌, ◌≤◌, List, ap, arith, map, subst, sym}
use Rattle.std.specs.Prelude.{All, IfOk}
use Rattle.host_block.specs.declared.range.Range.{Range}
use Rattle.host_model.specs.{changes_of}
use Rattle.host_play.specs.{IsReportOf, KeepsImage}
use Rattle.host_start.specs.{Place}
use Rattle.play_law.proofs.Runs.{played_runs_are_laid_out, played_runs_are_sound}
use Rattle.play_law.specs.{IsLaidOut, IsSound, IsLawfulOnAnyDisk}
use Rattle.script_model.specs.{plans_of}
use Rattle.play_law.proofs.Reports.{gathered_runs_are_lawful}
use Rattle.host_run.proofs.Starts.{on_one, on_three, on_two, ranges_inside}
use Rattle.host_run.proofs.play_start.play_start.Goals as goal

pub play-requires-clause-inside : goal.play-requires-clause-inside
play-requires-clause-inside g c κs within =
    let start = c.args.start.now in
    let same : c.deref.result.now ≡ map (λ (p : Place). p.range) start.places.items = c.deref.ensures.value ∙ (c.in-Ok.ensures ∙ ap (map (λ (p : Place). p.range)) c.as_slice.ensures.value) in
    subst (All (λ (r : Range). r.first + r.count ≤ start.blocks)) (sym same) (ranges_inside start.blocks start.places.items start.inside)

pub returns-clause-sound : goal.returns-clause-sound
returns-clause-sound g c = λ image placed durable told.
    let start = c.args.start.now in
    let ranges : List Range = map (λ (p : Place). p.range) start.places.items in
    let same : c.deref.result.now ≡ ranges = c.deref.ensures.value ∙ (c.in-Ok.ensures ∙ ap (map (λ (p : Place). p.range)) c.as_slice.ensures.value) in
    let workers = c.args.setting.workers in
    let depth = c.args.setting.depth in
    on_three c.play.result
    (λ run. IsReportOf (plans_of start.script) ranges workers depth run.report)
    (λ run. (run.report.blocks ≡ start.blocks) × (run.report.size ≡ start.size) × (run.report.which ≡ start.which))
    (λ run. KeepsImage image start.blocks start.size (changes_of run.report.steps.items) (g.D.Disk.state run.disk))
    (λ run. IsSound image run.report (g.D.Disk.state run.disk))
    (λ run of shown keeps. played_runs_are_sound image start workers depth run.report (g.D.Disk.state run.disk)
    (record { placed = placed; blocks_are = shown.0; size_is = shown.1; which_is = shown.2; report_of = of; keeps = keeps }))
    (subst (λ (l : List Range). IfOk c.play.result (λ run. IsReportOf (plans_of start.script) l workers depth run.report)) same c.play.ensures.report)
    c.play.ensures.image
    (subst (λ (i : List (List ℕ)). IfOk c.play.result (λ run. KeepsImage i start.blocks start.size (changes_of run.report.steps.items) (g.D.Disk.state run.disk))) durable (c.play.ensures.told told))

pub returns-clause-lawful : goal.returns-clause-lawful
returns-clause-lawful g c =
    let setting = c.args.setting in
    on_one c.play.result
    (λ run. IsReportOf (plans_of c.args.start.now.script) c.deref.result.now setting.workers setting.depth run.report)
    (λ run. IsLawfulOnAnyDisk run.report)
    (λ run of. gathered_runs_are_lawful of.ends run.report of.gathered)
    c.play.ensures.report

pub returns-clause-laid_out : goal.returns-clause-laid_out
returns-clause-laid_out g c = λ tells image placed.
    let start = c.args.start.now in
    let ranges : List Range = map (λ (p : Place). p.range) start.places.items in
    let same : c.deref.result.now ≡ ranges = c.deref.ensures.value ∙ (c.in-Ok.ensures ∙ ap (map (λ (p : Place). p.range)) c.as_slice.ensures.value) in
    let workers = c.args.setting.workers in
    let depth = c.args.setting.depth in
    on_two c.play.result
    (λ run. IsReportOf (plans_of start.script) ranges workers depth run.report)
    (λ run. (run.report.blocks ≡ start.blocks) × (run.report.size ≡ start.size) × (run.report.which ≡ start.which))
    (λ run. IsLaidOut run.report)
    (λ run of shown. played_runs_are_laid_out tells image start workers depth run.report placed shown.0 of)
    (subst (λ (l : List Range). IfOk c.play.result (λ run. IsReportOf (plans_of start.script) l workers depth run.report)) same c.play.ensures.report)
    c.play.ensures.image

pub returns-clause-few : goal.returns-clause-few
returns-clause-few g c =
    let start = c.args.start.now in
    on_one c.play.result
    (λ run. (run.report.blocks ≡ start.blocks) × (run.report.size ≡ start.size) × (run.report.which ≡ start.which))
    (λ run. run.report.blocks ≤ 262144)
    (λ run shown. let same = shown.0 in let few = start.few_blocks in omega (arith, same, few))
    c.play.ensures.image

pub returns-clause-blocks : goal.returns-clause-blocks
returns-clause-blocks g c =
    let start = c.args.start.now in
    on_one c.play.result
    (λ run. (run.report.blocks ≡ start.blocks) × (run.report.size ≡ start.size) × (run.report.which ≡ start.which))
    (λ run. run.report.blocks ≡ start.blocks)
    (λ run shown. shown.0)
    c.play.ensures.image
