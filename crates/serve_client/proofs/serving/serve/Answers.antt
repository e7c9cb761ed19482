use Rattle.std.proofs.Common.{◌≡◌, Bool, ◌&&◌, sym, ap, ap₂, subst, ◌∙◌, append-nil}
use Rattle.host_device.specs.{DeviceFixed, fixed_of, steps_of}
use Rattle.serve_client.proofs.Outcomes.{all_sent, and_same, faults_shown, keeps_image}
use Rattle.serve_client.proofs.serving.serve.Goals as goal

pub gather-report-requires-clause-story : goal.gather-report-requires-clause-story
gather-report-requires-clause-story g c = sym c.attend-finished.ensures.story.0 ∙ sym (append-nil c.attend-finished.result.0.ends.story)

pub gather-report-requires-clause-size : goal.gather-report-requires-clause-size
gather-report-requires-clause-size g c =
    let fixed = c.attend-finished.ensures.device ∙ ap fixed_of c.in_ok-begun.ensures.opening in
    sym c.requires.device.1 ∙ (sym (ap (λ (f : DeviceFixed g.row.D.Denot). f.size) fixed) ∙ sym c.attend-finished.ensures.story.1)

pub returns : goal.returns
returns g c =
    let a = c.attend-finished.ensures in
    let r = c.gather-report.ensures in
    let left = c.attend-finished.result.0.device in
    let ends = c.attend-finished.result.0.ends in
    let fixed = a.device ∙ ap fixed_of c.in_ok-begun.ensures.opening in
    let kept : (steps_of left).kept ≡ (steps_of c.args.device).kept = ap (λ (f : DeviceFixed g.row.D.Denot). f.keeps) fixed in
    let keeps : ends.keeps ≡ (steps_of c.args.device).kept = a.keeps ∙ ap (λ d. (steps_of d).kept) c.in_ok-begun.ensures.opening in
    record {
      ends = ends;
      gathered = r.gathered;
      lawful = c.gathered_runs_are_lawful.ensures ends _ r.gathered;
      one = a.attended.ended.count;
      sent_are = all_sent ends c.attend-finished.result.1 a.attended;
      told = keeps_image c.args.device left fixed r.shape c.args.load.now.blocks c.args.load.now.size ends.story c.gather-report.result.1 c.requires.device.2 c.requires.device.1 a.story.0 r.disk r.told;
      faults = faults_shown c.args.device left fixed r.shape ends.story c.gather-report.result.1 a.story.0 r.disk r.faults;
      made = r.kept ∙ (ap₂ (λ (x y : Bool). x && y) keeps kept ∙ and_same (steps_of c.args.device).kept);
      says = r.report;
    }
