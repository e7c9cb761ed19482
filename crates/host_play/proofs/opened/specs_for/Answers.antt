use Rattle.std.proofs.Common.{◌≡◌, ◌∷◌, [], ◌++◌, List, length, map, take, sym, ap, ◌∙◌, arith}
use Rattle.std.proofs.lemmas.List.{length-map}
use Rattle.host_session.specs.{SessionSpec}
use Rattle.script_model.specs.{SessionScript, plan_of}
use Rattle.host_play.specs.{specs_from}
use Rattle.host_play.proofs.Preparing.{next_spec, spec_count}
use Rattle.host_play.proofs.opened.specs_for.Goals as goal

pub push_reserved-requires : goal.push_reserved-requires
push_reserved-requires c =
    let same : length c.args.ranges.now ≡ length c.as_slice-sessions.result.now = c.requires.ranges ∙ length-map c.args.script.now.sessions.items plan_of ∙ ap (λ (l : List SessionScript). length l) (sym c.as_slice-sessions.ensures) in
    let n = ap (λ (l : List SessionSpec). length l) c.loop-k.invariant.0 ∙ spec_count 1 c.as_slice-sessions.result.now c.args.ranges.now c.args.size c.args.depth c.loop-k.k same (omega (arith, c.loop-k-test.true)) in
    omega (arith, n, c.loop-k.specs.ok.0, c.loop-k.invariant.1, c.loop-k-test.true)

pub loop-k-preserved : goal.loop-k-preserved
loop-k-preserved c =
    let sessions : List SessionScript = c.as_slice-sessions.result.now in
    let same : length c.args.ranges.now ≡ length sessions = c.requires.ranges ∙ length-map c.args.script.now.sessions.items plan_of ∙ ap (λ (l : List SessionScript). length l) (sym c.as_slice-sessions.ensures) in (
      c.push_reserved.ensures.items ∙ ap (λ (l : List SessionSpec). l ++ c.spec_for.result ∷ []) c.loop-k.invariant.0
          ∙ ap (λ (s : SessionSpec). specs_from 1 (map plan_of (take c.loop-k.k sessions)) (take c.loop-k.k c.args.ranges.now) c.args.size c.args.depth ++ s ∷ []) c.spec_for.ensures
          ∙ sym (next_spec sessions c.args.ranges.now c.args.size c.args.depth c.loop-k.k c.index-sessions-k.result _ same c.loop-k-test.true c.index-sessions-k.is),
      omega (arith, c.loop-k.invariant.1, c.push_reserved.ensures.capacity),
    )
