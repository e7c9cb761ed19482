use Rattle.std.proofs.Common.{◌∙◌, ap, map}
use Rattle.host_start.specs.{Place}
use Rattle.play_client.proofs.Beginning.{inside}
use Rattle.play_client.proofs.run.run_text.Goals as goal

pub play-requires-clause-inside : goal.play-requires-clause-inside
play-requires-clause-inside g c κs within =
    let are = c.deref-2.ensures.value ∙ c.in-Ok.ensures ∙ ap (map (λ (p : Place). p.range)) c.deref.ensures.value in
    inside c.in_ok-start.start.places.items c.deref-2.result.now _ _ are c.in_ok-ground.ensures.count c.in_ok-start.start.inside
