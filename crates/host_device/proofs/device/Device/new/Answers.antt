use Rattle.std.proofs.Common.{IsTrue, List, ap, sym, ◌∙◌, subst, arith}
use Rattle.host_cache.specs.{shape_of}
use Rattle.host_model.specs.{Step, changes_of}
use Rattle.host_device.specs.{RoseBy, faulted_count}
use Rattle.host_device.proofs.NewLemmas.{told_new}
use Rattle.host_device.proofs.StepLemmas.{Told}
use Rattle.host_device.proofs.device.Device.new.Goals as goal

pub invariant_of-result : goal.invariant_of-result
invariant_of-result g c =
    let D = g.D.Disk in
    let cache = c.args.cache in
    let opening = c.of-opening.result.value in
    let is = c.of-opening.ensures ∙ c.disk.ensures in
    let told = λ (t : IsTrue (shape_of cache).tells). subst (λ (steps : List Step). Told (D.state opening).durable (changes_of steps) cache) (sym c.in-Ok.ensures.empty) (told_new opening cache is c.requires.empty (c.requires.settled t)) in
    record {
      same_shape = sym (ap D.shape is);
      same_opening = sym (ap D.opening is);
      legal = λ t. (told t).legal;
      current = λ t. (told t).current;
      kept = λ t. ∣ (told t).keeps ∣₁;
      faults =
          subst (λ (steps : List Step). RoseBy (faulted_count steps) (D.counts opening).faults (D.counts cache.disk).faults) (sym c.in-Ok.ensures.empty)
          (let same = ap (λ d. (D.counts d).faults) is in omega (arith, same));
      unfailing = λ never. (subst (λ d. IsTrue (D.never_fails d)) is never, sym (ap (λ d. (D.counts d).faults) is));
    }
