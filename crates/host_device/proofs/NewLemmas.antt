-- A device with no entry yet.
use Rattle.std.proofs.Common.{◌≡◌, ⊎_elim, ℕ, Some, None, Option, List, [], refl, sym, ◌∙◌, ap, subst, arith}
use Rattle.std.specs.Prelude.{Contains}
use Rattle.host_block.specs.{DiskState, block_at, overwritten, Change, IsLegal, IsVersion, Keeps}
use Rattle.host_io.specs.declared.disk.Disk as disk
use Rattle.host_cache.specs.Held.{Held}
use Rattle.host_cache.specs.{cached, disk_of, held_of, Cache}
use Rattle.host_device.proofs.StepLemmas.{Told}

legal_none : (image : List (List ℕ)) → IsLegal image []
legal_none image p c at reads = let wrong : ◌≡◌ {A = Option Change} None (Some c) = at in cc

keeps_none : (s : DiskState) → s.pending ≡ [] → Keeps s.durable [] s
keeps_none s none = record {
  blocks = refl;
  each = λ b bytes within candidate. ⊎_elim
      (λ (is : bytes ≡ block_at s.durable b). let v : IsVersion s.durable [] b bytes = record { place = 0; after_barrier = omega arith; within = omega arith; is = is } in v)
      (λ (there : Contains s.pending (b, bytes)). absurd (omega (arith, (subst (λ (ws : List (ℕ × List ℕ)). Contains ws (b, bytes)) none there).1))) candidate;
}

pub told_new : {D : Type 0} {g : disk.Ghosts D} (opening : D) (cache : Cache D g) → opening ≡ disk_of cache → held_of cache ≡ record { lines = []; victim = None } → (g.state (disk_of cache)).pending ≡ [] → Told (g.state opening).durable [] cache
told_new {D} {g} opening cache is empty none =
    let s = g.state (disk_of cache) in
    subst (λ (d : D). Told (g.state d).durable [] cache) (sym is) (record {
      legal = legal_none s.durable;
      current = record { each = λ b below. ap (λ (h : Held). cached h s b) empty ∙ ap (λ (ws : List (ℕ × List ℕ)). overwritten ws b (block_at s.durable b)) none };
      keeps = keeps_none s none;
    })
