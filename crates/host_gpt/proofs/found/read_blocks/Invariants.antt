use Rattle.std.proofs.Common.{◌≡◌, ◌*◌, IsTrue, take, drop, vec_len}
use Rattle.std.specs.List.{flat_map}
use Rattle.host_gpt.specs.{current_image}
use Rattle.host_io.specs.{OnlyReads}
use Rattle.host_gpt.proofs.found.read_blocks.Given as goal

abbrev pub invariant-loop-k : goal.invariant-loop-k
invariant-loop-k g l =
    let D = g.D.Disk in
    record {
      shape : D.shape l.disk ≡ D.shape l.initial.disk;
      state : D.state l.disk ≡ D.state l.initial.disk;
      opening : D.opening l.disk ≡ D.opening l.initial.disk;
      counts : OnlyReads (D.counts l.initial.disk) (D.counts l.disk) (D.never_fails l.initial.disk) (D.never_fails l.disk);
      len : vec_len l.all ≡ l.k * (D.shape l.initial.disk).size;
      read : IsTrue (D.shape l.initial.disk).tells → l.all.items ≡ flat_map (λ b. b) (take l.k (drop l.first (current_image (D.state l.initial.disk))));
    }
