use Rattle.std.proofs.Common.{◌≡◌, ◌*◌, IsTrue, length}
use Rattle.host_io.specs.{bytes_of, OnlyReads}
use Rattle.host_io.proofs.copy.read_blocks.Given as goal

abbrev pub invariant-loop-b : goal.invariant-loop-b
invariant-loop-b g l =
    let D = g.D.Disk in
    record {
      shape : D.shape l.disk ≡ D.shape l.initial.disk;
      state : D.state l.disk ≡ D.state l.initial.disk;
      opening : D.opening l.disk ≡ D.opening l.initial.disk;
      counts : OnlyReads (D.counts l.initial.disk) (D.counts l.disk) (D.never_fails l.initial.disk) (D.never_fails l.disk);
      long : length l.all.items ≡ l.b * (D.shape l.initial.disk).size;
      read : IsTrue (D.shape l.initial.disk).tells → l.all.items ≡ bytes_of (D.state l.initial.disk) l.b;
    }
