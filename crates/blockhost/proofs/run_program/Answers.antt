use Rattle.std.proofs.Common.{refl}
use Rattle.blockhost.proofs.Ends.{from_fresh}
use Rattle.blockhost.proofs.run_program.Goals as goal

pub returns : goal.returns
returns g c =
    let made = c.new-disk.ensures in
    from_fresh _ _ _ _
    (record {
      source = c.new-script.ensures;
      sink = c.new-out.ensures;
      disk = made.counts;
      not_attached = made.not_attached;
      not_writable = made.not_writable;
      source_untold = refl;
      sink_untold = refl;
      disk_untold = refl;
    })
    c.run_words-ended.ensures
