use Rattle.std.proofs.Common.{sym, ◌∙◌, ap, length}
use Rattle.host_block.proofs.DiskLemmas.{length-read_of}
use Rattle.host_io.specs.{cut_of_size}
use Rattle.host_io.proofs.FlatLemmas.{flat_state, read_state}
use Rattle.host_io.proofs.mem_disk.MemDiskDisk.read_block.Goals as goal

pub copy_from_slice-requires : goal.copy_from_slice-requires
copy_from_slice-requires c =
    let d = c.args.self.now in
    let got = read_state d.size d.blocks c.args.b d.bytes.items c.deref-2.result.now c.latest.result.now d.waiting.items c.deref-3.result.now c.requires.block c.deref-2.ensures.value c.deref-3.ensures.value c.latest.ensures in
    c.requires.piece ∙ sym (ap length got ∙ length-read_of d.blocks d.size (flat_state d.size d.blocks d.bytes.items d.waiting.items) c.args.b (cut_of_size d.blocks d.size d.bytes.items d.waiting.items d.whole d.fitting) c.requires.block)

pub returns-clause-bytes : goal.returns-clause-bytes
returns-clause-bytes c told =
    let d = c.args.self.now in
    let got = read_state d.size d.blocks c.args.b d.bytes.items c.deref-2.result.now c.latest.result.now d.waiting.items c.deref-3.result.now c.requires.block c.deref-2.ensures.value c.deref-3.ensures.value c.latest.ensures in
    c.copy_from_slice.ensures.after ∙ got
