use Rattle.std.proofs.Common.{◌≡◌, ◌/◌, List, length, sym, ◌∙◌, ap, refl}
use Rattle.host_block.specs.{DiskState}
use Rattle.host_io.specs.{put_all, length-cut, pairs_of}
use Rattle.host_io.specs.declared.flat.Waiting.{Waiting}
use Rattle.host_io.proofs.FlatLemmas.{attached_state}
use Rattle.host_io.proofs.mem_disk.MemDiskDisk.attach_image.Goals as goal

pub returns-clause-attaches : goal.returns-clause-attaches
returns-clause-attaches c =
    let d = c.args.self.now in
    let present : c.settle.new.bytes.items ≡ put_all d.size d.bytes.items (pairs_of d.waiting.items) =
    c.settle.ensures.settled ∙ ap (λ (ws : List Waiting). put_all d.size d.bytes.items (pairs_of ws)) c.deref-2.ensures.value in
    let state = attached_state c.args.size c.bytes.result c.len.result (put_all d.size d.bytes.items (pairs_of d.waiting.items)) c.settle.new.bytes.items c.clear.new.self.items c.bytes.ensures.value (c.len.ensures ∙ c.settle.new.bytes.ok.0) present c.clear.ensures.items in
    record {
      tells = refl;
      is_attached = refl;
      writable = refl;
      opens_none = λ closed writable. absurd (cc (sym closed ∙ writable));
      count = refl;
      of_size = c.bytes.ensures.value;
      blocks = λ told. sym (length-cut c.bytes.result (c.len.result / c.bytes.result) c.settle.new.bytes.items) ∙ ap (λ (s : DiskState). length s.durable) state;
      content = λ told. state;
    }
