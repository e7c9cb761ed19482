use Rattle.std.proofs.Common.{◌∙◌, List, length, refl, sym, ap, arith}
use Rattle.host_gpt.specs.{current_image}
use Rattle.host_gpt.proofs.BlockLemmas.{image_length}
use Rattle.host_part.specs.{layout_of}
use Rattle.host_start.proofs.PlaceLemmas.{all_placed, layout_on, one_lacking}
use Rattle.host_start.proofs.ReadLemmas.{few_sessions}
use Rattle.script_model.specs.{SessionScript}
use Rattle.host_start.proofs.start.Start.on.Goals as goal

pub find_places-requires-clause-few : goal.find_places-requires-clause-few
find_places-requires-clause-few g c =
    let few = few_sessions c.args.size c.args.script c.requires.fit.limits in
    let same = ap (λ (l : List SessionScript). length l) c.as_slice.ensures in
    omega (arith, few, same)

pub returns-in-Err-clause-refused : goal.returns-in-Err-clause-refused
returns-in-Err-clause-refused g c = λ told.
    let state = g.D.Disk.state c.args.disk.now in
    let shape = g.D.Disk.shape c.args.disk.now in
    one_lacking (current_image state) c.in_ok-table.table c.args.blocks c.in_ok-parts.parts c.args.script.sessions.items c.as_slice.result.now c.in-Err.error (c.in_ok-table.ensures.table told)
    (c.requires.blocks ∙ sym (image_length shape.blocks shape.size state (g.met.D.Disk.of_size c.args.disk.now told))) c.in_ok-parts.ensures c.as_slice.ensures c.in-Err.ensures.finds

pub returns-in-Ok-clause-placed : goal.returns-in-Ok-clause-placed
returns-in-Ok-clause-placed g c =
    let table = c.in_ok-table.table in
    let state = g.D.Disk.state c.args.disk.now in
    let shape = g.D.Disk.shape c.args.disk.now in
    record {
      layout = layout_of table c.args.blocks;
      blocks = refl;
      used = c.in_ok-table.ensures.entries;
      places = all_placed c.in_ok-parts.parts (layout_of table c.args.blocks) c.args.script.sessions.items c.as_slice.result.now c.in-Ok.places.items c.in_ok-parts.ensures c.as_slice.ensures c.in-Ok.ensures.finds;
      on_image = λ told. layout_on (current_image state) table c.args.blocks (c.in_ok-table.ensures.table told)
          (c.requires.blocks ∙ sym (image_length shape.blocks shape.size state (g.met.D.Disk.of_size c.args.disk.now told)));
    }
