use Rattle.std.proofs.Common.{◌≡◌, List, length, sym, ap, ◌∙◌, arith}
use Rattle.host_session.specs.{SessionSpec}
use Rattle.script_model.specs.{plans_of}
use Rattle.host_play.proofs.Reporting.{specs_length}
use Rattle.host_play.proofs.stage.take_props.Goals as goal

pub returns : goal.returns
returns g c =
    let specs = c.in_ok-specs.ensures in
    let pieces = c.in_ok-pieces.ensures in
    let count : length c.in_ok-specs.specs.items ≡ length (plans_of c.args.script.now) = ap (λ (l : List SessionSpec). length l) specs ∙ specs_length 1 (plans_of c.args.script.now) c.args.ranges.now c.args.size c.args.depth c.requires.ranges in
    record {
      specs_are = specs;
      pieces_are = pieces;
      room = record {
        count = pieces.count ∙ sym count;
        actors = (c.in-Ok.ensures.items, c.in-Ok.ensures.capacity);
        clients = (c.in-Ok-with_capacity.ensures.items, omega (arith, c.in-Ok-with_capacity.ensures.capacity, c.len.ensures, c.in_ok-specs.specs.ok.0));
        hands_fit = (c.in-Ok-with_capacity-2.ensures.items, c.in-Ok-with_capacity-2.ensures.capacity);
      };
    }
