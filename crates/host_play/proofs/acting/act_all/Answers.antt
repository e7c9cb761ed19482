use Rattle.std.proofs.lemmas.List.Sorted.{All-permutation}
use Rattle.script_model.specs.{plans_of}
use Rattle.host_play.specs.{HasPlayedPart, IsCast}
use Rattle.host_play.proofs.Reversed.{turned_back}
use Rattle.host_play.proofs.acting.act_all.Goals as goal

pub act_each-requires-clause-cast : goal.act_each-requires-clause-cast
act_each-requires-clause-cast g c κs within =
    All-permutation (IsCast c.args.server.now (plans_of c.args.script.now)) c.args.actors.now c.reverse.new.self c.reverse.ensures.permutation c.requires.cast

pub returns : goal.returns
returns g c =
    let part = HasPlayedPart c.args.server.now (plans_of c.args.script.now) in
    turned_back part c.args.actors.now c.reverse.new.self c.act_each.new.actors c.reverse-2.new.self c.reverse.ensures.after c.reverse-2.ensures.after c.act_each.ensures
