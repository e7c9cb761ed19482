use Rattle.std.proofs.Common.{◌++◌, vec_len, refl, sym, ap, ◌∙◌}
use Rattle.std.specs.Option.{option_to_list}
use Rattle.std.proofs.lemmas.Option.{slice_get_read}
use Rattle.host_worker.proofs.prepare.last_hand.Goals as goal

pub returns : goal.returns
returns c = record {
  before = c.index_mut.result.now;
  after = _;
  stood = slice_get_read c.args.sessions.now.items (vec_len c.args.sessions.now) c.args.k c.index_mut.result.now c.args.sessions.now.ok.0 c.requires.place c.index_mut.ensures.value;
  left = refl;
  more = record {
    same = (refl, refl, refl);
    hands = c.pop.ensures.items ∙ ap (λ o. c.pop.new.self.items ++ option_to_list o) c.unwrap.ensures;
    room = sym c.pop.ensures.capacity;
  };
}
