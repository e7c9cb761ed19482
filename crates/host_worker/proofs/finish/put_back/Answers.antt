use Rattle.std.proofs.Common.{◌≡◌, ℕ, ◌∷◌, [], ◌<◌, length, refl, sym, ap, subst, ◌∙◌, arith, length-append}
use Rattle.std.proofs.lemmas.Option.{slice_get_read, slice_get_within}
use Rattle.host_worker.proofs.Taking.{IsPutBack, all_yielded, back_all, back_more, one_yielded, place_of}
use Rattle.host_worker.proofs.finish.put_back.Goals as goal

pub loop-hand-preserved : goal.loop-hand-preserved
loop-hand-preserved c =
    let inv = c.loop-hand.invariant in
    let are = one_yielded c.args.share.items c.loop-hand.yielded c.loop-hand.hand-iterator.rest.items c.next.new.self.rest.items c.in-Some.hand inv.rest c.in-Some.ensures.steps.0 in
    let here = place_of c.args.share.items c.loop-hand.yielded c.next.new.self.rest.items c.in-Some.hand c.loop-hand.k are inv.place in
    let less : c.loop-hand.k < length c.loop-hand.sessions.items = omega (arith, slice_get_within c.args.share.items c.loop-hand.k c.in-Some.hand here, c.requires.share, inv.back.count) in
    record {
      next = tt;
      ends = tt;
      rest = are;
      place = omega (arith, inv.place, length-append c.loop-hand.yielded (c.in-Some.hand ∷ []));
      back = back_more c.loop-hand.k c.args.share.items c.args.sessions.now.items c.loop-hand.sessions.items _ c.index_mut.result.now _ c.in-Some.hand inv.back here
          (slice_get_read c.loop-hand.sessions.items _ c.loop-hand.k c.index_mut.result.now refl less c.index_mut.ensures.value) refl
          (record { same = (refl, refl, refl); hands = c.push_reserved.ensures.items; room = c.push_reserved.ensures.capacity });
    }

pub returns : goal.returns
returns c =
    let inv = c.loop-hand.invariant in
    let all = all_yielded c.args.share.items c.loop-hand.yielded c.loop-hand.hand-iterator.rest.items inv.rest (sym c.loop-hand.hand-iterator.rest.ok.0 ∙ c.in-None.ensures.steps.0) in
    let end : c.loop-hand.k ≡ length c.args.share.items = inv.place ∙ ap length (sym all) in
    back_all c.args.share.items c.args.sessions.now.items c.loop-hand.sessions.items c.requires.share
    (subst (λ (k : ℕ). IsPutBack k c.args.share.items c.args.sessions.now.items c.loop-hand.sessions.items) end inv.back)
