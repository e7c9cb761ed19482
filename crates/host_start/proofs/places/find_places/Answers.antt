use Rattle.std.proofs.Common.{◌≡◌, ◌∙◌, List, ◌∷◌, ◌++◌, [], length, map, subst, sym, arith, ◌+◌, ℕ, rules}
use Rattle.std.proofs.lemmas.List.{length-map}
use Rattle.host_start.proofs.PlaceLemmas.{AreFirst, first_unserved, more_first, part_at, pushed}
use Rattle.host_start.specs.{IsFirstUnserved, Place}
use Rattle.host_part.specs.{IsRangeOf}
use Rattle.script_model.specs.{SessionScript}
use Rattle.host_start.proofs.places.find_places.Goals as goal

abbrev part_of : SessionScript → ℕ
part_of s = s.part

pub returns-in-None-clause-finds : goal.returns-in-None-clause-finds
returns-in-None-clause-finds c =
    let sessions = c.args.sessions.now in
    let places = c.loop-session.places.items in
    let n = c.loop-session.session-index in
    let part = c.session-item.result.part in
    let found = first_unserved c.args.parts.now (map part_of sessions) places n part c.loop-session.invariant
    (omega (arith, c.loop-session-test.true, length-map sessions part_of)) (part_at sessions n c.session-item.result c.loop-session-test.true c.session-item.is) c.in-None.ensures.none in
    let same : length places ≡ c.len.result = search rules in
    subst (λ (k : ℕ). IsFirstUnserved c.args.parts.now (map part_of sessions) (k + 1) part) same found

pub loop-session-preserved : goal.loop-session-preserved
loop-session-preserved c =
    let sessions = c.args.sessions.now in
    let places = c.loop-session.places.items in
    let n = c.loop-session.session-index in
    let place = c.in-Some.place in
    let at = part_at sessions n c.session-item.result c.loop-session-test.true c.session-item.is in
    let more = more_first c.args.parts.now (map part_of sessions) places n place c.loop-session.invariant
    (omega (arith, c.loop-session-test.true, length-map sessions part_of)) (at ∙ sym c.in-Some.ensures.named)
    (subst (λ (p : ℕ). IsRangeOf c.args.parts.now p place.range) (sym c.in-Some.ensures.named) c.in-Some.ensures.range) in
    subst (λ (l : List Place). AreFirst c.args.parts.now (map part_of sessions) l (n + 1))
    (sym (pushed c.push.result places (places ++ place ∷ []) c.push.new.self.items (sym c.is_err.ensures.value ∙ c.if-is_err.false) c.push.ensures.items)) more
