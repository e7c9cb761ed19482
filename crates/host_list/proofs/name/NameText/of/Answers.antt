use Rattle.std.proofs.Common.{◌≡◌, ◌∙◌, ◌++◌, ℕ, List, [], ◌∷◌, length, length-append, ap, flat_map, rules, arith}
use Rattle.host_list.specs.{unit_text}
use Rattle.host_list.proofs.NameLemmas.{short_units}
use Rattle.host_list.proofs.name.NameText.of.Goals as goal

pub push-requires-2 : goal.push-requires-2
push-requires-2 c =
    let units = c.before_zero.result.now in
    let quote : length c.push.new.self ≡ 1 = ap length c.push.ensures ∙ ap (λ (t : List ℕ). length (t ++ 34 ∷ [])) c.new-text.ensures in
    let whole : length c.args.name.now ≡ 36 = search rules in
    omega (arith, ap length c.push_units.ensures, length-append c.push.new.self (flat_map unit_text units), short_units units, c.before_zero.ensures.shorter)
