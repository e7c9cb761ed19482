use Rattle.std.proofs.Common.{◌∙◌, ◌++◌, ◌+◌, ◌≤◌, ℕ, List, append_assoc, ap, length, sym, take, flat_map, get_or, subst, arith}
use Rattle.host_list.specs.{unit_text}
use Rattle.host_list.proofs.NameLemmas.{has_room, next_unit}
use Rattle.host_list.proofs.name.NameText.push_units.Goals as goal

pub push_unit-requires : goal.push_unit-requires
push_unit-requires c = subst (λ (t : List ℕ). length t + 6 ≤ 218) (sym c.loop-unit.invariant) (has_room c.args.self.now c.args.units.now c.loop-unit.unit-index (omega arith) c.requires)

pub loop-unit-preserved : goal.loop-unit-preserved
loop-unit-preserved c =
    c.push_unit.ensures ∙ ap (λ (t : List ℕ). t ++ unit_text (get_or c.args.units.now c.loop-unit.unit-index 0)) c.loop-unit.invariant
    ∙ append_assoc c.args.self.now (flat_map unit_text (take c.loop-unit.unit-index c.args.units.now)) (unit_text (get_or c.args.units.now c.loop-unit.unit-index 0))
    ∙ ap (λ (t : List ℕ). c.args.self.now ++ t) (sym (next_unit c.args.units.now c.loop-unit.unit-index (omega arith)))
