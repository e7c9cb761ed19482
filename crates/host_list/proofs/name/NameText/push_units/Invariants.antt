use Rattle.std.proofs.Common.{◌≡◌, ◌++◌, take, flat_map}
use Rattle.host_list.specs.{unit_text}
use Rattle.host_list.proofs.name.NameText.push_units.Given as goal

abbrev pub invariant-loop-unit : goal.invariant-loop-unit
invariant-loop-unit l = l.self ≡ l.initial.self ++ flat_map unit_text (take l.unit-index l.units)
