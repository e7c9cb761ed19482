use Rattle.std.proofs.Common.{◌∙◌, refl}
use Rattle.host_list.proofs.ServedLemmas.{has_range}
use Rattle.host_list.proofs.served.is_served.Goals as goal

pub returns : goal.returns
returns c = c.is_ok.ensures.value ∙ has_range c.args.parts.now c.args.entry.now.number c.args.entry.now c.range.result c.requires.used (record { listed = c.requires.listed; number = refl })
    c.range.ensures.ok c.range.ensures.unused c.range.ensures.bad
