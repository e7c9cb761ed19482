use Rattle.std.proofs.Common.{arith, sym, ◌∙◌}
use Rattle.host_script.proofs.NamedRecords.{named_where, unnamed_where}
use Rattle.script_model.proofs.NamedLines.{IsSized}
use Rattle.host_script.proofs.named.spells.Goals as goal

pub returns-then-has_named_group : goal.returns-then-has_named_group
returns-then-has_named_group c =
    let sized : IsSized c.args.request = record { reqid = omega arith; group = omega arith; vmoid = omega arith; length = omega arith; vmo_offset = omega arith; dev_offset = omega arith } in
    named_where c.args.opcode c.args.bytes.now c.args.request c.named_request.result c.to_bytes.result c.is_same.result c.requires sized (sym c.has_named_group.ensures ∙ c.if-has_named_group.true) c.named_request.ensures c.to_bytes.ensures.bytes c.is_same.ensures

pub returns-else-has_named_group : goal.returns-else-has_named_group
returns-else-has_named_group c =
    let sized : IsSized c.args.request = record { reqid = omega arith; group = omega arith; vmoid = omega arith; length = omega arith; vmo_offset = omega arith; dev_offset = omega arith } in
    unnamed_where c.args.opcode c.args.bytes.now c.args.request c.requires sized (sym c.has_named_group.ensures ∙ c.if-has_named_group.false)
