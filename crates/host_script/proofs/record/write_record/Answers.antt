use Rattle.std.proofs.Common.{sym, ◌∙◌}
use Rattle.host_script.proofs.NamedRecords.{send_words-none, send_words-some}
use Rattle.host_script.proofs.record.write_record.Goals as goal

pub returns-in-Some : goal.returns-in-Some
returns-in-Some g c =
    rw (send_words-some c.args.bytes.now c.from_bytes-request.result c.in-Some.opcode c.from_bytes-request.ensures.fields (sym c.opcode.ensures ∙ c.in-Some.is)) c.write_named_or_raw.ensures

pub returns-in-None : goal.returns-in-None
returns-in-None g c =
    rw (send_words-none c.args.bytes.now c.from_bytes-request.result c.from_bytes-request.ensures.fields (sym c.opcode.ensures ∙ c.in-None.is)) c.write_raw.ensures
