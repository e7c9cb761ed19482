-- The bytes that the fields were read from are the bytes of the response.
use Rattle.std.proofs.Common.{rules, ap, ◌∙◌, sym, arith}
use Rattle.host_record.specs.{response_bytes}
use Rattle.host_record.proofs.ResponseLemmas.{bytes_of_response}
use Rattle.host_record.proofs.response.Response.from_bytes.Goals as goal

pub returns-then-has_padding-clause-again : goal.returns-then-has_padding-clause-again
returns-then-has_padding-clause-again c =
    ap response_bytes c.fields.ensures ∙ bytes_of_response c.args.b.now (sym c.has_padding.ensures ∙ c.if-has_padding.true) (omega (arith, c.told-b)) (search rules)
