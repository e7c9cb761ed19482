use Rattle.std.proofs.Common.{◌∙◌, ap, rules}
use Rattle.uuid.specs.Text.{hyphenated_text, lower}
use Rattle.host_list.proofs.GuidLemmas.{guid_is}
use Rattle.host_list.proofs.guid.guid_text.Goals as goal

pub returns : goal.returns
returns c =
    c.as_bytes.ensures.value ∙ c.encode_lower.ensures.text ∙ ap (hyphenated_text lower) (c.hyphenated.ensures ∙ c.from_stored.ensures)
    ∙ guid_is c.args.id.now (search rules) c.fits-id
