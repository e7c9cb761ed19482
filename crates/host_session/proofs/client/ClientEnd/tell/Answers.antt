use Rattle.std.proofs.Common.{◌≡◌, length, List, map, sym, ap, subst, ◌∙◌}
use Rattle.std.proofs.lemmas.List.{length-map}
use Rattle.host_model.specs.{sent}
use Rattle.host_rings.specs.{Envelope}
use Rattle.host_session.specs.{ClientState}
use Rattle.host_session.proofs.client.ClientEnd.tell.Goals as goal

pub returns-clause-count : goal.returns-clause-count
returns-clause-count c =
    let k = c.self.invariant.client.course in
    ap length c.tell.ensures.note.1 ∙ (sym (length-map c.self.inside.sender.pushed (λ (e : Envelope). e.bytes)) ∙ (ap length k.sent ∙ ap (λ (s : ClientState). length (sent s.log)) c.self.view_is))
