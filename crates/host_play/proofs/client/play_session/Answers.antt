use Rattle.host_worker.proofs.Shared.{client_still}
use Rattle.host_play.proofs.client.play_session.Goals as goal

pub end_session-requires-clause-client : goal.end_session-requires-clause-client
end_session-requires-clause-client g c = client_still c.args.server.now c.args.client.now.end c.play_lines.new.client.end c.play_lines.ensures.plan c.requires.client
