use Rattle.host_worker.proofs.Waiting.{unsent}
use Rattle.host_worker.proofs.wait.index_sent.Goals as goal

pub returns-in-Err : goal.returns-in-Err
returns-in-Err g c = unsent c.args.bytes c.args.client.now c.send.new.self c.in-Err.field-0 c.in-Err.ensures
