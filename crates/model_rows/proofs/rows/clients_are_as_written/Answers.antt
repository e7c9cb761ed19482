use Rattle.model_rows.proofs.Clients.{clients_are_as_written}
use Rattle.model_rows.proofs.rows.clients_are_as_written.Goals as goal

pub returns : goal.returns
returns c = clients_are_as_written
