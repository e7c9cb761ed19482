use Rattle.std.proofs.Common.{sym, subst}
use Rattle.host_turn.specs.{AreNewSeats, book_id}
use Rattle.host_device.specs.{fixed_of, steps_of}
use Rattle.disk_client.proofs.device.tests.pair.run_pair.Goals as goal

pub hand_out_all-requires-clause-new : goal.hand_out_all-requires-clause-new
hand_out_all-requires-clause-new g c =
    let made = c.in-Ok.made in
    subst (λ device. AreNewSeats (λ device. (steps_of device).items) fixed_of (book_id made.0) device made.1.items) (sym c.in-Ok.ensures.book.1) c.in-Ok.ensures.seats.1
