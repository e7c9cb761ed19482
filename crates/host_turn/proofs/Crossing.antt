-- What a table is made of may cross threads where the table's slots may.
use denote.RattleType.{RattleType}
use denote.Param.Send.{IsSend, IsSync, Frees, part_keyless, sendable}
use denote.Struct.Struct.{Struct}
use denote.Struct.Owning as owning
use Rattle.std.specs.declared.alloc.Allocator as alloc
use Rattle.atomic_table.specs.declared.shared.TableRule as rule
use Rattle.atomic_table.specs.contracts.badge.Badge as badge
use Rattle.atomic_table.specs.contracts.send_lease.SendLease as lease
use Rattle.atomic_table.specs.contracts.shared.Seat as seat
use Rattle.atomic_table.specs.contracts.shared.Shared as shared
use Rattle.atomic_table.proofs.Rights.{right_send}
use Rattle.atomic_table.proofs.Sent.{badge_keyless, owns_keyless, seat_keyless, shares_keyless}

pub table_seat_send : (S V : RattleType) → IsSend S → IsSend (seat.the_row S V)
table_seat_send S V s = record { owned = λ d vs. ((λ vss. (tt, ((λ uss. (tt, tt)), tt))), seat_keyless S s V.coded.code d.table_id d.id d.me); leaving = λ k f vs. tt }

-- threads may share a seat, too
pub table_seat_sync : (S V : RattleType) → IsSend S → IsSync (seat.the_row S V)
table_seat_sync S V s = record { shared = λ d b o ν q. part_keyless (seat.the_row S V) (table_seat_send S V s) q d b o }

-- a badge, whatever the slots are
pub badge_send : (V : RattleType) → IsSend (badge.the_row V)
badge_send V = record { owned = λ d vs. ((λ vss. (tt, ((λ uss. (tt, tt)), tt))), badge_keyless V.coded.code d.table_id d.id d.views); leaving = λ k f vs. tt }

pub table_send : (S V K P : RattleType) (g : rule.Ghosts P.Denot S.Denot V.Denot K.Denot) → IsSend S → IsSend (shared.the_row S V K P g)
table_send S V K P g s = record { owned = λ d vs. ((λ vss. (tt, (tt, (tt, ((λ uss. (tt, tt)), tt))))), owns_keyless S s V.coded.code d.table_id (g.holds d.key) d.words d.slots); leaving = λ k f vs. tt }

-- threads may share the table
pub table_sync : (S V K P : RattleType) (g : rule.Ghosts P.Denot S.Denot V.Denot K.Denot) → IsSend S → IsSync (shared.the_row S V K P g)
table_sync S V K P g s =
    let fields : IsSync (Struct (owning.shape (shared.the_type S V K P g))) = search sendable depth 20 in
    record { shared = λ d b o ν. (fields.shared (d.words, (d.slots, (tt, tt))) b o ν, shares_keyless S s V.coded.code d.table_id (g.holds d.key) d.words d.slots ν) }

-- what a table leases of its allocator
pub lease_send : (T A : RattleType) (g : alloc.Ghosts A.Denot) → IsSend A → Frees g g.dealloc_token → IsSend (lease.the_row T A g)
lease_send T A g s f = right_send T A g f

pub lease_sync : (T A : RattleType) (g : alloc.Ghosts A.Denot) → IsSend A → Frees g g.dealloc_token → IsSync (lease.the_row T A g)
lease_sync T A g s f = record { shared = λ d b o ν q. part_keyless (lease.the_row T A g) (right_send T A g f) q d b o }
