-- How a session is shown to be lawful by computing.
use Rattle.std.proofs.Common.{◌+◌, IsTrue, arith, length, take, nat_lt, nat_eq}
use Rattle.std.specs.List.{list_all, AllByRecursion}
use Rattle.host_model.specs.{is_answered_at_most, is_answered_exactly, is_used_rightly, IsCarriedOut, IsToldByLog, IsLawfulSession, same_counts, below, all_with_before, sent, given, follows_record, follows_client, precedes_event, HasPages, HasEntries, names_taken, comes_before_release, pins_before_close, released, IsTakenInOrder, is_drain}
use Rattle.host_model.specs.Session.{Session}
use Rattle.host_model.proofs.ListTests.{each_below, tested_below}

module _ (s : Session) where
  abbrev pub Tested : Type 0
  Tested =
      IsTakenInOrder s
      × AllByRecursion (IsCarriedOut s) (below (length s.rows))
      × IsTrue (list_all (λ step. nat_lt step.index (length s.rows)) s.steps)
      × IsTrue (list_all (λ n.
      is_answered_at_most (take n s.log) s.rows) (below (length s.log + 1)))
      × (IsTrue (is_drain s.finish) → IsTrue (is_answered_exactly s.log s.rows))
      × IsToldByLog s
      × HasPages s
      × AllByRecursion (HasEntries s) (below (length s.rows))
      × IsTrue (list_all (names_taken (length s.rows)) s.memory)
      × IsTrue (same_counts nat_eq (released s.memory) (given s.log))
      × IsTrue (all_with_before comes_before_release s.memory)
      × IsTrue (all_with_before pins_before_close s.memory)
      × IsTrue (all_with_before (is_used_rightly s) s.log)
      × IsTrue (list_all (λ r.
      list_all (follows_record s r) (below (length (sent s.log))))
      (below (length (sent s.log))))
      × IsTrue (list_all (follows_client s) (below (length (sent s.log))))
      × IsTrue (list_all (λ r.
      list_all (precedes_event s r) (below (length s.log))) (below (length (sent s.log))))

  pub lawful_from : Tested → IsLawfulSession s
  lawful_from t = record {
    taken = t.0;
    carried = record { each = each_below (IsCarriedOut s) (length s.rows) t.1; others = t.2 };
    answered = record {
      at_most = λ n h.
          tested_below (λ n.
          is_answered_at_most (take n s.log) s.rows) (length s.log + 1) t.3 n (omega (arith, h));
      exactly = t.4;
    };
    buffers = record {
      client = t.5;
      pages = t.6;
      records = record {
        each = each_below (HasEntries s) (length s.rows) t.7;
        others = t.8;
      };
      releases = record { once = t.9; last = t.10; closes = t.11 };
      used = t.12;
    };
    ordered = record {
      records = λ r i p q.
          tested_below (follows_record s r) (length (sent s.log)) (tested_below (λ r.
          list_all (follows_record s r) (below (length (sent s.log)))) (length (sent s.log)) t.13 r
          p) i q;
      client = tested_below (follows_client s) (length (sent s.log)) t.14;
      events = λ r n p q. tested_below (precedes_event s r) (length s.log) (tested_below (λ r.
          list_all (precedes_event s r) (below (length s.log))) (length (sent s.log)) t.15 r p) n q;
    };
  }
