use Rattle.std.proofs.Common.{◌≡◌, ℕ, ◌<◌, Some, refl, sym, ap, ◌∙◌, length, List, get_or}
use Rattle.std.specs.Prelude.{slice_get}
use Rattle.std.proofs.lemmas.Option.{slice_get_read}
use Rattle.host_intake.specs.{is_shut}
use Rattle.host_worker.proofs.Visited.{its_device, its_post, has_worked, still_its_hand}
use Rattle.host_hand.specs.{done_at, count_told}
use Rattle.host_worker.proofs.Rounds.{begun_more}
use Rattle.host_worker.proofs.round.visit.Goals as goal

stands : {A : Type 0} (xs : List A) (n k : ℕ) (x : A) → k < n → n ≡ length xs → x ≡ get_or xs k x → slice_get xs k ≡ Some x
stands xs n k x less e is = slice_get_read xs n k x e less is

pub serve-requires-clause-hand : goal.serve-requires-clause-hand
serve-requires-clause-hand g c =
    its_post _ _ c.args.k _ _ c.requires.server c.requires.hand
    (stands _ _ c.args.k _ c.requires.place refl c.index-session.ensures)
    (stands _ _ c.args.k _ c.requires.place (sym c.requires.hand.count) c.index_mut.ensures.value)
    _ c.deref.ensures

pub serve-requires-clause-device : goal.serve-requires-clause-device
serve-requires-clause-device g c =
    its_device _ _ c.args.k _ _ c.requires.server c.requires.hand
    (stands _ _ c.args.k _ c.requires.place refl c.index-session.ensures)
    (stands _ _ c.args.k _ c.requires.place (sym c.requires.hand.count) c.index_mut.ensures.value)

pub serve-requires-clause-kept : goal.serve-requires-clause-kept
serve-requires-clause-kept g c =
    let part = c.requires.hand.each c.args.k _ _
    (stands _ _ c.args.k _ c.requires.place refl c.index-session.ensures)
    (stands _ _ c.args.k _ c.requires.place (sym c.requires.hand.count) c.index_mut.ensures.value) in
    part.keeps

pub serve-requires-clause-note : goal.serve-requires-clause-note
serve-requires-clause-note g c =
    c.requires.note _ (stands _ _ c.args.k _ c.requires.place (sym c.requires.hand.count) c.index_mut.ensures.value)

pub returns-clause-hand : goal.returns-clause-hand
returns-clause-hand g c =
    still_its_hand _ _ _ c.args.k _ _ _ c.requires.server c.requires.hand
    (stands _ _ c.args.k _ c.requires.place refl c.index-session.ensures)
    (record {
      number = refl;
      next = refl;
      closing = refl;
      stood = stands _ _ c.args.k _ c.requires.place (sym c.requires.hand.count) c.index_mut.ensures.value;
      sessions_are = refl;
      sent = count_told c.args.note;
      answer = c.serve.result;
      served = c.serve.ensures;
    })

pub returns-clause-worked : goal.returns-clause-worked
returns-clause-worked g c =
    has_worked _ _ _ c.args.k _ _ _ c.requires.server c.requires.hand
    (stands _ _ c.args.k _ c.requires.place refl c.index-session.ensures)
    (record {
      number = refl;
      next = refl;
      closing = refl;
      stood = stands _ _ c.args.k _ c.requires.place (sym c.requires.hand.count) c.index_mut.ensures.value;
      sessions_are = refl;
      sent = count_told c.args.note;
      answer = c.serve.result;
      served = c.serve.ensures;
    })

pub returns-clause-visited : goal.returns-clause-visited
returns-clause-visited g c = record {
  before = c.index_mut.result.now;
  after = c.serve.new.hand;
  stood = stands _ _ c.args.k _ c.requires.place (sym c.requires.hand.count) c.index_mut.ensures.value;
  sessions_are = refl;
  begun = c.serve.ensures.begun;
  told = c.serve.ensures.told;
  open_still = λ no e. absurd (cc (sym no ∙ (c.serve.ensures.closed ∙ ap is_shut e)));
}

pub returns-clause-once : goal.returns-clause-once
returns-clause-once g c =
    begun_more c.args.hand.now.number c.args.k (done_at c.serve.result) c.args.hand.now.sessions.items c.index_mut.result.now c.serve.new.hand
    (stands _ _ c.args.k _ c.requires.place (sym c.requires.hand.count) c.index_mut.ensures.value) c.serve.ensures.begun
