-- Each move keeps the rule of the request ring.
use Rattle.std.proofs.Common.{◌≡◌, ◌≢◌, ℕ, ◌<◌, Bool, true, false, cond, ltb, true≢false, List, [], ◌∷◌, ◌++◌, length, set, sym, refl, ap, ◌∙◌, ⊎_elim, append_assoc, length-append, arith, ◌≤◌}
use Rattle.std.proofs.lemmas.List.{append-nil}
use mathlib.Core.Option.{some, some-ne-none}
use lib.ListN.{get_elem?}
use Rattle.crossbeam_queue.specs.Fifo.{Pushes, Pops, Forks, Merges, Learns}
use Rattle.crossbeam_queue.proofs.Lists.{at_set}
use Rattle.host_block.specs.{IsPrefix}
use Rattle.host_block.proofs.Prefixes.{prefix_longer}
use Rattle.host_rings.specs.{Envelope, RequestView, request_view, pushing_view, popping_view, note_view, hearing_view, spent_request_view, IsNumbered, WriterKnows, FitsRequests, InOrder, LeftBehind, StillAhead}
use Rattle.host_rings.proofs.Lists.{at_snoc_or_end, at_middle, AllFit, all_set, all_one, all_snoc}

numbered_more : (es : List Envelope) (x : Envelope) → IsNumbered es → x.index ≡ length es → IsNumbered (es ++ x ∷ [])
numbered_more es x old is k e at = ⊎_elim (λ (t : get_elem? es k ≡ some e). old k e t)
    (λ (t : (k ≡ length es) × (x ≡ e)). ap (λ (y : Envelope). y.index) (sym t.1) ∙ is ∙ sym t.0) (at_snoc_or_end es x e k at)

pub begins : InOrder [] (request_view true true 0 [] [] [] ∷ [])
begins = record {
  writer = 0;
  reader = 0;
  records = 0;
  pushed = [];
  taken = [];
  pushed_is = refl;
  numbered = λ k e at. absurd (some-ne-none e (sym at));
  few = omega arith;
  fitting = all_one (FitsRequests 0 0 0 [] []) (request_view true true 0 [] [] []) record {
    writes = λ _. record { is_writer = refl; has_records = refl; has_pushed = refl; heard_taken = ([], refl) };
    reads = λ _. record { is_reader = refl; has_records = refl; has_taken = refl };
    heard_pushed = λ p. absurd (true≢false p);
  };
}

pub opens : (port : ℕ) (v : RequestView) (n : ℕ) → v.pushes ≡ true → v.pops ≡ true → v.pushed ≡ [] → v.taken ≡ []
    → Forks InOrder port v (request_view true false n [] [] []) (request_view false true n [] [] [])
opens port v n a b none untaken items views h at = let l : RequestView = request_view true false n [] [] [] in let r : RequestView = request_view false true n [] [] [] in
    let mine = h.fitting port v at in let vs : List RequestView = set views port l in
    let w = mine.writes a in let d = mine.reads b in
    let Old : ℕ → RequestView → Type 0 = λ j u. (u.pushes ≡ true → WriterKnows h.writer n h.pushed h.taken j u) × (u.pops ≢ true) × (u.pushes ≡ false → IsPrefix u.heard h.pushed) in
    let old : AllFit Old vs = all_set Old views port l (
      (λ _. record { is_writer = w.is_writer; has_records = refl; has_pushed = sym none ∙ w.has_pushed; heard_taken = (h.taken, refl) }),
      (λ p. true≢false (sym p)),
      λ p. absurd (true≢false p),
    ) (λ j u other e. (
      (λ p. absurd (other (((h.fitting j u e).writes p).is_writer ∙ sym w.is_writer))),
      (λ p. other (((h.fitting j u e).reads p).is_reader ∙ sym d.is_reader)),
      (h.fitting j u e).heard_pushed,
    )) in
    let New : ℕ → RequestView → Type 0 = FitsRequests h.writer (length vs) n h.pushed h.taken in
    let empty : length h.pushed ≡ 0 = ap length (sym w.has_pushed ∙ none) in record {
      writer = h.writer;
      reader = length vs;
      records = n;
      pushed = h.pushed;
      taken = h.taken;
      pushed_is = h.pushed_is;
      numbered = h.numbered;
      few = omega arith;
      fitting = all_snoc New vs r
          (λ j u e. record { writes = (old j u e).0; reads = λ p. absurd ((old j u e).1 p); heard_pushed = (old j u e).2 })
          record {
            writes = λ p. absurd (true≢false (sym p));
            reads = λ _. record { is_reader = refl; has_records = refl; has_taken = sym untaken ∙ d.has_taken };
            heard_pushed = λ _. (h.pushed, refl);
          };
    }

pub merges : (port : ℕ) (v : RequestView) (other : ℕ) (u : RequestView) → v.pushes ≡ true → u.pops ≡ true
    → Merges InOrder port v other u (request_view true true v.records v.pushed u.taken []) spent_request_view
merges port v other u a b items views h at two at' = let both : RequestView = request_view true true v.records v.pushed u.taken [] in let vs : List RequestView = set views port both in
    let w = (h.fitting port v at).writes a in
    let was : get_elem? views other ≡ some u = ⊎_elim (λ x. absurd (two x.0)) (λ x. x.1) (at_set views port other both u at') in
    let d = (h.fitting other u was).reads b in
    let New : ℕ → RequestView → Type 0 = FitsRequests h.writer port h.records h.pushed h.taken in
    let Now : ℕ → RequestView → Type 0 = λ j y. j ≢ other → New j y in
    let now : AllFit Now vs = all_set Now views port both
    (λ _. record {
      writes = λ _. record { is_writer = w.is_writer; has_records = w.has_records; has_pushed = w.has_pushed; heard_taken = (h.taken, refl) };
      reads = λ _. record { is_reader = refl; has_records = w.has_records; has_taken = d.has_taken };
      heard_pushed = λ p. absurd (true≢false p);
    })
    (λ j y _ e apart. record {
      writes = (h.fitting j y e).writes;
      reads = λ p. absurd (apart (((h.fitting j y e).reads p).is_reader ∙ sym d.is_reader));
      heard_pushed = (h.fitting j y e).heard_pushed;
    }) in record {
      writer = h.writer;
      reader = port;
      records = h.records;
      pushed = h.pushed;
      taken = h.taken;
      pushed_is = h.pushed_is;
      numbered = h.numbered;
      few = h.few;
      fitting = all_set New vs other spent_request_view
          record { writes = λ p. absurd (true≢false (sym p)); reads = λ p. absurd (true≢false (sym p)); heard_pushed = λ _. (h.pushed, refl) }
          (λ j y apart e. now j y e apart);
    }

pub pushes : (n port : ℕ) (v : RequestView) (x : Envelope) → v.pushes ≡ true → v.pops ≡ false → x.index ≡ length v.pushed → x.index < v.records
    → Pushes InOrder n port v x (λ w. w ≡ pushing_view v x)
pushes n port v x may alone is below items views _ h at = let w : RequestView = pushing_view v x in
    let mine = (h.fitting port v at).writes may in let pushed : List Envelope = h.pushed ++ x ∷ [] in
    let New : ℕ → RequestView → Type 0 = FitsRequests h.writer h.reader h.records pushed h.taken in
    let long : length v.pushed ≡ length h.pushed = ap length mine.has_pushed in let most : v.records ≡ h.records = mine.has_records in (
      w,
      record {
        writer = h.writer;
        reader = h.reader;
        records = h.records;
        pushed = pushed;
        taken = h.taken;
        pushed_is = ap (λ l. l ++ x ∷ []) h.pushed_is ∙ append_assoc h.taken items (x ∷ []);
        numbered = numbered_more h.pushed x h.numbered (is ∙ long);
        few = omega (arith, length-append h.pushed (x ∷ []));
        fitting = all_set New views port w
            record {
              writes = λ _. record { is_writer = mine.is_writer; has_records = mine.has_records; has_pushed = ap (λ l. l ++ x ∷ []) mine.has_pushed; heard_taken = mine.heard_taken };
              reads = λ p. absurd (true≢false (sym p ∙ alone));
              heard_pushed = λ p. absurd (true≢false (sym may ∙ p));
            }
            (λ j u other e. record {
              writes = λ p. absurd (other (((h.fitting j u e).writes p).is_writer ∙ sym mine.is_writer));
              reads = (h.fitting j u e).reads;
              heard_pushed = λ p. prefix_longer u.heard h.pushed (x ∷ []) ((h.fitting j u e).heard_pushed p);
            });
      },
      refl,
    )

pub pops : (port : ℕ) (v : RequestView) → v.pops ≡ true → v.pushes ≡ false
    → Pops InOrder port v (λ x w. (x.index ≡ length v.taken) × (length v.taken < v.records) × (w ≡ popping_view v x))
pops port v may alone x items views h at = let w : RequestView = popping_view v x in
    let mine = (h.fitting port v at).reads may in let taken : List Envelope = h.taken ++ x ∷ [] in
    let New : ℕ → RequestView → Type 0 = FitsRequests h.writer h.reader h.records h.pushed taken in
    let long : length v.taken ≡ length h.taken = ap length mine.has_taken in let most : v.records ≡ h.records = mine.has_records in
    let all : length h.pushed ≡ length (h.taken ++ x ∷ items) = ap length h.pushed_is in let few : length h.pushed ≤ h.records = h.few in
    let place : get_elem? h.pushed (length h.taken) ≡ some x = ap (λ l. get_elem? l (length h.taken)) h.pushed_is ∙ at_middle h.taken items x in (
      w,
      record {
        writer = h.writer;
        reader = h.reader;
        records = h.records;
        pushed = h.pushed;
        taken = taken;
        pushed_is = h.pushed_is ∙ sym (append_assoc h.taken (x ∷ []) items);
        numbered = h.numbered;
        few = h.few;
        fitting = all_set New views port w
            record {
              writes = λ p. absurd (true≢false (sym p ∙ alone));
              reads = λ _. record { is_reader = mine.is_reader; has_records = mine.has_records; has_taken = ap (λ l. l ++ x ∷ []) mine.has_taken };
              heard_pushed = (h.fitting port v at).heard_pushed;
            }
            (λ j u other e. record {
              writes = λ p. let d = (h.fitting j u e).writes p in
                  record { is_writer = d.is_writer; has_records = d.has_records; has_pushed = d.has_pushed; heard_taken = prefix_longer u.heard h.taken (x ∷ []) d.heard_taken };
              reads = λ p. absurd (other (((h.fitting j u e).reads p).is_reader ∙ sym mine.is_reader));
              heard_pushed = (h.fitting j u e).heard_pushed;
            });
      },
      (h.numbered (length h.taken) x place ∙ sym long, omega (arith, length-append h.taken (x ∷ items)), refl),
    )

pub finds_full : (port : ℕ) (v : RequestView) → v.pushes ≡ true → Learns InOrder port v (LeftBehind v.pushed v.heard)
finds_full port v may items views h at = let mine = (h.fitting port v at).writes may in (h.taken, mine.has_pushed ∙ h.pushed_is, mine.heard_taken)

pub finds_empty : (port : ℕ) (v : RequestView) → v.pops ≡ true → v.pushes ≡ false → Learns InOrder port v (StillAhead v.taken v.heard)
finds_empty port v may alone items views h at = let mine = (h.fitting port v at).reads may in let told = (h.fitting port v at).heard_pushed alone in
    (told.0, told.1 ∙ h.pushed_is ∙ ap (λ l. l ++ items) (sym mine.has_taken))

-- a pass that knows what was pushed tells it to a new one
pub tells : (port : ℕ) (v : RequestView) → v.pushes ≡ true → Forks InOrder port v v (note_view v)
tells port v may items views h at = let New : ℕ → RequestView → Type 0 = FitsRequests h.writer h.reader h.records h.pushed h.taken in
    let mine = (h.fitting port v at).writes may in record {
      writer = h.writer;
      reader = h.reader;
      records = h.records;
      pushed = h.pushed;
      taken = h.taken;
      pushed_is = h.pushed_is;
      numbered = h.numbered;
      few = h.few;
      fitting = all_snoc New (set views port v) (note_view v) (all_set New views port v (h.fitting port v at) (λ j u other e. h.fitting j u e))
          record { writes = λ p. absurd (true≢false (sym p)); reads = λ p. absurd (true≢false (sym p)); heard_pushed = λ _. ([], append-nil v.pushed ∙ mine.has_pushed) };
    }

either : (b : Bool) (P : List Envelope → Type 0) (xs ys : List Envelope) → P xs → P ys → P (cond b ys xs)
either true P xs ys p q = q
either false P xs ys p q = p

-- the taker takes in what it is told
pub hears : (port : ℕ) (v : RequestView) (other : ℕ) (u : RequestView) → v.pops ≡ true → v.pushes ≡ false → u.pushes ≡ false
    → Merges InOrder port v other u (hearing_view v u.heard) spent_request_view
hears port v other u may alone quiet items views h at two at' = let both : RequestView = hearing_view v u.heard in let vs : List RequestView = set views port both in
    let New : ℕ → RequestView → Type 0 = FitsRequests h.writer h.reader h.records h.pushed h.taken in
    let mine = h.fitting port v at in
    let was : get_elem? views other ≡ some u = ⊎_elim (λ x. absurd (two x.0)) (λ x. x.1) (at_set views port other both u at') in
    let now : AllFit New vs = all_set New views port both
    record {
      writes = λ p. absurd (true≢false (sym p ∙ alone));
      reads = λ _. let d = mine.reads may in record { is_reader = d.is_reader; has_records = d.has_records; has_taken = d.has_taken };
      heard_pushed = λ _. either (ltb (length v.heard) (length u.heard)) (λ l. IsPrefix l h.pushed) v.heard u.heard (mine.heard_pushed alone) ((h.fitting other u was).heard_pushed quiet);
    }
    (λ j y _ e. h.fitting j y e) in record {
      writer = h.writer;
      reader = h.reader;
      records = h.records;
      pushed = h.pushed;
      taken = h.taken;
      pushed_is = h.pushed_is;
      numbered = h.numbered;
      few = h.few;
      fitting = all_set New vs other spent_request_view
          record { writes = λ p. absurd (true≢false (sym p)); reads = λ p. absurd (true≢false (sym p)); heard_pushed = λ _. (h.pushed, refl) }
          (λ j y _ e. now j y e);
    }

pub totals : (port : ℕ) (v : RequestView) → v.pushes ≡ true → v.pops ≡ true → Learns InOrder port v (λ items. v.taken ++ items ≡ v.pushed)
totals port v a b items views h at = let mine = h.fitting port v at in ap (λ l. l ++ items) (mine.reads b).has_taken ∙ sym h.pushed_is ∙ sym (mine.writes a).has_pushed
