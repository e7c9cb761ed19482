-- Each step of a write or trim that was answered before a flush was sent outlives a crash, once the flush is done.
use Rattle.std.proofs.Common.{◌≡◌, ℕ, ◌+◌, ◌<◌, ◌≤◌, ◌==◌, true, not, nat_lt, List, length, take, Some, sym, ap, subst, ◌∙◌, arith}
use Rattle.std.specs.Prelude.{Contains}
use Rattle.std.specs.List.{slice_get}
use Rattle.std.proofs.lemmas.Bool.{eq-eqb, eqb-true, ltb-true}
use Rattle.std.proofs.lemmas.List.{take_all}
use Rattle.host_block.specs.{Op, Change, changes_block, is_flush, puts_bytes, put_by, IsCrashImage, block_at}
use Rattle.host_block.specs.declared.op.Op.TheVariants as op
use Rattle.host_block.specs.declared.range.Range.{Range}
use Rattle.host_block.proofs.Places.{from_take, in_map, in_take}
use Rattle.host_model.specs.{Step, change_of, changes_of, IsLawfulSession, StaysIn, sending, HadBefore, step_places}
use Rattle.host_model.proofs.Inside.{steps_stay_inside}
use Rattle.host_model.proofs.Ordering.{order_is_kept}
use Rattle.host_report.specs.{Report, SessionReport, IsLawful, session_of}
use Rattle.host_report.proofs.Ranges.{ranges_lie_in_image}
use Rattle.crash_law.specs.{FlushedWritesSurvive, KeepsFlushed, WasFlushed, WerePutSince, WroteBlock}
use Rattle.crash_law.proofs.Accepted.{all_at}
use Rattle.crash_law.proofs.Barriers.{barrier_past, last_change}
use Rattle.crash_law.proofs.FlushOrder.{before_flush}
use Rattle.crash_law.proofs.Places.{at_rank, from_map, in_places, one_of, rank, rank_order}
use Rattle.crash_law.proofs.Steps.{last_two}

lies_in : (range : Range) (o : Op) (block : ℕ) → puts_bytes o ≡ true → StaysIn range o block → block < range.first + range.count
lies_in range op.Read block e s = absurd (cc)
lies_in range op.Write block e s = s.1
lies_in range op.Trim block e s = s.1
lies_in range op.Flush block e s = absurd (cc)

module _ (image : List (List ℕ)) (report : Report) (lawful : IsLawful image report) (n : ℕ) (e : SessionReport) (there : slice_get report.sessions.items n ≡ Some e) where
  pub session_lawful : IsLawfulSession (session_of report e)
  session_lawful = one_of (λ (x : SessionReport). IsLawfulSession (session_of report x)) report.sessions.items n e lawful.run.sessions there

  -- ---- a step of the session

  -- where it stands among the session's own
  abbrev own : ℕ → ℕ
  own place = rank (λ (step : Step). step.session == e.number) report.steps.items place

  own_stands : (place : ℕ) (x : Step) → slice_get report.steps.items place ≡ Some x → x.session ≡ e.number → slice_get (session_of report e).steps (own place) ≡ Some x
  own_stands place x at named = at_rank (λ (step : Step). step.session == e.number) report.steps.items place x at (eq-eqb x.session e.number named)

  -- its record was taken
  was_taken : (place i : ℕ) (x : Step) → slice_get report.steps.items place ≡ Some x → (x.session ≡ e.number) × (x.index ≡ i) → i < length (session_of report e).rows
  was_taken place i x at names =
      let named = names.1 in
      let few = ltb-true x.index (length (session_of report e).rows) (all_at (λ (step : Step). nat_lt step.index (length (session_of report e).rows)) (session_of report e).steps (own place) x session_lawful.carried.others (own_stands place x at names.0)) in
      omega (arith, named, few)

  -- it stands where its record's steps do
  of_record : (place i : ℕ) (x : Step) → slice_get report.steps.items place ≡ Some x → (x.session ≡ e.number) × (x.index ≡ i) → Contains (step_places (session_of report e) i) (own place)
  of_record place i x at names = in_places (λ (step : Step). step.index == i) (session_of report e).steps (own place) x (own_stands place x at names.0) (eq-eqb x.index i names.1)

  -- a step of a record that was answered before another was sent stands before that one's
  stands_before : (w f p q : ℕ) (x y : Step) → HadBefore (session_of report e) (sending e.log.items f) w
      → slice_get report.steps.items p ≡ Some x → (x.session ≡ e.number) × (x.index ≡ w)
      → slice_get report.steps.items q ≡ Some y → (y.session ≡ e.number) × (y.index ≡ f) → p < q
  stands_before w f p q x y had at names bt named =
      let few = session_lawful.taken.only_sent in
      let taken = was_taken p w x at names in let flushed = was_taken q f y bt named in
      let before = ((order_is_kept (session_of report e)).0 session_lawful.ordered).records w f (omega (arith, few, taken)) (omega (arith, few, flushed)) had in
      rank_order (λ (step : Step). step.session == e.number) report.steps.items p q (before.0 (own p) (own q) (of_record p w x at names) (of_record q f y bt named))

  -- a block that one changed lies in the image
  lies_inside : (b place i : ℕ) (x : Step) → slice_get report.steps.items place ≡ Some x → (x.session ≡ e.number) × (x.index ≡ i) → changes_block (change_of x) b ≡ true → b < length image
  lies_inside b place i x at names writes =
      let t = last_two (not x.faulted) (puts_bytes x.op) (x.block == b) writes in
      let block : x.block ≡ b = eqb-true x.block b t.1 in
      let stays = lies_in e.range x.op x.block t.0 (one_of (λ (step : Step). StaysIn e.range step.op step.block) (session_of report e).steps (own place) x (steps_stay_inside (session_of report e) session_lawful) (own_stands place x at names.0)) in
      let lies = one_of (λ (y : SessionReport). y.range.first + y.range.count ≤ length image) report.sessions.items n e (ranges_lie_in_image image report lawful.on_table) there in
      omega (arith, block, stays, lies)

  -- ---- a crash

  -- a step before a flush outlives it
  pub survives_flush : (count : ℕ) (left : List (List ℕ)) → IsCrashImage image (changes_of (take count report.steps.items)) left
      → (w f : ℕ) (flushed : WasFlushed (take count report.steps.items) e.number f)
      → (b place : ℕ) → WroteBlock report.steps.items e.number w b place → place < flushed.place
      → WerePutSince (take count report.steps.items) (length (block_at image b)) b place (block_at left b)
  survives_flush count left crash w f flushed b place wrote early =
      let flush = from_take report.steps.items count flushed.place flushed.step flushed.stands in
      let late = flush.1 in
      let past = barrier_past (changes_of (take count report.steps.items)) flushed.place (change_of flushed.step) (in_map change_of (take count report.steps.items) flushed.place flushed.step flushed.stands) flushed.flushes in
      let version = crash.each b (lies_inside b place w wrote.step wrote.stands wrote.names wrote.writes) in
      let after = version.after_barrier in
      let stands = in_take report.steps.items count place wrote.step (omega (arith, early, late)) wrote.stands in
      let last = last_change (length (block_at image b)) (take version.place (changes_of (take count report.steps.items))) b place (block_at image b) (change_of wrote.step)
      (in_take (changes_of (take count report.steps.items)) version.place place (change_of wrote.step) (omega (arith, early, past, after)) (in_map change_of (take count report.steps.items) place wrote.step stands)) wrote.writes in
      let z = from_map change_of (take count report.steps.items) last.later last.change (from_take (changes_of (take count report.steps.items)) version.place last.later last.change last.stands).0 in
      record {
        later = last.later;
        step = z.0;
        stands = z.1;
        since = last.since;
        writes = ap (λ (c : Change). changes_block c b) z.2 ∙ last.writes;
        are = version.is ∙ (last.are ∙ ap (λ (c : Change). put_by (length (block_at image b)) c.op c.bytes) (sym z.2));
      }

  survives : (count : ℕ) (left : List (List ℕ)) → IsCrashImage image (changes_of (take count report.steps.items)) left
      → (w f : ℕ) → HadBefore (session_of report e) (sending e.log.items f) w → WasFlushed (take count report.steps.items) e.number f
      → (b place : ℕ) → WroteBlock report.steps.items e.number w b place
      → WerePutSince (take count report.steps.items) (length (block_at image b)) b place (block_at left b)
  survives count left crash w f had flushed b place wrote =
      let flush = from_take report.steps.items count flushed.place flushed.step flushed.stands in
      survives_flush count left crash w f flushed b place wrote (stands_before w f place flushed.place wrote.step flushed.step had wrote.stands wrote.names flush.0 flushed.names)

  -- what a record wrote stands before a flush of its own
  pub own_before : (w p q : ℕ) (x y : Step) → slice_get report.steps.items p ≡ Some x → (x.session ≡ e.number) × (x.index ≡ w) → puts_bytes x.op ≡ true
      → slice_get report.steps.items q ≡ Some y → (y.session ≡ e.number) × (y.index ≡ w) → is_flush y.op ≡ true → p < q
  own_before w p q x y at names puts bt named flush =
      rank_order (λ (step : Step). step.session == e.number) report.steps.items p q
      (before_flush (session_of report e) session_lawful w (own p) (own q) x y (was_taken p w x at names) (own_stands p x at names.0) (eq-eqb x.index w names.1) puts (own_stands q y bt named.0) (eq-eqb y.index w named.1) flush)

pub flushed_writes_survive : FlushedWritesSurvive
flushed_writes_survive image report lawful count left crash n e there w f had flushed b place wrote = survives image report lawful n e there count left crash w f had flushed b place wrote

-- once all steps are made
pub flushed_at_the_end : (image : List (List ℕ)) (report : Report) (left : List (List ℕ)) → IsLawful image report → IsCrashImage image (changes_of report.steps.items) left → KeepsFlushed image report report.steps.items left
flushed_at_the_end image report left lawful crash =
    let all : take (length report.steps.items) report.steps.items ≡ report.steps.items = take_all (length report.steps.items) report.steps.items (omega arith) in
    subst (λ (made : List Step). KeepsFlushed image report made left) all
    (flushed_writes_survive image report lawful (length report.steps.items) left (subst (λ (made : List Step). IsCrashImage image (changes_of made) left) (sym all) crash))
