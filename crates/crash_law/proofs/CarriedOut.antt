-- What the steps that carried a forced write out keep over a crash, in any history that they stand in.
use Rattle.std.proofs.Common.{◌≡◌, ℕ, zero, suc, ◌+◌, ◌<◌, ◌==◌, Bool, true, false, cond, List, [], ◌∷◌, ◌++◌, filter, length, take, Some, refl, sym, ap, ◌∙◌, arith}
use Rattle.std.specs.List.{slice_get}
use Rattle.std.proofs.lemmas.List.FromFn.{length-map-range_with_len}
use Rattle.host_block.specs.{Change, changes_block, is_barrier, is_flush, puts_bytes, put_by, IsCrashImage, block_at}
use Rattle.host_block.specs.declared.op.Op.TheVariants as op
use Rattle.host_block.specs.declared.range.Range.{Range}
use Rattle.host_block.proofs.Places.{from_filter, from_take, in_map, in_take}
use Rattle.host_record.specs.{is_forced, Write}
use Rattle.host_record.specs.declared.request.Request.{Request}
use Rattle.host_record.specs.declared.status.Status.TheVariants as status
use Rattle.host_model.specs.{Ask, Step, asked_by, carries_out, ended, flush_ask, for_each_block, same_op, change_of, changes_of}
use Rattle.crash_law.specs.{HasSurvived, WerePutSince}
use Rattle.crash_law.proofs.Barriers.{barrier_past, last_change}
use Rattle.crash_law.proofs.Places.{from_map}
use Rattle.crash_law.proofs.Steps.{all_made, asks_for, at_end, changes, flush_is, flushes, last_two}

-- ---- the order of those that pass a test

-- two elements at these places, the first before the other
pub record StandSo {A : Type 0} (xs : List A) (x y : A) : Type 0 where
  pub first : ℕ
  pub last : ℕ
  pub before : first < last
  pub first_is : slice_get xs first ≡ Some x
  pub last_is : slice_get xs last ≡ Some y

module _ {A : Type 0} where
  shifted : (z : A) (zs : List A) (x y : A) → StandSo zs x y → StandSo (z ∷ zs) x y
  shifted z zs x y s = let lt = s.before in record { first = suc s.first; last = suc s.last; before = omega arith; first_is = s.first_is; last_is = s.last_is }

  -- two that pass stand in the whole list in the same order
  pub in_whole : (p : A → Bool) (xs : List A) (m j : ℕ) (x y : A) → m < j → slice_get (filter p xs) m ≡ Some x → slice_get (filter p xs) j ≡ Some y → StandSo xs x y
  in_whole p [] zero j x y lt at bt = absurd (cc)
  in_whole p [] (suc m) j x y lt at bt = absurd (cc)
  in_whole p (z ∷ zs) m j x y lt at bt = step (p z) m j lt at bt (λ n k few one two. in_whole p zs n k x y few one two)
    where
      step : (b : Bool) (m j : ℕ) → m < j → slice_get (cond b (z ∷ filter p zs) (filter p zs)) m ≡ Some x → slice_get (cond b (z ∷ filter p zs) (filter p zs)) j ≡ Some y
          → ((n k : ℕ) → n < k → slice_get (filter p zs) n ≡ Some x → slice_get (filter p zs) k ≡ Some y → StandSo zs x y) → StandSo (z ∷ zs) x y
      step false m j lt at bt more = shifted z zs x y (more m j lt at bt)
      step true zero zero lt at bt more = absurd (let none : 0 < 0 = lt in omega (arith, none))
      step true (suc m) zero lt at bt more = absurd (let none : suc m < 0 = lt in omega (arith, none))
      step true zero (suc j) lt at bt more = let f = from_filter p zs j y bt in record { first = 0; last = suc f.0; before = omega arith; first_is = at; last_is = f.1 }
      step true (suc m) (suc j) lt at bt more = let less : suc m < suc j = lt in shifted z zs x y (more m j (omega (arith, less)) at bt)

-- ---- a step before a flush outlives it

module _ (image left : List (List ℕ)) (history : List Step) (crash : IsCrashImage image (changes_of history) left) where
  outlives : (b : ℕ) (x y : Step) (s : StandSo history x y) → b < length image → changes_block (change_of x) b ≡ true → is_barrier (change_of y) ≡ true
      → WerePutSince history (length (block_at image b)) b s.first (block_at left b)
  outlives b x y s inside writes flush =
      let past = barrier_past (changes_of history) s.last (change_of y) (in_map change_of history s.last y s.last_is) flush in
      let version = crash.each b inside in
      let after = version.after_barrier in
      let early = s.before in
      let last = last_change (length (block_at image b)) (take version.place (changes_of history)) b s.first (block_at image b) (change_of x)
      (in_take (changes_of history) version.place s.first (change_of x) (omega (arith, early, past, after)) (in_map change_of history s.first x s.first_is)) writes in
      let z = from_map change_of history last.later last.change (from_take (changes_of history) version.place last.later last.change last.stands).0 in
      record {
        later = last.later;
        step = z.0;
        stands = z.1;
        since = last.since;
        writes = ap (λ (c : Change). changes_block c b) z.2 ∙ last.writes;
        are = version.is ∙ (last.are ∙ ap (λ (c : Change). put_by (length (block_at image b)) c.op c.bytes) (sym z.2));
      }

  -- Of a forced write whose steps are these, which stand in the history in their order, and that ended well.
  pub forced_kept : (own : List Step) (session i : ℕ) (range : Range) (r : Request)
      → ((m j : ℕ) (x y : Step) → m < j → slice_get own m ≡ Some x → slice_get own j ≡ Some y → StandSo history x y × ((x.session ≡ session) × (x.index ≡ i)))
      → is_forced r ≡ true → carries_out (asked_by (Some Write) range r) own ≡ true → ended (asked_by (Some Write) range r) own ≡ status.Ok
      → (k : ℕ) → k < r.length → range.first + r.dev_offset + k < length image → HasSurvived image history session i (range.first + r.dev_offset + k) left
  forced_kept own session i range r order forced carried well k lt inside =
      let b : ℕ = range.first + r.dev_offset + k in
      let blocks = for_each_block op.Write range r in
      let size : r.length ≡ length (for_each_block op.Write range r) = sym (length-map-range_with_len (λ (n : ℕ). let a : Ask = record { k = n; op = op.Write; block = range.first + r.dev_offset + n } in a) 0 r.length) in
      let at = ap (λ f. slice_get (for_each_block op.Write range r ++ cond f (flush_ask r.length ∷ []) []) r.length) forced ∙ at_end (for_each_block op.Write range r) r.length (flush_ask r.length) size in
      let a = asks_for Write range r k refl lt in
      let x = all_made (asked_by (Some Write) range r) own k a.0 carried well a.1 in
      let y = all_made (asked_by (Some Write) range r) own r.length (flush_ask r.length) carried well at in
      let s = order k r.length x.0 y.0 lt x.1 y.1 in
      let t = last_two (x.0.k == a.0.k) (same_op x.0.op a.0.op) (x.0.block == a.0.block) x.2 in
      let u = last_two (y.0.k == r.length) (same_op y.0.op op.Flush) (y.0.block == 0) y.2 in
      let on : (x.0.block == range.first + r.dev_offset + k) ≡ true = ap (λ n. x.0.block == n) (sym a.2) ∙ t.1 in
      let writes : changes_block (change_of x.0) (range.first + r.dev_offset + k) ≡ true = changes x.0.faulted (puts_bytes x.0.op) (x.0.block == range.first + r.dev_offset + k) x.3 (a.3 x.0.op t.0) on in
      let flush : is_barrier (change_of y.0) ≡ true = flushes y.0.faulted (is_flush y.0.op) y.3 (flush_is y.0.op u.0) in
      record {
        place = s.0.first;
        wrote = record { step = x.0; stands = s.0.first_is; names = s.1; writes = writes };
        left = outlives (range.first + r.dev_offset + k) x.0 y.0 s.0 inside writes flush;
      }
