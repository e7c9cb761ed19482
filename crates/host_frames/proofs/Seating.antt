-- How the rule begins, how seats are made and joined, and what it tells at the end.
use Rattle.std.proofs.Common.{◌≡◌, ◌≢◌, ◌⊎◌, ℕ, zero, suc, ◌+◌, ◌*◌, ◌/◌, ◌%◌, ◌<◌, ◌≤◌, List, [], ◌∷◌, ◌++◌, length, get_or, set, replicate, length-append, sym, refl, ap, subst, ◌∙◌, inl, inr, ⊎_elim, arith}
use Rattle.std.specs.Prelude.{Option, Some, None}
use mathlib.Core.Option.{some, some-injective, some-ne-none}
use mathlib.Core.Logic.{dite}
use native.Mathlib.Decide.{ℕ_discrete, dec_lt}
use lib.ListN.{get_elem?}
use Rattle.atomic_table.specs.Table.{State, Splits, Joins, opening, Final, Seen}
use Rattle.atomic_table.proofs.Lists.{at_set, set_else, at_snoc, at_map}
use Rattle.host_frames.specs.{Opening, View, Claim, claim_bit, won_by, taken_by, frames_in_claims, AreFair, SomeIsRefused, times_to_fetch, times_out, times_held, named_count, share_of, granted_of, given_back_of, times_won, times_taken, first_view, view_after_making, new_seat_view, packed_view, emptied_view, unpacked_view, gathered_view, spent_view, idle_view, out_view, OnePlace, pages_at_home}
use Rattle.host_log.specs.{total, upto, occurrences}
use Rattle.host_log.proofs.Totals.{total_set, total_snoc, total_append, total_at, total_two, total_only, upto_plus, upto_le, upto_same, upto_ones, upto_total}
use Rattle.host_log.proofs.Counts.{count_append, upto_count, upto_count_le}
use Rattle.std.specs.Int.{bit_at}
use Rattle.std.proofs.lemmas.Nat.Bits.{bit_at-zero}
use Rattle.host_frames.proofs.Bits.{claim_bit_le}
use Rattle.host_frames.proofs.Stepping as m

abbrev is_here : {P : Type 0} → Option P → ℕ
is_here None = 0
is_here (Some _) = 1

none_is_some : {P : Type 0} (p : P) → Some p ≡ None → ⊥
none_is_some p e = let g = ap is_here e in let h : ◌≡◌ {A = ℕ} 1 0 = g in omega arith

sum_two : {a b c d : ℕ} → a ≡ c → b ≡ d → a + b ≡ c + d
sum_two p q = omega arith

split_total : {A : Type 0} (g : A → ℕ) (vs : List A) (id : ℕ) (v left right : A) → get_elem? vs id ≡ some v → g left + g right ≡ g v → total g (set vs id left ++ right ∷ []) ≡ total g vs
split_total g vs id v left right at e = let a = total_set g vs id v left at in let b = total_snoc g (set vs id left) right in omega arith

join_total : {A : Type 0} (g : A → ℕ) (vs : List A) (id : ℕ) (v : A) (other : ℕ) (w b c : A) → get_elem? vs id ≡ some v → get_elem? (set vs id b) other ≡ some w → g b + g c ≡ g v + g w → total g (set (set vs id b) other c) ≡ total g vs
join_total g vs id v other w b c at at' e = let x = total_set g vs id v b at in let y = total_set g (set vs id b) other w c at' in omega arith

total_same : {A : Type 0} (f g : A → ℕ) (xs : List A) → ((j : ℕ) (v : A) → get_elem? xs j ≡ some v → f v ≡ g v) → total f xs ≡ total g xs
total_same f g [] h = refl
total_same f g (x ∷ xs) h = let here : f x ≡ g x = h zero x refl in let more = total_same f g xs (λ j v e. h (suc j) v e) in omega arith

pub fair_append : (xs ys : List Claim) → AreFair xs → AreFair ys → AreFair (xs ++ ys)
fair_append [] ys a b = b
fair_append (x ∷ xs) ys a b = (a.0, fair_append xs ys a.1 b)

no_word : (n i : ℕ) → ◌≡◌ {A = ℕ} (get_or (replicate n 0) i 0) 0
no_word zero i = refl
no_word (suc n) zero = refl
no_word (suc n) (suc i) = no_word n i

no_bit : (n f : ℕ) → claim_bit (replicate n 0) f ≡ 0
no_bit n f = ap (λ z. bit_at z (f % 64)) (no_word n (f / 64)) ∙ bit_at-zero (f % 64)

length_replicate : {A : Type 0} (n : ℕ) (a : A) → length (replicate n a) ≡ n
length_replicate zero a = refl
length_replicate (suc n) a = let more = length_replicate n a in omega arith

-- what all claims together have won
fair_total : (cs : List Claim) → AreFair cs → total (λ c. length c.won) cs ≤ frames_in_claims cs
fair_total [] h = omega arith
fair_total (c ∷ cs) h = let more = fair_total cs h.1 in let here = h.0 in omega arith

refused_total : (frames : ℕ) (cs : List Claim) → AreFair cs → SomeIsRefused frames cs → total (λ c. length c.won) cs < frames_in_claims cs
refused_total frames [] h p = absurd p
refused_total frames (c ∷ cs) h p = ⊎_elim (λ t. let more = fair_total cs h.1 in let here = t.1 in omega arith) (λ t. let more = refused_total frames cs h.1 t in let here = h.0 in omega arith) p

refused_covers : (frames : ℕ) (cs : List Claim) (f : ℕ) → f < frames → AreFair cs → SomeIsRefused frames cs → 1 ≤ won_by f cs + taken_by f cs
refused_covers frames [] f lt h p = absurd p
refused_covers frames (c ∷ cs) f lt h p = ⊎_elim (λ t. let here = t.0 f lt in omega arith) (λ t. let more = refused_covers frames cs f lt h.1 t in omega arith) p

-- the first of a sum
upto_first : (n : ℕ) (f : ℕ → ℕ) → upto (suc n) f ≡ f 0 + upto n (λ i. f (suc i))
upto_first zero f = omega arith
upto_first (suc n) f = let more = upto_first n f in omega arith

-- the pages that are at home, and those that are out
homes_count : {P : Type 0} (xs : List (Option P)) (g : ℕ → ℕ) → ((f : ℕ) → f < length xs → ((g f ≡ 0) × ((p : P) × (get_elem? xs f ≡ some (Some p)))) ⊎ ((g f ≡ 1) × (get_elem? xs f ≡ some None))) → pages_at_home xs + upto (length xs) g ≡ length xs
homes_count [] g h = omega arith
homes_count (Some p ∷ xs) g h = let more = homes_count xs (λ i. g (suc i)) (λ f lt. h (suc f) (omega arith)) in let first = upto_first (length xs) g in
    ⊎_elim (λ t. let z = t.0 in omega arith) (λ t. absurd (none_is_some p (some-injective (Some p) None t.1))) (h 0 (omega arith))
homes_count (None ∷ xs) g h = let more = homes_count xs (λ i. g (suc i)) (λ f lt. h (suc f) (omega arith)) in let first = upto_first (length xs) g in
    ⊎_elim (λ t. absurd (none_is_some t.1.0 (sym (some-injective None (Some t.1.0) t.1.1)))) (λ t. let z = t.0 in omega arith) (h 0 (omega arith))

module _ {P : Type 0} (IsBlank : ℕ → P → Type 0) (k : Opening) where
  abbrev St : Type 0
  St = State (Option P) View

  abbrev K : St → Type 0
  K = OnePlace IsBlank k

  abbrev Known : View → Type 0
  Known = m.Known IsBlank k

  pub opens : (n : ℕ) (xs : List (Option P)) → k.frames ≤ n * 64 → ((f : ℕ) → f < k.frames → (p : P) × (get_elem? xs f ≡ some (Some p)) × IsBlank k.page_size p) → K (opening (replicate n 0) xs (first_view k))
  opens n xs le pages = let v : View = first_view k in record {
    words_suffice = (let l : length (replicate {A = ℕ} n 0) ≡ n = length_replicate n 0 in omega arith);
    one_place = λ f. (let none = no_bit n f in omega arith);
    none_beyond = λ f _. no_bit n f;
    page_at_home = λ f lt _. let p = pages f lt in (p.0, at_map some xs f (Some p.0) p.1, p.2);
    slot_empty = λ f h. absurd (omega arith);
    granted_or_back = omega arith;
    taken_is_won = λ f h. absurd (let none = no_bit n f in omega arith);
    shares = (let e : k.seats + 0 ≡ k.seats = omega arith in e);
    each = λ j u e. ⊎_elim (λ t. absurd (some-ne-none u (sym t))) (λ t. subst Known t (tt, (λ z. (refl, refl, refl, refl, refl)), λ _. refl)) (at_snoc [] v u j e);
  }

  -- views change, and no sum does
  resummed : (s : St) (r : K s) (vs : List View) → ((f : ℕ) → total (times_to_fetch f) vs ≡ total (times_to_fetch f) s.views) → ((f : ℕ) → total (times_out f) vs ≡ total (times_out f) s.views) → ((f : ℕ) → total (times_held f) vs ≡ total (times_held f) s.views) → total named_count vs ≡ total named_count s.views → total given_back_of vs ≡ total given_back_of s.views → total granted_of vs ≡ total granted_of s.views
      → ((f : ℕ) → total (times_won f) vs ≡ total (times_won f) s.views) → ((f : ℕ) → total (times_taken f) vs ≡ total (times_taken f) s.views) → total share_of vs ≡ total share_of s.views → ((j : ℕ) (v : View) → get_elem? vs j ≡ some v → Known v)
      → K record { words = s.words; homes = s.homes; views = vs }
  resummed s r vs i b h z a g w t p each = record {
    words_suffice = r.words_suffice;
    one_place = λ f. (let e = i f in let x = b f in let y = h f in let o = r.one_place f in omega arith);
    none_beyond = r.none_beyond;
    page_at_home = λ f lt le. let e = i f in r.page_at_home f lt (omega arith);
    slot_empty = λ f pos. let x = b f in r.slot_empty f (omega arith);
    granted_or_back = (let o = r.granted_or_back in omega arith);
    taken_is_won = λ f pos. let x = w f in let y = t f in let o = r.taken_is_won f (omega arith) in omega arith;
    shares = p ∙ r.shares;
    each = each;
  }

  -- one view is cut in two
  cut : (s : St) (r : K s) (id : ℕ) (v left right : View) → get_elem? s.views id ≡ some v → ((f : ℕ) → times_to_fetch f left + times_to_fetch f right ≡ times_to_fetch f v) → ((f : ℕ) → times_out f left + times_out f right ≡ times_out f v) → ((f : ℕ) → times_held f left + times_held f right ≡ times_held f v) → named_count left + named_count right ≡ named_count v → given_back_of left + given_back_of right ≡ given_back_of v → granted_of left + granted_of right ≡ granted_of v
      → ((f : ℕ) → times_won f left + times_won f right ≡ times_won f v) → ((f : ℕ) → times_taken f left + times_taken f right ≡ times_taken f v) → share_of left + share_of right ≡ share_of v → Known left → Known right
      → K record { words = s.words; homes = s.homes; views = set s.views id left ++ right ∷ [] }
  cut s r id v left right at i b h z a g w t p kl kr = resummed s r (set s.views id left ++ right ∷ []) (λ f. split_total (times_to_fetch f) s.views id v left right at (i f)) (λ f. split_total (times_out f) s.views id v left right at (b f)) (λ f. split_total (times_held f) s.views id v left right at (h f))
      (split_total named_count s.views id v left right at z) (split_total given_back_of s.views id v left right at a) (split_total granted_of s.views id v left right at g) (λ f. split_total (times_won f) s.views id v left right at (w f)) (λ f. split_total (times_taken f) s.views id v left right at (t f))
      (split_total share_of s.views id v left right at p)
      (λ j u e. ⊎_elim (λ y. ⊎_elim (λ q. subst Known q.1 kl) (λ q. r.each j u q.1) (at_set s.views id j left u y)) (λ y. subst Known y kr) (at_snoc (set s.views id left) right u j e))

  -- two views become one
  glued : (s : St) (r : K s) (id : ℕ) (v : View) (other : ℕ) (w b c : View) → get_elem? s.views id ≡ some v → get_elem? (set s.views id b) other ≡ some w → ((f : ℕ) → times_to_fetch f b + times_to_fetch f c ≡ times_to_fetch f v + times_to_fetch f w) → ((f : ℕ) → times_out f b + times_out f c ≡ times_out f v + times_out f w) → ((f : ℕ) → times_held f b + times_held f c ≡ times_held f v + times_held f w) → named_count b + named_count c ≡ named_count v + named_count w → given_back_of b + given_back_of c ≡ given_back_of v + given_back_of w → granted_of b + granted_of c ≡ granted_of v + granted_of w
      → ((f : ℕ) → times_won f b + times_won f c ≡ times_won f v + times_won f w) → ((f : ℕ) → times_taken f b + times_taken f c ≡ times_taken f v + times_taken f w) → share_of b + share_of c ≡ share_of v + share_of w → Known b → Known c
      → K record { words = s.words; homes = s.homes; views = set (set s.views id b) other c }
  glued s r id v other w b c at at' ei eb eh ez ea eg ew et ep kb kc = resummed s r (set (set s.views id b) other c) (λ f. join_total (times_to_fetch f) s.views id v other w b c at at' (ei f)) (λ f. join_total (times_out f) s.views id v other w b c at at' (eb f)) (λ f. join_total (times_held f) s.views id v other w b c at at' (eh f))
      (join_total named_count s.views id v other w b c at at' ez) (join_total given_back_of s.views id v other w b c at at' ea) (join_total granted_of s.views id v other w b c at at' eg) (λ f. join_total (times_won f) s.views id v other w b c at at' (ew f)) (λ f. join_total (times_taken f) s.views id v other w b c at at' (et f))
      (join_total share_of s.views id v other w b c at at' ep)
      (λ j u e. ⊎_elim (λ y. subst Known y.1 kc) (λ y. ⊎_elim (λ q. subst Known q.1 kb) (λ q. r.each j u q.1) (at_set s.views id j b u y.1)) (at_set (set s.views id b) other j c u e))

  pub makes : (id n b : ℕ) → Splits K id (idle_view (n + 1) b) (view_after_making (idle_view (n + 1) b)) (new_seat_view (idle_view (n + 1) b))
  makes id n b s r at = let known = r.each id (idle_view (n + 1) b) at in let bytes : b ≡ k.page_size = known.2 (λ z. absurd (omega arith)) in
      cut s r id (idle_view (n + 1) b) (view_after_making (idle_view (n + 1) b)) (new_seat_view (idle_view (n + 1) b)) at (λ f. omega arith) (λ f. omega arith) (λ f. omega arith) (omega arith) (omega arith) (omega arith) (λ f. omega arith) (λ f. omega arith) (omega arith)
      (tt, (λ z. (refl, refl, refl, refl, refl)), λ _. bytes) (tt, (λ z. (refl, refl, refl, refl, refl)), λ _. bytes)

  pub packs : (id : ℕ) (v : View) → Splits K id v (emptied_view v) (packed_view v)
  packs id v s r at = let known = r.each id v at in
      cut s r id v (emptied_view v) (packed_view v) at (λ f. omega arith) (λ f. omega arith) (λ f. omega arith) (omega arith) (omega arith) (omega arith) (λ f. omega arith) (λ f. omega arith) (omega arith)
      known (tt, (λ z. (refl, refl, refl, refl, refl)), λ ne. absurd (ne refl))

  pub unpacks : (id : ℕ) (v : View) (other b : ℕ) (fs : List ℕ) → Joins K id v other (out_view b fs) (unpacked_view v (out_view b fs)) spent_view
  unpacks id v other b fs s r at ne at' = let known = r.each id v at in
      glued s r id v other (out_view b fs) (unpacked_view v (out_view b fs)) spent_view at at' (λ f. omega arith) (λ f. let a = count_append f fs v.frames_out in omega arith) (λ f. omega arith) (let a = length-append fs v.frames_out in omega arith) (omega arith) (omega arith) (λ f. omega arith) (λ f. omega arith) (omega arith)
      known (tt, (λ z. (refl, refl, refl, refl, refl)), λ ne. absurd (ne refl))

  pub gathers : (id : ℕ) (v : View) (other : ℕ) (w : View) → v.share ≢ 0 → Joins K id v other w (gathered_view v w) spent_view
  gathers id v other w pos s r at ne at' = let kv = r.each id v at in let b : View = gathered_view v w in let kw = r.each other w (sym (set_else s.views id other b ne) ∙ at') in
      glued s r id v other w b spent_view at at' (λ f. let a = count_append f w.to_fetch v.to_fetch in omega arith) (λ f. let a = count_append f w.frames_out v.frames_out in omega arith) (λ f. let a = count_append f w.slots_held v.slots_held in omega arith) (let d = length-append w.to_fetch v.to_fetch in let a = length-append w.frames_out v.frames_out in let c = length-append w.slots_held v.slots_held in omega arith)
      (omega arith) (omega arith) (λ f. let a = total_append (λ (c : Claim). occurrences f c.won) w.claims v.claims in omega arith) (λ f. let a = total_append (λ (c : Claim). occurrences f c.taken) w.claims v.claims in omega arith) (omega arith)
      (fair_append w.claims v.claims kw.0 kv.0, (λ z. absurd (pos (omega arith))), λ _. kv.2 pos) (tt, (λ z. (refl, refl, refl, refl, refl)), λ no. absurd (no refl))

  -- who has taken in all seats knows how many pages are at home
  pub ends : (id : ℕ) (v : View) (ws : List ℕ) (xs : List (Option P)) → v.share ≡ k.seats → 1 ≤ k.seats → v.slots_held ≡ [] → v.to_fetch ≡ [] → length xs ≡ k.frames → Final (Seen K id v) ws xs
      → (pages_at_home xs + v.granted ≡ k.frames + v.given_back) × (SomeIsRefused k.frames v.claims → k.frames < frames_in_claims v.claims)
  ends id v ws xs all pos empty nothing len f = let s : St = f.0 in let r = f.1.0 in let at = f.1.1 in let vs : List View = s.views in
      let quiet : (j : ℕ) (u : View) → j ≢ id → get_elem? vs j ≡ some u → (u.granted ≡ 0) × (u.given_back ≡ 0) × (u.claims ≡ []) × (u.slots_held ≡ []) × (u.to_fetch ≡ []) =
      (λ j u ne e. (r.each j u e).1 (let two = total_two share_of vs id j v u (λ z. ne (sym z)) at e in let sum = r.shares in omega arith)) in
      let gots = total_only granted_of vs id v at (λ j u ne e. (quiet j u ne e).0) in let backs = total_only given_back_of vs id v at (λ j u ne e. (quiet j u ne e).1) in
      let no_held : (g : ℕ) → total (times_held g) vs ≡ 0 = λ g. total_only (times_held g) vs id v at (λ j u ne e. ap (occurrences g) (quiet j u ne e).3) ∙ ap (occurrences g) empty in
      let no_fetch : (g : ℕ) → total (times_to_fetch g) vs ≡ 0 = λ g. total_only (times_to_fetch g) vs id v at (λ j u ne e. ap (occurrences g) (quiet j u ne e).4) ∙ ap (occurrences g) nothing in
      let won : (g : ℕ) → total (times_won g) vs ≡ won_by g v.claims = λ g. total_only (times_won g) vs id v at (λ j u ne e. ap (won_by g) (quiet j u ne e).2) in
      let each : (g : ℕ) → g < length xs → ((claim_bit s.words g ≡ 0) × ((p : P) × (get_elem? xs g ≡ some (Some p)))) ⊎ ((claim_bit s.words g ≡ 1) × (get_elem? xs g ≡ some None)) = (λ g lt. dite (ℕ_discrete (claim_bit s.words g) 0)
      (λ free. let p = r.page_at_home g (omega arith) (omega arith) in inl (free, (p.0, f.4 g (Some p.0) p.1)))
      (λ taken. let h = no_held g in let i = no_fetch g in let o = r.one_place g in let le = claim_bit_le s.words g in inr (omega arith, f.4 g None (r.slot_empty g (omega arith))))) in
      let home = homes_count xs (claim_bit s.words) each in
      let named : ℕ → View → ℕ = λ g u. times_to_fetch g u + times_out g u + times_held g u in
      let few : (g : ℕ) → k.frames ≤ g → (total (times_to_fetch g) vs ≡ 0) × (total (times_out g) vs ≡ 0) × (total (times_held g) vs ≡ 0) = (λ g le. let o = r.one_place g in let z = r.none_beyond g le in (omega arith, omega arith, omega arith)) in
      let sizes : upto k.frames (claim_bit s.words) ≡ total named_count vs = (upto_same (claim_bit s.words) (λ g. total (named g) vs) k.frames (λ g lt. let o = r.one_place g in let p = total_plus (λ u. times_to_fetch g u + times_out g u) (times_held g) vs in let q = total_plus (times_to_fetch g) (times_out g) vs in omega arith)
      ∙ (upto_total named k.frames vs
      ∙ total_same (λ u. upto k.frames (λ g. named g u)) named_count vs (λ j u e. upto_plus (λ g. times_to_fetch g u + times_out g u) (λ g. times_held g u) k.frames ∙ sum_two
      (upto_plus (λ g. times_to_fetch g u) (λ g. times_out g u) k.frames ∙ sum_two (upto_count k.frames u.to_fetch (λ g le. let z = (few g le).0 in let b = total_at (times_to_fetch g) vs j u e in omega arith)) (upto_count k.frames u.frames_out (λ g le. let z = (few g le).1 in let b = total_at (times_out g) vs j u e in omega arith)))
      (upto_count k.frames u.slots_held (λ g le. let z = (few g le).2 in let b = total_at (times_held g) vs j u e in omega arith))))) in
      let same : upto (length xs) (claim_bit s.words) ≡ upto k.frames (claim_bit s.words) = ap (λ n. upto n (claim_bit s.words)) len in let lent = r.granted_or_back in
      let fair = (r.each id v at).0 in (
        omega arith,
        λ some_refused.
            let every : (g : ℕ) → g < k.frames → 1 ≤ won_by g v.claims = (λ g lt. let c = refused_covers k.frames v.claims g lt fair some_refused in let t = total_at (times_taken g) vs id v at in let w = won g in dite (dec_lt 0 (won_by g v.claims)) (λ y. omega arith)
            (λ no. let y = r.taken_is_won g (omega arith) in omega arith)) in
            let few = upto_le (λ _. 1) (λ g. won_by g v.claims) k.frames every in let ones = upto_ones k.frames in let turned = upto_total (λ g c. occurrences g c.won) k.frames v.claims in
            let le = total_below (λ c. upto k.frames (λ g. occurrences g c.won)) (λ c. length c.won) v.claims (λ c. upto_count_le k.frames c.won) in let lt = refused_total k.frames v.claims fair some_refused in omega arith,
      )
    where
      total_plus : (f g : View → ℕ) (ys : List View) → total (λ u. f u + g u) ys ≡ total f ys + total g ys
      total_plus f g [] = omega arith
      total_plus f g (y ∷ ys) = let more = total_plus f g ys in omega arith

      total_below : (f g : Claim → ℕ) (ys : List Claim) → ((c : Claim) → f c ≤ g c) → total f ys ≤ total g ys
      total_below f g [] h = omega arith
      total_below f g (y ∷ ys) h = let more = total_below f g ys h in let here = h y in omega arith
