-- Which buffers still hold pages.
use Rattle.std.proofs.Common.{◌≡◌, inl, inr, ℕ, zero, suc, ◌+◌, ◌-◌, ◌<◌, ◌≤◌, ◌==◌, Bool, true, false, not, ◌||◌, cond, if◌then◌else◌, List, [], ◌∷◌, ◌++◌, filter, filter_map, length, Option, Some, None, refl, sym, ap, subst, ◌∙◌, arith}
use Rattle.std.specs.Prelude.{slice_get}
use Rattle.std.specs.Bool.{then_some}
use Rattle.std.specs.List.{cons_option, list_any, position_from, range_with_len}
use Rattle.std.specs.Option.{option_map, option_map_or, is_some}
use Rattle.std.proofs.lemmas.Bool.{and_parts, eqb-true}
use Rattle.std.proofs.lemmas.Bool.Decides.{eqb_tells, leb_tells}
use Rattle.std.proofs.lemmas.List.Folds.{list_any-append}
use Rattle.std.proofs.lemmas.Option.{slice_get_within}
use Rattle.atomic_table.specs.Seated.{TableId}
use Rattle.host_frames.specs.{SeenPages}
use Rattle.host_model.specs.{MemEvent, Attach, Release, all_after, count, buffer_of, comes_before_release, is_release_of}
use Rattle.host_memory.specs.{Buffer, given_count, Attachment, attachment_by, attachment_of, first_held, holds_pages, is_given_by, is_released, AreTold, IsHistorySound, IsToldBy, outline}
use Rattle.host_memory.proofs.Attached.{uncounted}
use Rattle.host_memory.proofs.Pinning.{some_counted}
use Rattle.host_memory.proofs.Pushed.{any_add}
use Rattle.host_log.proofs.Places.{some_at}
use Rattle.host_memory.proofs.Seeing.{attachment_is, outline_count, pages_held_is}
use Rattle.host_memory.proofs.Telling.{leaves_alone, no_any, no_map}
use Rattle.host_log.proofs.Bools.{never_true}

-- ---- the first of a range

first_step : (p : ℕ → Bool) (a : ℕ) (l : List ℕ) (o : Option ℕ) (j : ℕ) (b c : Bool) → b ≡ c → a ≡ j + 1 → slice_get l 0 ≡ option_map (λ i. i + 1) o → slice_get (cond b (a ∷ l) l) 0 ≡ option_map (λ i. i + 1) (cond c (Some j) o)
first_step p a l o j true true s e more = ap (λ z. Some z) e
first_step p a l o j true false s e more = absurd (cc)
first_step p a l o j false true s e more = absurd (cc)
first_step p a l o j false false s e more = more

-- a test on the numbers from j + 1 on finds the one after the place that a test on a list finds
found_first : {B : Type 0} (p : ℕ → Bool) (test : B → Bool) (bs : List B) (j : ℕ) → ((i : ℕ) (b : B) → slice_get bs i ≡ Some b → p (suc (j + i)) ≡ test b)
    → slice_get (filter p (range_with_len (j + 1) (length bs))) 0 ≡ option_map (λ i. i + 1) (position_from test j bs)
found_first p test [] j same = refl
found_first p test (b ∷ bs) j same =
    let here : p (j + 1) ≡ test b = ap p (let e : j + 1 ≡ suc (j + 0) = omega arith in e) ∙ same 0 b refl in
    first_step p (j + 1) (filter p (range_with_len (j + 1 + 1) (length bs))) (position_from test (j + 1) bs) j (p (j + 1)) (test b) here refl
    (found_first p test bs (j + 1) (λ i c at. ap p (let e : suc (j + 1 + i) ≡ suc (j + suc i) = omega arith in e) ∙ same (suc i) c at))

none_step : (a : ℕ) (l : List ℕ) (b : Bool) → slice_get (cond b (a ∷ l) l) 0 ≡ None → (b ≡ false) × (slice_get l 0 ≡ None)
none_step a l true e = absurd (cc)
none_step a l false e = (refl, e)

-- where none of a range passes
none_found : (p : ℕ → Bool) (a n v : ℕ) → slice_get (filter p (range_with_len a n)) 0 ≡ None → a ≤ v → v < a + n → p v ≡ false
none_found p a zero v e low high = absurd (omega arith)
none_found p a (suc n) v e low high = let parts = none_step a (filter p (range_with_len (a + 1) n)) (p a) e in
    elim (eqb_tells a v) as (λ _. p v ≡ false) [ inl s ↦ ap p (sym s.1) ∙ parts.0 | inr s ↦ (let apart = s.1 in none_found p (a + 1) n v parts.1 (omega arith) (omega arith)) ]

passes_step : {A : Type 0} (p : A → Bool) (x : A) (l : List A) (v : A) (b : Bool) → p x ≡ b → (slice_get l 0 ≡ Some v → p v ≡ true) → slice_get (cond b (x ∷ l) l) 0 ≡ Some v → p v ≡ true
passes_step p x l v true s more e = let is : x ≡ v = cc in ap p (sym is) ∙ s
passes_step p x l v false s more e = more e

-- what stands first in a filtered list passes the test
first_passes : {A : Type 0} (p : A → Bool) (xs : List A) (v : A) → slice_get (filter p xs) 0 ≡ Some v → p v ≡ true
first_passes p [] v e = absurd (cc)
first_passes p (x ∷ xs) v e = passes_step p x (filter p xs) v (p x) refl (λ s. first_passes p xs v s) e

-- ---- the first buffer that holds pages

pub first_holds : (h : List MemEvent) (v : ℕ) → first_held h ≡ Some v → holds_pages v h ≡ true
first_holds h v e = first_passes (λ w. holds_pages w h) (range_with_len 1 (given_count h)) v e

some_held : (p : Option SeenPages) → option_map_or (λ n. true) (outline_count (outline p)) false ≡ is_some p
some_held None = refl
some_held (Some p) = refl

module _ (pool : TableId × ℕ) (size : ℕ) (h : List MemEvent) (bs : List Buffer) (t : AreTold pool size h bs) where
  pub holds_where : (i : ℕ) (b : Buffer) → slice_get bs i ≡ Some b → holds_pages (suc i) h ≡ is_some b.pages
  holds_where i b at = ap (λ o. option_map_or (λ n. true) o false) (pages_held_is pool size h (suc i) b (t.each i b at)) ∙ some_held b.pages

  pub first_is : first_held h ≡ option_map (λ i. i + 1) (position_from (λ b. is_some b.pages) 0 bs)
  first_is = ap (λ n. slice_get (filter (λ v. holds_pages v h) (range_with_len 1 n)) 0) t.given
      ∙ found_first (λ v. holds_pages v h) (λ b. is_some b.pages) bs 0 (λ i b at. ap (λ v. holds_pages v h) (let e : suc (0 + i) ≡ suc i = omega arith in e) ∙ holds_where i b at)

-- ---- each buffer is released once

releases_step : (v : ℕ) (x : MemEvent) → is_release_of v x ≡ true → buffer_of x ≡ v
releases_step v (Release id) e = eqb-true id v e
releases_step v _ e = absurd (cc)

clash : (b : Bool) → not b ≡ true → b ≡ true → ⊥
clash true n e = absurd (cc)
clash false n e = absurd (cc)

cons_count : {A : Type 0} (x : A) (l : List A) (b : Bool) → b ≡ false → length (cond b (x ∷ l) l) ≡ length l
cons_count x l b e = ap (λ c. length (cond c (x ∷ l) l)) e

seen_more : (v : ℕ) (before : List MemEvent) (x : MemEvent) → list_any (is_release_of v) before ≡ true → list_any (is_release_of v) (before ++ x ∷ []) ≡ true
seen_more v before x e = list_any-append (is_release_of v) before (x ∷ []) ∙ ap (λ b. b || list_any (is_release_of v) (x ∷ [])) e

-- none comes after the first
no_more : (v : ℕ) (before xs : List MemEvent) → all_after comes_before_release before xs ≡ true → list_any (is_release_of v) before ≡ true → count (is_release_of v) xs ≡ 0
no_more v before [] e seen = refl
no_more v before (x ∷ xs) e seen =
    let parts = and_parts (comes_before_release before x) (all_after comes_before_release (before ++ x ∷ []) xs) e in
    let other : is_release_of v x ≡ false = never_true (is_release_of v x) (λ t. clash (list_any (is_release_of v) before) (ap (λ w. not (list_any (is_release_of w) before)) (sym (releases_step v x t)) ∙ parts.0) seen) in
    cons_count x (filter (is_release_of v) xs) (is_release_of v x) other ∙ no_more v (before ++ x ∷ []) xs parts.1 (seen_more v before x seen)

once_step : (x : MemEvent) (l : List MemEvent) (b : Bool) → (b ≡ true → length l ≡ 0) → length l ≤ 1 → length (cond b (x ∷ l) l) ≤ 1
once_step x l true none few = let z = none refl in omega arith
once_step x l false none few = few

few_releases : (v : ℕ) (before xs : List MemEvent) → all_after comes_before_release before xs ≡ true → count (is_release_of v) xs ≤ 1
few_releases v before [] e = omega arith
few_releases v before (x ∷ xs) e =
    let parts = and_parts (comes_before_release before x) (all_after comes_before_release (before ++ x ∷ []) xs) e in
    once_step x (filter (is_release_of v) xs) (is_release_of v x) (λ t. no_more v (before ++ x ∷ []) xs parts.1 (any_add (is_release_of v) before x t)) (few_releases v (before ++ x ∷ []) xs parts.1)

given_step : (b : Bool) (a : Attachment) → b ≡ is_some (then_some b a)
given_step true a = refl
given_step false a = refl

given_test : (v : ℕ) (e : MemEvent) → is_given_by v e ≡ is_some (attachment_by v e)
given_test v (Attach id pages from) = given_step (id == v) (record { pages = pages; from = from })
given_test v _ = refl

mapped_step : {A B : Type 0} (x : A) (l : List A) (m : List B) (o : Option B) (b : Bool) → b ≡ is_some o → length l ≡ length m → length (cond b (x ∷ l) l) ≡ length (cons_option o m)
mapped_step x l m None true s e = absurd (cc)
mapped_step x l m None false s e = e
mapped_step x l m (Some y) true s e = omega arith
mapped_step x l m (Some y) false s e = absurd (cc)

pub given_times : (v : ℕ) (h : List MemEvent) → count (is_given_by v) h ≡ length (filter_map (attachment_by v) h)
given_times v [] = refl
given_times v (x ∷ xs) = mapped_step x (filter (is_given_by v) xs) (filter_map (attachment_by v) xs) (attachment_by v x) (is_given_by v x) (given_test v x) (given_times v xs)

released_step : (z : Bool) (o : Option Attachment) (a : Attachment) → o ≡ Some a → option_map_or (λ n. true) (if z then None else option_map_or (λ x. Some x.pages) o None) false ≡ false → z ≡ true
released_step true o a is e = refl
released_step false o a is e = absurd (let f : true ≡ false = ap (λ x. option_map_or (λ n. true) (option_map_or (λ y. Some y.pages) x None) false) (sym is) ∙ e in cc)

-- where no buffer holds pages, each that was given is released once
module _ (pool : TableId × ℕ) (size : ℕ) (h : List MemEvent) (bs : List Buffer) (t : AreTold pool size h bs) (s : IsHistorySound size h) (none : first_held h ≡ None) where
  once_given : (v i : ℕ) (b : Buffer) → suc i ≡ v → slice_get bs i ≡ Some b → count (is_release_of v) h ≡ count (is_given_by v) h
  once_given v i b named at =
      let told : IsToldBy pool size h v b = subst (λ w. IsToldBy pool size h w b) named (t.each i b at) in
      let within = slice_get_within bs i b at in let given = t.given in
      let free : holds_pages v h ≡ false = none_found (λ w. holds_pages w h) 1 (given_count h) v none (omega arith) (omega arith) in
      let gone : is_released v h ≡ true = released_step (is_released v h) (attachment_of v h) (record { pages = b.page_count; from = b.from }) (attachment_is pool size h v b told) free in
      let some = some_counted (is_release_of v) (is_release_of v) (λ x e. e) h gone in
      let few = few_releases v [] h s.released in
      let one = given_times v h ∙ ap length told.attached in omega arith

  never_given : (v : ℕ) → list_any (λ e. buffer_of e == v) h ≡ false → count (is_release_of v) h ≡ count (is_given_by v) h
  never_given v n =
      let releases = uncounted (is_release_of v) h (no_any v (is_release_of v) (λ e m. (leaves_alone 0 v e m).release) h n) in
      let gives = given_times v h ∙ ap length (no_map v (attachment_by v) (λ e m. (leaves_alone 0 v e m).attachment) h n) in omega arith

  pub released_once : (v : ℕ) → count (is_release_of v) h ≡ count (is_given_by v) h
  released_once v = elim (leb_tells 1 v) as (λ _. count (is_release_of v) h ≡ count (is_given_by v) h) [
    | inl p ↦ elim (leb_tells v (length bs)) as (λ _. count (is_release_of v) h ≡ count (is_given_by v) h) [
      | inl q ↦ (let low = p.1 in let high = q.1 in let found = some_at bs (v - 1) (omega arith) in once_given v (v - 1) found.0 (omega arith) found.1)
      | inr q ↦ never_given v (t.fresh v q.1)
    ]
    | inr p ↦ never_given v (let low = p.1 in let z : 0 ≡ v = omega arith in subst (λ w. list_any (λ e. buffer_of e == w) h ≡ false) z t.never)
  ]
