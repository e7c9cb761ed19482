-- The pins that are left once an entry was added.
use Rattle.std.proofs.Common.{◌≡◌, ℕ, ◌≤◌, ◌==◌, Bool, true, false, not, ◌||◌, ◌&&◌, cond, List, [], ◌∷◌, ◌++◌, length, filter, refl, ap, ◌∙◌, arith}
use Rattle.std.specs.List.{list_any}
use Rattle.std.proofs.lemmas.List.Elements.{filter_agree}
use Rattle.std.proofs.lemmas.List.Folds.{list_any-append}
use Rattle.host_model.specs.{MemEvent, Pin, Done, count, buffer_of, is_pin}
use Rattle.host_memory.specs.{is_pin_for, is_done_for, is_left, pins_left, pins_on}
use Rattle.host_memory.proofs.Pushed.{any_skip, filter_skip, filter_add}
use Rattle.host_log.proofs.Bools.{not_or}

left_same : (h : List MemEvent) (e : MemEvent) → ((i : ℕ) → is_done_for i e ≡ false) → (p : MemEvent) → is_left (h ++ e ∷ []) p ≡ is_left h p
left_same h e d (Pin index id by) = ap not (any_skip (is_done_for index) h e (d index))
left_same h e d _ = refl

not_left : (h : List MemEvent) (e : MemEvent) → is_pin e ≡ false → is_left h e ≡ false
not_left h (Pin index id by) n = cc
not_left h _ n = refl

-- an entry that is no pin and no done
pub pins_left_same : (h : List MemEvent) (e : MemEvent) → ((i : ℕ) → is_done_for i e ≡ false) → is_pin e ≡ false → pins_left (h ++ e ∷ []) ≡ pins_left h
pins_left_same h e d n = filter_agree (is_left (h ++ e ∷ [])) (is_left h) (left_same h e d) (h ++ e ∷ []) ∙ filter_skip (is_left h) h e (not_left h e n)

-- a pin of a record that has no done
pub pins_left_pin : (h : List MemEvent) (i v by : ℕ) → list_any (is_done_for i) h ≡ false → pins_left (h ++ Pin i v by ∷ []) ≡ pins_left h ++ Pin i v by ∷ []
pins_left_pin h i v by n = let e = Pin i v by in
    filter_agree (is_left (h ++ e ∷ [])) (is_left h) (left_same h e (λ j. refl)) (h ++ e ∷ []) ∙ filter_add (is_left h) h e (ap not n)

module _ {A : Type 0} (a b : A → Bool) where
  both_step : (x : A) (l m : List A) (t : Bool) → l ≡ filter b m → cond (t && b x) (x ∷ l) l ≡ filter b (cond t (x ∷ m) m)
  both_step x l m true e = ap (λ n. cond (b x) (x ∷ n) n) e
  both_step x l m false e = e

  pub filter_both : (xs : List A) → filter (λ x. a x && b x) xs ≡ filter b (filter a xs)
  filter_both [] = refl
  filter_both (x ∷ xs) = both_step x (filter (λ y. a y && b y) xs) (filter a xs) (a x) (filter_both xs)

left_done : (h : List MemEvent) (i v : ℕ) (p : MemEvent) → is_left (h ++ Done i v ∷ []) p ≡ (is_left h p && not (is_pin_for i p))
left_done h i v (Pin index id by) = ap not (list_any-append (is_done_for index) h (Done i v ∷ [])) ∙ not_or (list_any (is_done_for index) h) (i == index)
left_done h i v _ = refl

-- a record's done
pub pins_left_done : (h : List MemEvent) (i v : ℕ) → pins_left (h ++ Done i v ∷ []) ≡ filter (λ p. not (is_pin_for i p)) (pins_left h)
pins_left_done h i v =
    filter_agree (is_left (h ++ Done i v ∷ [])) (λ p. is_left h p && not (is_pin_for i p)) (left_done h i v) (h ++ Done i v ∷ [])
    ∙ (filter_both (is_left h) (λ p. not (is_pin_for i p)) (h ++ Done i v ∷ []) ∙ ap (λ l. filter (λ p. not (is_pin_for i p)) l) (filter_skip (is_left h) h (Done i v) refl))

module _ {A : Type 0} where
  keeps_le : (x : A) (t : Bool) (l m : List A) → length l ≤ length m → length l ≤ length (cond t (x ∷ m) m)
  keeps_le x true l m h = omega arith
  keeps_le x false l m h = h

  grows_le : (x : A) (t : Bool) (l m : List A) → length l ≤ length m → length (cond t (x ∷ l) l) ≤ length (cond t (x ∷ m) m)
  grows_le x true l m h = omega arith
  grows_le x false l m h = h

  le_step : (p : A → Bool) (x : A) (s : Bool) (l m : List A) → count p l ≤ count p m → count p (cond s (x ∷ l) l) ≤ count p (x ∷ m)
  le_step p x true l m h = grows_le x (p x) (filter p l) (filter p m) h
  le_step p x false l m h = keeps_le x (p x) (filter p l) (filter p m) h

  -- a part of a list has no more of a kind
  pub count_le : (p q : A → Bool) (xs : List A) → count p (filter q xs) ≤ count p xs
  count_le p q [] = omega arith
  count_le p q (x ∷ xs) = le_step p x (q x) (filter q xs) xs (count_le p q xs)

  none_step : (x : A) (t : Bool) (l m xs : List A) → length (cond t (x ∷ l) l) ≡ 0 → (length l ≡ 0 → m ≡ xs) → cond (not t) (x ∷ m) m ≡ x ∷ xs
  none_step x true l m xs e more = absurd (omega arith)
  none_step x false l m xs e more = ap (λ n. x ∷ n) (more e)

  pub none_left : (s : A → Bool) (xs : List A) → count s xs ≡ 0 → filter (λ x. not (s x)) xs ≡ xs
  none_left s [] e = refl
  none_left s (x ∷ xs) e = none_step x (s x) (filter s xs) (filter (λ y. not (s y)) xs) xs e (λ n. none_left s xs n)

  some_step : (x : A) (b c rest : Bool) (l : List A) → (b ≡ true → c ≡ true) → (b || rest) ≡ true → (rest ≡ true → 1 ≤ length l) → 1 ≤ length (cond c (x ∷ l) l)
  some_step x b true rest l bc e more = omega arith
  some_step x true false rest l bc e more = absurd (let f : false ≡ true = bc refl in cc)
  some_step x false false rest l bc e more = more e

  pub some_counted : (s t : A → Bool) → ((x : A) → t x ≡ true → s x ≡ true) → (xs : List A) → list_any t xs ≡ true → 1 ≤ count s xs
  some_counted s t st [] e = absurd (cc)
  some_counted s t st (x ∷ xs) e = some_step x (t x) (s x) (list_any t xs) (filter s xs) (st x) e (λ n. some_counted s t st xs n)

-- a list, cut at its one element of a kind, and what is left of it without that one
pub record CutAt {A : Type 0} (s t : A → Bool) (xs : List A) : Type 0 where
  pub before : List A
  pub after : List A
  pub found : A
  pub passes : t found ≡ true
  pub whole : xs ≡ before ++ found ∷ after
  pub rest : filter (λ x. not (s x)) xs ≡ before ++ after

module _ {A : Type 0} (s t : A → Bool) where
  cut_here : (x : A) (xs : List A) → t x ≡ true → s x ≡ true → count s xs ≡ 0 → CutAt s t (x ∷ xs)
  cut_here x xs tx sx none = record {
    before = [];
    after = xs;
    found = x;
    passes = tx;
    whole = refl;
    rest = ap (λ z. cond (not z) (x ∷ filter (λ y. not (s y)) xs) (filter (λ y. not (s y)) xs)) sx ∙ none_left s xs none;
  }

  cut_later : (x : A) (xs : List A) → s x ≡ false → CutAt s t xs → CutAt s t (x ∷ xs)
  cut_later x xs sx c = record {
    before = x ∷ c.before;
    after = c.after;
    found = c.found;
    passes = c.passes;
    whole = ap (λ l. x ∷ l) c.whole;
    rest = ap (λ z. cond (not z) (x ∷ filter (λ y. not (s y)) xs) (filter (λ y. not (s y)) xs)) sx ∙ ap (λ l. x ∷ l) c.rest;
  }

  cut_step : (x : A) (xs : List A) (b c : Bool) → t x ≡ b → s x ≡ c → (b ≡ true → c ≡ true) → length (cond c (x ∷ filter s xs) (filter s xs)) ≤ 1 → (b || list_any t xs) ≡ true
      → (list_any t xs ≡ true → 1 ≤ count s xs) → (count s xs ≤ 1 → list_any t xs ≡ true → CutAt s t xs) → CutAt s t (x ∷ xs)
  cut_step x xs true true tx sx st one e some more = cut_here x xs tx sx (omega arith)
  cut_step x xs true false tx sx st one e some more = absurd (let f : false ≡ true = st refl in cc)
  cut_step x xs false true tx sx st one e some more = absurd (let n = some e in omega arith)
  cut_step x xs false false tx sx st one e some more = cut_later x xs sx (more one e)

  pub cut_at : ((x : A) → t x ≡ true → s x ≡ true) → (xs : List A) → count s xs ≤ 1 → list_any t xs ≡ true → CutAt s t xs
  cut_at st [] one e = absurd (cc)
  cut_at st (x ∷ xs) one e = cut_step x xs (t x) (s x) refl refl (st x) one e (λ n. some_counted s t st xs n) (λ o n. cut_at st xs o n)

left_step : (x : MemEvent) (b : Bool) (l m : List MemEvent) → length l ≤ length m → length (cond b (x ∷ l) l) ≤ length (x ∷ m)
left_step x true l m h = omega arith
left_step x false l m h = omega arith

left_among : (h xs : List MemEvent) → length (filter (is_left h) xs) ≤ count is_pin xs
left_among h [] = omega arith
left_among h (Pin index id by ∷ xs) = left_step (Pin index id by) (not (list_any (is_done_for index) h)) (filter (is_left h) xs) (filter is_pin xs) (left_among h xs)
left_among h (_ ∷ xs) = left_among h xs

-- the pins that are left are pins, and those on one buffer are among them
pub left_few : (h : List MemEvent) → length (pins_left h) ≤ count is_pin h
left_few h = left_among h h

part_few : (p : MemEvent → Bool) (xs : List MemEvent) → count p xs ≤ length xs
part_few p [] = omega arith
part_few p (x ∷ xs) = left_step x (p x) (filter p xs) xs (part_few p xs)

pub pins_few : (v : ℕ) (h : List MemEvent) → pins_on v h ≤ length (pins_left h)
pins_few v h = part_few (λ p. buffer_of p == v) (pins_left h)
