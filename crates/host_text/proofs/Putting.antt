-- Texts that are put one after the other.
use Rattle.std.proofs.Common.{◌≡◌, ℕ, ◌+◌, ◌<◌, ◌≤◌, Bool, List, [], ◌∷◌, ◌++◌, length, get_or, take, drop, flat_map, Result, Ok, Err, refl, sym, subst, ◌∙◌, ap, append_assoc, append-nil, arith}
use Rattle.std.specs.Prelude.{IsErr, IsTrue, OnOk}
use Rattle.std.proofs.lemmas.Grind.{flat_map-append}
use Rattle.std.proofs.lemmas.List.{append_cancel_left, take_all, take_more, take-append-drop}
use Rattle.std.proofs.lemmas.Result.{MatchResult-from_err, MatchResult-weaker}
use Rattle.host_block.specs.{IsPrefix}
use Rattle.host_block.proofs.Prefixes.{prefix_refl, prefix_trans, prefix_longer}
use Rattle.host_io.specs.{HasCause, Rose}
use Rattle.host_text.specs.{AppendsText, Stops, PutsHeldText, Writes}

-- the texts up to an element, and those from it on
flat_map_next : {A : Type 0} (f : A → List ℕ) (xs : List A) (i : ℕ) (x d : A) → i < length xs → x ≡ get_or xs i d
    → flat_map f (take (i + 1) xs) ≡ flat_map f (take i xs) ++ f x
flat_map_next f xs i x d lt e =
    ap (λ l. flat_map f l) (take_more xs i d lt)
    ∙ (flat_map-append f (take i xs) (get_or xs i d ∷ [])
    ∙ ap (λ (l : List ℕ). flat_map f (take i xs) ++ l) (append-nil (f (get_or xs i d)) ∙ ap f (sym e)))

flat_map_rest : {A : Type 0} (f : A → List ℕ) (xs : List A) (i : ℕ) (x d : A) → i < length xs → x ≡ get_or xs i d
    → (flat_map f (take i xs) ++ f x) ++ flat_map f (drop (i + 1) xs) ≡ flat_map f xs
flat_map_rest f xs i x d lt e =
    ap (λ (l : List ℕ). l ++ flat_map f (drop (i + 1) xs)) (sym (flat_map_next f xs i x d lt e))
    ∙ (sym (flat_map-append f (take (i + 1) xs) (drop (i + 1) xs)) ∙ ap (λ l. flat_map f l) (take-append-drop (i + 1) xs))

rose_le : (a b : ℕ) → Rose a b → a ≤ b
rose_le a b p = omega arith

rose_later : (a b c : ℕ) → a ≤ b → Rose b c → Rose a c
rose_later a b c p q = omega arith

module _ {S : Type 0} {tells : S → Bool} {faults : S → ℕ} {appended : S → List ℕ} where
  -- ---- nothing, or a piece

  -- a piece is held
  pub adds_held : (s : S) (h x : List ℕ) → AppendsText tells faults appended s h s (h ++ x) x
  adds_held s h x = record {
    told = refl;
    later = omega arith;
    kept = λ _. prefix_refl (appended s);
    all = λ _. sym (append_assoc (appended s) h x);
  }

  -- a sink took a front of a piece
  pub adds_front : (a b : S) (x : List ℕ) → tells b ≡ tells a → faults a ≤ faults b → (IsTrue (tells a) → appended b ≡ appended a ++ x)
      → AppendsText tells faults appended a [] b [] x
  adds_front a b x told later all = record {
    told = told;
    later = later;
    kept = λ t. (x, sym (all t));
    all = λ t. append-nil (appended b) ∙ (all t ∙ ap (λ (l : List ℕ). l ++ x) (sym (append-nil (appended a))));
  }

  -- a sink failed, and took nothing
  pub stops_here : (a b : S) (x : List ℕ) → tells b ≡ tells a → Rose (faults a) (faults b) → (IsTrue (tells a) → appended b ≡ appended a)
      → Stops tells faults appended a [] b x
  stops_here a b x told rose same = record {
    told = told;
    rose = rose;
    kept = λ t. ([], append-nil (appended a) ∙ sym (same t));
    front = λ t. (x, ap (λ (l : List ℕ). l ++ x) (same t ∙ sym (append-nil (appended a))));
  }

  -- ---- one text after another

  pub adds_more : {a b c : S} {ha hb hc x y : List ℕ} → AppendsText tells faults appended a ha b hb x → AppendsText tells faults appended b hb c hc y
      → AppendsText tells faults appended a ha c hc (x ++ y)
  adds_more {a} {b} {c} {ha} {hb} {hc} {x} {y} p q = record {
    told = q.told ∙ p.told;
    later = omega (arith, p.later, q.later);
    kept = λ t. prefix_trans _ _ _ (p.kept t) (q.kept (p.told ∙ t));
    all = λ t. q.all (p.told ∙ t) ∙ (ap (λ (l : List ℕ). l ++ y) (p.all t) ∙ append_assoc (appended a ++ ha) x y);
  }

  -- the sink failed later
  pub stops_later : {a b c : S} {ha hb x y : List ℕ} → AppendsText tells faults appended a ha b hb x → Stops tells faults appended b hb c y
      → Stops tells faults appended a ha c (x ++ y)
  stops_later {a} {b} {c} {ha} {hb} {x} {y} p q = record {
    told = q.told ∙ p.told;
    rose = rose_later _ _ _ p.later q.rose;
    kept = λ t. prefix_trans _ _ _ (p.kept t) (q.kept (p.told ∙ t));
    front = λ t. let f = q.front (p.told ∙ t) in (f.0, f.1 ∙ (ap (λ (l : List ℕ). l ++ y) (p.all t) ∙ append_assoc (appended a ++ ha) x y));
  }

  -- more was to be put
  pub stops_longer : {a b : S} {h x : List ℕ} (y : List ℕ) → Stops tells faults appended a h b x → Stops tells faults appended a h b (x ++ y)
  stops_longer {a} {b} {h} {x} y p = record {
    told = p.told;
    rose = p.rose;
    kept = p.kept;
    front = λ t. let f = prefix_longer _ _ y (p.front t) in (f.0, f.1 ∙ append_assoc (appended a ++ h) x y);
  }

  pub puts_after : {T E : Type 0} {a b : S} {ha hb x : List ℕ} (c : S) (hc y : List ℕ) (r : Result T E) → AppendsText tells faults appended a ha b hb x
      → PutsHeldText tells faults appended b hb c hc y r → PutsHeldText tells faults appended a ha c hc (x ++ y) r
  puts_after c hc y r p h = MatchResult-weaker r h (λ _ q. adds_more p q) (λ _ q. stops_later p q)

  -- the exit of a `?`
  pub puts_exit : {T E : Type 0} {a b : S} {h x : List ℕ} (new_held : List ℕ) (r : Result T E) → IsErr r → Stops tells faults appended a h b x
      → PutsHeldText tells faults appended a h b new_held x r
  puts_exit {T} {E} {a} {b} {h} {x} new_held r e s =
      MatchResult-from_err r (λ _. AppendsText tells faults appended a h b new_held x) (λ _. Stops tells faults appended a h b x) e (λ _. s)

  -- ---- what was held goes out first

  pub adds_sent : {a b : S} {h : List ℕ} → AppendsText tells faults appended a [] b [] h → AppendsText tells faults appended a h b [] []
  adds_sent {a} {b} {h} p = record {
    told = p.told;
    later = p.later;
    kept = p.kept;
    all = λ t. p.all t ∙ (ap (λ (l : List ℕ). l ++ h) (append-nil (appended a)) ∙ sym (append-nil (appended a ++ h)));
  }

  pub stops_sent : {a b : S} {h : List ℕ} → Stops tells faults appended a [] b h → Stops tells faults appended a h b []
  stops_sent {a} {b} {h} p = record {
    told = p.told;
    rose = p.rose;
    kept = p.kept;
    front = λ t. let f = p.front t in (f.0, f.1 ∙ (ap (λ (l : List ℕ). l ++ h) (append-nil (appended a)) ∙ sym (append-nil (appended a ++ h))));
  }

  -- then a piece is held
  pub adds_then_held : {a b : S} {ha hb : List ℕ} (x : List ℕ) → AppendsText tells faults appended a ha b hb [] → AppendsText tells faults appended a ha b (hb ++ x) x
  adds_then_held {a} {b} {ha} {hb} x p = adds_more p (adds_held b hb x)

  -- then a piece goes out past what is held, which is nothing
  pub puts_past : {T E : Type 0} {a b : S} {ha hb : List ℕ} (c : S) (x : List ℕ) (r : Result T E) → AppendsText tells faults appended a ha b hb [] → hb ≡ []
      → PutsHeldText tells faults appended b [] c [] x r → PutsHeldText tells faults appended a ha c hb x r
  puts_past {T} {E} {a} {b} {ha} {hb} c x r p e q =
      puts_after c hb x r p (subst (λ (h : List ℕ). PutsHeldText tells faults appended b h c h x r) (sym e) q)

  -- ---- the texts of the elements of a list, one after the other

  module _ {A : Type 0} (f : A → List ℕ) (xs : List A) (i : ℕ) (x d : A) where
    pub adds_at : {a b c : S} {ha hb hc : List ℕ} → i < length xs → x ≡ get_or xs i d → AppendsText tells faults appended a ha b hb (flat_map f (take i xs))
        → AppendsText tells faults appended b hb c hc (f x) → AppendsText tells faults appended a ha c hc (flat_map f (take (i + 1) xs))
    adds_at {a} {b} {c} {ha} {hb} {hc} lt e p q =
        subst (λ (l : List ℕ). AppendsText tells faults appended a ha c hc l) (sym (flat_map_next f xs i x d lt e)) (adds_more p q)

    pub stops_at : {a b c : S} {ha hb : List ℕ} → i < length xs → x ≡ get_or xs i d → AppendsText tells faults appended a ha b hb (flat_map f (take i xs))
        → Stops tells faults appended b hb c (f x) → Stops tells faults appended a ha c (flat_map f xs)
    stops_at {a} {b} {c} {ha} {hb} lt e p q =
        subst (λ (l : List ℕ). Stops tells faults appended a ha c l) (flat_map_rest f xs i x d lt e) (stops_longer (flat_map f (drop (i + 1) xs)) (stops_later p q))

  -- the texts of all elements were put
  pub adds_all : {A : Type 0} (f : A → List ℕ) (xs : List A) (i : ℕ) {a b : S} {ha hb : List ℕ} → length xs ≤ i
      → AppendsText tells faults appended a ha b hb (flat_map f (take i xs)) → AppendsText tells faults appended a ha b hb (flat_map f xs)
  adds_all f xs i {a} {b} {ha} {hb} le p =
      subst (λ (l : List ℕ). AppendsText tells faults appended a ha b hb l) (ap (λ l. flat_map f l) (take_all i xs le)) p

  -- a front of the text was appended
  pub front_of : {a b : S} {x : List ℕ} → Stops tells faults appended a [] b x → IsTrue (tells a)
      → (front : List ℕ) × IsPrefix front x × (appended b ≡ appended a ++ front)
  front_of {a} {b} {x} p t =
      let kept = p.kept t in
      let front = p.front t in
      let whole : appended a ++ (kept.0 ++ front.0) ≡ appended a ++ x =
      sym (append_assoc (appended a) kept.0 front.0)
      ∙ (ap (λ (l : List ℕ). l ++ front.0) kept.1 ∙ (front.1 ∙ ap (λ (l : List ℕ). l ++ x) (append-nil (appended a)))) in
      (kept.0, (front.0, append_cancel_left (appended a) (kept.0 ++ front.0) x whole), sym kept.1)

-- nothing was held before, and nothing is held any more
module _ {S : Type 0} (tells : S → Bool) (faults : S → ℕ) (appended : S → List ℕ) where
  pub finished : {T E : Type 0} (a b : S) (hb x : List ℕ) (r : Result T E) → PutsHeldText tells faults appended a [] b hb x r → OnOk r (hb ≡ [])
      → (tells b ≡ tells a) × Writes (tells a) (appended a) (appended b) x r × HasCause (faults a) (faults b) r
  finished a b hb x (Ok u) p e = (
    p.told,
    record {
      ok = λ t. sym (append-nil (appended b)) ∙ (ap (λ (l : List ℕ). appended b ++ l) (sym e) ∙ (p.all t ∙ ap (λ (l : List ℕ). l ++ x) (append-nil (appended a))));
      err = λ _. tt;
    },
    record { later = p.later; failed = tt },
  )
  finished a b hb x (Err d) p e = (
    p.told,
    record { ok = λ _. tt; err = λ t. front_of p t },
    record { later = rose_le (faults a) (faults b) p.rose; failed = p.rose },
  )
