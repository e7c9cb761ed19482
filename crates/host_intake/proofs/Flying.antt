-- What a hand knows of its own records.
use Rattle.std.proofs.Common.{◌≡◌, ◌≢◌, ◌⊎◌, inl, inr, ℕ, ◌==◌, Bool, true, false, not, ◌&&◌, ◌||◌, cond, List, [], ◌∷◌, length, Option, Some, None, refl, sym, ap, subst, ◌∙◌, eq-eqb}
use Rattle.std.specs.Prelude.{slice_get}
use Rattle.std.specs.List.{cons_option, list_all, list_any}
use Rattle.std.specs.Option.{option_map_or}
use Rattle.std.proofs.lemmas.Bool.{eqb-true, lt-ltb}
use Rattle.std.proofs.lemmas.Bool.Decides.{eqb_tells}
use Rattle.std.proofs.lemmas.Option.{slice_get_within}
use Rattle.host_log.specs.{entries_of}
use Rattle.host_intake.specs.{IntakeEntry, Took, Landed, Passed, Turned, Taking, Landing, is_landing_of, landing_of, landings, maker_of, takings, AreLanded, is_by_taker, is_lander, is_flying}
use Rattle.host_log.proofs.Bools.{or_parts, or_none, and_left, and_right}

module _ (ts : List Taking) (hand i : ℕ) (t : Taking) (at : slice_get ts i ≡ Some t) (mine : t.hand ≡ hand) (still : t.waits ≡ false) where
  -- only the hand itself tells its end
  lander_is : (h : ℕ) → is_lander h i ts ≡ true → (h == hand) ≡ true
  lander_is h e = step t.waits still (sym (ap (λ (o : Option Taking). option_map_or (λ (u : Taking). u.hand == h || u.waits) o false) at) ∙ e)
    where
      step : (w : Bool) → w ≡ false → (t.hand == h || w) ≡ true → (h == hand) ≡ true
      step w off y = eq-eqb h hand (sym (eqb-true t.hand h (sym (or_none (t.hand == h)) ∙ (ap (λ b. t.hand == h || b) (sym off) ∙ y))) ∙ mine)

  abbrev own : List IntakeEntry → List IntakeEntry
  own fs = entries_of maker_of hand fs

  skipped : (x : IntakeEntry) (b : Bool) (xs : List IntakeEntry) → landing_of x ≡ None → list_any (is_landing_of i) (landings (cond b (x ∷ xs) xs)) ≡ list_any (is_landing_of i) (landings xs)
  skipped x true xs e = ap (λ (o : Option Landing). list_any (is_landing_of i) (cons_option o (landings xs))) e
  skipped x false xs e = refl

  none_else : (fs : List IntakeEntry) → list_all (is_by_taker ts) (landings fs) ≡ true → list_any (is_landing_of i) (landings (own fs)) ≡ false → list_any (is_landing_of i) (landings fs) ≡ false
  none_else [] all none = refl
  none_else (Took h envelope verdict waits seen ∷ fs) all none = none_else fs all (sym (skipped (Took h envelope verdict waits seen) (h == hand) (own fs) refl) ∙ none)
  none_else (Passed h ∷ fs) all none = none_else fs all (sym (skipped (Passed h) (h == hand) (own fs) refl) ∙ none)
  none_else (Turned h phase ∷ fs) all none = none_else fs all (sym (skipped (Turned h phase) (h == hand) (own fs) refl) ∙ none)
  none_else (Landed h index end answer kept ∷ fs) all none =
      step (eqb_tells index i) (λ y. none_else fs (and_right (is_lander h index ts) (list_all (is_by_taker ts) (landings fs)) all) y) (and_left (is_lander h index ts) (list_all (is_by_taker ts) (landings fs)) all) none
    where
      rest_none : (b : Bool) → list_any (is_landing_of i) (landings (cond b (Landed h index end answer kept ∷ own fs) (own fs))) ≡ false → list_any (is_landing_of i) (landings (own fs)) ≡ false
      rest_none true y = (or_parts (index == i) (list_any (is_landing_of i) (landings (own fs))) y).1
      rest_none false y = y

      step : (((index == i) ≡ true) × (index ≡ i)) ⊎ (((index == i) ≡ false) × (index ≢ i)) → (list_any (is_landing_of i) (landings (own fs)) ≡ false → list_any (is_landing_of i) (landings fs) ≡ false) → is_lander h index ts ≡ true
          → list_any (is_landing_of i) (landings (cond (h == hand) (Landed h index end answer kept ∷ own fs) (own fs))) ≡ false → (index == i || list_any (is_landing_of i) (landings fs)) ≡ false
      step (inl s) more lands y =
          let b : (h == hand) ≡ true = lander_is h (subst (λ n. is_lander h n ts ≡ true) s.1 lands) in
          let z : list_any (is_landing_of i) (landings (Landed h index end answer kept ∷ own fs)) ≡ false = ap (λ c. list_any (is_landing_of i) (landings (cond c (Landed h index end answer kept ∷ own fs) (own fs)))) (sym b) ∙ y in
          let off = (or_parts (index == i) (list_any (is_landing_of i) (landings (own fs))) z).0 in absurd (let w : false ≡ true = sym off ∙ s.0 in cc)
      step (inr s) more lands y = ap (λ b. b || list_any (is_landing_of i) (landings fs)) s.0 ∙ more (rest_none (h == hand) y)

pub own_flies : (es : List IntakeEntry) (hand i : ℕ) (t : Taking) → AreLanded (takings es) (landings es) → slice_get (takings es) i ≡ Some t → t.hand ≡ hand → t.waits ≡ false
    → list_any (is_landing_of i) (landings (entries_of maker_of hand es)) ≡ false → is_flying i es ≡ true
own_flies es hand i t k at mine still none =
    ap (λ b. b && not (list_any (is_landing_of i) (landings es))) (lt-ltb i (length (takings es)) (slice_get_within (takings es) i t at))
    ∙ ap not (none_else (takings es) hand i t at mine still es k.by_taker none)
