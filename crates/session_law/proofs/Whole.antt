-- What a seat has seen of its own, and the whole history.
use Rattle.std.proofs.Common.{◌≡◌, ◌⊎◌, inl, inr, ℕ, suc, ◌+◌, ◌==◌, Bool, true, false, ◌&&◌, cond, All, List, [], ◌∷◌, ◌++◌, filter, filter_map, length, take, Option, Some, None, refl, sym, ap, subst, ◌∙◌, append_assoc, append-nil, eq-eqb}
use Rattle.std.specs.List.{cons_option, slice_get}
use Rattle.std.specs.Option.{option_map_or}
use Rattle.std.proofs.lemmas.Bool.{eqb-true}
use Rattle.std.proofs.lemmas.List.Elements.{filter-append, filter_map-append}
use Rattle.std.proofs.lemmas.Option.{get_or_from_slice_get, slice_get_within}
use Rattle.host_intake.specs.{IntakeEntry, Took, Landed, Passed, Turned, Landing, Taking, landing_of, landings, maker_of, taking_of, takings}
use Rattle.host_intake.proofs.Judging.{passes_some}
use Rattle.host_log.proofs.Places.{get_append, stands_append, in_filter}
use Rattle.host_model.specs.{Step, map_after}
use Rattle.host_rings.specs.{Slip}
use Rattle.host_log.specs.{Continues, entries_of}
use Rattle.host_session.specs.{handed_by, slip_by, slip_in}
use Rattle.session_law.proofs.Places.{found_at, has_found}

-- ---- what a seat made, it has seen

module _ {E : Type 0} (maker : E → ℕ) (n : ℕ) (seen whole : List E) (later : Continues maker n seen whole) where
  no_more : (xs ys : List E) → xs ++ ys ≡ xs → ys ≡ []
  no_more [] ys e = e
  no_more (x ∷ xs) ys e = no_more xs ys (tail_is x (xs ++ ys) xs e)
    where
      tail_is : (y : E) (ys zs : List E) → y ∷ ys ≡ y ∷ zs → ys ≡ zs
      tail_is y ys zs f = cc

  pub none_after : entries_of maker n later.0.0 ≡ []
  none_after = no_more (entries_of maker n seen) (entries_of maker n later.0.0)
      (sym (filter-append (λ e. maker e == n) seen later.0.0) ∙ (ap (entries_of maker n) later.0.1 ∙ later.1))

  pub own_seen : (p : ℕ) (e : E) → slice_get whole p ≡ Some e → maker e ≡ n → slice_get seen p ≡ Some e
  own_seen p e at own = step (get_append seen later.0.0 p e (ap (λ l. slice_get l p) later.0.1 ∙ at))
    where
      step : (slice_get seen p ≡ Some e) ⊎ ((m : ℕ) × (p ≡ length seen + m) × (slice_get later.0.0 m ≡ Some e)) → slice_get seen p ≡ Some e
      step (inl f) = f
      step (inr f) = absurd (passes_some (λ x. maker x == n) later.0.0 f.0 e f.2 (eq-eqb (maker e) n own) none_after)

  pub seen_whole : (p : ℕ) (e : E) → slice_get seen p ≡ Some e → slice_get whole p ≡ Some e
  seen_whole p e at = ap (λ l. slice_get l p) (sym later.0.1) ∙ stands_append seen later.0.0 p e at

-- ---- the intake's history

module _ (n : ℕ) (seen es : List IntakeEntry) (later : Continues maker_of n seen es) where
  pub taking_whole : (i : ℕ) (t : Taking) → slice_get (takings seen) i ≡ Some t → slice_get (takings es) i ≡ Some t
  taking_whole i t at =
      ap (λ l. slice_get (takings l) i) (sym later.0.1)
      ∙ (ap (λ l. slice_get l i) (filter_map-append taking_of seen later.0.0) ∙ stands_append (takings seen) (takings later.0.0) i t at)

  -- a landing of its own is one that it knows
  pub landing_own : (k : ℕ) (l : Landing) → slice_get (landings es) k ≡ Some l → l.hand ≡ n → (m : ℕ) × (slice_get (landings (entries_of maker_of n seen)) m ≡ Some l)
  landing_own k l at own =
      let r = found_at landing_of es k l at in
      let e : IntakeEntry = r.1 in
      let made_by : maker_of e ≡ n = maker_is e l r.3 ∙ own in
      let f = in_filter (λ (x : IntakeEntry). maker_of x == n) es r.0 e r.2 (eq-eqb (maker_of e) n made_by) in
      let there = has_found landing_of (entries_of maker_of n es) f.0 e l f.1 r.3 in
      (length (filter_map landing_of (take f.0 (entries_of maker_of n es))), ap (λ w. slice_get (landings w) (length (filter_map landing_of (take f.0 (entries_of maker_of n es))))) (sym later.1) ∙ there)
    where
      maker_is : (e : IntakeEntry) (l : Landing) → landing_of e ≡ Some l → maker_of e ≡ l.hand
      maker_is (Took hand envelope verdict waits s) l e = absurd (cc)
      maker_is (Landed hand index end answer kept) l e = ap (λ (o : Option Landing). option_map_or (λ (x : Landing). x.hand) o 0) e
      maker_is (Passed hand) l e = absurd (cc)
      maker_is (Turned hand phase) l e = absurd (cc)

  -- what it handed on is told by what it has seen
  none_handed : (before xs : List IntakeEntry) → entries_of maker_of n xs ≡ [] → map_after (slip_by n) before xs ≡ []
  none_handed before [] e = refl
  none_handed before (x ∷ xs) e = step (maker_of x == n) e (λ f. none_handed (before ++ x ∷ []) xs f)
    where
      step : (b : Bool) → cond b (x ∷ entries_of maker_of n xs) (entries_of maker_of n xs) ≡ [] → (entries_of maker_of n xs ≡ [] → map_after (slip_by n) (before ++ x ∷ []) xs ≡ [])
          → cons_option (cond b (slip_in before x) None) (map_after (slip_by n) (before ++ x ∷ []) xs) ≡ []
      step true f more = absurd (cc f)
      step false f more = more f

  map_both : (before xs ys : List IntakeEntry) → map_after (slip_by n) before (xs ++ ys) ≡ map_after (slip_by n) before xs ++ map_after (slip_by n) (before ++ xs) ys
  map_both before [] ys = ap (λ l. map_after (slip_by n) l ys) (sym (append-nil before))
  map_both before (x ∷ xs) ys =
      ap (λ l. cons_option (slip_by n before x) l) (map_both (before ++ x ∷ []) xs ys)
      ∙ (more (slip_by n before x) (map_after (slip_by n) (before ++ x ∷ []) xs) (map_after (slip_by n) ((before ++ x ∷ []) ++ xs) ys)
      ∙ ap (λ l. cons_option (slip_by n before x) (map_after (slip_by n) (before ++ x ∷ []) xs) ++ map_after (slip_by n) l ys) (append_assoc before (x ∷ []) xs))
    where
      more : (o : Option Slip) (l m : List Slip) → cons_option o (l ++ m) ≡ cons_option o l ++ m
      more None l m = refl
      more (Some y) l m = refl

  pub handed_whole : handed_by n es ≡ handed_by n seen
  handed_whole =
      ap (handed_by n) (sym later.0.1)
      ∙ (map_both [] seen later.0.0
      ∙ (ap (λ l. handed_by n seen ++ l) (none_handed seen later.0.0 (none_after maker_of n seen es later)) ∙ append-nil (handed_by n seen)))

-- ---- lists

-- what holds of all elements holds of one
pub all_one : {A : Type 0} (P : A → Type 0) (xs : List A) → All P xs → (m : ℕ) (x : A) → slice_get xs m ≡ Some x → P x
all_one P xs all m x at = subst P (get_or_from_slice_get xs m x x at) (all m x (slice_get_within xs m x at))

-- the steps of one record, where one hand made them
pub steps_same : (number n i : ℕ) (steps : List Step) → ((p : ℕ) (step : Step) → slice_get steps p ≡ Some step → step.session ≡ number → step.index ≡ i → step.hand ≡ n)
    → filter (λ (step : Step). step.index == i) (filter (λ (step : Step). step.session == number) steps) ≡ filter (λ (step : Step). step.session == number && step.index == i) (filter (λ (step : Step). step.hand == n) steps)
steps_same number n i [] h = refl
steps_same number n i (x ∷ steps) h = step (x.session == number) (x.index == i) (x.hand == n) refl refl refl (steps_same number n i steps (λ p y at. h (suc p) y at))
  where
    step : (a b c : Bool) → (x.session == number) ≡ a → (x.index == i) ≡ b → (x.hand == n) ≡ c
        → filter (λ (step : Step). step.index == i) (filter (λ (step : Step). step.session == number) steps) ≡ filter (λ (step : Step). step.session == number && step.index == i) (filter (λ (step : Step). step.hand == n) steps)
        → filter (λ (step : Step). step.index == i) (cond a (x ∷ filter (λ (step : Step). step.session == number) steps) (filter (λ (step : Step). step.session == number) steps))
        ≡ filter (λ (step : Step). step.session == number && step.index == i) (cond c (x ∷ filter (λ (step : Step). step.hand == n) steps) (filter (λ (step : Step). step.hand == n) steps))
    step true true true p q r e =
        ap (λ b. cond b (x ∷ filter (λ (step : Step). step.index == i) (filter (λ (step : Step). step.session == number) steps)) (filter (λ (step : Step). step.index == i) (filter (λ (step : Step). step.session == number) steps))) q
        ∙ (ap (λ l. x ∷ l) e
        ∙ sym (ap (λ b. cond (b && x.index == i) (x ∷ filter (λ (step : Step). step.session == number && step.index == i) (filter (λ (step : Step). step.hand == n) steps)) (filter (λ (step : Step). step.session == number && step.index == i) (filter (λ (step : Step). step.hand == n) steps))) p
        ∙ ap (λ b. cond b (x ∷ filter (λ (step : Step). step.session == number && step.index == i) (filter (λ (step : Step). step.hand == n) steps)) (filter (λ (step : Step). step.session == number && step.index == i) (filter (λ (step : Step). step.hand == n) steps))) q))
    step true true false p q r e =
        absurd (let own : x.hand ≡ n = h 0 x refl (eqb-true x.session number p) (eqb-true x.index i q) in let z : true ≡ false = sym (eq-eqb x.hand n own) ∙ r in cc)
    step true false true p q r e =
        ap (λ b. cond b (x ∷ filter (λ (step : Step). step.index == i) (filter (λ (step : Step). step.session == number) steps)) (filter (λ (step : Step). step.index == i) (filter (λ (step : Step). step.session == number) steps))) q
        ∙ (e
        ∙ sym (ap (λ b. cond (b && x.index == i) (x ∷ filter (λ (step : Step). step.session == number && step.index == i) (filter (λ (step : Step). step.hand == n) steps)) (filter (λ (step : Step). step.session == number && step.index == i) (filter (λ (step : Step). step.hand == n) steps))) p
        ∙ ap (λ b. cond b (x ∷ filter (λ (step : Step). step.session == number && step.index == i) (filter (λ (step : Step). step.hand == n) steps)) (filter (λ (step : Step). step.session == number && step.index == i) (filter (λ (step : Step). step.hand == n) steps))) q))
    step true false false p q r e =
        ap (λ b. cond b (x ∷ filter (λ (step : Step). step.index == i) (filter (λ (step : Step). step.session == number) steps)) (filter (λ (step : Step). step.index == i) (filter (λ (step : Step). step.session == number) steps))) q ∙ e
    step false b true p q r e =
        e ∙ sym (ap (λ d. cond (d && x.index == i) (x ∷ filter (λ (step : Step). step.session == number && step.index == i) (filter (λ (step : Step). step.hand == n) steps)) (filter (λ (step : Step). step.session == number && step.index == i) (filter (λ (step : Step). step.hand == n) steps))) p)
    step false b false p q r e = e
