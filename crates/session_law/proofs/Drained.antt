-- The acts before a session was closed after a drain: all but the last.
use Rattle.std.proofs.Common.{◌≡◌, ℕ, zero, suc, ◌<◌, ◌≤◌, Bool, true, false, cond, List, [], ◌∷◌, ◌++◌, filter, length, take, Option, Some, refl, sym, ap, subst, ◌∙◌, arith}
use Rattle.std.specs.Prelude.{unwrap_or}
use Rattle.std.specs.List.{slice_get}
use Rattle.std.specs.Option.{option_map}
use Rattle.std.proofs.lemmas.List.Elements.{filter-append}
use Rattle.std.proofs.lemmas.Option.{slice_get-map}
use Rattle.host_block.proofs.Places.{from_take, within}
use Rattle.host_model.specs.{Event, Attached, NotAttached, Filled, Shown, Sent, Received, Drained, Aborted, MemEntry, is_end}
use Rattle.host_record.specs.{Finish, Drain, Abort}
use Rattle.host_session.specs.{Fronts, Act, IsAct, before_drained, fronts_after, is_drain_event, is_drain_act, log_of, AreWithin, ends_logged}
use Rattle.session_law.proofs.Fronts.{after_act, known_after}
use Rattle.host_log.proofs.Places.{some_at, in_filter}
use Rattle.session_law.proofs.Taken.{nothing_of}

drain_is : (e : Event) → is_drain_event e ≡ true → e ≡ Drained
drain_is Drained e = refl
drain_is (Attached pages id) e = absurd (cc)
drain_is (NotAttached pages cause) e = absurd (cc)
drain_is (Filled id block count byte done) e = absurd (cc)
drain_is (Shown id block count done bytes) e = absurd (cc)
drain_is (Sent index bytes) e = absurd (cc)
drain_is (Received bytes) e = absurd (cc)
drain_is Aborted e = absurd (cc)

-- ---- in a log

drain_last : (before : List Event) (j k : ℕ) (e : Event) → filter is_end before ≡ [] → slice_get (before ++ Drained ∷ []) j ≡ Some Drained → slice_get (before ++ Drained ∷ []) k ≡ Some e → is_end e ≡ false → j ≤ k → ⊥
drain_last [] j zero e none at bt no_end le = let same : Drained ≡ e = ap (λ (o : Option Event). unwrap_or o e) bt in let z : true ≡ false = ap is_end same ∙ no_end in cc
drain_last [] j (suc zero) e none at bt no_end le = cc
drain_last [] j (suc (suc k)) e none at bt no_end le = cc
drain_last (x ∷ before) zero k e none at bt no_end le =
    let same : x ≡ Drained = ap (λ (o : Option Event). unwrap_or o x) at in
    let t : is_end x ≡ true = ap is_end same in
    let z : x ∷ filter is_end before ≡ [] = ap (λ b. cond b (x ∷ filter is_end before) (filter is_end before)) (sym t) ∙ none in cc z
drain_last (x ∷ before) (suc j) zero e none at bt no_end le = absurd (omega arith)
drain_last (x ∷ before) (suc j) (suc k) e none at bt no_end le = drain_last before j k e (rest (is_end x) none) at bt no_end (omega arith)
  where
    rest : (b : Bool) → cond b (x ∷ filter is_end before) (filter is_end before) ≡ [] → filter is_end before ≡ []
    rest true f = absurd (cc f)
    rest false f = f

-- an event that doesn't end a log stands before its drain
pub not_there : (log : List Event) (f : Finish) → filter is_end log ≡ ends_logged (Some f) true → (f ≡ Drain → (before : List Event) × (log ≡ before ++ Drained ∷ [])) → (j k : ℕ) (e : Event) → slice_get log j ≡ Some Drained → slice_get log k ≡ Some e → is_end e ≡ false → j ≤ k → ⊥
not_there log Abort only ends j k e at bt no_end le =
    let r = in_filter is_end log j Drained at refl in
    one r.0 (ap (λ l. slice_get l r.0) (sym only) ∙ r.1)
  where
    one : (n : ℕ) → slice_get (Aborted ∷ []) n ≡ Some Drained → ⊥
    one zero x = cc
    one (suc zero) x = cc
    one (suc (suc n)) x = cc
not_there log Drain only ends j k e at bt no_end le =
    let b = ends refl in
    let joined : filter is_end b.0 ++ filter is_end (Drained ∷ []) ≡ Drained ∷ [] = sym (filter-append is_end b.0 (Drained ∷ [])) ∙ (ap (filter is_end) (sym b.1) ∙ only) in
    let none : filter is_end b.0 ≡ [] = nothing_of (filter is_end b.0) Drained Drained joined in
    drain_last b.0 j k e none (ap (λ l. slice_get l j) (sym b.1) ∙ at) (ap (λ l. slice_get l k) (sym b.1) ∙ bt) no_end le

-- ---- the acts before it

first_there : (acts : List Act) (k : ℕ) (a : Act) → slice_get acts k ≡ Some a → ((j : ℕ) (b : Act) → slice_get acts j ≡ Some b → j ≤ k → is_drain_act b ≡ false) → slice_get (before_drained acts) k ≡ Some a
first_there [] zero a at none = absurd (cc)
first_there [] (suc k) a at none = absurd (cc)
first_there (x ∷ acts) zero a at none = ap (λ b. slice_get (cond b [] (x ∷ before_drained acts)) 0) (none 0 x refl (omega arith)) ∙ at
first_there (x ∷ acts) (suc k) a at none = ap (λ b. slice_get (cond b [] (x ∷ before_drained acts)) (suc k)) (none 0 x refl (omega arith)) ∙ first_there acts k a at (λ j b bt le. none (suc j) b bt (omega arith))

first_ones : (acts : List Act) → before_drained acts ≡ take (length (before_drained acts)) acts
first_ones [] = refl
first_ones (x ∷ acts) = step (is_drain_act x) (first_ones acts)
  where
    step : (b : Bool) → before_drained acts ≡ take (length (before_drained acts)) acts → cond b [] (x ∷ before_drained acts) ≡ take (length (cond b [] (x ∷ before_drained acts))) (x ∷ acts)
    step true e = refl
    step false e = ap (λ l. x ∷ l) e

module _ (h : List MemEntry) (acts : List Act) (each : (n : ℕ) (a : Act) → slice_get acts n ≡ Some a → IsAct h (take n acts) a) where
  last_within : (k n : ℕ) (a : Act) → slice_get acts k ≡ Some a → length (before_drained acts) ≡ n → k < n → AreWithin a.fronts (fronts_after (before_drained acts))
  last_within k zero a at len lt = absurd (omega arith)
  last_within k (suc n) a at len lt =
      let s = some_at (before_drained acts) n (omega arith) in
      let b : Act = s.0 in
      let there : slice_get (take (length (before_drained acts)) acts) n ≡ Some b = ap (λ l. slice_get l n) (sym (first_ones acts)) ∙ s.1 in
      let p = from_take acts (length (before_drained acts)) n b there in
      let same : fronts_after (before_drained acts) ≡ b.fronts = ap fronts_after (first_ones acts) ∙ (ap (λ m. fronts_after (take m acts)) len ∙ after_act h acts each n b p.0) in
      subst (λ (f : Fronts). AreWithin a.fronts f) (sym same) (known_after h acts each k n a b at p.0 (omega arith))

  -- what was known after an act that doesn't end the log was known before the drain
  pub before_drain : (f : Finish) → filter is_end (log_of acts) ≡ ends_logged (Some f) true → (f ≡ Drain → (before : List Event) × (log_of acts ≡ before ++ Drained ∷ []))
      → (k : ℕ) (a : Act) → slice_get acts k ≡ Some a → is_end a.event ≡ false → AreWithin a.fronts (fronts_after (before_drained acts))
  before_drain f only ends k a at no_end =
      let there : slice_get (before_drained acts) k ≡ Some a = first_there acts k a at (λ j b bt le. none j b bt le (is_drain_act b) refl) in
      last_within k (length (before_drained acts)) a at refl (within (before_drained acts) k a there)
    where
      event_at : (j : ℕ) (b : Act) → slice_get acts j ≡ Some b → slice_get (log_of acts) j ≡ Some b.event
      event_at j b bt = slice_get-map (λ (x : Act). x.event) acts j ∙ ap (option_map (λ (x : Act). x.event)) bt

      none : (j : ℕ) (b : Act) → slice_get acts j ≡ Some b → j ≤ k → (d : Bool) → is_drain_act b ≡ d → d ≡ false
      none j b bt le false e = refl
      none j b bt le true e = absurd (not_there (log_of acts) f only ends j k a.event (event_at j b bt ∙ ap Some (drain_is b.event e)) (event_at k a at) no_end le)
