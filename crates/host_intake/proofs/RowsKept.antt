-- The rows that are kept are those that the history tells, as it grows.
use Rattle.std.proofs.Common.{◌≡◌, ℕ, ◌+◌, ◌<◌, Bool, true, List, [], ◌∷◌, ◌++◌, length, map, set, get_or, Option, Some, None, refl, sym, ap, subst, ◌∙◌, arith, length-append}
use Rattle.std.specs.Prelude.{IfSome, IsSomeAnd, MatchOption, is_some}
use Rattle.std.proofs.lemmas.List.{length-map}
use Rattle.host_block.specs.{WithRoom}
use Rattle.host_memory.proofs.Pushed.{filter_map_skip, filter_map_add}
use Rattle.host_model.specs.{TakenRow}
use Rattle.host_model.specs.declared.verdict.Verdict.{Verdict}
use Rattle.host_record.specs.declared.status.Status.{Status}
use Rattle.host_record.specs.declared.status.Status.TheVariants as status
use Rattle.host_rings.specs.{Envelope, Slip}
use Rattle.host_intake.specs.{IntakeEntry, Took, Landed, Passed, Turned, Phase, RecordEnd, Landing, Taking, landing_of, landings, taking_of, takings, IsLedger, AreRows, IsRowSettled, and_row, is_flying, row_in, rows_in}
use Rattle.host_intake.proofs.Ending.{rows_landed}
use Rattle.host_intake.proofs.Ledgering.{rows_took}

rows_as_long : (es : List IntakeEntry) → length (rows_in es) ≡ length (takings es)
rows_as_long es = length-map (takings es) (row_in (landings es))

module _ (room : ℕ) (es : List IntakeEntry) (taken : ℕ) (rows : Option (WithRoom TakenRow)) (a : AreRows room es taken rows) where
  -- there is a row for each record taken, and room as long as one may be taken
  pub rows_long : (i : ℕ) → i < length (takings es) → IfSome rows (λ r. i < length r.items)
  rows_long i few = at rows a.kept
    where
      at : (o : Option (WithRoom TakenRow)) → IfSome o (λ r. (r.items ≡ rows_in es) × (r.room ≡ room)) → IfSome o (λ r. i < length r.items)
      at None k = _
      at (Some r) k = let n = ap length k.0 ∙ rows_as_long es in omega arith

  pub rows_roomy : length (takings es) < room → IfSome rows (λ r. length r.items < r.room)
  rows_roomy few = at rows a.kept
    where
      at : (o : Option (WithRoom TakenRow)) → IfSome o (λ r. (r.items ≡ rows_in es) × (r.room ≡ room)) → IfSome o (λ r. length r.items < r.room)
      at None k = _
      at (Some r) k = let n = ap length k.0 ∙ rows_as_long es in let m = k.1 in omega arith

  -- an entry that neither takes a record nor ends one leaves them
  rows_stay : (e : IntakeEntry) → takings (es ++ e ∷ []) ≡ takings es → landings (es ++ e ∷ []) ≡ landings es → AreRows room (es ++ e ∷ []) taken rows
  rows_stay e ts ls = record {
    count = a.count ∙ sym (ap length ts);
    kept = subst (λ (rs : List TakenRow). IfSome rows (λ r. (r.items ≡ rs) × (r.room ≡ room))) (sym same) a.kept;
  }
    where
      same : rows_in (es ++ e ∷ []) ≡ rows_in es
      same = ap (λ (z : List Taking). map (row_in (landings (es ++ e ∷ []))) z) ts ∙ ap (λ (z : List Landing). map (row_in z) (takings es)) ls

  pub rows_passed : (hand : ℕ) → AreRows room (es ++ Passed hand ∷ []) taken rows
  rows_passed hand = rows_stay (Passed hand) (filter_map_skip taking_of es (Passed hand) refl) (filter_map_skip landing_of es (Passed hand) refl)

  pub rows_turned : (hand : ℕ) (p : Phase) → AreRows room (es ++ Turned hand p ∷ []) taken rows
  rows_turned hand p = rows_stay (Turned hand p) (filter_map_skip taking_of es (Turned hand p) refl) (filter_map_skip landing_of es (Turned hand p) refl)

module _ (room : ℕ) (l : WithRoom IntakeEntry) (phase : Phase) (flights : ℕ) (kept : List Slip) (front : ℕ) (k : IsLedger room l phase flights kept front) where
  pub rows_pushed : (hand : ℕ) (e : Envelope) (v : Verdict) (waits : Bool) (seen : ℕ) → e.index ≡ length (takings l.items) → (taken : ℕ) (old new : Option (WithRoom TakenRow)) → AreRows room l.items taken old
      → MatchOption old (new ≡ None) (λ r. new ≡ Some (and_row (record { verdict = v; outcome = status.Ok }) r))
      → AreRows room (l.items ++ Took hand e v waits seen ∷ []) (taken + 1) new
  rows_pushed hand e v waits seen next taken old new a pushed = record {
    count = let n = ap length (filter_map_add taking_of es x t refl) ∙ length-append (takings es) (t ∷ []) in let c = a.count in omega arith;
    kept = at old new a.kept pushed;
  }
    where
      es : List IntakeEntry
      es = l.items

      x : IntakeEntry
      x = Took hand e v waits seen

      t : Taking
      t = record { hand = hand; envelope = e; verdict = v; waits = waits; seen = seen }

      row : TakenRow
      row = record { verdict = v; outcome = status.Ok }

      at : (o n : Option (WithRoom TakenRow)) → IfSome o (λ r. (r.items ≡ rows_in es) × (r.room ≡ room)) → MatchOption o (n ≡ None) (λ r. n ≡ Some (and_row row r)) → IfSome n (λ r. (r.items ≡ rows_in (es ++ x ∷ [])) × (r.room ≡ room))
      at None n h p = subst (λ (z : Option (WithRoom TakenRow)). IfSome z (λ r. (r.items ≡ rows_in (es ++ x ∷ [])) × (r.room ≡ room))) (sym p) _
      at (Some r) n h p = subst (λ (z : Option (WithRoom TakenRow)). IfSome z (λ r. (r.items ≡ rows_in (es ++ x ∷ [])) × (r.room ≡ room))) (sym p)
          (ap (λ (z : List TakenRow). z ++ row ∷ []) h.0 ∙ sym (rows_took room l phase flights kept front k hand e v waits seen next), h.1)

  module _ (i : ℕ) (flying : is_flying i l.items ≡ true) where
    pub rows_settled : (hand : ℕ) (end : RecordEnd) (answer : Option Slip) (flag : Bool) (taken : ℕ) (old new : Option (WithRoom TakenRow)) → AreRows room l.items taken old
        → MatchOption old (new ≡ None) (λ r. IsSomeAnd new (λ settled. IsRowSettled i end.outcome r settled))
        → AreRows room (l.items ++ Landed hand i end answer flag ∷ []) taken new
    rows_settled hand end answer flag taken old new a settled = record {
      count = a.count ∙ sym (ap length (filter_map_skip taking_of l.items x refl));
      kept = at old new a.kept settled;
    }
      where
        x : IntakeEntry
        x = Landed hand i end answer flag

        at : (o n : Option (WithRoom TakenRow)) → IfSome o (λ r. (r.items ≡ rows_in l.items) × (r.room ≡ room)) → MatchOption o (n ≡ None) (λ r. IsSomeAnd n (λ s. IsRowSettled i end.outcome r s))
            → IfSome n (λ r. (r.items ≡ rows_in (l.items ++ x ∷ [])) × (r.room ≡ room))
        at None n h p = subst (λ (z : Option (WithRoom TakenRow)). IfSome z (λ r. (r.items ≡ rows_in (l.items ++ x ∷ [])) × (r.room ≡ room))) (sym p) _
        at (Some r) None h p = absurd p
        at (Some r) (Some s) h p =
            let row = p.0 in
            let value : row ≡ get_or (rows_in l.items) i row = p.1 ∙ ap (λ (z : List TakenRow). get_or z i row) h.0 in (
              ap (λ (z : WithRoom TakenRow). z.items) p.2 ∙ (ap (λ (z : List TakenRow). set z i (record row { outcome = end.outcome })) h.0 ∙ sym (rows_landed room l phase flights kept front k i flying hand end answer flag row value)),
              ap (λ (z : WithRoom TakenRow). z.room) p.2 ∙ h.1,
            )

-- whether rows are kept stays
pub settled_still : (i : ℕ) (o : Status) (old new : Option (WithRoom TakenRow)) → MatchOption old (new ≡ None) (λ r. IsSomeAnd new (λ s. IsRowSettled i o r s)) → is_some new ≡ is_some old
settled_still i o None new p = ap is_some p
settled_still i o (Some r) None p = absurd p
settled_still i o (Some r) (Some s) p = refl
