-- The history of a lock on small values.
use Rattle.std.proofs.Common.{◌≡◌, ℕ, inl, inr, [], ◌∷◌, length, refl, ap, arith}
use Rattle.std.proofs.lemmas.List.Elements.{All-nil, All-cons}
use Rattle.host_log.specs.{Continues}
use Rattle.model_rows.specs.{maker, TurnsAreAsWritten}
use Rattle.model_rows.specs.Turns.{history}

goes_on : Continues maker 1 ((0, 7) ∷ (1, 8) ∷ []) history
goes_on = (((0, 9) ∷ [], refl), refl)

pub turns_are_as_written : TurnsAreAsWritten
turns_are_as_written = record {
  first_maker = refl;
  nobody = refl;
  last_turn = (
    (0, 9) ∷ [],
    refl,
    All-cons (λ e. maker e ≡ 0) (
      0,
      9,
    ) [] refl (All-nil (λ e. maker e ≡ 0)),
  );
  not_by_another = λ e. let n : ◌≡◌ {A = ℕ} 1 2 = ap length e in omega arith;
  goes_on = goes_on;
  misses_its_own = λ c. let n : ◌≡◌ {A = ℕ} 2 1 = ap length c.1 in omega arith;
  second_longer = refl;
  first_as_long = refl;
  member = (goes_on, omega arith);
  two_tickets = refl;
  three_seats = refl;
  its_member = refl;
  told_all = refl;
  both_taken_in = refl;
  has_both_numbers = (inr (inl refl), inl refl);
  one_has_seen_all = inl refl;
}
