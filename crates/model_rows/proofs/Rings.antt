-- The histories of rings on small values.
use Rattle.std.proofs.Common.{◌≡◌, ℕ, zero, suc, ◌<◌, true, [], ◌∷◌, length, sym, refl, ap, arith}
use Rattle.host_block.specs.{IsPrefix}
use Rattle.host_rings.specs.{EachPlace, IsNumbered, slips_sent_by, Envelope}
use Rattle.model_rows.specs.{c, a, b, RingsAreAsWritten}
use Rattle.model_rows.specs.Rings.{second, first}
use mathlib.Core.Option.{some-injective, some-ne-none}

numbered : IsNumbered (first ∷ second ∷ [])
numbered zero x at = ap (λ (y : Envelope). y.index) (sym (some-injective first x at))
numbered (suc zero) x at = ap (λ (y : Envelope). y.index) (sym (some-injective second x at))
numbered (suc (suc k)) x at = absurd (some-ne-none x (sym at))

places : EachPlace (λ k pushed. IsPrefix (slips_sent_by k ((1, b) ∷ (0, a) ∷ [])) pushed) ((a ∷ [])
    ∷ (b ∷ c ∷ []) ∷ [])
places zero d near = ([], refl)
places (suc zero) d near = (c ∷ [], refl)
places (suc (suc k)) d near = absurd (omega arith)

pub rings_are_as_written : RingsAreAsWritten
rings_are_as_written = record {
  second_longer = refl;
  first_as_long = refl;
  numbered = numbered;
  not_numbered = λ h. let n : ◌≡◌ {A = ℕ} 1 0 = h 0 second refl in omega arith;
  second_left = (first ∷ [], refl, ([], refl));
  second_ahead = ([], refl);
  not_empty = λ h. let n : suc (suc (length h.0)) ≡ 1 = ap length h.1 in omega arith;
  its_slips = refl;
  of_the_second = refl;
  of_nobody = refl;
  of_two = (omega arith, (omega arith, (omega arith, tt)));
  not_of_one = λ h. let n : 1 < 1 = h.0 in omega arith;
  places = places;
  taken_two = ((1, b) ∷ (0, a) ∷ [], refl, (omega arith, (omega arith, tt)), places);
  holds_after = ((1, b) ∷ (0, a) ∷ [], (1, c) ∷ [], refl, refl);
  not_twice = λ h. let n = h (λ _. true) in omega arith;
}
