-- Tests and their parts.
use Rattle.std.proofs.Common.{◌≡◌, Bool, true, false, refl}
use Rattle.std.specs.Prelude.{not, ◌&&◌, ◌||◌}

pub or_parts : (a b : Bool) → (a || b) ≡ false → (a ≡ false) × (b ≡ false)
or_parts true b e = absurd (cc)
or_parts false b e = (refl, e)

pub or_left : (a b : Bool) → (a || b) ≡ false → a ≡ false
or_left a b e = (or_parts a b e).0

pub or_right : (a b : Bool) → (a || b) ≡ false → b ≡ false
or_right a b e = (or_parts a b e).1

pub or_none : (a : Bool) → (a || false) ≡ a
or_none true = refl
or_none false = refl

-- one more test that isn't passed, or is
pub or_off : (b c : Bool) → c ≡ false → (b || (c || false)) ≡ b
or_off true c e = refl
or_off false true e = absurd (cc)
or_off false false e = refl

pub or_on : (b c : Bool) → c ≡ true → (b || (c || false)) ≡ true
or_on true c e = refl
or_on false true e = refl
or_on false false e = absurd (cc)

pub not_or : (a b : Bool) → not (a || (b || false)) ≡ (not a && not b)
not_or true b = refl
not_or false true = refl
not_or false false = refl

pub and_parts : (a b : Bool) → (a && b) ≡ true → (a ≡ true) × (b ≡ true)
and_parts true b e = (refl, e)
and_parts false b e = absurd (cc)

pub and_left : (a b : Bool) → (a && b) ≡ true → a ≡ true
and_left a b e = (and_parts a b e).0

pub and_right : (a b : Bool) → (a && b) ≡ true → b ≡ true
and_right a b e = (and_parts a b e).1

pub and_both : (a b : Bool) → a ≡ true → b ≡ true → (a && b) ≡ true
and_both true b p q = q
and_both false b p q = absurd (cc)

pub and_end : (a b : Bool) → (a && (b && true)) ≡ (a && b)
and_end true true = refl
and_end true false = refl
and_end false b = refl

pub not_false : (b : Bool) → not b ≡ false → b ≡ true
not_false true e = refl
not_false false e = absurd (cc)

pub not_true : (b : Bool) → not b ≡ true → b ≡ false
not_true true e = absurd (cc)
not_true false e = refl

pub never_true : (b : Bool) → (b ≡ true → ⊥) → b ≡ false
never_true true f = absurd (f refl)
never_true false f = refl

-- what is implied
pub either_way : (a b : Bool) → b ≡ true → (not a || b) ≡ true
either_way true b e = e
either_way false b e = refl
