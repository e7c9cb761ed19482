-- A pool of frames on small values.
use Rattle.std.proofs.Common.{zero, suc, inl, refl, arith}
use Rattle.host_frames.specs.{Covers, frames_in}
use Rattle.model_rows.specs.Frames.{refused}
use Rattle.model_rows.specs.{FramesAreAsWritten}

covers : Covers 3 refused
covers zero lt = omega arith
covers (suc zero) lt = omega arith
covers (suc (suc zero)) lt = omega arith
covers (suc (suc (suc f))) lt = absurd (omega arith)

pub frames_are_as_written : FramesAreAsWritten
unfolding frames_in
frames_are_as_written = record {
  three_taken = refl;
  first_word = refl;
  second_word = refl;
  wins_one = refl;
  twice = refl;
  won_and_taken = (refl, refl, refl, refl);
  to_fetch = (refl, refl, refl);
  held = refl;
  out = refl;
  packed = refl;
  back = refl;
  given_back = refl;
  two_seats = refl;
  covers = covers;
  is_refused = inl (covers, omega arith);
  not_among_four = λ c. let z = c 3 (omega arith) in omega arith;
  one_at_home = refl;
}
