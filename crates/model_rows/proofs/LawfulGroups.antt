-- Sessions of groups and flushes that are lawful, each shown by computing.
use Rattle.std.proofs.Common.{◌≡◌, [], ◌∷◌, replicate, refl, lit≤}
use Rattle.host_model.specs.{due, IsLawfulSession, judged}
use Rattle.host_record.specs.{opcode}
use Rattle.model_rows.proofs.Lawful.{lawful_from}
use Rattle.model_rows.specs.{failed_group, group_again, open_group, twins}

pub failed_group_is_lawful : IsLawfulSession failed_group
unfolding opcode judged
failed_group_is_lawful = lawful_from failed_group (
  record {
    numbered = refl;
    only_sent = lit≤ tt;
    verdicts = refl;
    ends = refl;
    all_taken = λ _. refl;
    ids = refl;
  },
  (
    record { steps = refl; outcome = refl },
    (
      record { steps = refl; outcome = refl },
      (record { steps = refl; outcome = refl }, tt),
    ),
  ),
  refl,
  refl,
  λ _. refl,
  record { entries = refl; ids = refl },
  record { shows = refl; lifts = refl },
  (refl, (refl, (refl, tt))),
  refl,
  refl,
  refl,
  refl,
  refl,
  refl,
  refl,
  refl,
)

pub failed_group_answer : due failed_group.log failed_group.rows ≡ (0xf2 ∷ 0xff ∷ 0xff ∷ 0xff ∷ 3
    ∷ 0 ∷ 0 ∷ 0 ∷ 3 ∷ 0 ∷ 0 ∷ 0 ∷ 3 ∷ 0 ∷ 0 ∷ 0 ∷ replicate 16 0) ∷ []
unfolding opcode judged
failed_group_answer = refl

pub group_again_is_lawful : IsLawfulSession group_again
unfolding opcode judged
group_again_is_lawful = lawful_from group_again (
  record {
    numbered = refl;
    only_sent = lit≤ tt;
    verdicts = refl;
    ends = refl;
    all_taken = λ _. refl;
    ids = refl;
  },
  (record { steps = refl; outcome = refl }, (record { steps = refl; outcome = refl }, tt)),
  refl,
  refl,
  λ _. refl,
  record { entries = refl; ids = refl },
  record { shows = refl; lifts = refl },
  (refl, (refl, tt)),
  refl,
  refl,
  refl,
  refl,
  refl,
  refl,
  refl,
  refl,
)

pub open_group_is_lawful : IsLawfulSession open_group
unfolding opcode judged
open_group_is_lawful = lawful_from open_group (
  record {
    numbered = refl;
    only_sent = lit≤ tt;
    verdicts = refl;
    ends = refl;
    all_taken = λ _. refl;
    ids = refl;
  },
  (record { steps = refl; outcome = refl }, tt),
  refl,
  refl,
  λ _. refl,
  record { entries = refl; ids = refl },
  record { shows = refl; lifts = refl },
  (refl, tt),
  refl,
  refl,
  refl,
  refl,
  refl,
  refl,
  refl,
  refl,
)

pub twins_is_lawful : IsLawfulSession twins
unfolding opcode judged
twins_is_lawful = lawful_from twins (
  record {
    numbered = refl;
    only_sent = lit≤ tt;
    verdicts = refl;
    ends = refl;
    all_taken = λ _. refl;
    ids = refl;
  },
  (
    record { steps = refl; outcome = refl },
    (
      record { steps = refl; outcome = refl },
      (record { steps = refl; outcome = refl }, tt),
    ),
  ),
  refl,
  refl,
  λ _. refl,
  record { entries = refl; ids = refl },
  record { shows = refl; lifts = refl },
  (refl, (refl, (refl, tt))),
  refl,
  refl,
  refl,
  refl,
  refl,
  refl,
  refl,
  refl,
)
