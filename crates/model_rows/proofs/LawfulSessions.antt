-- Sessions that are lawful, each shown by computing.
use Rattle.std.proofs.Common.{refl, lit≤}
use Rattle.host_model.specs.{IsLawfulSession, judged}
use Rattle.host_record.specs.{opcode}
use Rattle.model_rows.proofs.Lawful.{lawful_from}
use Rattle.model_rows.proofs.LawfulGroups.{failed_group_answer, failed_group_is_lawful, group_again_is_lawful, open_group_is_lawful, twins_is_lawful}
use Rattle.model_rows.specs.{SessionsAreLawful, read_and_close, faults, realistic, short, closed_buffer, untaken_close, aborted, late_attach}

pub closed_buffer_is_lawful : IsLawfulSession closed_buffer
unfolding opcode judged
closed_buffer_is_lawful = lawful_from closed_buffer (
  record {
    numbered = refl;
    only_sent = lit≤ tt;
    verdicts = refl;
    ends = refl;
    all_taken = λ _. refl;
    ids = refl;
  },
  (
    record { steps = refl; outcome = refl },
    (
      record { steps = refl; outcome = refl },
      (record { steps = refl; outcome = refl }, tt),
    ),
  ),
  refl,
  refl,
  λ _. refl,
  record { entries = refl; ids = refl },
  record { shows = refl; lifts = refl },
  (refl, (refl, (refl, tt))),
  refl,
  refl,
  refl,
  refl,
  refl,
  refl,
  refl,
  refl,
)

pub read_and_close_is_lawful : IsLawfulSession read_and_close
unfolding opcode judged
read_and_close_is_lawful = lawful_from read_and_close (
  record {
    numbered = refl;
    only_sent = lit≤ tt;
    verdicts = refl;
    ends = refl;
    all_taken = λ _. refl;
    ids = refl;
  },
  (record { steps = refl; outcome = refl }, (record { steps = refl; outcome = refl }, tt)),
  refl,
  refl,
  λ _. refl,
  record { entries = refl; ids = refl },
  record { shows = refl; lifts = refl },
  (refl, (refl, tt)),
  refl,
  refl,
  refl,
  refl,
  refl,
  refl,
  refl,
  refl,
)

pub late_attach_is_lawful : IsLawfulSession late_attach
unfolding opcode judged
late_attach_is_lawful = lawful_from late_attach (
  record {
    numbered = refl;
    only_sent = lit≤ tt;
    verdicts = refl;
    ends = refl;
    all_taken = λ _. refl;
    ids = refl;
  },
  (record { steps = refl; outcome = refl }, (record { steps = refl; outcome = refl }, tt)),
  refl,
  refl,
  λ _. refl,
  record { entries = refl; ids = refl },
  record { shows = refl; lifts = refl },
  (refl, (refl, tt)),
  refl,
  refl,
  refl,
  refl,
  refl,
  refl,
  refl,
  refl,
)

pub faults_is_lawful : IsLawfulSession faults
unfolding opcode judged
faults_is_lawful = lawful_from faults (
  record {
    numbered = refl;
    only_sent = lit≤ tt;
    verdicts = refl;
    ends = refl;
    all_taken = λ _. refl;
    ids = refl;
  },
  (
    record { steps = refl; outcome = refl },
    (
      record { steps = refl; outcome = refl },
      (record { steps = refl; outcome = refl }, tt),
    ),
  ),
  refl,
  refl,
  λ _. refl,
  record { entries = refl; ids = refl },
  record { shows = refl; lifts = refl },
  (refl, (refl, (refl, tt))),
  refl,
  refl,
  refl,
  refl,
  refl,
  refl,
  refl,
  refl,
)

pub short_is_lawful : IsLawfulSession short
unfolding opcode judged
short_is_lawful = lawful_from short (
  record {
    numbered = refl;
    only_sent = lit≤ tt;
    verdicts = refl;
    ends = refl;
    all_taken = λ _. refl;
    ids = refl;
  },
  (record { steps = refl; outcome = refl }, tt),
  refl,
  refl,
  λ _. refl,
  record { entries = refl; ids = refl },
  record { shows = refl; lifts = refl },
  (refl, tt),
  refl,
  refl,
  refl,
  refl,
  refl,
  refl,
  refl,
  refl,
)

pub aborted_is_lawful : IsLawfulSession aborted
unfolding opcode judged
aborted_is_lawful = lawful_from aborted (
  record {
    numbered = refl;
    only_sent = lit≤ tt;
    verdicts = refl;
    ends = refl;
    all_taken = λ h. absurd (cc h);
    ids = refl;
  },
  (record { steps = refl; outcome = refl }, (record { steps = refl; outcome = refl }, tt)),
  refl,
  refl,
  λ h. absurd (cc h),
  record { entries = refl; ids = refl },
  record { shows = refl; lifts = refl },
  (refl, (refl, tt)),
  refl,
  refl,
  refl,
  refl,
  refl,
  refl,
  refl,
  refl,
)

pub untaken_close_is_lawful : IsLawfulSession untaken_close
unfolding opcode judged
untaken_close_is_lawful = lawful_from untaken_close (
  record {
    numbered = refl;
    only_sent = lit≤ tt;
    verdicts = refl;
    ends = refl;
    all_taken = λ h. absurd (cc h);
    ids = refl;
  },
  (record { steps = refl; outcome = refl }, tt),
  refl,
  refl,
  λ h. absurd (cc h),
  record { entries = refl; ids = refl },
  record { shows = refl; lifts = refl },
  (refl, tt),
  refl,
  refl,
  refl,
  refl,
  refl,
  refl,
  refl,
  refl,
)

pub realistic_is_lawful : IsLawfulSession realistic
unfolding opcode judged
realistic_is_lawful = lawful_from realistic (
  record {
    numbered = refl;
    only_sent = lit≤ tt;
    verdicts = refl;
    ends = refl;
    all_taken = λ _. refl;
    ids = refl;
  },
  (
    record { steps = refl; outcome = refl },
    (
      record { steps = refl; outcome = refl },
      (
        record { steps = refl; outcome = refl },
        (
          record { steps = refl; outcome = refl },
          (
            record { steps = refl; outcome = refl },
            (record { steps = refl; outcome = refl }, tt),
          ),
        ),
      ),
    ),
  ),
  refl,
  refl,
  λ _. refl,
  record { entries = refl; ids = refl },
  record { shows = refl; lifts = refl },
  (refl, (refl, (refl, (refl, (refl, (refl, tt)))))),
  refl,
  refl,
  refl,
  refl,
  refl,
  refl,
  refl,
  refl,
)

pub sessions_are_lawful : SessionsAreLawful
sessions_are_lawful = record {
  failed_group_is_lawful = failed_group_is_lawful;
  failed_group_answer = failed_group_answer;
  group_again_is_lawful = group_again_is_lawful;
  open_group_is_lawful = open_group_is_lawful;
  closed_buffer_is_lawful = closed_buffer_is_lawful;
  read_and_close_is_lawful = read_and_close_is_lawful;
  late_attach_is_lawful = late_attach_is_lawful;
  faults_is_lawful = faults_is_lawful;
  short_is_lawful = short_is_lawful;
  twins_is_lawful = twins_is_lawful;
  aborted_is_lawful = aborted_is_lawful;
  untaken_close_is_lawful = untaken_close_is_lawful;
  realistic_is_lawful = realistic_is_lawful;
}
