-- Sessions that are lawful.
use Rattle.std.specs.Prelude.{◌≡◌, [], ◌∷◌, replicate}
use Rattle.host_model.specs.Answers.{due}
use Rattle.host_model.specs.LawfulSession.{IsLawfulSession}
use Rattle.model_rows.specs.Sessions.{failed_group, faults, twins, realistic, read_and_close}
use Rattle.model_rows.specs.Sessions.{open_group, short, closed_buffer, untaken_close, group_again}
use Rattle.model_rows.specs.Sessions.{aborted, late_attach}

pub record SessionsAreLawful : Type 0 where
  pub failed_group_is_lawful : IsLawfulSession failed_group
  pub failed_group_answer : due failed_group.log failed_group.rows ≡ (0xf2 ∷ 0xff ∷ 0xff ∷ 0xff ∷ 3
      ∷ 0 ∷ 0 ∷ 0 ∷ 3 ∷ 0 ∷ 0 ∷ 0 ∷ 3 ∷ 0 ∷ 0 ∷ 0 ∷ replicate 16 0) ∷ []
  pub group_again_is_lawful : IsLawfulSession group_again
  pub open_group_is_lawful : IsLawfulSession open_group
  pub closed_buffer_is_lawful : IsLawfulSession closed_buffer
  pub read_and_close_is_lawful : IsLawfulSession read_and_close
  pub late_attach_is_lawful : IsLawfulSession late_attach
  pub faults_is_lawful : IsLawfulSession faults
  pub short_is_lawful : IsLawfulSession short
  pub twins_is_lawful : IsLawfulSession twins
  pub aborted_is_lawful : IsLawfulSession aborted
  pub untaken_close_is_lawful : IsLawfulSession untaken_close
  pub realistic_is_lawful : IsLawfulSession realistic
