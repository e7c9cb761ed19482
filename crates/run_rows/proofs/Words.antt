-- What the words of a call ask for.
use Rattle.std.proofs.Common.{refl}
use Rattle.host_words.specs.{command_named, list_meaning, load_meaning, make_meaning, run_meaning, given_after, block_size, number}
use Rattle.run_rows.specs.{WordsAskForRuns}

pub words_ask_for_runs : WordsAskForRuns
unfolding command_named given_after run_meaning list_meaning make_meaning load_meaning number block_size
words_ask_for_runs = record {
  plain = refl;
  options = refl;
  load = refl;
  list = refl;
  make = refl;
  no_run = (refl, refl, refl);
  on_disk = (refl, refl, refl, refl);
  script = (refl, refl, refl);
}
