-- Words that are written out.
use Rattle.std.proofs.Common.{refl}
use Rattle.host_words.specs.{command_named, run_meaning, list_meaning, make_meaning, load_meaning, given_after, block_size, number}
use Rattle.model_rows.specs.{WordsAreCommands}

pub words_are_commands : WordsAreCommands
unfolding command_named given_after run_meaning list_meaning make_meaning load_meaning number
    block_size
words_are_commands = record {
  named_commands = (refl, refl, refl, refl, refl, refl, refl, refl, refl);
  refused_words = (
    refl,
    refl,
    refl,
    refl,
    refl,
    refl,
    refl,
    refl,
    refl,
    refl,
    refl,
    refl,
    refl,
    refl,
    refl,
  );
}
