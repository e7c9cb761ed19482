-- What the words of a call ask for.
use Rattle.std.specs.Prelude.{◌≡◌, ℕ, true, false, codes, List, [], ◌∷◌, Option, Some, None}
use Rattle.host_run.specs.Words.{listing_in, making_in, playing_in, plays_on_disk, reads_script}
use Rattle.host_run.specs.declared.mode.Text.TheVariants as text
use Rattle.host_words.specs.Commands.{Meaning, command_of}

abbrev pub base : List ℕ
base = codes "base.img"

-- the meaning of these words behind `run base.img`
abbrev pub run_with : List (List ℕ) → Option Meaning
run_with options = command_of (codes "run" ∷ base ∷ options)

abbrev pub load_words : Option Meaning
load_words =
    command_of (codes "load" ∷ base ∷ codes "7" ∷ codes "16" ∷ codes "64" ∷ codes "--depth=1" ∷ [])

abbrev pub list_words : Option Meaning
list_words = command_of (codes "list" ∷ base ∷ codes "--block" ∷ codes "4096" ∷ [])

abbrev pub make_words : Option Meaning
make_words = command_of (codes "make" ∷ codes "1" ∷ codes "1" ∷ codes "2" ∷ [])

pub record WordsAskForRuns : Type 0 where
  -- two workers and rings of 128 where the words say nothing, on the disk itself
  pub plain : playing_in (run_with [])
      ≡ Some (record {
        name = base;
        size = 512;
        workers = 2;
        depth = 128;
        cut = false;
        dry = false;
        told = text.Report false;
        making = None;
      })
  pub options : playing_in (run_with
      (codes "--dry" ∷ codes "--steps" ∷ codes "--cut" ∷ codes "--workers" ∷ codes "4" ∷ []))
      ≡ Some (record {
        name = base;
        size = 512;
        workers = 4;
        depth = 128;
        cut = true;
        dry = true;
        told = text.Report true;
        making = None;
      })
  -- a made script is played on a copy, with the closing flush, and told by its summary
  pub load : playing_in load_words
      ≡ Some (record {
        name = base;
        size = 512;
        workers = 2;
        depth = 1;
        cut = false;
        dry = true;
        told = text.Summary;
        making = Some (record { seed = 7; sessions = 16; requests = 64 });
      })
  pub list : listing_in list_words ≡ Some (record { name = base; size = 4096 })
  pub make : making_in make_words ≡ Some (record { seed = 1; sessions = 1; requests = 2 })
  -- what isn't asked for
  pub no_run : (playing_in list_words ≡ None) × (playing_in make_words ≡ None)
      × (playing_in (run_with (codes "--workers" ∷ codes "17" ∷ [])) ≡ None)
  pub on_disk : (plays_on_disk (run_with []) ≡ true)
      × (plays_on_disk (run_with (codes "--dry" ∷ [])) ≡ false) × (plays_on_disk load_words ≡ false)
      × (plays_on_disk list_words ≡ false)
  pub script : (reads_script (run_with (codes "--dry" ∷ [])) ≡ true)
      × (reads_script load_words ≡ false) × (reads_script make_words ≡ false)
