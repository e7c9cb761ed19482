-- What words mean.
use Rattle.std.specs.Prelude.{◌≡◌, codes, true, false, [], ◌∷◌, Some, None}
use Rattle.host_words.specs.Commands.{Meaning, command_of, run, lists, make, load}
use Rattle.host_words.specs.Given.{Word}

abbrev pub base : Word
base = codes "base.img"

abbrev pub plain_run : Word → Meaning
plain_run image = run image 512 None None false false false

pub record WordsAreCommands : Type 0 where
  pub named_commands : (command_of (codes "run" ∷ base ∷ []) ≡ Some (plain_run base))
      × (command_of (codes "run" ∷ codes "--dry" ∷ base ∷ [])
      ≡ Some (run base 512 None None true false false))
      × (command_of (codes "run" ∷ codes "--" ∷ base ∷ []) ≡ Some (plain_run base))
      × (command_of (codes "run" ∷ codes "--" ∷ codes "--" ∷ []) ≡ Some (plain_run (codes "--")))
      × (command_of (codes "run" ∷ codes "-" ∷ []) ≡ Some (plain_run (codes "-")))
      × (command_of (codes "run" ∷ base ∷ codes "--workers" ∷ codes "016" ∷ codes "--steps"
      ∷ codes "--depth=128" ∷ []) ≡ Some (run base 512 (Some 16) (Some 128) false false true))
      × (command_of (codes "list" ∷ base ∷ codes "--block=4096" ∷ codes "--" ∷ [])
      ≡ Some (lists base 4096))
      × (command_of (codes "make" ∷ codes "1" ∷ codes "1" ∷ codes "2" ∷ []) ≡ Some (make 1 1 2))
      × (command_of (codes "load" ∷ base ∷ codes "7" ∷ codes "16" ∷ codes "2048" ∷ codes "--workers"
      ∷ codes "4" ∷ []) ≡ Some (load base 7 16 2048 512 (Some 4) None))
  pub refused_words : (command_of [] ≡ None)
      × (command_of (codes "walk" ∷ base ∷ []) ≡ None)
      × (command_of (codes "--" ∷ codes "run" ∷ base ∷ []) ≡ None)
      × (command_of (codes "run" ∷ base ∷ codes "--dry" ∷ codes "--dry" ∷ []) ≡ None)
      × (command_of (codes "run" ∷ codes "--depth" ∷ codes "0" ∷ base ∷ []) ≡ None)
      × (command_of (codes "run" ∷ codes "--depth" ∷ codes "-" ∷ base ∷ []) ≡ None)
      × (command_of (codes "run" ∷ codes "--block" ∷ codes "--" ∷ codes "512" ∷ base ∷ []) ≡ None)
      × (command_of (codes "run" ∷ base ∷ codes "--dry=1" ∷ []) ≡ None)
      × (command_of (codes "run" ∷ base ∷ codes "--block=" ∷ []) ≡ None)
      × (command_of (codes "run" ∷ base ∷ codes "--workers" ∷ codes "17" ∷ []) ≡ None)
      × (command_of (codes "run" ∷ base ∷ codes "-x" ∷ []) ≡ None)
      × (command_of (codes "list" ∷ [] ∷ []) ≡ None)
      × (command_of (codes "list" ∷ base ∷ codes "--dry" ∷ []) ≡ None)
      × (command_of (codes "make" ∷ codes "1" ∷ codes "1" ∷ []) ≡ None)
      × (command_of (codes "make" ∷ codes "2147483648" ∷ codes "1" ∷ codes "1" ∷ []) ≡ None)
