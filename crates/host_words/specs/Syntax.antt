-- What `clap` is told of a command: each option, and one argument that takes every word of no
-- option.
use Rattle.std.specs.Prelude.{true, List, [], ◌∷◌, ◌++◌, map, Some}
use Rattle.clap.specs.Simple.{App, new_rule, new_shape, on_top}
use Rattle.clap.specs.Walk.{Rule}
use Rattle.clap.specs.declared.builder.action.ArgAction.TheVariants.{Append}
use Rattle.host_words.specs.Given.{Options, Word, words_name}

-- an option with a value
abbrev pub valued_rule : Word → Rule
valued_rule name = record (new_rule name) { long = Some name; action = Some Append }

-- an option without one, which stands with an empty value
abbrev pub plain_rule : Word → Rule
plain_rule name = record (new_rule name) {
  long = Some name;
  action = Some Append;
  range = Some (record { start_inclusive = 0; end_inclusive = 0 });
  missing = [] ∷ [];
}

-- the words of no option
abbrev pub words_rule : Rule
words_rule = record (new_rule words_name) { action = Some Append }

abbrev pub rules : Options → List Rule
rules o = map valued_rule o.valued ++ (map plain_rule o.plain ++ words_rule ∷ [])

-- a command without help and version
abbrev pub bare : Word → App
bare name =
    record {
      top = record (new_shape name)
          { disable_help_flag = true; disable_version_flag = true };
      subs = [];
    }

abbrev pub syntax : Word → Options → App
syntax name o = on_top (λ s. record s { rules = rules o }) (bare name)
