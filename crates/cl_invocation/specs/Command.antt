-- The command that reads the words: what clap is given.
use Rattle.std.specs.Prelude.{List, [], Some, true, codes, option_map, unwrap_or}
use Rattle.clap.specs.Matches.{found_of, matched_of, raw_values}
use Rattle.clap.specs.Simple.{App, new_rule, new_shape, with_rule}
use Rattle.clap.specs.Walk.{Rule}
use Rattle.clap.specs.declared.builder.action.ArgAction.TheVariants.{Append}
use Rattle.clap.specs.declared.parser.matches.ArgMatches.{ArgMatches}
use Rattle.cl_invocation.specs.Words.{Text, Parts}

-- an argument that keeps all its values: the positional words, and an option
abbrev pub positional_rule : Text → Rule
positional_rule id = record (new_rule id) { action = Some Append }

-- an option of this name that keeps all its values
abbrev pub option_rule : Text → Rule
option_rule id = record (positional_rule id) { long = Some id }

-- no word is the program's name, and no word asks for help
abbrev pub empty_app : App
empty_app = record { top = record (new_shape (codes "clim")) { no_binary_name = true; disable_help_flag = true }; subs = [] }

-- the words of a command, with the options `--wire` and `--budget`
abbrev pub app : App
app = with_rule (with_rule (with_rule empty_app (positional_rule (codes "words"))) (option_rule (codes "wire")))
    (option_rule (codes "budget"))

-- the values of an argument in the matches
abbrev pub values_in : ArgMatches → Text → List Text
values_in m id = unwrap_or (option_map raw_values (matched_of (found_of m) id)) []

-- the parts in the matches
abbrev pub parts_in : ArgMatches → Parts
parts_in m = record {
  positional = values_in m (codes "words");
  wires = values_in m (codes "wire");
  budgets = values_in m (codes "budget");
}
