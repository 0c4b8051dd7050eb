-- What building makes of the command that reads the words.
use Rattle.std.proofs.Common.{◌≡◌, Some, List, [], ◌∷◌, true, refl, codes}
use Rattle.clap.specs.Simple.{Shape, built, is_simple}
use Rattle.clap.specs.Walk.{Rule, Text}
use Rattle.clap.specs.Faults.{is_simple_and_free}
use Rattle.clap.specs.declared.builder.value_parser.ValueParser.TheVariants as vp
use Rattle.clap.proofs.OnLiterals.{clap_on_literals}
use Rattle.cl_invocation.specs.Words.{Name, wire, budget}
use Rattle.cl_invocation.specs.Command.{app, option_rule, positional_rule}

-- an argument of one value, of any text
abbrev pub built_rule : Rule → Rule
built_rule a = record a { parser = Some vp.String; range = Some (record { start_inclusive = 1; end_inclusive = 1 }) }

-- the positional words
abbrev pub words_rule : Rule
words_rule = record (built_rule (positional_rule (codes "words"))) { index = Some 1 }

-- the options
abbrev pub id_of : Name → Text
id_of wire = codes "wire"
id_of budget = codes "budget"

abbrev pub rule_of : Name → Rule
rule_of name = built_rule (option_rule (id_of name))

abbrev pub rules : List Rule
rules = words_rule ∷ rule_of wire ∷ rule_of budget ∷ []

abbrev pub shape : Shape
shape = record app.top { rules = rules; is_built = true; disable_help_subcommand = true }

pub built_is : built app ≡ record { top = shape; subs = [] }
unfolding clap_on_literals
built_is = refl

pub is_simple_app : is_simple app ≡ true
unfolding clap_on_literals
is_simple_app = refl

pub is_free_app : is_simple_and_free app ≡ true
unfolding clap_on_literals
is_free_app = refl
