-- The words of the program, those behind its name, and the invocation that they are.
use Rattle.std.specs.Prelude.{ℕ, Bool, true, false, not, ◌&&◌, nat_eq, nat_lt, nat_le, if◌then◌else◌, List, [], ◌∷◌, ◌++◌, length, drop, codes, Option, None, Some, option_map, option_and_then}
use Rattle.std.specs.Char.{is_ascii_digit}
use Rattle.std.specs.List.{list_all, starts_with}
use Rattle.std.specs.Str.{bytes_eq}
use Rattle.std.specs.Str.Parse.{digits_value}

-- a text, by its bytes
abbrev pub Text : Type 0
Text = List ℕ

-- an application is run, with the name of its wire's file and its budget of forms where the words say them, or it is checked;
-- or a bench of some items is run
pub data Invocation : Type 0 where
  run : (application : Text) → (wire : Option Text) → (budget : Option ℕ) → Invocation
  check : (application : Text) → Invocation
  bench : (items : ℕ) → Invocation

-- ---- one word

-- the two options
pub data Name : Type 0 where
  wire : Name
  budget : Name

-- the word is not empty and does not begin with `-`
abbrev pub is_plain : Text → Bool
is_plain word = nat_lt 0 (length word) && not (starts_with nat_eq word (codes "-"))

-- what stands behind the prefix, where it is not empty
abbrev pub behind : Text → Text → Option Text
behind prefix word =
    if starts_with nat_eq word prefix && nat_lt (length prefix) (length word) then Some (drop (length prefix) word) else None

-- what a word says by itself
pub data Said : Type 0 where
  plain : Said
  names : Name → Said
  gives : Name → Text → Said
  nothing : Said

-- a word says something
abbrev pub is_said : Said → Bool
is_said nothing = false
is_said _ = true

-- the name gives this value; else what another reading says
abbrev pub given : Name → Option Text → Said → Said
given name (Some value) other = gives name value
given name None other = other

-- `--wire=VALUE` and `--budget=VALUE` give the value
abbrev pub attached : Text → Said
attached word = given wire (behind (codes "--wire=") word) (given budget (behind (codes "--budget=") word) nothing)

-- `--wire` and `--budget` name what the next word is the value of
abbrev pub said_by : Text → Said
said_by word = if is_plain word then plain
    else (if bytes_eq word (codes "--wire") then names wire
    else (if bytes_eq word (codes "--budget") then names budget
    else attached word))

-- the word is one of a command
abbrev pub is_word : Text → Bool
is_word word = is_said (said_by word)

-- ---- the parts of the words

-- what the next word may be: any word, or the value of an option
pub data Next : Type 0 where
  any : Next
  value_of : Name → Next

-- the positional words and the values of each option, in the order of the words
pub record Parts : Type 0 where
  pub positional : List Text
  pub wires : List Text
  pub budgets : List Text

-- no word and no value
abbrev pub no_parts : Parts
no_parts = record { positional = []; wires = []; budgets = [] }

-- the parts of one word
abbrev pub one_positional : Text → Parts
one_positional word = record no_parts { positional = word ∷ [] }

-- one value of an option
abbrev pub one_value : Name → Text → Parts
one_value wire value = record no_parts { wires = value ∷ [] }
one_value budget value = record no_parts { budgets = value ∷ [] }

-- the parts of words, and then those of the words behind them
abbrev pub joined : Parts → Parts → Parts
joined before after = record {
  positional = before.positional ++ after.positional;
  wires = before.wires ++ after.wires;
  budgets = before.budgets ++ after.budgets;
}

-- what the next word may be, and the parts of this one, by what it says
abbrev pub part_said : Text → Said → Option (Next × Parts)
part_said word plain = Some (any, one_positional word)
part_said word (names name) = Some (value_of name, no_parts)
part_said word (gives name value) = Some (any, one_value name value)
part_said word nothing = None

-- the value of an option is a plain word
abbrev pub part_of : Next → Text → Option (Next × Parts)
part_of any word = part_said word (said_by word)
part_of (value_of name) word = if is_plain word then Some (any, one_value name word) else None

-- no value is left out
abbrev pub parts_at_end : Next → Option Parts
parts_at_end any = Some no_parts
parts_at_end (value_of name) = None

-- the parts of the words, where each word is one of a command
abbrev pub parts_from : Next → List Text → Option Parts
parts_from next [] = parts_at_end next
parts_from next (word ∷ rest) = option_and_then (λ part. option_map (joined part.1) (parts_from part.0 rest)) (part_of next word)

-- ---- the invocation

-- 1 to 9 decimal digits, which write a number within the bounds
abbrev pub is_number : (least most : ℕ) → Text → Bool
is_number least most text = list_all is_ascii_digit text && nat_lt 0 (length text) && nat_le (length text) 9
    && nat_le least (digits_value 10 text) && nat_le (digits_value 10 text) most

-- the number within the bounds that the text writes
abbrev pub number_in : (least most : ℕ) → Text → Option ℕ
number_in least most text = if is_number least most text then Some (digits_value 10 text) else None

-- a budget is from 1 to 100,000,000 forms, and a bench has from 1 to 1,000 items
abbrev pub budget_in : Text → Option ℕ
budget_in text = number_in 1 100000000 text

-- how many items a bench has: from 1 to 1,000
abbrev pub items_in : Text → Option ℕ
items_in text = number_in 1 1000 text

-- an option is given at most once
abbrev pub at_most_one : List Text → Option (Option Text)
at_most_one [] = Some None
at_most_one (value ∷ []) = Some (Some value)
at_most_one (value ∷ other ∷ more) = None

-- where a budget is given, it is one
abbrev pub budget_given : Option Text → Option (Option ℕ)
budget_given None = Some None
budget_given (Some text) = option_map (λ number. Some number) (budget_in text)

-- a run of an application, with at most one wire and one budget
abbrev pub run_of : Text → List Text → List Text → Option Invocation
run_of application wires budgets = option_and_then (λ file. option_map (λ forms. run application file forms)
    (option_and_then budget_given (at_most_one budgets))) (at_most_one wires)

-- no option stands beside `check`
abbrev pub check_of : Text → List Text → List Text → Option Invocation
check_of application [] [] = Some (check application)
check_of application wires budgets = None

-- nor beside `bench`
abbrev pub bench_of : Text → List Text → List Text → Option Invocation
bench_of text [] [] = option_map (λ items. bench items) (items_in text)
bench_of text wires budgets = None

-- two positional words: `run` or `check`, and the application, or `bench`, and the number of its items
abbrev pub commanded : List Text → List Text → List Text → Option Invocation
commanded (command ∷ operand ∷ []) wires budgets =
    if bytes_eq command (codes "run") then run_of operand wires budgets
    else (if bytes_eq command (codes "check") then check_of operand wires budgets
    else (if bytes_eq command (codes "bench") then bench_of operand wires budgets else None))
commanded positional wires budgets = None

-- the invocation that the words are, if they are one
abbrev pub invocation_of : List Text → Option Invocation
invocation_of words = option_and_then (λ parts. commanded parts.positional parts.wires parts.budgets) (parts_from any words)
