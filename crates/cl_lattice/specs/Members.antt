-- Members of types.
use Rattle.std.specs.Prelude.{◌≡◌, ℕ, ℤ, pos, int_le, Bool, true, false, not, ◌&&◌, ◌||◌, List, [], ◌∷◌, length, Option, Some, None, is_some}
use Rattle.std.specs.Str.{bytes_eq}
use Rattle.std.specs.declared.cmp.Ordering.{Ordering}
use Rattle.std.specs.declared.cmp.Ordering.TheVariants.{Less, Equal, Greater}
use Rattle.cl_value.specs.Data.{Data, int, bool, text, symbol, null, list, rec, Items, none, item, order_of}
use Rattle.cl_value.specs.declared.Held.{Held}
use Rattle.cl_value.specs.declared.Held.TheVariants.{Yes, No, Memory}
use Rattle.cl_syntax.specs.TypeSpecTree.{TypeSpecTree}
use Rattle.cl_syntax.specs.declared.type_decls.CommandType.{CommandType}
use Rattle.cl_table.specs.Names.{named}
use Rattle.cl_lattice.specs.Expanded.{Expanded, ExpandedTypes}
use Rattle.cl_lattice.specs.Expanded as type
use Rattle.cl_lattice.specs.Expansion.{expansion}
use Rattle.cl_lattice.specs.World.{World}

-- whether a predicate is true of a value and the arguments of its type, `*` as null
abbrev pub Answers : Type 0
Answers = List ℕ → Data → List Data → Bool

-- whether a value is a member of an expanded type
abbrev pub Membership : Type 0
Membership = Expanded → Bool

-- ---- data by themselves

-- an order of two that are equal
abbrev pub is_equal : Ordering → Bool
is_equal Less = false
is_equal Equal = true
is_equal Greater = false

-- the same kind and the same content
abbrev pub is_same : Data → Data → Bool
is_same d e = is_equal (order_of d e)

-- a value is the same as one of the constants
abbrev pub is_among : Data → List Data → Bool
is_among d [] = false
is_among d (e ∷ es) = is_same d e || is_among d es

-- whether a value is the constant that an argument is
abbrev pub is_given : Data → Option Data → Bool
is_given d None = false
is_given d (Some e) = is_same d e

-- every part is one of the constants, and none is met twice
abbrev pub are_among : Items → List Data → Bool
are_among none ds = true
are_among (item d more) ds = is_among d ds && are_among more ds

-- a value is the same as one of the parts
abbrev pub is_part : Data → Items → Bool
is_part d none = false
is_part d (item e es) = is_same d e || is_part d es

-- no two parts are the same
abbrev pub differ : Items → Bool
differ none = true
differ (item d ds) = not (is_part d ds) && differ ds

-- a number is no less than the lower bound; None is no bound
abbrev pub is_at_least : Option ℤ → ℤ → Bool
is_at_least None z = true
is_at_least (Some low) z = int_le low z

-- a number is no greater than the upper bound; None is no bound
abbrev pub is_at_most : Option ℤ → ℤ → Bool
is_at_most None z = true
is_at_most (Some high) z = int_le z high

-- a number within two bounds
abbrev pub is_within : Option ℤ → Option ℤ → Data → Bool
is_within low high (int z) = is_at_least low z && is_at_most high z
is_within low high (bool b) = false
is_within low high (text s) = false
is_within low high (symbol s) = false
is_within low high null = false
is_within low high (list ds) = false
is_within low high (rec x ds) = false

-- a truth value
abbrev pub is_boolean : Data → Bool
is_boolean (int z) = false
is_boolean (bool b) = true
is_boolean (text s) = false
is_boolean (symbol s) = false
is_boolean null = false
is_boolean (list ds) = false
is_boolean (rec x ds) = false

-- a length is the one that is asked for; None asks for none
abbrev pub has_length : Option ℤ → ℕ → Bool
has_length None n = true
has_length (Some z) n = int_le z (pos n) && int_le (pos n) z

-- a text of the length that is asked for
abbrev pub is_text : Option ℤ → Data → Bool
is_text n (int z) = false
is_text n (bool b) = false
is_text n (text s) = has_length n (length s)
is_text n (symbol s) = false
is_text n null = false
is_text n (list ds) = false
is_text n (rec x ds) = false

-- a symbol
abbrev pub is_symbol : Data → Bool
is_symbol (int z) = false
is_symbol (bool b) = false
is_symbol (text s) = false
is_symbol (symbol s) = true
is_symbol null = false
is_symbol (list ds) = false
is_symbol (rec x ds) = false

-- a list of some of the constants, each at most once
abbrev pub is_subset : List Data → Data → Bool
is_subset cs (int z) = false
is_subset cs (bool b) = false
is_subset cs (text s) = false
is_subset cs (symbol s) = false
is_subset cs null = false
is_subset cs (list ds) = are_among ds cs && differ ds
is_subset cs (rec x ds) = false

-- null itself
abbrev pub is_null : Data → Bool
is_null (int z) = false
is_null (bool b) = false
is_null (text s) = false
is_null (symbol s) = false
is_null null = true
is_null (list ds) = false
is_null (rec x ds) = false

-- a name is one of the names
abbrev pub is_token : List (List ℕ) → List ℕ → Bool
is_token [] s = false
is_token (x ∷ xs) s = bytes_eq x s || is_token xs s

-- a symbol that is one of the tokens
abbrev pub is_one_of : List (List ℕ) → Data → Bool
is_one_of xs (int z) = false
is_one_of xs (bool b) = false
is_one_of xs (text s) = false
is_one_of xs (symbol s) = is_token xs s
is_one_of xs null = false
is_one_of xs (list ds) = false
is_one_of xs (rec x ds) = false

-- a record of this name
abbrev pub is_of_record : List ℕ → Data → Bool
is_of_record x (int z) = false
is_of_record x (bool b) = false
is_of_record x (text s) = false
is_of_record x (symbol s) = false
is_of_record x null = false
is_of_record x (list ds) = false
is_of_record x (rec y ds) = bytes_eq x y

-- a number
abbrev pub is_number : Data → Bool
is_number (int z) = true
is_number (bool b) = false
is_number (text s) = false
is_number (symbol s) = false
is_number null = false
is_number (list ds) = false
is_number (rec x ds) = false

-- there are no parts
abbrev pub is_end : Items → Bool
is_end none = true
is_end (item d ds) = false

-- one number and nothing behind it
abbrev pub is_one_number : Items → Bool
is_one_number none = false
is_one_number (item d ds) = is_number d && is_end ds

-- two numbers and nothing behind them
abbrev pub are_two_numbers : Items → Bool
are_two_numbers none = false
are_two_numbers (item d ds) = is_number d && is_one_number ds

-- a symbol and two numbers: a pane, and a place in it
abbrev pub is_place : Items → Bool
is_place none = false
is_place (item d ds) = is_symbol d && are_two_numbers ds

-- a list of a pane's symbol and a place in it
abbrev pub is_blank_area : Data → Bool
is_blank_area (int z) = false
is_blank_area (bool b) = false
is_blank_area (text s) = false
is_blank_area (symbol s) = false
is_blank_area null = false
is_blank_area (list ds) = is_place ds
is_blank_area (rec x ds) = false

-- ---- members of expanded types

-- a list
abbrev pub is_list : Data → Bool
is_list (int z) = false
is_list (bool b) = false
is_list (text s) = false
is_list (symbol s) = false
is_list null = false
is_list (list ds) = true
is_list (rec x ds) = false

-- every part is a member of the type
abbrev pub every : List Membership → Expanded → Bool
every [] t = true
every (m ∷ ms) t = m t && every ms t

-- as many parts as specifiers, each a member of its own
abbrev pub fit : World → List Membership → List TypeSpecTree → Bool
fit w [] [] = true
fit w (m ∷ ms) (s ∷ ss) = m (expansion w [] s) && fit w ms ss
fit w ms ss = false

-- the arguments of a command that is declared
abbrev pub fit_command : World → Option CommandType → List Membership → Bool
fit_command w None ms = false
fit_command w (Some c) ms = fit w ms c.args

-- the symbol of a command, and its arguments
abbrev pub is_command : World → Data → List Membership → Bool
is_command w (list (item (symbol x) ds)) (m ∷ ms) = fit_command w (named x w.commands) ms
is_command w d ms = false

-- the arguments of a predicate
abbrev pub argument_given : Option Data → Data
argument_given None = null
argument_given (Some d) = d

-- the arguments of a predicate, in their order
abbrev pub arguments_given : List (Option Data) → List Data
arguments_given [] = []
arguments_given (v ∷ vs) = argument_given v ∷ arguments_given vs

-- a type without a predicate asks nothing
abbrev pub is_satisfied : Answers → Option (List ℕ) → Data → List (Option Data) → Bool
is_satisfied p None d vs = true
is_satisfied p (Some f) d vs = p f d (arguments_given vs)

-- whether a value is a member, of whose parts it is known of which types these are members
abbrev mutual
  pub is_in : World → Answers → Data → List Membership → Expanded → Bool
  is_in w p d ms type.everything = true
  is_in w p d ms type.nothing = false
  is_in w p d ms type.boolean = is_boolean d
  is_in w p d ms type.symbols = is_symbol d
  is_in w p d ms type.blank_area = is_blank_area d
  is_in w p d ms type.command = is_command w d ms
  is_in w p d ms type.dialog_choice = is_symbol d
  is_in w p d ms (type.integer low high) = is_within low high d
  is_in w p d ms (type.string n) = is_text n d
  is_in w p d ms (type.member cs) = is_among d cs
  is_in w p d ms (type.subset cs) = is_subset cs d
  is_in w p d ms (type.sequence t) = is_list d && every ms t
  is_in w p d ms (type.some_of ts) = is_in_some w p d ms ts
  is_in w p d ms (type.each_of ts) = is_in_each w p d ms ts
  is_in w p d ms (type.null_or t) = is_null d || is_in w p d ms t
  is_in w p d ms (type.token_or xs t) = is_one_of xs d || is_in w p d ms t
  is_in w p d ms (type.record_type x) = is_of_record x d
  is_in w p d ms (type.host x low high) = is_within (Some low) (Some high) d
  is_in w p d ms (type.user x vs f t) = is_in w p d ms t && is_satisfied p f d vs
  is_in w p d ms (type.unknown x vs) = false

  -- whether a value is a member of some of the types
  pub is_in_some : World → Answers → Data → List Membership → ExpandedTypes → Bool
  is_in_some w p d ms type.none = false
  is_in_some w p d ms (type.part t ts) = is_in w p d ms t || is_in_some w p d ms ts

  -- whether a value is a member of each of the types
  pub is_in_each : World → Answers → Data → List Membership → ExpandedTypes → Bool
  is_in_each w p d ms type.none = true
  is_in_each w p d ms (type.part t ts) = is_in w p d ms t && is_in_each w p d ms ts

-- whether a value is a member of an expanded type: by recursion on the value, and for one value on the type
abbrev mutual
  pub is_member : World → Answers → Data → Membership
  is_member w p (int z) t = is_in w p (int z) [] t
  is_member w p (bool b) t = is_in w p (bool b) [] t
  is_member w p (text s) t = is_in w p (text s) [] t
  is_member w p (symbol s) t = is_in w p (symbol s) [] t
  is_member w p null t = is_in w p null [] t
  is_member w p (list ds) t = is_in w p (list ds) (memberships w p ds) t
  is_member w p (rec x ds) t = is_in w p (rec x ds) [] t

  -- for each of the parts, of which types it is a member
  pub memberships : World → Answers → Items → List Membership
  memberships w p none = []
  memberships w p (item d ds) = is_member w p d ∷ memberships w p ds

-- of which types the parts of a list are members
abbrev pub inside : World → Answers → Data → List Membership
inside w p (int z) = []
inside w p (bool b) = []
inside w p (text s) = []
inside w p (symbol s) = []
inside w p null = []
inside w p (list ds) = memberships w p ds
inside w p (rec x ds) = []

-- an answer of the program; want of memory says nothing
abbrev pub Says : Held → Bool → Type 0
Says Yes b = b ≡ true
Says No b = b ≡ false
Says Memory b = Unit {0}

-- ---- where a predicate may be asked

-- whether a predicate may be asked; in a `command`, where that is so of some command's arguments
abbrev mutual
  pub asks : Bool → Expanded → Bool
  asks c type.everything = false
  asks c type.nothing = false
  asks c type.boolean = false
  asks c type.symbols = false
  asks c type.blank_area = false
  asks c type.command = c
  asks c type.dialog_choice = false
  asks c (type.integer low high) = false
  asks c (type.string n) = false
  asks c (type.member cs) = false
  asks c (type.subset cs) = false
  asks c (type.sequence t) = asks c t
  asks c (type.some_of ts) = any_asks c ts
  asks c (type.each_of ts) = any_asks c ts
  asks c (type.null_or t) = asks c t
  asks c (type.token_or xs t) = asks c t
  asks c (type.record_type x) = false
  asks c (type.host x low high) = false
  asks c (type.user x vs f t) = asks c t || is_some f
  asks c (type.unknown x vs) = false

  -- whether a predicate may be asked for some of the types
  pub any_asks : Bool → ExpandedTypes → Bool
  any_asks c type.none = false
  any_asks c (type.part t ts) = asks c t || any_asks c ts

-- whether a predicate may be asked for some of the arguments of a command
abbrev pub args_ask : World → List TypeSpecTree → Bool
args_ask w [] = false
args_ask w (s ∷ ss) = asks false (expansion w [] s) || args_ask w ss

-- whether a predicate may be asked for the arguments of some of the commands
abbrev pub any_command_asks : World → List (List ℕ × CommandType) → Bool
any_command_asks w [] = false
any_command_asks w (e ∷ es) = args_ask w e.1.args || any_command_asks w es

-- whether a predicate may be asked for the arguments of some command
unfoldable pub commands_ask : World → Bool
commands_ask w = any_command_asks w w.commands

-- whether a predicate may be asked for members of a type
abbrev pub may_ask : World → Expanded → Bool
may_ask w t = asks (commands_ask w) t

-- an answer of the program; want of memory comes only where a predicate may be asked
abbrev pub Settles : Held → Bool → Bool → Type 0
Settles Yes b asked = b ≡ true
Settles No b asked = b ≡ false
Settles Memory b asked = asked ≡ true
