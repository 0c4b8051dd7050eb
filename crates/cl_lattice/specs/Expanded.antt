-- Expanded types: what a specifier is once its names are found and its parameters put in. A user type holds what it inherits from.
use Rattle.std.specs.Prelude.{ℕ, ℤ, ◌+◌, List, Option}
use Rattle.cl_value.specs.Data.{Data}

mutual
  -- an expanded type, by its kind
  pub data Expanded : Type 0 where
    -- t
    everything : Expanded
    -- nil
    nothing : Expanded
    boolean : Expanded
    symbols : Expanded
    blank_area : Expanded
    command : Expanded
    dialog_choice : Expanded
    -- numbers, with their least and their greatest; None for no bound
    integer : Option ℤ → Option ℤ → Expanded
    -- texts, with their length in bytes; None for any
    string : Option ℤ → Expanded
    -- one of the constants
    member : List Data → Expanded
    -- lists of the constants, each at most once
    subset : List Data → Expanded
    sequence : Expanded → Expanded
    -- or
    some_of : ExpandedTypes → Expanded
    -- and
    each_of : ExpandedTypes → Expanded
    null_or : Expanded → Expanded
    token_or : List (List ℕ) → Expanded → Expanded
    -- a record type
    record_type : List ℕ → Expanded
    -- a host type, with its least and its greatest number
    host : List ℕ → ℤ → ℤ → Expanded
    -- a user type: its name, its arguments, its predicate, and what it inherits from
    user : List ℕ → List (Option Data) → Option (List ℕ) → Expanded → Expanded
    -- a name that is not declared, or a standard type whose arguments are not those of its row
    unknown : List ℕ → List (Option Data) → Expanded

  -- expanded types, one after another
  pub data ExpandedTypes : Type 0 where
    none : ExpandedTypes
    part : Expanded → ExpandedTypes → ExpandedTypes

-- a size that is greater than that of each part
abbrev mutual
  pub weight : Expanded → ℕ
  weight everything = 1
  weight nothing = 1
  weight boolean = 1
  weight symbols = 1
  weight blank_area = 1
  weight command = 1
  weight dialog_choice = 1
  weight (integer low high) = 1
  weight (string n) = 1
  weight (member ds) = 1
  weight (subset ds) = 1
  weight (sequence t) = weight t + 1
  weight (some_of ts) = weight_all ts + 1
  weight (each_of ts) = weight_all ts + 1
  weight (null_or t) = weight t + 1
  weight (token_or xs t) = weight t + 1
  weight (record_type x) = 1
  weight (host x low high) = 2
  weight (user x vs p t) = weight t + 1
  weight (unknown x vs) = 1

  -- a size of types in a row that is greater than that of each
  pub weight_all : ExpandedTypes → ℕ
  weight_all none = 0
  weight_all (part t ts) = weight t + 1 + weight_all ts
