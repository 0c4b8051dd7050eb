-- Subtypes of all parts of a second type at once.
use Rattle.std.specs.Prelude.{◌≡◌, ◌↔◌, ◌⊎◌, ◌&&◌, ◌||◌, ℕ, Bool, true, false, List, [], ◌∷◌, ◌++◌, drop, Some}
use Rattle.cl_lattice.specs.Expanded.{Expanded, everything, host, integer, ExpandedTypes, none, part, sequence, some_of, each_of, null_or, token_or}
use Rattle.cl_lattice.specs.SubtypeWays.{BelowEach, ByFirst}
use Rattle.cl_lattice.specs.Subtypes.{IsSubtype}
use Rattle.cl_lattice.specs.declared.rows.Row.{Row}
use Rattle.cl_lattice.specs.declared.rows.Row.TheVariants as row

-- the parts of a second type, each behind its own parts; what it inherits from is no part
abbrev mutual
  pub parts_of : Expanded → List Expanded
  parts_of (sequence t) = parts_of t ++ sequence t ∷ []
  parts_of (some_of ts) = parts_of_all ts ++ some_of ts ∷ []
  parts_of (each_of ts) = parts_of_all ts ++ each_of ts ∷ []
  parts_of (null_or t) = parts_of t ++ null_or t ∷ []
  parts_of (token_or xs t) = parts_of t ++ token_or xs t ∷ []
  parts_of t = t ∷ []

  -- the parts of types in a row, each behind its own parts
  pub parts_of_all : ExpandedTypes → List Expanded
  parts_of_all none = []
  parts_of_all (part t ts) = parts_of t ++ parts_of_all ts

-- answers to a question on types begin with those for these
abbrev pub Tells : (Expanded → Type 0) → List Expanded → List Bool → Type 0
Tells P [] rs = Unit {0}
Tells P (q ∷ qs) [] = ⊥
Tells P (q ∷ qs) (r ∷ rs) = ((r ≡ true) ↔ P q) × Tells P qs rs

-- answers for these and no more
abbrev pub TellsAll : (Expanded → Type 0) → List Expanded → List Bool → Type 0
TellsAll P [] [] = Unit {0}
TellsAll P [] (r ∷ rs) = ⊥
TellsAll P (q ∷ qs) [] = ⊥
TellsAll P (q ∷ qs) (r ∷ rs) = ((r ≡ true) ↔ P q) × TellsAll P qs rs

-- the answers for these stand behind those that were there
pub record Adds (P : Expanded → Type 0) (qs : List Expanded) (old new : List Bool) : Type 0 where
  pub added : List Bool
  pub grown : new ≡ old ++ added
  pub tell : TellsAll P qs added

-- some of the second types is one of which the first is a subtype
abbrev pub BelowSome : Expanded → ExpandedTypes → Type 0
BelowSome a none = ⊥
BelowSome a (part b qs) = IsSubtype a b ⊎ BelowSome a qs

-- of the type inside the first one, where two types of one kind are compared by these
abbrev pub InnerTells : Expanded → List Expanded → List Bool → Type 0
InnerTells (sequence t) qs rs = Tells (IsSubtype t) qs rs
InnerTells (null_or t) qs rs = Tells (IsSubtype t) qs rs
InnerTells (token_or xs t) qs rs = Tells (IsSubtype t) qs rs
InnerTells a qs rs = Unit {0}

-- an answer for the types inside two of one kind
abbrev pub InnerAgrees : Expanded → Expanded → Bool → Type 0
InnerAgrees (sequence t) (sequence u) r = (r ≡ true) ↔ IsSubtype t u
InnerAgrees (null_or t) (null_or u) r = (r ≡ true) ↔ IsSubtype t u
InnerAgrees (token_or xs t) (token_or ys u) r = (r ≡ true) ↔ IsSubtype t u
InnerAgrees a b r = Unit {0}

-- what is known of all parts of a second type: the same of each, or an answer for each
pub data RowOf : Type 0 where
  never : RowOf
  always : RowOf
  known : List Bool → RowOf

-- what a row of the program says
abbrev pub row_of : Row → RowOf
row_of row.Never = never
row_of row.Always = always
row_of (row.Known v) = known v.items

-- what is known of types tells of which of them the question is true
abbrev pub RowTells : (Expanded → Type 0) → List Expanded → RowOf → Type 0
RowTells P qs never = (q : Expanded) → P q → ⊥
RowTells P qs always = (q : Expanded) → P q
RowTells P qs (known rs) = TellsAll P qs rs

-- the same from a place on
abbrev pub RowTellsFrom : (Expanded → Type 0) → List Expanded → ℕ → RowOf → Type 0
RowTellsFrom P qs n never = (q : Expanded) → P q → ⊥
RowTellsFrom P qs n always = (q : Expanded) → P q
RowTellsFrom P qs n (known rs) = Tells P qs (drop n rs)

-- of two rows of answers, where both say so, as far as both go
abbrev pub zip_and : List Bool → List Bool → List Bool
zip_and [] ys = []
zip_and (x ∷ xs) [] = []
zip_and (x ∷ xs) (y ∷ ys) = (x && y) ∷ zip_and xs ys

-- of two rows of answers, where one of them says so, as far as both go
abbrev pub zip_or : List Bool → List Bool → List Bool
zip_or [] ys = []
zip_or (x ∷ xs) [] = []
zip_or (x ∷ xs) (y ∷ ys) = (x || y) ∷ zip_or xs ys

-- what is known of both of two questions
abbrev pub both_rows : RowOf → RowOf → RowOf
both_rows never b = never
both_rows always b = b
both_rows (known xs) never = never
both_rows (known xs) always = known xs
both_rows (known xs) (known ys) = known (zip_and xs ys)

-- what is known of one or the other of two questions
abbrev pub either_row : RowOf → RowOf → RowOf
either_row always b = always
either_row never b = b
either_row (known xs) always = always
either_row (known xs) never = known xs
either_row (known xs) (known ys) = known (zip_or xs ys)

-- what is known of the first type's parts and of the type inside it, from a place on
pub record KnownTells (a : Expanded) (qs : List Expanded) (n : ℕ) (firsts : RowOf) (inner : List Bool) : Type 0 where
  pub firsts_tell : RowTellsFrom (ByFirst a) qs n firsts
  pub inner_tells : InnerTells a qs (drop n inner)

-- an answer for each part of a type behind those that were there, and the one for the whole
pub record Fills (a t : Expanded) (old new : List Bool) (r : Bool) : Type 0 where
  pub told : (r ≡ true) ↔ IsSubtype a t
  pub adds : Adds (IsSubtype a) (parts_of t) old new

-- the same for the parts of an `or` or of an `and`, with the answer for those before them
pub record FillsSome (a : Expanded) (ts : ExpandedTypes) (old new : List Bool) (so_far r : Bool) : Type 0 where
  pub told : (r ≡ true) ↔ ((so_far ≡ true) ⊎ BelowSome a ts)
  pub adds : Adds (IsSubtype a) (parts_of_all ts) old new

-- an answer for each part of an `and`, and the one for all of them and those before them
pub record FillsEach (a : Expanded) (ts : ExpandedTypes) (old new : List Bool) (so_far r : Bool) : Type 0 where
  pub told : (r ≡ true) ↔ ((so_far ≡ true) × BelowEach a ts)
  pub adds : Adds (IsSubtype a) (parts_of_all ts) old new

-- a type that is its own only part, and takes others by its kind alone
abbrev pub is_alone : Expanded → Bool
is_alone everything = false
is_alone (sequence t) = false
is_alone (some_of ts) = false
is_alone (each_of ts) = false
is_alone (null_or t) = false
is_alone (token_or xs t) = false
is_alone t = true

-- a host type, and the numbers that it inherits from
abbrev pub HostInherits : Expanded → Expanded → Type 0
HostInherits (host x low high) e = e ≡ integer (Some low) (Some high)
HostInherits a e = ⊥
