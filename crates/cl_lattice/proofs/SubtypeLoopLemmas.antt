-- How far a loop over the parts of an `or` or of an `and` has come.
use Rattle.std.proofs.Common.{◌+◌, ◌≤◌, Bool, true, false, List, length, arith}
use Rattle.std.specs.Prelude.{◌||◌, ◌&&◌}
use Rattle.cl_lattice.specs.Expanded.{Expanded, ExpandedTypes, none, part, weight, weight_all}
use Rattle.cl_lattice.specs.Subtypes.{IsSubtype}
use Rattle.cl_lattice.specs.SubtypeRows.{parts_of, parts_of_all, RowOf, KnownTells, Fills, FillsSome, FillsEach}
use Rattle.cl_lattice.proofs.SubtypeFillLemmas.{some_none, some_more, each_none, each_more}
use Rattle.cl_lattice.proofs.SubtypeRowLemmas.{known_next}

-- what is left is known and no heavier than all parts, and what fills it fills them all
pub record SomeLeft (a : Expanded) (ps rest : ExpandedTypes) (x y : List Bool) (so_far : Bool) (f : RowOf) (rs : List Bool) : Type 0 where
  pub tells : KnownTells a (parts_of_all rest) (length y) f rs
  pub lighter : weight_all rest ≤ weight_all ps
  pub whole : (z : List Bool) (s : Bool) → FillsSome a rest y z so_far s → FillsSome a ps x z false s

pub record EachLeft (a : Expanded) (ps rest : ExpandedTypes) (x y : List Bool) (so_far : Bool) (f : RowOf) (rs : List Bool) : Type 0 where
  pub tells : KnownTells a (parts_of_all rest) (length y) f rs
  pub lighter : weight_all rest ≤ weight_all ps
  pub whole : (z : List Bool) (s : Bool) → FillsEach a rest y z so_far s → FillsEach a ps x z true s

pub some_step : (a : Expanded) (ps : ExpandedTypes) (u : Expanded) (ms : ExpandedTypes) (x y z : List Bool) (so_far r : Bool) (f : RowOf) (rs : List Bool)
    → SomeLeft a ps (part u ms) x y so_far f rs → Fills a u y z r → SomeLeft a ps ms x z (so_far || r) f rs
some_step a ps u ms x y z so_far r f rs h k = record {
  tells = known_next a (IsSubtype a) (parts_of u) (parts_of_all ms) y z f rs h.tells k.adds;
  lighter = let l : weight u + 1 + weight_all ms ≤ weight_all ps = h.lighter in omega (arith, l);
  whole = λ v s e. h.whole v s (some_more a u ms y z v so_far r s k e);
}

pub some_end : (a : Expanded) (ps : ExpandedTypes) (x y : List Bool) (so_far : Bool) (f : RowOf) (rs : List Bool) → SomeLeft a ps none x y so_far f rs
    → FillsSome a ps x y false so_far
some_end a ps x y so_far f rs h = h.whole y so_far (some_none a y so_far)

pub each_step : (a : Expanded) (ps : ExpandedTypes) (u : Expanded) (ms : ExpandedTypes) (x y z : List Bool) (so_far r : Bool) (f : RowOf) (rs : List Bool)
    → EachLeft a ps (part u ms) x y so_far f rs → Fills a u y z r → EachLeft a ps ms x z (so_far && r) f rs
each_step a ps u ms x y z so_far r f rs h k = record {
  tells = known_next a (IsSubtype a) (parts_of u) (parts_of_all ms) y z f rs h.tells k.adds;
  lighter = let l : weight u + 1 + weight_all ms ≤ weight_all ps = h.lighter in omega (arith, l);
  whole = λ v s e. h.whole v s (each_more a u ms y z v so_far r s k e);
}

pub each_end : (a : Expanded) (ps : ExpandedTypes) (x y : List Bool) (so_far : Bool) (f : RowOf) (rs : List Bool) → EachLeft a ps none x y so_far f rs
    → FillsEach a ps x y true so_far
each_end a ps x y so_far f rs h = h.whole y so_far (each_none a y so_far)
