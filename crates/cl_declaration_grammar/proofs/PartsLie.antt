-- What is looked at of a text lies in it, part behind part.
use Rattle.std.proofs.Common.{ℕ, ◌≤◌, Bool, true, false, if◌then◌else◌, List, [], ◌∷◌, ◌++◌, arith}
use Rattle.cl_forms.specs.Datum.{Datum, offset}
use Rattle.cl_grammar.proofs.Bounds.{Within}
use Rattle.cl_grammar.proofs.Lying.{LieSeen, LieList, own_lies, seen_rises, seen_earlier}
use Rattle.cl_text_grammar.proofs.TypePartsLie.{LieType, type_rises, type_earlier}
use Rattle.cl_text_grammar.proofs.FormsLie.{LieForms, forms_rise, forms_earlier}
use Rattle.cl_declaration_grammar.specs.Parts.{Part, refused, specifier, method_name, function_name, display_name, table_name, command_name, pane_name, expressions, shapes, acts}

-- the part stands from one place up to another
abbrev pub LiePart : ℕ → Part → ℕ → Type 0
LiePart from (refused n at) to = Within from at to
LiePart from (specifier ts) to = LieType from ts to
LiePart from (method_name x at) to = Within from at to
LiePart from (function_name x at) to = Within from at to
LiePart from (display_name x at) to = Within from at to
LiePart from (table_name x at) to = Within from at to
LiePart from (command_name x at) to = Within from at to
LiePart from (pane_name x at) to = Within from at to
LiePart from (expressions qs) to = LieSeen from qs to
LiePart from (shapes fs) to = LieForms from fs to
LiePart from (acts fs) to = LieForms from fs to

-- the parts stand one behind another
abbrev pub LieParts : ℕ → List Part → ℕ → Type 0
LieParts from [] to = from ≤ to
LieParts from (p ∷ ps) to = (next : ℕ) × LiePart from p next × LieParts next ps to

pub part_rises : (p : Part) (from to : ℕ) → LiePart from p to → from ≤ to
part_rises (refused n at) from to h = omega (arith, h.0, h.1)
part_rises (specifier ts) from to h = type_rises ts from to h
part_rises (method_name x at) from to h = omega (arith, h.0, h.1)
part_rises (function_name x at) from to h = omega (arith, h.0, h.1)
part_rises (display_name x at) from to h = omega (arith, h.0, h.1)
part_rises (table_name x at) from to h = omega (arith, h.0, h.1)
part_rises (command_name x at) from to h = omega (arith, h.0, h.1)
part_rises (pane_name x at) from to h = omega (arith, h.0, h.1)
part_rises (expressions qs) from to h = seen_rises qs from to h
part_rises (shapes fs) from to h = forms_rise fs from to h
part_rises (acts fs) from to h = forms_rise fs from to h

pub parts_rise : (ps : List Part) (from to : ℕ) → LieParts from ps to → from ≤ to
parts_rise [] from to h = h
parts_rise (p ∷ ps) from to h = omega (arith, part_rises p from h.0 h.1, parts_rise ps h.0 to h.2)

part_earlier : (p : Part) (before from to : ℕ) → before ≤ from → LiePart from p to → LiePart before p to
part_earlier (refused n at) before from to e h = (omega (arith, e, h.0), h.1)
part_earlier (specifier ts) before from to e h = type_earlier ts before from to e h
part_earlier (method_name x at) before from to e h = (omega (arith, e, h.0), h.1)
part_earlier (function_name x at) before from to e h = (omega (arith, e, h.0), h.1)
part_earlier (display_name x at) before from to e h = (omega (arith, e, h.0), h.1)
part_earlier (table_name x at) before from to e h = (omega (arith, e, h.0), h.1)
part_earlier (command_name x at) before from to e h = (omega (arith, e, h.0), h.1)
part_earlier (pane_name x at) before from to e h = (omega (arith, e, h.0), h.1)
part_earlier (expressions qs) before from to e h = seen_earlier qs before from to e h
part_earlier (shapes fs) before from to e h = forms_earlier fs before from to e h
part_earlier (acts fs) before from to e h = forms_earlier fs before from to e h

pub parts_earlier : (ps : List Part) (before from to : ℕ) → before ≤ from → LieParts from ps to → LieParts before ps to
parts_earlier [] before from to e h = omega (arith, e, h)
parts_earlier (p ∷ ps) before from to e h = (h.0, part_earlier p before from h.0 e h.1, h.2)

pub parts_later : (ps : List Part) (from to behind : ℕ) → to ≤ behind → LieParts from ps to → LieParts from ps behind
parts_later [] from to behind e h = omega (arith, e, h)
parts_later (p ∷ ps) from to behind e h = (h.0, h.1, parts_later ps h.0 to behind e h.2)

pub parts_joined : (ps qs : List Part) (from middle to : ℕ) → LieParts from ps middle → LieParts middle qs to → LieParts from (ps ++ qs) to
parts_joined [] qs from middle to h k = parts_earlier qs from middle to h k
parts_joined (p ∷ ps) qs from middle to h k = (h.0, h.1, parts_joined ps qs h.0 middle to h.2 k)

abbrev pub LieApart : ℕ → List Part → List Part → ℕ → Type 0
LieApart from ps qs to = (middle : ℕ) × LieParts from ps middle × LieParts middle qs to

pub parts_split : (ps qs : List Part) (from to : ℕ) → LieParts from (ps ++ qs) to → LieApart from ps qs to
parts_split [] qs from to h = (from, omega arith, h)
parts_split (p ∷ ps) qs from to h =
    let rest : LieApart h.0 ps qs to = parts_split ps qs h.0 to h.2 in (rest.0, (h.0, h.1, rest.1), rest.2)

-- one part alone
pub one_lies : (p : Part) (from to : ℕ) → LiePart from p to → LieParts from (p ∷ []) to
one_lies p from to h = (to, h, omega arith)

pub when_lies : (b : Bool) (ps qs : List Part) (from to : ℕ) → LieParts from ps to → LieParts from qs to → LieParts from (if b then ps else qs) to
when_lies true ps qs from to h k = h
when_lies false ps qs from to h k = k

pub list_rises : (ds : List Datum) (from to : ℕ) → LieList from ds to → from ≤ to
list_rises [] from to h = h
list_rises (d ∷ ds) from to h =
    let own : Within from (offset d) h.0 = own_lies d from h.0 h.1 in omega (arith, own.0, own.1, list_rises ds h.0 to h.2)
