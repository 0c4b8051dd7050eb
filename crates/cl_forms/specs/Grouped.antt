-- The data that the forms of a text are. A quote takes the form that follows it, whatever it is: a name behind one quote is
-- quoted, and anything else makes the quote a stray one.
use Rattle.std.specs.Prelude.{ℕ, if◌then◌else◌, List, [], ◌∷◌, ◌++◌}
use Rattle.cl_forms.specs.Tree.{Tree, Trees}
use Rattle.cl_forms.specs.Tree as tree
use Rattle.cl_forms.specs.Datum.{Datum, number, literal, word, quoted, stray, list, datums_of}
use Rattle.cl_forms.specs.Words.{is_constant, is_quote}
use Rattle.cl_forms.specs.declared.grouping.Waiting.{Waiting}
use Rattle.cl_forms.specs.declared.grouping.Waiting.TheVariants.{Nothing, One, More}

-- one more quote waits
abbrev pub one_more : Waiting → ℕ → Waiting
one_more Nothing at = One at
one_more (One first) at = More first
one_more (More first) at = More first

-- the quotes that wait behind a symbol
abbrev pub waits_after : Waiting → List ℕ → ℕ → Waiting
waits_after w s at = if is_quote s then one_more w at else Nothing

-- the quotes that wait behind a form
abbrev pub waits : Waiting → Tree → Waiting
waits w (tree.name s at) = waits_after w s at
waits w (tree.number z at) = Nothing
waits w (tree.literal s at) = Nothing
waits w (tree.form ts at) = Nothing

-- what stands behind the quotes that wait
abbrev pub behind : Waiting → Datum → Datum
behind Nothing d = d
behind (One first) d = stray first
behind (More first) d = stray first

-- a symbol, which a quote may take
abbrev pub symbol_behind : Waiting → List ℕ → ℕ → Datum
symbol_behind Nothing s at = word s at
symbol_behind (One first) s at = if is_constant s then stray first else quoted s first at
symbol_behind (More first) s at = stray first

-- the stray quote that is left at the end, where quotes wait
abbrev pub left_over : Waiting → List Datum
left_over Nothing = []
left_over (One first) = stray first ∷ []
left_over (More first) = stray first ∷ []

-- a quote is no datum yet
abbrev pub symbol_taken : Waiting → List ℕ → ℕ → List Datum
symbol_taken w s at = if is_quote s then [] else symbol_behind w s at ∷ []

abbrev mutual
  -- the datum that a form is behind the quotes that wait; none yet of a quote
  pub taken : Waiting → Tree → List Datum
  taken w (tree.number z at) = behind w (number z at) ∷ []
  taken w (tree.literal s at) = behind w (literal s at) ∷ []
  taken w (tree.name s at) = symbol_taken w s at
  taken w (tree.form ts at) = behind w (list (datums_of (grouped Nothing ts)) at) ∷ []

  -- the data that forms in a row are, behind the quotes that wait
  pub grouped : Waiting → Trees → List Datum
  grouped w tree.none = left_over w
  grouped w (tree.item t ts) = taken w t ++ grouped (waits w t) ts
