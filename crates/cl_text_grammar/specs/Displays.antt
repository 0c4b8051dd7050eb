-- The words of the drawing forms, and the displays that forms call.
use Rattle.std.specs.Prelude.{◌≡◌, ℕ, true, List, [], ◌∷◌, Option, Some, codes}
use Rattle.cl_syntax.specs.declared.figures.Figure.{Figure}
use Rattle.cl_syntax.specs.declared.figures.Figure.TheVariants.{Point, HorizontalLine, VerticalLine, Outline, Filled}
use Rattle.cl_forms.specs.Words.{is_name}
use Rattle.cl_words.specs.Signatures.{display_in}
use Rattle.cl_words.specs.declared.signatures.Signatures.{Signatures}

-- the drawing forms by their words, each with its number of parts: the place, the sizes and the character
abbrev pub figures : List (List ℕ × (Figure × ℕ))
figures =
    (codes "draw-point", (Point, 3))
    ∷ (codes "draw-hline", (HorizontalLine, 3))
    ∷ (codes "draw-vline", (VerticalLine, 3))
    ∷ (codes "draw-box", (Outline, 4))
    ∷ (codes "fill-box", (Filled, 5))
    ∷ []

-- the displays that are declared have names
abbrev pub CallsDisplays : Signatures → Type 0
CallsDisplays w = (x : List ℕ) (count : Option ℕ) → display_in w x ≡ Some count → is_name x ≡ true
