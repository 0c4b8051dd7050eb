-- The device of a frame, and its panes in it.
use Rattle.std.specs.Prelude.{◌≡◌, ℕ, ◌+◌, List, [], ◌∷◌, ℤ, pos, negsuc, Bool, true, ◌&&◌, nat_le, if◌then◌else◌, Option, Some, None, Result, Ok, Err}
use Rattle.cl_expressions.specs.Load.{Fault}
use Rattle.cl_forms.specs.Naming.{some_if}
use Rattle.cl_forms.specs.declared.refusals.FormRefusal.{FormRefusal}
use Rattle.cl_forms.specs.declared.refusals.FormRefusal.TheVariants.{Refused, Memory}
use Rattle.cl_table.specs.Names.{with_first}
use Rattle.cl_application.specs.Panes.{declared_by, lie_apart}
use Rattle.cl_application.specs.declared.declarations.FrameDecl.{FrameDecl}
use Rattle.cl_application.specs.declared.declarations.PaneDecl.{PaneDecl}
use Rattle.cl_declare.specs.declared.frames.FrameForm.{FrameForm}
use Rattle.cl_declare.specs.declared.pane_forms.PaneForm.{PaneForm}
use Rattle.cl_opening.specs.declared.placing.Span.{Span}

-- panes by their names
abbrev pub PaneTable : Type 0
PaneTable = List (List ℕ × PaneDecl)

-- a side of the device has at least one cell, and no more than the most
abbrev pub side : ℕ → ℤ → Option ℕ
side most (pos n) = some_if (nat_le 1 n && nat_le n most) n
side most (negsuc n) = None

-- a side of a pane has at least one cell, and lies within that of the device
abbrev pub span_of : ℕ → ℤ → ℤ → Option Span
span_of most (pos from) (pos count) = some_if (nat_le 1 count && nat_le (from + count) most) (record { from = from; count = count })
span_of most (pos from) (negsuc count) = None
span_of most (negsuc from) count = None

-- a pane with its columns and its rows, where both are there
abbrev pub pane_at : PaneForm → Option Span → Option Span → Option PaneDecl
pane_at p (Some across) (Some down) =
    Some (record { name = p.name; x = across.from; y = down.from; width = across.count; height = down.count; display = p.display; at = p.at })
pane_at p (Some across) None = None
pane_at p None down = None

-- the pane on a device of these sides; None where a side of it is below 1 or leaves the device
abbrev pub pane_on : (width height : ℕ) → PaneForm → Option PaneDecl
pane_on width height p = pane_at p (span_of width p.x p.width) (span_of height p.y p.height)

-- the pane lies apart from all that were placed
abbrev pub is_apart : PaneDecl → PaneTable → Bool
is_apart p [] = true
is_apart p (e ∷ placed) = lie_apart (declared_by e) p && is_apart p placed

-- a pane behind those that were placed, where it is apart from them; else 15 at this offset
abbrev pub place_apart : ℕ → Option PaneDecl → PaneTable → Result PaneTable Fault
place_apart at None placed = Err (15, at)
place_apart at (Some p) placed = if is_apart p placed then Ok (with_first (λ d. d.name) placed p) else Err (15, at)

-- a pane behind those that were placed, or 15 at the pane where it has no place or overlaps one of them
abbrev pub place_pane : (width height : ℕ) → PaneForm → PaneTable → Result PaneTable Fault
place_pane width height p placed = place_apart p.at (pane_on width height p) placed

-- what is made of it, unless it is a fault
abbrev pub unless_fault : {A B : Type 0} → Result A Fault → (A → Result B Fault) → Result B Fault
unless_fault (Ok x) f = f x
unless_fault (Err fault) f = Err fault

-- all panes in order of declaration, or the fault of the first that has one
abbrev pub place_panes : (width height : ℕ) → List PaneForm → PaneTable → Result PaneTable Fault
place_panes width height [] placed = Ok placed
place_panes width height (p ∷ ps) placed = unless_fault (place_pane width height p placed) (λ more. place_panes width height ps more)

-- the frame with its sides and its panes
abbrev pub frame_with : FrameForm → (width height : ℕ) → PaneTable → FrameDecl
frame_with f width height panes = record { name = f.name; width = width; height = height; slots = f.slots; panes = panes; table = f.table; at = f.at }

-- the frame with its panes on a device of these sides; 15 where a side is not there
abbrev pub place_on : FrameForm → Option ℕ → Option ℕ → Result FrameDecl Fault
place_on f (Some w) (Some h) = unless_fault (place_panes w h f.panes []) (λ panes. Ok (frame_with f w h panes))
place_on f (Some w) None = Err (15, f.at)
place_on f None h = Err (15, f.at)

-- the frame, or 15 at the frame whose device is too large or has a side below 1, or at the first pane that has a side below 1, leaves
-- the device or overlaps an earlier one
abbrev pub place_frame : FrameForm → Result FrameDecl Fault
place_frame f = place_on f (side 512 f.width) (side 256 f.height)

-- ---- what the program answers

-- the panes that are placed now; want of memory answers nothing
abbrev pub Places : {A : Type 0} → Result A FormRefusal → PaneTable → Result PaneTable Fault → Type 0
Places (Ok done) placed r = r ≡ Ok placed
Places (Err (Refused number at)) placed r = r ≡ Err (number, at)
Places (Err Memory) placed r = Unit {0}
