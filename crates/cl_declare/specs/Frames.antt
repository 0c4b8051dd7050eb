-- The shape of a frame, but for the forms in it: its sizes and the places of its panes are any numbers.
use Rattle.std.specs.Prelude.{ℕ, ℤ, Bool, true, false, ◌&&◌, is_some, if◌then◌else◌, List, [], ◌∷◌, Option, Some, None}
use Rattle.cl_forms.specs.Datum.{Datum, number, literal, word, quoted, stray, list, parts_of, offset}
use Rattle.cl_forms.specs.Keys.{Keyed, values_of}
use Rattle.cl_forms.specs.Naming.{name_in, fits}
use Rattle.cl_forms.specs.declared.keys.Key.{Key}
use Rattle.cl_forms.specs.declared.keys.Key.TheVariants as key
use Rattle.cl_words.specs.Signatures.{display_in}
use Rattle.cl_words.specs.declared.signatures.Signatures.{Signatures}
use Rattle.cl_declare.specs.CommandTables.{table_or_global}
use Rattle.cl_declare.specs.TypeShapes.{name_behind}
use Rattle.cl_declare.specs.declared.frames.FrameShape.{FrameShape}
use Rattle.cl_declare.specs.declared.pane_forms.PaneForm.{PaneForm}
use Rattle.cl_declare.specs.declared.frames.Place.{Place}
use Rattle.cl_declare.specs.declared.frames.Size.{Size}

-- the keys that a frame may have
abbrev pub frame_keys : List Key
frame_keys = key.Size ∷ key.Slots ∷ key.Panes ∷ key.CommandTable ∷ []

-- the number that a datum is
abbrev pub number_in : Datum → Option ℤ
number_in (number z at) = Some z
number_in (literal s at) = None
number_in (word x at) = None
number_in (quoted x at name_at) = None
number_in (stray at) = None
number_in (list ds at) = None

-- the size of these sides, where both are there
abbrev pub size_of : Option ℤ → Option ℤ → Option Size
size_of (Some w) (Some h) = Some (record { width = w; height = h })
size_of (Some w) None = None
size_of None height = None

-- `WIDTH HEIGHT`
abbrev pub size_in : List Datum → Option Size
size_in (w ∷ h ∷ []) = size_of (number_in w) (number_in h)
size_in parts = None

-- `NAME TYPE E`
abbrev pub is_slot : List Datum → Bool
is_slot (n ∷ t ∷ e ∷ []) = is_some (name_in n)
is_slot parts = false

-- each of the data is a slot
abbrev pub are_slots : List Datum → Bool
are_slots [] = true
are_slots (d ∷ ds) = is_slot (parts_of d) && are_slots ds

-- the place at this column and row with these sides, where all of them are there
abbrev pub place_of : Option ℤ → Option ℤ → Option ℤ → Option ℤ → Option Place
place_of (Some x) (Some y) (Some a) (Some b) = Some (record { x = x; y = y; width = a; height = b })
place_of (Some x) (Some y) (Some a) None = None
place_of (Some x) (Some y) None b = None
place_of (Some x) None a b = None
place_of None y a b = None

-- `X Y WIDTH HEIGHT`
abbrev pub place_in : Datum → Datum → Datum → Datum → Option Place
place_in x y a b = place_of (number_in x) (number_in y) (number_in a) (number_in b)

-- a display that is declared takes no parameters
abbrev pub takes_none : Option (Option ℕ) → Bool
takes_none None = true
takes_none (Some count) = fits count 0

-- the pane of a name, a place and a display that takes no parameters
abbrev pub pane_of : Signatures → ℕ → Option (List ℕ) → Option Place → Option (List ℕ) → Option PaneForm
pane_of w at (Some n) (Some p) (Some d) =
    if takes_none (display_in w d)
    then Some (record { name = n; x = p.x; y = p.y; width = p.width; height = p.height; display = d; at = at })
    else None
pane_of w at (Some n) (Some p) None = None
pane_of w at (Some n) None display = None
pane_of w at None place display = None

-- `NAME X Y WIDTH HEIGHT DISPLAY`
abbrev pub pane_listed : Signatures → ℕ → List Datum → Option PaneForm
pane_listed w at (n ∷ x ∷ y ∷ a ∷ b ∷ d ∷ []) =
    pane_of w at (name_in n) (place_in x y a b) (name_in d)
pane_listed w at parts = None

-- a pane before others; None where one of them is malformed
abbrev pub pane_before : Option PaneForm → Option (List PaneForm) → Option (List PaneForm)
pane_before None more = None
pane_before (Some p) None = None
pane_before (Some p) (Some ps) = Some (p ∷ ps)

-- panes in the order of the text; None where one of them is malformed
abbrev pub all_panes : Signatures → List Datum → Option (List PaneForm)
all_panes w [] = Some []
all_panes w (d ∷ ds) = pane_before (pane_listed w (offset d) (parts_of d)) (all_panes w ds)

-- one pane or more
abbrev pub some_panes : Signatures → List Datum → Option (List PaneForm)
some_panes w [] = None
some_panes w (d ∷ ds) = all_panes w (d ∷ ds)

-- the shape of a frame by its parts; None where one of them is not there
abbrev pub shape_of : Option (List ℕ) → Option Size → Option (List PaneForm) → Option (Option (List ℕ)) → Option FrameShape
shape_of (Some x) (Some s) (Some ps) (Some table) = Some (record { name = x; size = s; panes = ps; table = table_or_global table })
shape_of (Some x) (Some s) (Some ps) None = None
shape_of (Some x) (Some s) None table = None
shape_of (Some x) None panes table = None
shape_of None size panes table = None

-- the data, or none where there are none
abbrev pub or_nothing : Option (List Datum) → List Datum
or_nothing None = []
or_nothing (Some ds) = ds

-- what stands behind a key; nothing where the frame has no such section
abbrev pub behind : Key → List Keyed → List Datum
behind k ks = or_nothing (values_of k ks)

-- the name, the size, the panes and the command table; None where the frame is wrong by itself
abbrev pub frame_shape : Signatures → Datum → List Keyed → Option FrameShape
frame_shape w n ks =
    if are_slots (behind key.Slots ks)
    then shape_of (name_in n) (size_in (behind key.Size ks)) (some_panes w (behind key.Panes ks)) (name_behind (values_of key.CommandTable ks))
    else None
