-- Panes by their places.
use Rattle.std.proofs.Common.{◌≡◌, ℕ, ◌<◌, List, Some, None, Option, length, get_or, map, refl, sym, ◌∙◌, slice_get}
use Rattle.std.specs.Prelude.{option_map}
use Rattle.std.proofs.lemmas.Option.{slice_get-map, slice_get_read}
use Rattle.cl_application.specs.Panes.{declared_by}
use Rattle.cl_application.specs.declared.declarations.PaneDecl.{PaneDecl}
use Rattle.cl_table.specs.Names.{declared_at, declared_in}

declared_of : (e : Option (List ℕ × PaneDecl)) → declared_in e ≡ option_map declared_by e
declared_of None = refl
declared_of (Some p) = refl

-- the pane in a place of a table is the one in this place of the panes
pub declared_pane : (table : List (List ℕ × PaneDecl)) (k : ℕ) (d : PaneDecl) → Some d ≡ declared_at k table → slice_get (map declared_by table) k ≡ Some d
declared_pane table k d e = slice_get-map declared_by table k ∙ (sym (declared_of (slice_get table k)) ∙ sym e)

-- what was read at a place
pub stands_at : {A : Type 0} (xs : List A) (k : ℕ) (x : A) → k < length xs → x ≡ get_or xs k x → slice_get xs k ≡ Some x
stands_at xs k x h e = slice_get_read xs (length xs) k x refl h e
