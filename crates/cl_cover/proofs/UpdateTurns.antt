-- The forms and the displays that are left at a place.
use Rattle.std.proofs.Common.{◌≡◌, ◌+◌, ◌<◌, ◌∙◌, ℕ, zero, suc, List, [], ◌∷◌, drop, get_or, length, sym, ap, subst, arith}
use Rattle.std.specs.Prelude.{Option, Some, None}
use Rattle.cl_table.specs.Names.{declared_at}
use Rattle.cl_syntax.specs.ShapeTree.{ShapeTree, shape_trees_of}
use Rattle.cl_application.specs.declared.applications.App.{App}
use Rattle.cl_application.specs.declared.declarations.DisplayDecl.{DisplayDecl}
use Rattle.cl_cover.specs.Updates.{there_or, uncovered_among, updates_among, updates_in, updates_of}
use Rattle.cl_cover.specs.declared.updates.Uncovered.{Uncovered}
use Rattle.cl_cover.proofs.UpdateLemmas.{behind_others}

-- the first in forms
abbrev pub in_forms : App → List ShapeTree → Option Uncovered
in_forms app fs = uncovered_among app (updates_among (shape_trees_of fs))

-- the first in displays
abbrev pub in_displays : App → List (List ℕ × DisplayDecl) → Option Uncovered
in_displays app ds = uncovered_among app (updates_of ds)

form_next : (app : App) (fs : List ShapeTree) (i : ℕ) (f : ShapeTree) → i < length fs → f ≡ get_or fs i f
    → in_forms app (drop i fs) ≡ there_or (uncovered_among app (updates_in f)) (in_forms app (drop (suc i) fs))
form_next app [] i f l e = absurd (omega (arith, l))
form_next app (g ∷ fs) zero f l e =
    subst (λ (x : ShapeTree). in_forms app (g ∷ fs) ≡ there_or (uncovered_among app (updates_in x)) (in_forms app fs)) (sym e)
    (behind_others app (updates_in g) (updates_among (shape_trees_of fs)))
form_next app (g ∷ fs) (suc i) f l e = form_next app fs i f (omega (arith, l)) e

display_next : (app : App) (ds : List (List ℕ × DisplayDecl)) (i : ℕ) (d : DisplayDecl) → Some d ≡ declared_at i ds
    → in_displays app (drop i ds) ≡ there_or (in_forms app d.body) (in_displays app (drop (suc i) ds))
display_next app [] zero d h = cc
display_next app [] (suc i) d h = cc
display_next app (e ∷ ds) zero d h =
    let same : d ≡ e.1 = cc in
    subst (λ (x : DisplayDecl). in_displays app (e ∷ ds) ≡ there_or (in_forms app x.body) (in_displays app ds)) (sym same)
    (behind_others app (updates_among (shape_trees_of e.1.body)) (updates_of ds))
display_next app (e ∷ ds) (suc i) d h = display_next app ds i d h

-- one is found
told : (a b rest whole : Option Uncovered) (r : Option Uncovered) (u : Uncovered) → r ≡ a → r ≡ Some u → b ≡ there_or a rest → b ≡ whole → Some u ≡ whole
told a b rest whole r u found some next same =
    let first : a ≡ Some u = sym found ∙ some in
    sym (ap (λ (o : Option Uncovered). there_or o rest) first) ∙ sym next ∙ same

-- none is found
passed : (a b rest whole : Option Uncovered) (r : Option Uncovered) → r ≡ a → r ≡ None → b ≡ there_or a rest → b ≡ whole → rest ≡ whole
passed a b rest whole r found none next same =
    let first : a ≡ None = sym found ∙ none in
    sym (ap (λ (o : Option Uncovered). there_or o rest) first) ∙ sym next ∙ same

pub form_told : (app : App) (fs : List ShapeTree) (i : ℕ) (f : ShapeTree) (r : Option Uncovered) (u : Uncovered) → i < length fs → f ≡ get_or fs i f
    → r ≡ uncovered_among app (updates_in f) → r ≡ Some u → in_forms app (drop i fs) ≡ in_forms app fs → Some u ≡ in_forms app fs
form_told app fs i f r u l e found some same =
    told (uncovered_among app (updates_in f)) (in_forms app (drop i fs)) (in_forms app (drop (suc i) fs)) (in_forms app fs) r u found some
    (form_next app fs i f l e) same

pub form_passed : (app : App) (fs : List ShapeTree) (i : ℕ) (f : ShapeTree) (r : Option Uncovered) → i < length fs → f ≡ get_or fs i f
    → r ≡ uncovered_among app (updates_in f) → r ≡ None → in_forms app (drop i fs) ≡ in_forms app fs → in_forms app (drop (i + 1) fs) ≡ in_forms app fs
form_passed app fs i f r l e found none same =
    let next : i + 1 ≡ suc i = omega arith in
    rw next (passed (uncovered_among app (updates_in f)) (in_forms app (drop i fs)) (in_forms app (drop (suc i) fs)) (in_forms app fs) r found none
    (form_next app fs i f l e) same)

pub display_told : (app : App) (ds : List (List ℕ × DisplayDecl)) (i : ℕ) (d : DisplayDecl) (r : Option Uncovered) (u : Uncovered) → Some d ≡ declared_at i ds
    → r ≡ in_forms app d.body → r ≡ Some u → in_displays app (drop i ds) ≡ in_displays app ds → Some u ≡ in_displays app ds
display_told app ds i d r u h found some same =
    told (in_forms app d.body) (in_displays app (drop i ds)) (in_displays app (drop (suc i) ds)) (in_displays app ds) r u found some
    (display_next app ds i d h) same

pub display_passed : (app : App) (ds : List (List ℕ × DisplayDecl)) (i : ℕ) (d : DisplayDecl) (r : Option Uncovered) → Some d ≡ declared_at i ds
    → r ≡ in_forms app d.body → r ≡ None → in_displays app (drop i ds) ≡ in_displays app ds → in_displays app (drop (i + 1) ds) ≡ in_displays app ds
display_passed app ds i d r h found none same =
    let next : i + 1 ≡ suc i = omega arith in
    rw next (passed (in_forms app d.body) (in_displays app (drop i ds)) (in_displays app (drop (suc i) ds)) (in_displays app ds) r found none
    (display_next app ds i d h) same)
