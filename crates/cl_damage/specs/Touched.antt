-- The places that have to be painted again when new records take the place of old ones, level by level: those of the bounds listed here.
use Rattle.std.specs.Prelude.{ℕ, suc, ◌-◌, ℤ, pos, Bool, true, false, ◌&&◌, int_le, if◌then◌else◌, List, [], ◌∷◌, ◌++◌, length, map, reverse, take, drop, Option, Some, None}
use Rattle.std.specs.List.{flat_map}
use Rattle.cl_value.specs.Data.{Data}
use Rattle.cl_region.specs.declared.rects.Rect.{Rect}
use Rattle.cl_region.specs.declared.rects.Shift.{Shift}
use Rattle.cl_syntax.specs.declared.sites.Site.{Site}
use Rattle.cl_damage.specs.Children.{Child, Children, child, has_name, inside_of, is_same_name, item, items_of, list_of, name_of, none, updated}

-- ---- equal children

-- a number is 0
abbrev pub is_zero : ℤ → Bool
is_zero z = int_le z (pos 0) && int_le (pos 0) z

-- it was not moved
abbrev pub is_still : Shift → Bool
is_still v = is_zero v.dx && is_zero v.dy

-- it was kept where it stood
abbrev pub stays : Option Shift → Bool
stays None = false
stays (Some v) = is_still v

module _ {A : Type 0} (same : A → A → Bool) where
  -- an old child and a new one are equal: the same item, or the same update, kept where it stood
  abbrev pub is_equal : Child A → Child A → Bool
  is_equal (item a) (item b) = same a b
  is_equal (item a) (updated name kept ks) = false
  is_equal (updated name kept ks) (item b) = false
  is_equal (updated old was ks) (updated new kept us) = is_same_name new old && stays kept

  -- how many are equal from the start on, one by one
  abbrev pub agreeing : (old new : List (Child A)) → ℕ
  agreeing [] ns = 0
  agreeing (o ∷ os) [] = 0
  agreeing (o ∷ os) (n ∷ ns) = if is_equal o n then suc (agreeing os ns) else 0

  -- how many are equal at the end, one by one from the last on
  abbrev pub ending : (old new : List (Child A)) → ℕ
  ending os ns = agreeing (reverse os) (reverse ns)

-- all but so many at the end
abbrev pub but_last : {A : Type 0} → ℕ → List A → List A
but_last n xs = take (length xs - n) xs

-- ---- pairs

-- an old child, with those before it and those after it
pub record Partner (A : Type 0) : Type 0 where
  pub before : List (Child A)
  pub it : Child A
  pub after : List (Child A)

module _ {A : Type 0} where
  -- one that was found after another child
  abbrev pub found_after : Child A → Option (Partner A) → Option (Partner A)
  found_after o None = None
  found_after o (Some p) = Some (record { before = o ∷ p.before; it = p.it; after = p.after })

  -- the first child, if it is the one
  abbrev pub found_here : Bool → Child A → List (Child A) → Option (Partner A)
  found_here false o os = None
  found_here true o os = Some (record { before = []; it = o; after = os })

  -- the first, or the second where there is no first
  abbrev pub or_else : Option (Partner A) → Option (Partner A) → Option (Partner A)
  or_else None other = other
  or_else (Some p) other = Some p

  -- the last update of this site and id. A level has no more than one.
  abbrev pub last_named : Site × Data → List (Child A) → Option (Partner A)
  last_named name [] = None
  last_named name (o ∷ os) = or_else (found_after o (last_named name os)) (found_here (has_name name o) o os)

  -- the old child with which one of this name is paired; an item is paired with none
  abbrev pub partner : Option (Site × Data) → List (Child A) → Option (Partner A)
  partner None os = None
  partner (Some name) os = last_named name os

-- ---- what children give

-- a new child, and what is inside it gives when it is compared with the inside of an old one
pub record Compared (A : Type 0) : Type 0 where
  pub child : Child A
  pub against : List (Child A) → List Rect

-- the child that was compared
abbrev pub child_of : {A : Type 0} → Compared A → Child A
child_of c = c.child

module _ {A : Type 0} (bounds : A → Rect) where
  -- the bounds of each of its items
  abbrev pub gives : Child A → List Rect
  gives k = map bounds (items_of k)

  -- the same, of children in a row
  abbrev pub all_give : List (Child A) → List Rect
  all_give ks = flat_map gives ks

  -- a new update that is paired with an old child: nothing where it is kept in place, the bounds of both where it is kept elsewhere, and what
  -- is inside, compared, where it is not kept
  abbrev pub pair_gives : Child A → Compared A → Child A → List Rect
  pair_gives o c (item a) = []
  pair_gives o c (updated name None ks) = c.against (inside_of o)
  pair_gives o c (updated name (Some v) ks) = if is_still v then [] else gives o ++ gives c.child

  -- a new child, and then the rest: one that is not paired gives its own bounds; one that is, those of the old ones before its partner too
  abbrev pub step : Option (Partner A) → Compared A → List (Child A) → (List (Child A) → List Rect) → List Rect
  step None c os rest = gives c.child ++ rest os
  step (Some p) c os rest = all_give p.before ++ (pair_gives p.it c c.child ++ rest p.after)

  -- of the new children in order, each with what is left of the old ones
  abbrev pub between : List (Compared A) → List (Child A) → List Rect
  between [] os = all_give os
  between (c ∷ cs) os = step (partner (name_of c.child) os) c os (between cs)

  module _ (same : A → A → Bool) where
    -- without the equal ones at the end
    abbrev pub without_end : List (Child A) → List (Compared A) → List Rect
    without_end os cs = between (but_last (ending same os (map child_of cs)) cs) (but_last (ending same os (map child_of cs)) os)

    -- without this many at the start, which are equal
    abbrev pub without_start : ℕ → List (Child A) → List (Compared A) → List Rect
    without_start n os cs = without_end (drop n os) (drop n cs)

    -- of a level
    abbrev pub level : List (Child A) → List (Compared A) → List Rect
    level os cs = without_start (agreeing same os (map child_of cs)) os cs

    -- a child, to be compared
    abbrev mutual
      pub compared : Child A → Compared A
      compared (item a) = record { child = item a; against = λ os. [] }
      compared (updated name kept ks) = record { child = updated name kept ks; against = λ os. level os (all_compared ks) }

      -- each child compared, in order
      pub all_compared : Children A → List (Compared A)
      all_compared none = []
      all_compared (child k ks) = compared k ∷ all_compared ks

    -- of the old children and the new ones of a pane
    abbrev pub touched : (old new : Children A) → List Rect
    touched old new = level (list_of old) (all_compared new)
