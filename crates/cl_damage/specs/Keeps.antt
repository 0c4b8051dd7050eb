-- What was kept of updates, level by level.
use Rattle.std.specs.Prelude.{◌≡◌, ℕ, ◌+◌, Option, refl}
use Rattle.std.proofs.Common.{ap}
use Rattle.std.proofs.lemmas.Bool.{eqb-false}
use Rattle.std.specs.Coded.{Coded, coded_option}
use base.Stored.{Gv, gnil, gcons}
use Rattle.cl_value.specs.Data.{code_head, code_tail, has_parts}
use Rattle.cl_region.specs.declared.rects.Shift.{Shift}
use Rattle.cl_record.specs.Trees.{shift_code}

-- of the updates of a level in the order in which they were opened: how far one was moved that was kept, what holds of those inside where it was
-- not, and the rest of the level
pub data Keeps : Type 0 where
  none : Keeps
  opened : Option Shift → (inside rest : Keeps) → Keeps

-- one update more at the end: how far it was moved if it was kept, and what holds of those inside
abbrev pub with_last : Keeps → Option Shift → Keeps → Keeps
with_last none v inside = opened v inside none
with_last (opened w within rest) v inside = opened w within (with_last rest v inside)

-- ---- measure

-- three for each update
abbrev pub size_of : Keeps → ℕ
size_of none = 0
size_of (opened v inside rest) = 3 + size_of inside + size_of rest

-- ---- how the logic stores them

-- how the logic stores a move, if there is one
abbrev moved_code : Coded (Option Shift)
moved_code = coded_option shift_code

-- the term of what was kept
abbrev code : Keeps → Gv
code none = gnil
code (opened v inside rest) = gcons (moved_code.code v) (gcons (code inside) (code rest))

-- what was kept is one thing where its terms are one
pub code-inj : (x y : Keeps) → code x ≡ code y → x ≡ y
code-inj none none e = refl
code-inj (opened v inside rest) (opened w within more) e =
    let moves : v ≡ w = moved_code.inj v w (ap code_head e) in
    let insides : inside ≡ within = code-inj inside within (ap (λ g. code_head (code_tail g)) e) in
    let rests : rest ≡ more = code-inj rest more (ap (λ g. code_tail (code_tail g)) e) in
    λ i. opened (moves i) (insides i) (rests i)
code-inj none (opened w within more) e = absurd (eqb-false 0 1 refl (ap has_parts e))
code-inj (opened v inside rest) none e = absurd (eqb-false 1 0 refl (ap has_parts e))

-- how the logic stores what was kept
abbrev pub keeps_code : Coded Keeps
keeps_code = record { code = code; inj = code-inj }
