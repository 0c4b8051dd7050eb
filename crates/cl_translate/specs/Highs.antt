-- The high parts of the priorities of translators.
use Rattle.std.specs.Prelude.{ℕ, ◌/◌, Bool, ◌&&◌, ◌==◌, List, filter}
use Rattle.std.specs.List.{list_any}
use denote.Enum.Bare.{sameb}
use Rattle.cl_translators.specs.Order.{digits}
use Rattle.cl_translators.specs.contracts.declarations.GestureName.{the_type}
use Rattle.cl_translators.specs.declared.declarations.GestureName.{GestureName}
use Rattle.cl_translators.specs.declared.declarations.TranslatorPlace.{TranslatorPlace}

-- a translator has this gesture, and this high part of its priority
abbrev pub has_high : GestureName → (high : ℕ) → TranslatorPlace → Bool
has_high g high t = sameb the_type t.gesture g && ((t.priority / 10) == high)

-- the high parts that translators of this gesture have, the greatest first
abbrev pub highs_of : GestureName → List TranslatorPlace → List ℕ
highs_of g ts = filter (λ high. list_any (has_high g high) ts) digits
