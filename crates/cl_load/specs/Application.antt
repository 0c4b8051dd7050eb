-- What a text is on the host types that are handed in: an application, or its first refusal.
use Rattle.std.specs.Prelude.{◌≡◌, ◌≤◌, ◌<◌, ◌⊎◌, ℕ, List, length, Option, Some, None, Result, Ok, Err}
use Rattle.cl_sexp.specs.declared.Token.{Token}
use Rattle.cl_sexp.specs.Tokens.{tokens_of}
use Rattle.cl_application.specs.declared.applications.App.{App}
use Rattle.cl_forms.specs.Datum.{Datum}
use Rattle.cl_forms.specs.Grouped.{grouped}
use Rattle.cl_forms.specs.Tree.{Tree, trees_of, spelled_all}
use Rattle.cl_forms.specs.Spelled.{lexemes}
use Rattle.cl_forms.specs.declared.grouping.Waiting.TheVariants.{Nothing}
use Rattle.cl_lattice.specs.World.{World}
use Rattle.cl_cover.specs.Updates.{uncovered_of}
use Rattle.cl_load.specs.Outcome.{Outcome}
use Rattle.cl_load.specs.Reason.{Reason, refused, uncovered}
use Rattle.cl_load.specs.Types.{Bounds, types_in}

-- the forms of a text: the text has tokens, and these spell the forms
pub record AreForms (bytes : List ℕ) (forms : List Tree) : Type 0 where
  pub short : length bytes ≤ 1048576
  pub tokens : List Token
  pub read : tokens_of bytes ≡ Ok tokens
  pub spelled : lexemes bytes tokens ≡ spelled_all (trees_of forms)

-- the text is too long
pub record IsTooLong (bytes : List ℕ) (number at : ℕ) : Type 0 where
  pub long : 1048576 < length bytes
  pub refused : (number ≡ 13) × (at ≡ 1048576)

-- the text has a fault where its tokens would be
pub record IsUnread (bytes : List ℕ) (number at : ℕ) : Type 0 where
  pub short : length bytes ≤ 1048576
  pub fault : tokens_of bytes ≡ Err (number, at)

-- the data that forms are
abbrev pub data_of : List Tree → List Datum
data_of forms = grouped Nothing (trees_of forms)

-- the data of the text come to this
pub record ComesTo (bounds : Bounds) (bytes : List ℕ) (o : Result App (ℕ × ℕ)) : Type 0 where
  pub forms : List Tree
  pub read : AreForms bytes forms
  pub comes : Outcome bounds (length bytes) (data_of forms) o

-- the text is too long, or has a fault where its tokens would be
abbrev pub IsUnreadable : List ℕ → (number at : ℕ) → Type 0
IsUnreadable bytes number at = IsTooLong bytes number at ⊎ IsUnread bytes number at

-- an application that a text declares, or the first of its refusals but 11
abbrev pub HasOutcome : Bounds → List ℕ → Result App (ℕ × ℕ) → Type 0
HasOutcome bounds bytes (Ok app) = ComesTo bounds bytes (Ok app)
HasOutcome bounds bytes (Err (number, at)) = IsUnreadable bytes number at ⊎ ComesTo bounds bytes (Err (number, at))

-- a text loads as an application whose updates are covered, or it has a first reason why it does not: an update that is not covered is looked
-- for last, where nothing else is wrong
abbrev pub LoadsAs : Bounds → List ℕ → Result App Reason → Type 0
LoadsAs bounds bytes (Ok app) = HasOutcome bounds bytes (Ok app) × (uncovered_of app ≡ None)
LoadsAs bounds bytes (Err (refused number at)) = HasOutcome bounds bytes (Err (number, at))
LoadsAs bounds bytes (Err (uncovered u)) = (app : App) × (HasOutcome bounds bytes (Ok app) × (uncovered_of app ≡ Some u))

-- a text loads as this application
abbrev pub IsApplication : Bounds → List ℕ → App → Type 0
IsApplication bounds bytes app = LoadsAs bounds bytes (Ok app)

-- the first reason why a text does not load
abbrev pub IsReason : Bounds → List ℕ → Reason → Type 0
IsReason bounds bytes reason = LoadsAs bounds bytes (Err reason)

-- the first refusal of a text, and its offset
abbrev pub IsRefusal : Bounds → List ℕ → (number at : ℕ) → Type 0
IsRefusal bounds bytes number at = IsReason bounds bytes (refused number at)

-- an application of some text with its types: it cannot be that on no host types a text declares it, and these are its types
abbrev pub IsOfText : App → World → Type 0
IsOfText app w = ((bounds : Bounds) (bytes : List ℕ) → IsApplication bounds bytes app → w ≡ types_in bounds app → ⊥) → ⊥
