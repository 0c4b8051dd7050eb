-- The keys that forms have, with what stands behind each.
use Rattle.std.specs.Prelude.{ℕ, Bool, false, is_some, if◌then◌else◌, List, [], ◌∷◌, ◌++◌, Option, Some, None, option_and_then, codes}
use Rattle.std.specs.List.{list_any}
use Rattle.std.specs.Str.{bytes_eq}
use denote.Enum.Bare.{sameb}
use Rattle.cl_forms.specs.Datum.{Datum, offset, parts_of}
use Rattle.cl_forms.specs.Naming.{symbol_of}
use Rattle.cl_forms.specs.declared.keys.Key.{Key}
use Rattle.cl_forms.specs.declared.keys.Key.TheVariants.{Size, Slots, Panes, CommandTable, Name, Keystroke, InheritFrom, Satisfies, Description, Separator}
use Rattle.cl_forms.specs.declared.keys.Key.TheVariants.{SingleBox, Default, Prompt, Gesture, Priority, Documentation, Tester, UniqueId, CacheValue}
use Rattle.cl_forms.specs.declared.keys.Key.TheVariants.{Command, Pane, When, Else}
use Rattle.cl_forms.specs.contracts.keys.Key.{the_type}

-- a key with its offset and what stands behind it
pub record Keyed : Type 0 where
  pub key : Key
  pub at : ℕ
  pub values : List Datum

-- the keys that begin the sections of a frame
abbrev pub section_key : List ℕ → Option Key
section_key word =
    if bytes_eq word (codes ":size") then Some Size
    else (if bytes_eq word (codes ":slots") then Some Slots
    else (if bytes_eq word (codes ":panes") then Some Panes
    else (if bytes_eq word (codes ":command-table") then Some CommandTable else None)))

-- the keys with one value
abbrev pub value_key : List ℕ → Option Key
value_key word =
    if bytes_eq word (codes ":name") then Some Name
    else (if bytes_eq word (codes ":keystroke") then Some Keystroke
    else (if bytes_eq word (codes ":inherit-from") then Some InheritFrom
    else (if bytes_eq word (codes ":satisfies") then Some Satisfies
    else (if bytes_eq word (codes ":description") then Some Description
    else (if bytes_eq word (codes ":separator") then Some Separator
    else (if bytes_eq word (codes ":single-box") then Some SingleBox
    else (if bytes_eq word (codes ":default") then Some Default
    else (if bytes_eq word (codes ":prompt") then Some Prompt else None))))))))

-- the keys of translators alone
abbrev pub translator_key : List ℕ → Option Key
translator_key word =
    if bytes_eq word (codes ":gesture") then Some Gesture
    else (if bytes_eq word (codes ":priority") then Some Priority
    else (if bytes_eq word (codes ":documentation") then Some Documentation
    else (if bytes_eq word (codes ":tester") then Some Tester else None)))

-- the keys of updates alone
abbrev pub update_key : List ℕ → Option Key
update_key word =
    if bytes_eq word (codes ":unique-id") then Some UniqueId
    else (if bytes_eq word (codes ":cache-value") then Some CacheValue else None)

-- the keys of dialogs and of their queries alone
abbrev pub dialog_key : List ℕ → Option Key
dialog_key word =
    if bytes_eq word (codes ":command") then Some Command
    else (if bytes_eq word (codes ":pane") then Some Pane
    else (if bytes_eq word (codes ":when") then Some When
    else (if bytes_eq word (codes ":else") then Some Else else None)))

-- the first key, else the other
abbrev pub key_or : Option Key → Option Key → Option Key
key_or (Some key) other = Some key
key_or None other = other

-- the key that a word is, if it is one
abbrev pub key_named : List ℕ → Option Key
key_named word = key_or (section_key word) (key_or (value_key word) (key_or (translator_key word) (key_or (update_key word) (dialog_key word))))

-- two keys are one
abbrev pub same_key : Key → Key → Bool
same_key a b = sameb the_type a b

-- a key is one of the keys
abbrev pub is_among : List Key → Key → Bool
is_among keys key = list_any (same_key key) keys

-- a key, if it is one that the form may have
abbrev pub allowed : List Key → Option Key → Option Key
allowed may_have None = None
allowed may_have (Some key) = if is_among may_have key then Some key else None

-- the key that a datum is, if the form may have it
abbrev pub key_in : List Key → Datum → Option Key
key_in may_have d = allowed may_have (key_named (symbol_of d))

-- what stands behind this key
abbrev pub values_of : Key → List Keyed → Option (List Datum)
values_of key [] = None
values_of key (k ∷ ks) = if same_key key k.key then Some k.values else values_of key ks

-- whether this key is among those of a form
abbrev pub has_key : Key → List Keyed → Bool
has_key key ks = is_some (values_of key ks)

-- a key with its offset and what stands behind it, where there is a key
abbrev pub keyed_as : Option Key → ℕ → List Datum → Option Keyed
keyed_as None at ds = None
keyed_as (Some key) at ds = Some (record { key = key; at = at; values = ds })

-- ---- one section

-- the key that was found is this one
abbrev pub is_key : Key → Option Key → Bool
is_key key None = false
is_key key (Some found) = same_key key found

-- what stands behind this key, where it stands first
abbrev pub values_behind : Key → List Datum → List Datum
values_behind key [] = []
values_behind key (d ∷ ds) = if is_key key (key_named (symbol_of d)) then ds else []

-- what stands behind this key in a section; nothing where another begins it
abbrev pub section_values : Key → Datum → List Datum
section_values key d = values_behind key (parts_of d)

-- ---- the keys of a form, in the order of the text; None where a part is no key that the form may have, or a key stands twice

-- one more key behind those that stand so far
abbrev pub with_keyed : Option Keyed → List Keyed → Option (List Keyed)
with_keyed None so_far = None
with_keyed (Some k) so_far = if has_key k.key so_far then None else Some (so_far ++ k ∷ [])

-- the key that stands first, with all that stands behind it
abbrev pub section_of : List Key → List Datum → Option Keyed
section_of may_have [] = None
section_of may_have (d ∷ ds) = keyed_as (key_in may_have d) (offset d) ds

-- `(KEY VALUE ...)`
abbrev pub section_in : List Key → Datum → Option Keyed
section_in may_have d = section_of may_have (parts_of d)

-- the keys of sections, behind those that stand so far
abbrev pub keyed_sections : List Key → List Keyed → List Datum → Option (List Keyed)
keyed_sections may_have so_far [] = Some so_far
keyed_sections may_have so_far (d ∷ ds) = option_and_then (λ more. keyed_sections may_have more ds) (with_keyed (section_in may_have d) so_far)

-- `KEY VALUE`
abbrev pub pair_in : List Key → Datum → Datum → Option Keyed
pair_in may_have k v = keyed_as (key_in may_have k) (offset k) (v ∷ [])

-- the keys of pairs, behind those that stand so far
abbrev pub keyed_pairs : List Key → List Keyed → List Datum → Option (List Keyed)
keyed_pairs may_have so_far [] = Some so_far
keyed_pairs may_have so_far (k ∷ []) = None
keyed_pairs may_have so_far (k ∷ v ∷ ds) = option_and_then (λ more. keyed_pairs may_have more ds) (with_keyed (pair_in may_have k v) so_far)
