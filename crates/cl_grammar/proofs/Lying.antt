-- What a form sees lies in it in order.
use Rattle.std.proofs.Common.{ℕ, ◌+◌, ◌≤◌, ◌<◌, Bool, true, false, if◌then◌else◌, List, [], ◌∷◌, ◌++◌, length, arith}
use Rattle.std.specs.Prelude.{Option, Some, None}
use Rattle.std.specs.Option.{IfSome}
use Rattle.cl_table.specs.Names.{named}
use Rattle.cl_forms.specs.Datum.{Datum, Datums, number, literal, word, quoted, stray, list, none, item, in_order, parts_of, offset}
use Rattle.cl_forms.specs.Naming.{name_in, fits}
use Rattle.cl_words.specs.Signatures.{function_in, record_in}
use Rattle.cl_words.specs.declared.signatures.Signatures.{Signatures}
use Rattle.cl_expressions.specs.Scopes.{Names, among}
use Rattle.cl_expressions.specs.Expressions.{is_binding_list}
use Rattle.cl_grammar.specs.Heads.{Counted, operators, fixed_heads}
use Rattle.cl_grammar.specs.Lies.{Lies, LieAll}
use Rattle.cl_grammar.specs.Sights.{Seen, expression, slot_name, record_name, refused, Sight, Misshapen, UnknownHead, Sees, all_seen, counted_seen}
use Rattle.cl_grammar.specs.Sights.{slot_seen, if_seen, names_behind, value_seen, values_seen, let_seen, fields_seen, make_seen, get_seen, with_seen}
use Rattle.cl_grammar.specs.Sights.{map_seen, filter_seen, fold_seen, call_seen, rows, operator_seen, row_seen, form_seen}
use Rattle.cl_grammar.proofs.Spelled.{row_found}

-- data lie one behind another, as those of a list do
abbrev pub LieList : ℕ → List Datum → ℕ → Type 0
LieList from [] to = from ≤ to
LieList from (d ∷ ds) to = (next : ℕ) × Lies from d next × LieList next ds to

-- what is seen lies one behind another
abbrev pub LieSeen : ℕ → List Seen → ℕ → Type 0
LieSeen from [] to = from ≤ to
LieSeen from (expression env d ∷ ps) to = (next : ℕ) × Lies from d next × LieSeen next ps to
LieSeen from (slot_name x at ∷ ps) to = (from ≤ at) × LieSeen (at + 1) ps to
LieSeen from (record_name x at ∷ ps) to = (from ≤ at) × LieSeen (at + 1) ps to
LieSeen from (refused n at ∷ ps) to = (from ≤ at) × LieSeen (at + 1) ps to

abbrev pub LieSight : ℕ → Sight → ℕ → Type 0
LieSight from Misshapen to = Unit {0}
LieSight from (UnknownHead head_at) to = (from ≤ head_at) × (head_at < to)
LieSight from (Sees ps) to = LieSeen from ps to

pub list_lies : (ds : Datums) (from to : ℕ) → LieAll from ds to → LieList from (in_order ds) to
list_lies none from to h = h
list_lies (item d ds) from to h = (h.0, h.1, list_lies ds h.0 to h.2)

-- ---- a datum

pub own_lies : (d : Datum) (from to : ℕ) → Lies from d to → (from ≤ offset d) × (offset d < to)
own_lies (number z at) from to h = h
own_lies (literal s at) from to h = h
own_lies (word s at) from to h = h
own_lies (quoted s at name_at) from to h = (h.0, omega (arith, h.1, h.2))
own_lies (stray at) from to h = h
own_lies (list ds at) from to h = (h.0, h.1)

pub datum_rises : (d : Datum) (from to : ℕ) → Lies from d to → from ≤ to
datum_rises d from to h = let own : (from ≤ offset d) × (offset d < to) = own_lies d from to h in omega (arith, own.0, own.1)

pub datum_earlier : (d : Datum) (before from to : ℕ) → before ≤ from → Lies from d to → Lies before d to
datum_earlier (number z at) before from to e h = (omega (arith, e, h.0), h.1)
datum_earlier (literal s at) before from to e h = (omega (arith, e, h.0), h.1)
datum_earlier (word s at) before from to e h = (omega (arith, e, h.0), h.1)
datum_earlier (quoted s at name_at) before from to e h = (omega (arith, e, h.0), h.1, h.2)
datum_earlier (stray at) before from to e h = (omega (arith, e, h.0), h.1)
datum_earlier (list ds at) before from to e h = (omega (arith, e, h.0), h.1, h.2)

-- ---- what is seen

pub seen_rises : (ps : List Seen) (from to : ℕ) → LieSeen from ps to → from ≤ to
seen_rises [] from to h = h
seen_rises (expression env d ∷ ps) from to h = omega (arith, datum_rises d from h.0 h.1, seen_rises ps h.0 to h.2)
seen_rises (slot_name x at ∷ ps) from to h = omega (arith, h.0, seen_rises ps (at + 1) to h.1)
seen_rises (record_name x at ∷ ps) from to h = omega (arith, h.0, seen_rises ps (at + 1) to h.1)
seen_rises (refused n at ∷ ps) from to h = omega (arith, h.0, seen_rises ps (at + 1) to h.1)

pub seen_earlier : (ps : List Seen) (before from to : ℕ) → before ≤ from → LieSeen from ps to → LieSeen before ps to
seen_earlier [] before from to e h = omega (arith, e, h)
seen_earlier (expression env d ∷ ps) before from to e h = (h.0, datum_earlier d before from h.0 e h.1, h.2)
seen_earlier (slot_name x at ∷ ps) before from to e h = (omega (arith, e, h.0), h.1)
seen_earlier (record_name x at ∷ ps) before from to e h = (omega (arith, e, h.0), h.1)
seen_earlier (refused n at ∷ ps) before from to e h = (omega (arith, e, h.0), h.1)

pub seen_later : (ps : List Seen) (from to behind : ℕ) → to ≤ behind → LieSeen from ps to → LieSeen from ps behind
seen_later [] from to behind e h = omega (arith, e, h)
seen_later (expression env d ∷ ps) from to behind e h = (h.0, h.1, seen_later ps h.0 to behind e h.2)
seen_later (slot_name x at ∷ ps) from to behind e h = (h.0, seen_later ps (at + 1) to behind e h.1)
seen_later (record_name x at ∷ ps) from to behind e h = (h.0, seen_later ps (at + 1) to behind e h.1)
seen_later (refused n at ∷ ps) from to behind e h = (h.0, seen_later ps (at + 1) to behind e h.1)

pub seen_joined : (ps qs : List Seen) (from middle to : ℕ) → LieSeen from ps middle → LieSeen middle qs to → LieSeen from (ps ++ qs) to
seen_joined [] qs from middle to h k = seen_earlier qs from middle to h k
seen_joined (expression env d ∷ ps) qs from middle to h k = (h.0, h.1, seen_joined ps qs h.0 middle to h.2 k)
seen_joined (slot_name x at ∷ ps) qs from middle to h k = (h.0, seen_joined ps qs (at + 1) middle to h.1 k)
seen_joined (record_name x at ∷ ps) qs from middle to h k = (h.0, seen_joined ps qs (at + 1) middle to h.1 k)
seen_joined (refused n at ∷ ps) qs from middle to h k = (h.0, seen_joined ps qs (at + 1) middle to h.1 k)

abbrev pub LieApart : ℕ → List Seen → List Seen → ℕ → Type 0
LieApart from ps qs to = (middle : ℕ) × LieSeen from ps middle × LieSeen middle qs to

pub seen_split : (ps qs : List Seen) (from to : ℕ) → LieSeen from (ps ++ qs) to → LieApart from ps qs to
seen_split [] qs from to h = (from, omega arith, h)
seen_split (expression env d ∷ ps) qs from to h =
    let rest : LieApart h.0 ps qs to = seen_split ps qs h.0 to h.2 in (rest.0, (h.0, h.1, rest.1), rest.2)
seen_split (slot_name x at ∷ ps) qs from to h =
    let rest : LieApart (at + 1) ps qs to = seen_split ps qs (at + 1) to h.1 in (rest.0, (h.0, rest.1), rest.2)
seen_split (record_name x at ∷ ps) qs from to h =
    let rest : LieApart (at + 1) ps qs to = seen_split ps qs (at + 1) to h.1 in (rest.0, (h.0, rest.1), rest.2)
seen_split (refused n at ∷ ps) qs from to h =
    let rest : LieApart (at + 1) ps qs to = seen_split ps qs (at + 1) to h.1 in (rest.0, (h.0, rest.1), rest.2)

-- a name is passed over
passed : (n d : Datum) (from next to : ℕ) → Lies from n next → Lies next d to → Lies from d to
passed n d from next to h k = datum_earlier d from next to (datum_rises n from next h) k

-- ---- rows

-- what the row sees lies in the form
abbrev LieRow : (Names → List Datum → Sight) → Type 0
LieRow row = (env : Names) (ds : List Datum) (from to : ℕ) → LieList from ds to → LieSight from (row env ds) to

pub all_lie : (env : Names) (ds : List Datum) (from to : ℕ) → LieList from ds to → LieSeen from (all_seen env ds) to
all_lie env [] from to h = h
all_lie env (d ∷ ds) from to h = (h.0, h.1, all_lie env ds h.0 to h.2)

when_lies : (b : Bool) (ps : List Seen) (from to : ℕ) → LieSeen from ps to → LieSight from (if b then Sees ps else Misshapen) to
when_lies true ps from to h = h
when_lies false ps from to h = tt

counted_lies : (count : Option ℕ) → LieRow (counted_seen count)
counted_lies count env ds from to h = when_lies (fits count (length ds)) (all_seen env ds) from to (all_lie env ds from to h)

named_lies : (name : Option (List ℕ)) (seen : List ℕ → Sight) (from to : ℕ) → ((x : List ℕ) → LieSight from (seen x) to)
    → LieSight from (elim name [ None ↦ Misshapen | Some x ↦ seen x ]) to
named_lies None seen from to h = tt
named_lies (Some x) seen from to h = h x

slot_lies : LieRow slot_seen
slot_lies env (n ∷ []) from to h =
    let own : (from ≤ offset n) × (offset n < h.0) = own_lies n from h.0 h.1 in
    named_lies (name_in n) _ from to (λ x. (own.0, omega (arith, own.1, h.2)))
slot_lies env ds from to h = tt

if_lies : LieRow if_seen
if_lies env (a ∷ b ∷ c ∷ []) from to h = h
if_lies env ds from to h = tt

pub value_lies : (env : Names) (d : Datum) (from to : ℕ) → Lies from d to → LieSeen from (value_seen env (parts_of d)) to
value_lies env (list (item n (item e none)) at) from to h =
    let value : Lies (at + 1) e h.2.2.0 = passed n e (at + 1) h.2.0 h.2.2.0 h.2.1 h.2.2.1 in
    (h.2.2.0, datum_earlier e from (at + 1) h.2.2.0 (omega (arith, h.0)) value, h.2.2.2)
value_lies env (list none at) from to h = omega (arith, h.0, h.1)
value_lies env (list (item n none) at) from to h = omega (arith, h.0, h.1)
value_lies env (list (item n (item e (item d ds))) at) from to h = omega (arith, h.0, h.1)
value_lies env (number z at) from to h = omega (arith, h.0, h.1)
value_lies env (literal s at) from to h = omega (arith, h.0, h.1)
value_lies env (word s at) from to h = omega (arith, h.0, h.1)
value_lies env (quoted s at name_at) from to h = omega (arith, h.0, h.1, h.2)
value_lies env (stray at) from to h = omega (arith, h.0, h.1)

values_lie : (env : Names) (ds : List Datum) (from to : ℕ) → LieList from ds to → LieSeen from (values_seen env ds) to
values_lie env [] from to h = h
values_lie env (d ∷ ds) from to h =
    seen_joined (value_seen env (parts_of d)) (values_seen (names_behind env (parts_of d)) ds) from h.0 to (value_lies env d from h.0 h.1)
    (values_lie (names_behind env (parts_of d)) ds h.0 to h.2)

pub bound_lies : (env : Names) (d : Datum) (from to : ℕ) → Lies from d to → LieSeen from (values_seen env (parts_of d)) to
bound_lies env (list ds at) from to h =
    seen_earlier (values_seen env (in_order ds)) from (at + 1) to (omega (arith, h.0)) (values_lie env (in_order ds) (at + 1) to (list_lies ds (at + 1) to h.2))
bound_lies env (number z at) from to h = omega (arith, h.0, h.1)
bound_lies env (literal s at) from to h = omega (arith, h.0, h.1)
bound_lies env (word s at) from to h = omega (arith, h.0, h.1)
bound_lies env (quoted s at name_at) from to h = omega (arith, h.0, h.1, h.2)
bound_lies env (stray at) from to h = omega (arith, h.0, h.1)

let_lies : LieRow let_seen
let_lies env (bs ∷ b ∷ []) from to h =
    when_lies (is_binding_list bs) _ from to (seen_joined (values_seen env (parts_of bs)) _ from h.0 to (bound_lies env bs from h.0 h.1) h.2)
let_lies env ds from to h = tt

fields_lie : (c : Option (Option ℕ)) (x : List ℕ) (n : Datum) (env : Names) (ds : List Datum) (from next to : ℕ) → Lies from n next → LieList next ds to
    → LieSight from (fields_seen c x (offset n) env ds) to
fields_lie None x n env ds from next to h k =
    let own : (from ≤ offset n) × (offset n < next) = own_lies n from next h in
    (own.0, seen_earlier (all_seen env ds) (offset n + 1) next to (omega (arith, own.1)) (all_lie env ds next to k))
fields_lie (Some count) x n env ds from next to h k =
    when_lies (fits count (length ds)) (all_seen env ds) from to (seen_earlier (all_seen env ds) from next to (datum_rises n from next h) (all_lie env ds next to k))

make_lies : (w : Signatures) → LieRow (make_seen w)
make_lies w env [] from to h = tt
make_lies w env (n ∷ ds) from to h =
    named_lies (name_in n) _ from to
    (λ x. fields_lie (record_in w x) x n env _ from h.0 to h.1 h.2)

get_lies : LieRow get_seen
get_lies env (a ∷ f ∷ []) from to h =
    named_lies (name_in f) _ from to (λ x. (h.0, h.1, omega (arith, datum_rises f h.0 h.2.0 h.2.1, h.2.2)))
get_lies env ds from to h = tt

with_lies : LieRow with_seen
with_lies env (a ∷ f ∷ b ∷ []) from to h =
    named_lies (name_in f) _ from to (λ x. (h.0, h.1, (h.2.2.0, passed f b h.0 h.2.0 h.2.2.0 h.2.1 h.2.2.1, h.2.2.2)))
with_lies env ds from to h = tt

map_lies : LieRow map_seen
map_lies env (n ∷ a ∷ b ∷ []) from to h = named_lies (name_in n) _ from to (λ x. (h.2.0, passed n a from h.0 h.2.0 h.1 h.2.1, h.2.2))
map_lies env ds from to h = tt

filter_lies : LieRow filter_seen
filter_lies env (n ∷ a ∷ b ∷ []) from to h = named_lies (name_in n) _ from to (λ x. (h.2.0, passed n a from h.0 h.2.0 h.1 h.2.1, h.2.2))
filter_lies env ds from to h = tt

fold_lies : LieRow fold_seen
fold_lies env (n ∷ a ∷ m ∷ b ∷ c ∷ []) from to h =
    named_lies (name_in n) _ from to λ x. named_lies (name_in m) _ from to λ y. (
      h.2.0,
      passed n a from h.0 h.2.0 h.1 h.2.1,
      (h.2.2.2.0, passed m b h.2.0 h.2.2.0 h.2.2.2.0 h.2.2.1 h.2.2.2.1, h.2.2.2.2),
    )
fold_lies env ds from to h = tt

-- ---- forms by their heads

module _ (w : Signatures) (x : List ℕ) (head_at from next to : ℕ) (l : from ≤ head_at) (r : head_at < next) where
  call_lies : (c : Option (Option ℕ)) (env : Names) (ds : List Datum) → LieList next ds to → LieSight from (call_seen c head_at env ds) to
  call_lies None env ds h = (l, omega (arith, r, seen_rises (all_seen env ds) next to (all_lie env ds next to h)))
  call_lies (Some count) env ds h =
      when_lies (fits count (length ds)) (all_seen env ds) from to
      (seen_earlier (all_seen env ds) from next to (omega (arith, l, r)) (all_lie env ds next to h))

  fixed_lies : (fixed : Bool) (env : Names) (ds : List Datum) → LieList next ds to
      → LieSight from (if fixed then UnknownHead head_at else call_seen (function_in w x) head_at env ds) to
  fixed_lies true env ds h = call_lies None env ds h
  fixed_lies false env ds h = call_lies (function_in w x) env ds h

  operator_lies : (o : Option Counted) (env : Names) (ds : List Datum) → LieList next ds to → LieSight from (operator_seen w o x head_at env ds) to
  operator_lies (Some o) env ds h =
      when_lies (fits o.1 (length ds)) (all_seen env ds) from to
      (seen_earlier (all_seen env ds) from next to (omega (arith, l, r)) (all_lie env ds next to h))
  operator_lies None env ds h = fixed_lies (among x fixed_heads) env ds h

  sight_earlier : (s : Sight) → LieSight next s to → LieSight from s to
  sight_earlier Misshapen h = tt
  sight_earlier (UnknownHead at) h = (omega (arith, l, r, h.0), h.1)
  sight_earlier (Sees ps) h = seen_earlier ps from next to (omega (arith, l, r)) h

  row_lies : (o : Option (Names → List Datum → Sight)) → IfSome o LieRow → (env : Names) (ds : List Datum) → LieList next ds to
      → LieSight from (row_seen w o x head_at env ds) to
  row_lies (Some row) k env ds h = sight_earlier (row env ds) (k env ds next to h)
  row_lies None k env ds h = operator_lies (named x operators) env ds h

pub form_lies : (w : Signatures) (env : Names) (ds : List Datum) (from to : ℕ) → LieList from ds to → LieSight from (form_seen w env ds) to
form_lies w env [] from to h = tt
form_lies w env (word x at ∷ ds) from to h =
    row_lies w x at from h.0 to h.1.0 h.1.1 (named x (rows w))
    (row_found LieRow x (rows w)
    (slot_lies, (if_lies, (let_lies, (counted_lies None, (counted_lies None, (make_lies w, (get_lies, (with_lies, (map_lies, (filter_lies, (fold_lies, tt))))))))))))
    env ds h.2
form_lies w env (number z at ∷ ds) from to h = tt
form_lies w env (literal s at ∷ ds) from to h = tt
form_lies w env (quoted s at name_at ∷ ds) from to h = tt
form_lies w env (stray at ∷ ds) from to h = tt
form_lies w env (list es at ∷ ds) from to h = tt
