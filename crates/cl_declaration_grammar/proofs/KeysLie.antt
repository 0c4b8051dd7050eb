-- The keys of a form lie in it in order, each with what stands behind it.
use Rattle.std.proofs.Common.{ℕ, ◌+◌, ◌≤◌, Bool, true, false, if◌then◌else◌, List, [], ◌∷◌, ◌++◌, arith}
use Rattle.std.specs.Prelude.{Option, Some, None, option_and_then}
use Rattle.std.specs.Option.{IfSome}
use Rattle.cl_forms.specs.Datum.{Datum, number, literal, word, quoted, stray, list, none, item, in_order, offset, parts_of}
use Rattle.cl_forms.specs.Keys.{Keyed, same_key, has_key, values_of, key_in, keyed_as, section_in, pair_in, with_keyed, keyed_sections, keyed_pairs}
use Rattle.cl_forms.specs.declared.keys.Key.{Key}
use Rattle.cl_grammar.specs.Lies.{Lies}
use Rattle.cl_grammar.proofs.Bounds.{Within}
use Rattle.cl_grammar.proofs.Lying.{LieList, list_lies, own_lies, datum_rises, datum_earlier}
use Rattle.cl_declaration_grammar.proofs.PartsLie.{list_rises}

-- a key, and what stands behind it
abbrev pub LieKey : ℕ → Keyed → ℕ → Type 0
LieKey from k to = Within from k.at to × LieList (k.at + 1) k.values to

abbrev pub LieKeys : ℕ → List Keyed → ℕ → Type 0
LieKeys from [] to = from ≤ to
LieKeys from (k ∷ ks) to = (next : ℕ) × LieKey from k next × LieKeys next ks to

keys_later : (ks : List Keyed) (from to behind : ℕ) → to ≤ behind → LieKeys from ks to → LieKeys from ks behind
keys_later [] from to behind e h = omega (arith, e, h)
keys_later (k ∷ ks) from to behind e h = (h.0, h.1, keys_later ks h.0 to behind e h.2)

pub list_earlier : (ds : List Datum) (before from to : ℕ) → before ≤ from → LieList from ds to → LieList before ds to
list_earlier [] before from to e h = omega (arith, e, h)
list_earlier (d ∷ ds) before from to e h = (h.0, datum_earlier d before from h.0 e h.1, h.2)

key_earlier : (k : Keyed) (before from to : ℕ) → before ≤ from → LieKey from k to → LieKey before k to
key_earlier k before from to e h = ((omega (arith, e, h.0.0), h.0.1), h.1)

one_more : (ks : List Keyed) (k : Keyed) (from middle to : ℕ) → LieKeys from ks middle → LieKey middle k to → LieKeys from (ks ++ k ∷ []) to
one_more [] k from middle to h i = (to, key_earlier k from middle to h i, omega arith)
one_more (j ∷ ks) k from middle to h i = (h.0, h.1, one_more ks k h.0 middle to h.2 i)

unless_twice : (twice : Bool) (ks : List Keyed) (from to : ℕ) → LieKeys from ks to → IfSome (if twice then None else Some ks) (λ s. LieKeys from s to)
unless_twice true ks from to h = tt
unless_twice false ks from to h = h

with_lies : (k : Option Keyed) (ks : List Keyed) (from middle to : ℕ) → IfSome k (λ j. LieKey middle j to) → LieKeys from ks middle
    → IfSome (with_keyed k ks) (λ s. LieKeys from s to)
with_lies None ks from middle to h i = tt
with_lies (Some k) ks from middle to h i = unless_twice (has_key k.key ks) (ks ++ k ∷ []) from to (one_more ks k from middle to i h)

then_lies : (f : List Keyed → Option (List Keyed)) (o : Option (List Keyed)) (from middle to : ℕ) → IfSome o (λ s. LieKeys from s middle)
    → ((s : List Keyed) → LieKeys from s middle → IfSome (f s) (λ r. LieKeys from r to)) → IfSome (option_and_then f o) (λ r. LieKeys from r to)
then_lies f None from middle to h g = tt
then_lies f (Some s) from middle to h g = g s h

keyed_lies : (k : Option Key) (at : ℕ) (ds : List Datum) (from to : ℕ) → Within from at to → LieList (at + 1) ds to
    → IfSome (keyed_as k at ds) (λ j. LieKey from j to)
keyed_lies None at ds from to h i = tt
keyed_lies (Some k) at ds from to h i = (h, i)

section_lies : (may_have : List Key) (d : Datum) (from to : ℕ) → Lies from d to → IfSome (section_in may_have d) (λ j. LieKey from j to)
section_lies may_have (list none at) from to h = tt
section_lies may_have (list (item k ds) at) from to h =
    let own : Within (at + 1) (offset k) h.2.0 = own_lies k (at + 1) h.2.0 h.2.1 in
    let behind : LieList (offset k + 1) (in_order ds) to =
    list_earlier (in_order ds) (offset k + 1) h.2.0 to (omega (arith, own.1)) (list_lies ds h.2.0 to h.2.2) in
    let rises : h.2.0 ≤ to = list_rises (in_order ds) h.2.0 to (list_lies ds h.2.0 to h.2.2) in
    keyed_lies (key_in may_have k) (offset k) (in_order ds) from to (omega (arith, h.0, own.0), omega (arith, own.1, rises)) behind
section_lies may_have (number z at) from to h = tt
section_lies may_have (literal s at) from to h = tt
section_lies may_have (word s at) from to h = tt
section_lies may_have (quoted s at name_at) from to h = tt
section_lies may_have (stray at) from to h = tt

pair_lies : (may_have : List Key) (k v : Datum) (from middle to : ℕ) → Lies from k middle → Lies middle v to → IfSome (pair_in may_have k v) (λ j. LieKey from j to)
pair_lies may_have k v from middle to h i =
    let own : Within from (offset k) middle = own_lies k from middle h in
    keyed_lies (key_in may_have k) (offset k) (v ∷ []) from to (own.0, omega (arith, own.1, datum_rises v middle to i))
    (to, datum_earlier v (offset k + 1) middle to (omega (arith, own.1)) i, omega arith)

pub sections_lie : (may_have : List Key) (so_far : List Keyed) (ds : List Datum) (start from to : ℕ) → LieKeys start so_far from → LieList from ds to
    → IfSome (keyed_sections may_have so_far ds) (λ ks. LieKeys start ks to)
sections_lie may_have so_far [] start from to h i = keys_later so_far start from to i h
sections_lie may_have so_far (d ∷ ds) start from to h i =
    then_lies (λ more. keyed_sections may_have more ds) (with_keyed (section_in may_have d) so_far) start i.0 to
    (with_lies (section_in may_have d) so_far start from i.0 (section_lies may_have d from i.0 i.1) h)
    (λ more j. sections_lie may_have more ds start i.0 to j i.2)

pub pairs_lie : (may_have : List Key) (so_far : List Keyed) (ds : List Datum) (start from to : ℕ) → LieKeys start so_far from → LieList from ds to
    → IfSome (keyed_pairs may_have so_far ds) (λ ks. LieKeys start ks to)
pairs_lie may_have so_far [] start from to h i = keys_later so_far start from to i h
pairs_lie may_have so_far (k ∷ []) start from to h i = tt
pairs_lie may_have so_far (k ∷ v ∷ ds) start from to h i =
    then_lies (λ more. keyed_pairs may_have more ds) (with_keyed (pair_in may_have k v) so_far) start i.2.0 to
    (with_lies (pair_in may_have k v) so_far start from i.2.0 (pair_lies may_have k v from i.0 i.2.0 i.1 i.2.1) h)
    (λ more j. pairs_lie may_have more ds start i.2.0 to j i.2.2)

-- ---- what stands in a datum, and behind a key

-- parts of a datum stand in it
pub inside : (d : Datum) (from to : ℕ) → Lies from d to → LieList from (parts_of d) to
inside (list ds at) from to h = list_earlier (in_order ds) from (at + 1) to (omega (arith, h.0)) (list_lies ds (at + 1) to h.2)
inside (number z at) from to h = omega (arith, h.0, h.1)
inside (literal s at) from to h = omega (arith, h.0, h.1)
inside (word s at) from to h = omega (arith, h.0, h.1)
inside (quoted s at name_at) from to h = omega (arith, h.0, h.1, h.2)
inside (stray at) from to h = omega (arith, h.0, h.1)

pub keys_rise : (ks : List Keyed) (from to : ℕ) → LieKeys from ks to → from ≤ to
keys_rise [] from to h = h
keys_rise (k ∷ ks) from to h = omega (arith, h.1.0.0, h.1.0.1, keys_rise ks h.0 to h.2)

list_later : (ds : List Datum) (from to behind : ℕ) → to ≤ behind → LieList from ds to → LieList from ds behind
list_later [] from to behind e h = omega (arith, e, h)
list_later (d ∷ ds) from to behind e h = (h.0, h.1, list_later ds h.0 to behind e h.2)

values_earlier : (o : Option (List Datum)) (before from to : ℕ) → before ≤ from → IfSome o (λ vs. LieList from vs to) → IfSome o (λ vs. LieList before vs to)
values_earlier None before from to e h = tt
values_earlier (Some vs) before from to e h = list_earlier vs before from to e h

first_lies : (b : Bool) (vs : List Datum) (o : Option (List Datum)) (from to : ℕ) → LieList from vs to → IfSome o (λ es. LieList from es to)
    → IfSome (if b then Some vs else o) (λ es. LieList from es to)
first_lies true vs o from to h i = h
first_lies false vs o from to h i = i

pub values_lie : (j : Key) (ks : List Keyed) (from to : ℕ) → LieKeys from ks to → IfSome (values_of j ks) (λ vs. LieList from vs to)
values_lie j [] from to h = tt
values_lie j (k ∷ ks) from to h =
    let own : LieList from k.values h.0 = list_earlier k.values from (k.at + 1) h.0 (omega (arith, h.1.0.0)) h.1.1 in
    first_lies (same_key j k.key) k.values (values_of j ks) from to (list_later k.values from h.0 to (keys_rise ks h.0 to h.2) own)
    (values_earlier (values_of j ks) from h.0 to (omega (arith, h.1.0.0, h.1.0.1)) (values_lie j ks h.0 to h.2))
