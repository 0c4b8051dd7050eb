-- What is looked at of types lies in them.
use Rattle.std.proofs.Common.{ℕ, ◌+◌, ◌≤◌, ◌==◌, List, [], ◌∷◌, length, sym, arith}
use Rattle.std.specs.Prelude.{Option, Some, None, nat_le}
use Rattle.std.proofs.Math.Path.{subst}
use Rattle.cl_syntax.specs.declared.type_specs.TypeOptions.{TypeOptions}
use Rattle.cl_forms.specs.Datum.{Datum, Datums, number, literal, word, quoted, stray, list, none, item, in_order, offset}
use Rattle.cl_forms.specs.Naming.{fits, name_in}
use Rattle.cl_words.specs.declared.signatures.Signatures.{Signatures}
use Rattle.cl_expressions.specs.Scopes.{Names}
use Rattle.cl_bodies.specs.TypeArguments.{is_stray, may_all_stand, options_in, tokens_in}
use Rattle.cl_bodies.specs.Specifiers.{takes_named}
use Rattle.cl_bodies.specs.declared.specifiers.Takes.{Takes}
use Rattle.cl_bodies.specs.declared.specifiers.Takes.TheVariants as takes
use Rattle.cl_bodies.specs.declared.type_arguments.Wanted.{Wanted}
use Rattle.cl_bodies.specs.declared.type_arguments.Wanted.TheVariants as wanted
use Rattle.cl_grammar.specs.Lies.{Lies, LieAll}
use Rattle.cl_grammar.proofs.Bounds.{Within}
use Rattle.cl_grammar.proofs.Lying.{LieList, list_lies, own_lies, datum_rises, datum_earlier}
use Rattle.cl_text_grammar.specs.Types.{TypePart, refused, type_name, wrong}
use Rattle.cl_text_grammar.specs.Types.{arguments_seen, at_most_seen, constants_seen, each_type_seen, first_type_seen, given_seen, headed_type_seen}
use Rattle.cl_text_grammar.specs.Types.{inner_type_seen, known_type_seen, listed_type_seen, nothing_seen, optioned_type_seen}
use Rattle.cl_text_grammar.specs.Types.{shapes_sighted, strays_seen, tokens_and_type_seen, type_parts_seen, type_seen, types_seen}
use Rattle.cl_text_grammar.proofs.TypePartsLie.{LieType, type_earlier, type_later, types_joined, one_part_lies, chosen_lies}
use Rattle.cl_text_grammar.proofs.TypesJudged.{shapes_looked_at}

-- ---- data in a row

pub all_earlier : (ds : Datums) (before from to : ℕ) → before ≤ from → LieAll from ds to → LieAll before ds to
all_earlier none before from to e h = omega (arith, e, h)
all_earlier (item d ds) before from to e h = (h.0, datum_earlier d before from h.0 e h.1, h.2)

pub all_rise : (ds : Datums) (from to : ℕ) → LieAll from ds to → from ≤ to
all_rise none from to h = h
all_rise (item d ds) from to h = omega (arith, datum_rises d from h.0 h.1, all_rise ds h.0 to h.2)

-- ---- constants

strays_lie : (ds : List Datum) (from to : ℕ) → LieList from ds to → LieType from (strays_seen ds) to
strays_lie [] from to h = h
strays_lie (d ∷ ds) from to h =
    chosen_lies (is_stray d) (refused 6 (offset d) ∷ strays_seen ds) (strays_seen ds) from to (h.0, own_lies d from h.0 h.1, strays_lie ds h.0 to h.2)
    (type_earlier (strays_seen ds) from h.0 to (datum_rises d from h.0 h.1) (strays_lie ds h.0 to h.2))

constants_lie : (ps : Names) (kind : Wanted) (at : ℕ) (ds : List Datum) (from to : ℕ) → Within from at to → LieList from ds to
    → LieType from (constants_seen ps kind at ds) to
constants_lie ps kind at ds from to h k =
    chosen_lies (may_all_stand ps kind ds) (strays_seen ds) (wrong at) from to (strays_lie ds from to k) (one_part_lies (refused 6 at) from to h)

at_most_lie : (most : ℕ) (ps : Names) (kind : Wanted) (at : ℕ) (ds : List Datum) (from to : ℕ) → Within from at to → LieList from ds to
    → LieType from (at_most_seen most ps kind at ds) to
at_most_lie most ps kind at ds from to h k =
    chosen_lies (nat_le (length ds) most) (constants_seen ps kind at ds) (wrong at) from to (constants_lie ps kind at ds from to h k)
    (one_part_lies (refused 6 at) from to h)

given_lies : (count : Option ℕ) (ps : Names) (at : ℕ) (ds : List Datum) (from to : ℕ) → Within from at to → LieList from ds to
    → LieType from (given_seen count ps at ds) to
given_lies count ps at ds from to h k =
    chosen_lies (fits count (length ds)) (constants_seen ps wanted.ConstantOrStar at ds) (wrong at) from to
    (constants_lie ps wanted.ConstantOrStar at ds from to h k) (one_part_lies (refused 6 at) from to h)

nothing_lies : (at : ℕ) (ds : List Datum) (from to : ℕ) → Within from at to → LieList from ds to → LieType from (nothing_seen at ds) to
nothing_lies at [] from to h k = k
nothing_lies at (d ∷ ds) from to h k = one_part_lies (refused 6 at) from to h

module _ (w : Signatures) (ps : Names) where
  -- ---- rows, where the specifiers among the arguments lie in them

  abbrev EachLies : Datums → Type 0
  EachLies none = Unit {0}
  EachLies (item d ds) = ((from to : ℕ) → Lies from d to → LieType from (type_seen w ps d) to) × EachLies ds

  -- a row over the arguments as they stand
  by_shapes : (row : List Datum → List TypePart) (ds : Datums) (from to : ℕ) → LieType from (row (in_order ds)) to
      → LieType from (row (shapes_sighted (types_seen w ps ds))) to
  by_shapes row ds from to h = subst (λ es. LieType from (row es) to) (sym (shapes_looked_at w ps ds)) h

  each_lies : (ds : Datums) → EachLies ds → (from to : ℕ) → LieAll from ds to → LieType from (each_type_seen (types_seen w ps ds)) to
  each_lies none e from to h = h
  each_lies (item d ds) e from to h =
      types_joined (type_seen w ps d) (each_type_seen (types_seen w ps ds)) from h.0 to (e.0 from h.0 h.1) (each_lies ds e.1 h.0 to h.2)

  token_lies : (at : ℕ) (o : Option (List (List ℕ))) (qs : List TypePart) (from to : ℕ) → Within from at to → LieType from qs to
      → LieType from (elim o [ None ↦ wrong at | Some xs ↦ qs ]) to
  token_lies at None qs from to h k = one_part_lies (refused 6 at) from to h
  token_lies at (Some xs) qs from to h k = k

  tokens_lie : (at : ℕ) (ds : Datums) → EachLies ds → (from to : ℕ) → Within from at to → LieAll from ds to
      → LieType from (tokens_and_type_seen at (types_seen w ps ds)) to
  tokens_lie at none e from to h k = one_part_lies (refused 6 at) from to h
  tokens_lie at (item n none) e from to h k = one_part_lies (refused 6 at) from to h
  tokens_lie at (item n (item d none)) e from to h k =
      token_lies at (tokens_in n) (type_seen w ps d) from to h
      (type_earlier (type_seen w ps d) from k.0 to (datum_rises n from k.0 k.1) (type_later (type_seen w ps d) k.0 k.2.0 to k.2.2 (e.1.0 k.0 k.2.0 k.2.1)))
  tokens_lie at (item n (item d (item c ds))) e from to h k = one_part_lies (refused 6 at) from to h

  arguments_lie : (t : Takes) (at : ℕ) (ds : Datums) → EachLies ds → (from to : ℕ) → Within from at to → LieAll from ds to
      → LieType from (arguments_seen ps t at (types_seen w ps ds)) to
  arguments_lie takes.Nothing at ds e from to h k = by_shapes (nothing_seen at) ds from to (nothing_lies at (in_order ds) from to h (list_lies ds from to k))
  arguments_lie takes.Bounds at ds e from to h k =
      by_shapes (at_most_seen 2 ps wanted.NumberOrStar at) ds from to
      (at_most_lie 2 ps wanted.NumberOrStar at (in_order ds) from to h (list_lies ds from to k))
  arguments_lie takes.Length at ds e from to h k =
      by_shapes (at_most_seen 1 ps wanted.Number at) ds from to (at_most_lie 1 ps wanted.Number at (in_order ds) from to h (list_lies ds from to k))
  arguments_lie takes.Constants at ds e from to h k =
      by_shapes (constants_seen ps wanted.Constant at) ds from to (constants_lie ps wanted.Constant at (in_order ds) from to h (list_lies ds from to k))
  arguments_lie (takes.Given count) at ds e from to h k =
      by_shapes (given_seen count ps at) ds from to (given_lies count ps at (in_order ds) from to h (list_lies ds from to k))
  arguments_lie takes.OneType at ds e from to h k =
      chosen_lies (length (types_seen w ps ds) == 1) (each_type_seen (types_seen w ps ds)) (wrong at) from to (each_lies ds e from to k) (one_part_lies (refused 6 at) from to h)
  arguments_lie takes.SomeTypes at ds e from to h k =
      chosen_lies (length (types_seen w ps ds) == 0) (wrong at) (each_type_seen (types_seen w ps ds)) from to (one_part_lies (refused 6 at) from to h) (each_lies ds e from to k)
  arguments_lie takes.TokensAndType at ds e from to h k = tokens_lie at ds e from to h k

  known_lies : (o : Option Takes) (x : List ℕ) (name_at at : ℕ) (ds : Datums) → EachLies ds → (from to : ℕ) → Within from name_at to → Within from at to
      → LieAll from ds to → LieType from (known_type_seen ps o x name_at at (types_seen w ps ds)) to
  known_lies None x name_at at ds e from to n h k = one_part_lies (type_name x name_at) from to n
  known_lies (Some t) x name_at at ds e from to n h k = arguments_lie t at ds e from to h k

  found_lies : (o : Option (List ℕ)) (name_at at : ℕ) (ds : Datums) → EachLies ds → (from to : ℕ) → Within from name_at to → Within from at to
      → LieAll from ds to
      → LieType from (elim o [ None ↦ wrong at | Some x ↦ known_type_seen ps (takes_named w x) x name_at at (types_seen w ps ds) ]) to
  found_lies None name_at at ds e from to n h k = one_part_lies (refused 6 at) from to h
  found_lies (Some x) name_at at ds e from to n h k = known_lies (takes_named w x) x name_at at ds e from to n h k

  headed_lies : (at : ℕ) (d : Datum) (ds : Datums) → EachLies ds → (from to : ℕ) → Within from (offset d) to → Within from at to → LieAll from ds to
      → LieType from (headed_type_seen w ps at d (types_seen w ps ds)) to
  headed_lies at d ds e from to n h k = found_lies (name_in d) (offset d) at ds e from to n h k

  optioned_lies : (at : ℕ) (o : Option TypeOptions) (qs : List TypePart) (from to : ℕ) → Within from at to → LieType from qs to
      → LieType from (optioned_type_seen at o qs) to
  optioned_lies at None qs from to h k = one_part_lies (refused 6 at) from to h
  optioned_lies at (Some o) qs from to h k = k

  -- ---- specifiers

  first_lies : (at : ℕ) (d : Datum) (more : Datums) → EachLies more → (from middle to : ℕ) → Within from at to → middle ≤ to
      → LieType from (inner_type_seen w ps at d) middle → Within from (offset d) to → LieAll from more to
      → LieType from (first_type_seen w ps at d (inner_type_seen w ps at d) (types_seen w ps more)) to
  first_lies at (list es inner_at) more e from middle to h m i n k =
      optioned_lies at (options_in (shapes_sighted (types_seen w ps more))) (inner_type_seen w ps at (list es inner_at)) from to h
      (type_later (inner_type_seen w ps at (list es inner_at)) from middle to m i)
  first_lies at (word x name_at) more e from middle to h m i n k = headed_lies at (word x name_at) more e from to n h k
  first_lies at (number z part_at) more e from middle to h m i n k = one_part_lies (refused 6 at) from to h
  first_lies at (literal s part_at) more e from middle to h m i n k = one_part_lies (refused 6 at) from to h
  first_lies at (quoted x part_at name_at) more e from middle to h m i n k = one_part_lies (refused 6 at) from to h
  first_lies at (stray part_at) more e from middle to h m i n k = one_part_lies (refused 6 at) from to h

  -- the first part and those behind it, from the offset of the whole on
  behind_own : (at : ℕ) (d : Datum) (more : Datums) → EachLies more → (from to : ℕ) → Within from at to
      → ((from middle : ℕ) → Within from at middle → Lies (at + 1) d middle → LieType from (inner_type_seen w ps at d) middle) → LieAll (at + 1) (item d more) to
      → LieType from (first_type_seen w ps at d (inner_type_seen w ps at d) (types_seen w ps more)) to
  behind_own at d more e from to h i k =
      let rise : at + 1 ≤ k.0 = datum_rises d (at + 1) k.0 k.1 in
      let rest : k.0 ≤ to = all_rise more k.0 to k.2 in
      let own : Within (at + 1) (offset d) k.0 = own_lies d (at + 1) k.0 k.1 in
      first_lies at d more e from k.0 to h rest (i from k.0 (h.0, omega (arith, rise)) k.1) (omega (arith, h.0, own.0), omega (arith, own.1, rest))
      (all_earlier more from k.0 to (omega (arith, h.0, rise)) k.2)

  mutual
    pub type_lies : (d : Datum) (from to : ℕ) → Lies from d to → LieType from (type_seen w ps d) to
    type_lies (list ds at) from to h = listed_lies at ds from to (h.0, h.1) h.2
    type_lies (word x at) from to h = headed_lies at (word x at) none tt from to h h (omega (arith, h.0, h.1))
    type_lies (number z at) from to h = one_part_lies (refused 6 at) from to h
    type_lies (literal s at) from to h = one_part_lies (refused 6 at) from to h
    type_lies (quoted x at name_at) from to h = one_part_lies (refused 6 at) from to (h.0, omega (arith, h.1, h.2))
    type_lies (stray at) from to h = one_part_lies (refused 6 at) from to h

    listed_lies : (at : ℕ) (ds : Datums) (from to : ℕ) → Within from at to → LieAll (at + 1) ds to → LieType from (listed_type_seen w ps at ds) to
    listed_lies at none from to h k = one_part_lies (refused 6 at) from to h
    listed_lies at (item d more) from to h k = behind_own at d more (types_lie more) from to h (λ b m g l. inner_lies at d b m g l) k

    inner_lies : (at : ℕ) (d : Datum) (from to : ℕ) → Within from at to → Lies (at + 1) d to → LieType from (inner_type_seen w ps at d) to
    inner_lies at (list es inner_at) from to h k = parts_lie at es from to h (all_earlier es from (inner_at + 1) to (omega (arith, h.0, k.0)) k.2)
    inner_lies at (number z part_at) from to h k = one_part_lies (refused 6 at) from to h
    inner_lies at (literal s part_at) from to h k = one_part_lies (refused 6 at) from to h
    inner_lies at (word x part_at) from to h k = one_part_lies (refused 6 at) from to h
    inner_lies at (quoted x part_at name_at) from to h k = one_part_lies (refused 6 at) from to h
    inner_lies at (stray part_at) from to h k = one_part_lies (refused 6 at) from to h

    parts_lie : (at : ℕ) (ds : Datums) (from to : ℕ) → Within from at to → LieAll from ds to → LieType from (type_parts_seen w ps at ds) to
    parts_lie at none from to h k = one_part_lies (refused 6 at) from to h
    parts_lie at (item d more) from to h k =
        let own : Within from (offset d) k.0 = own_lies d from k.0 k.1 in
        let rest : k.0 ≤ to = all_rise more k.0 to k.2 in
        headed_lies at d more (types_lie more) from to (own.0, omega (arith, own.1, rest)) h (all_earlier more from k.0 to (datum_rises d from k.0 k.1) k.2)

    types_lie : (ds : Datums) → EachLies ds
    types_lie none = tt
    types_lie (item d ds) = (λ from to h. type_lies d from to h, types_lie ds)
