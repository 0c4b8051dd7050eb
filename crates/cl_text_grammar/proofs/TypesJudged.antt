-- The readings of types answer to what is looked at of them.
use Rattle.std.proofs.Common.{◌≡◌, ℕ, Bool, true, false, ◌==◌, if◌then◌else◌, List, [], ◌∷◌, length, refl, sym, ap, suc}
use Rattle.std.specs.Prelude.{Option, Some, None, Result, Ok, Err, nat_le}
use Rattle.std.proofs.Math.Path.{subst}
use Rattle.cl_syntax.specs.TypeSpecTree.{TypeSpecTree, plain_type, specifier, Spec, Names as Tokens, arg_trees_of, no_options}
use Rattle.cl_syntax.specs.declared.type_specs.TypeOptions.{TypeOptions}
use Rattle.cl_forms.specs.Datum.{Datum, Datums, number, literal, word, quoted, stray, list, none, item, in_order, offset}
use Rattle.cl_forms.specs.Naming.{fits, name_in}
use Rattle.cl_words.specs.declared.signatures.Signatures.{Signatures}
use Rattle.cl_expressions.specs.Load.{Load, Fault, Notes, after, give, refuse, placed, with_specifier}
use Rattle.cl_expressions.specs.Scopes.{Names}
use Rattle.cl_bodies.specs.TypeArguments.{arguments_in, first_stray, is_stray, may_all_stand, options_in, tokens_in}
use Rattle.cl_bodies.specs.Specifiers.{parse_arguments, parse_at_most, parse_constants, parse_each_type, parse_first, parse_given, parse_headed, parse_inner}
use Rattle.cl_bodies.specs.Specifiers.{parse_known, parse_listed, parse_named, parse_nothing, parse_one_type, parse_optioned, parse_parts, parse_some_types}
use Rattle.cl_bodies.specs.Specifiers.{parse_token_type, parse_tokens_and_type, parse_type, shapes, takes_named, type_subs, with_options}
use Rattle.cl_bodies.specs.declared.specifiers.Takes.{Takes}
use Rattle.cl_bodies.specs.declared.specifiers.Takes.TheVariants as takes
use Rattle.cl_bodies.specs.declared.type_arguments.Wanted.{Wanted}
use Rattle.cl_bodies.specs.declared.type_arguments.Wanted.TheVariants as wanted
use Rattle.cl_grammar.proofs.Judging.{Any, Verdict}
use Rattle.cl_text_grammar.specs.Types.{TypePart, refused, TypeBlames, TypeUnnamed, wrong}
use Rattle.cl_text_grammar.specs.Types.{arguments_seen, at_most_seen, constants_seen, each_type_seen, first_type_seen, given_seen, headed_type_seen}
use Rattle.cl_text_grammar.specs.Types.{inner_type_seen, known_type_seen, listed_type_seen, nothing_seen, one_type_seen, optioned_type_seen}
use Rattle.cl_text_grammar.specs.Types.{shapes_sighted, some_types_seen, strays_seen, tokens_and_type_seen, type_parts_seen, type_seen, types_seen}
use Rattle.cl_text_grammar.proofs.TypeJudging.{TypeJudges, joined, then_given, ended, refused_first, is_wrong, type_name_judged, chosen}

module _ (w : Signatures) where
  -- ---- constants

  -- the first of the quotes that stand before no name
  abbrev first_told : {A : Type 0} → Option ℕ → A → Load A
  first_told o x = elim o [ None ↦ give x | Some at ↦ refuse 6 at ]

  stray_or : {A : Type 0} (x : A) (b : Bool) (at : ℕ) (ps : List TypePart) (o : Option ℕ) → TypeJudges w ps Any (first_told o x)
      → TypeJudges w (if b then refused 6 at ∷ ps else ps) Any (first_told (if b then Some at else o) x)
  stray_or x true at ps o h = refused_first w 6 at ps
  stray_or x false at ps o h = h

  strays_judged : {A : Type 0} (x : A) (ds : List Datum) → TypeJudges w (strays_seen ds) Any (first_told (first_stray ds) x)
  strays_judged x [] = ended w
  strays_judged x (d ∷ ds) = stray_or x (is_stray d) (offset d) (strays_seen ds) (first_stray ds) (strays_judged x ds)

  constants_judged : (ps : Names) (kind : Wanted) (at : ℕ) (ds : List Datum) → TypeJudges w (constants_seen ps kind at ds) Any (parse_constants ps kind at ds)
  constants_judged ps kind at ds = chosen w (may_all_stand ps kind ds) (strays_judged (arguments_in ps ds) ds) (is_wrong w at)

  at_most_judged : (most : ℕ) (ps : Names) (kind : Wanted) (at : ℕ) (ds : List Datum)
      → TypeJudges w (at_most_seen most ps kind at ds) Any (parse_at_most most ps kind at ds)
  at_most_judged most ps kind at ds = chosen w (nat_le (length ds) most) (constants_judged ps kind at ds) (is_wrong w at)

  given_judged : (count : Option ℕ) (ps : Names) (at : ℕ) (ds : List Datum) → TypeJudges w (given_seen count ps at ds) Any (parse_given count ps at ds)
  given_judged count ps at ds = chosen w (fits count (length ds)) (constants_judged ps wanted.ConstantOrStar at ds) (is_wrong w at)

  nothing_judged : (at : ℕ) (ds : List Datum) → TypeJudges w (nothing_seen at ds) Any (parse_nothing at ds)
  nothing_judged at [] = ended w
  nothing_judged at (d ∷ ds) = is_wrong w at

  -- ---- what is noted of a specifier is not among the names

  placed_verdict : (B : ℕ → ℕ → Type 0) (N : ℕ → Type 0) (u : Notes) (place : ℕ) (ps : Names) (at : ℕ) (r : Result (TypeSpecTree × Notes) Fault)
      → Verdict {A = TypeSpecTree} B N Any u r
      → Verdict {A = TypeSpecTree} B N Any u (after r (λ spec later. Ok (spec, with_specifier place spec ps at later)))
  placed_verdict B N u place ps at (Ok x) h = h
  placed_verdict B N u place ps at (Err fault) h = h

  placed_judged : (qs : List TypePart) (ps : Names) (at : ℕ) (m : Load TypeSpecTree) → TypeJudges w qs Any m → TypeJudges w qs Any (placed ps at m)
  placed_judged qs ps at m h = record {
    judged = λ from to lie u. placed_verdict (TypeBlames qs) (TypeUnnamed w qs) u (length u.specifiers) ps at (m u) (h.judged from to lie u);
  }

  -- ---- rows, where the specifiers among the arguments are judged

  module _ (ps : Names) where
    abbrev EachJudged : Datums → Type 0
    EachJudged none = Unit {0}
    EachJudged (item d ds) = TypeJudges w (type_seen w ps d) Any (parse_type w ps d) × EachJudged ds

    shapes_read : (ds : Datums) → shapes (type_subs w ps ds) ≡ in_order ds
    shapes_read none = refl
    shapes_read (item d ds) = ap (λ es. d ∷ es) (shapes_read ds)

    pub shapes_looked_at : (ds : Datums) → shapes_sighted (types_seen w ps ds) ≡ in_order ds
    shapes_looked_at none = refl
    shapes_looked_at (item d ds) = ap (λ es. d ∷ es) (shapes_looked_at ds)

    as_many : (ds : Datums) → length (types_seen w ps ds) ≡ length (type_subs w ps ds)
    as_many none = refl
    as_many (item d ds) = ap suc (as_many ds)

    -- a row over the arguments as they stand
    by_shapes : {A : Type 0} (row : List Datum → List TypePart) (m : List Datum → Load A) → ((ds : List Datum) → TypeJudges w (row ds) Any (m ds)) → (ds : Datums)
        → TypeJudges w (row (shapes_sighted (types_seen w ps ds))) Any (m (shapes (type_subs w ps ds)))
    by_shapes row m h ds =
        subst (λ es. TypeJudges w (row es) Any (m (shapes (type_subs w ps ds)))) (sym (shapes_looked_at ds))
        (subst (λ es. TypeJudges w (row (in_order ds)) Any (m es)) (sym (shapes_read ds)) (h (in_order ds)))

    each_judged : (ds : Datums) → EachJudged ds → TypeJudges w (each_type_seen (types_seen w ps ds)) Any (parse_each_type (type_subs w ps ds))
    each_judged none h = ended w
    each_judged (item d ds) h =
        joined w (type_seen w ps d) (each_type_seen (types_seen w ps ds)) h.0 λ t i. then_given w (λ ts. Spec t ∷ ts) (each_judged ds h.1)

    one_judged : (at : ℕ) (ds : Datums) → EachJudged ds → TypeJudges w (one_type_seen at (types_seen w ps ds)) Any (parse_one_type at (type_subs w ps ds))
    one_judged at ds h =
        subst (λ n. TypeJudges w (if n == 1 then each_type_seen (types_seen w ps ds) else wrong at) Any (parse_one_type at (type_subs w ps ds))) (sym (as_many ds))
        (chosen w (length (type_subs w ps ds) == 1) (each_judged ds h) (is_wrong w at))

    some_judged : (at : ℕ) (ds : Datums) → EachJudged ds → TypeJudges w (some_types_seen at (types_seen w ps ds)) Any (parse_some_types at (type_subs w ps ds))
    some_judged at ds h =
        subst (λ n. TypeJudges w (if n == 0 then wrong at else each_type_seen (types_seen w ps ds)) Any (parse_some_types at (type_subs w ps ds))) (sym (as_many ds))
        (chosen w (length (type_subs w ps ds) == 0) (is_wrong w at) (each_judged ds h))

    token_judged : (at : ℕ) (o : Option (List (List ℕ))) (d n : Datum) → TypeJudges w (type_seen w ps d) Any (parse_type w ps d)
        → TypeJudges w (elim o [ None ↦ wrong at | Some xs ↦ type_seen w ps d ]) Any (parse_token_type at o (record { shape = d; spec = parse_type w ps d }))
    token_judged at None d n h = is_wrong w at
    token_judged at (Some xs) d n h = then_given w (λ t. Tokens xs ∷ Spec t ∷ []) h

    tokens_judged : (at : ℕ) (ds : Datums) → EachJudged ds
        → TypeJudges w (tokens_and_type_seen at (types_seen w ps ds)) Any (parse_tokens_and_type at (type_subs w ps ds))
    tokens_judged at none h = is_wrong w at
    tokens_judged at (item n none) h = is_wrong w at
    tokens_judged at (item n (item d none)) h = token_judged at (tokens_in n) d n h.1.0
    tokens_judged at (item n (item d (item e ds))) h = is_wrong w at

    arguments_judged : (t : Takes) (at : ℕ) (ds : Datums) → EachJudged ds
        → TypeJudges w (arguments_seen ps t at (types_seen w ps ds)) Any (parse_arguments ps t at (type_subs w ps ds))
    arguments_judged takes.Nothing at ds h = by_shapes (nothing_seen at) (parse_nothing at) (nothing_judged at) ds
    arguments_judged takes.Bounds at ds h =
        by_shapes (at_most_seen 2 ps wanted.NumberOrStar at) (parse_at_most 2 ps wanted.NumberOrStar at) (at_most_judged 2 ps wanted.NumberOrStar at) ds
    arguments_judged takes.Length at ds h =
        by_shapes (at_most_seen 1 ps wanted.Number at) (parse_at_most 1 ps wanted.Number at) (at_most_judged 1 ps wanted.Number at) ds
    arguments_judged takes.Constants at ds h =
        by_shapes (constants_seen ps wanted.Constant at) (parse_constants ps wanted.Constant at) (constants_judged ps wanted.Constant at) ds
    arguments_judged (takes.Given count) at ds h = by_shapes (given_seen count ps at) (parse_given count ps at) (given_judged count ps at) ds
    arguments_judged takes.OneType at ds h = one_judged at ds h
    arguments_judged takes.SomeTypes at ds h = some_judged at ds h
    arguments_judged takes.TokensAndType at ds h = tokens_judged at ds h

    known_judged : (o : Option Takes) (x : List ℕ) (name_at at : ℕ) (ds : Datums) → takes_named w x ≡ o → EachJudged ds
        → TypeJudges w (known_type_seen ps o x name_at at (types_seen w ps ds)) Any (parse_known ps o x name_at at (type_subs w ps ds))
    known_judged None x name_at at ds e h = then_given w (λ u. plain_type x) (type_name_judged w x name_at e)
    known_judged (Some t) x name_at at ds e h = then_given w (λ ts. specifier x (arg_trees_of ts) no_options) (arguments_judged t at ds h)

    found_judged : (o : Option (List ℕ)) (name_at at : ℕ) (ds : Datums) → EachJudged ds
        → TypeJudges w {A = TypeSpecTree} (elim o [ None ↦ wrong at | Some x ↦ known_type_seen ps (takes_named w x) x name_at at (types_seen w ps ds) ]) Any
        (elim o [ None ↦ refuse 6 at | Some x ↦ parse_named w ps x name_at at (type_subs w ps ds) ])
    found_judged None name_at at ds h = is_wrong w at
    found_judged (Some x) name_at at ds h = known_judged (takes_named w x) x name_at at ds refl h

    headed_judged : (at : ℕ) (d : Datum) (ds : Datums) → EachJudged ds
        → TypeJudges w (headed_type_seen w ps at d (types_seen w ps ds)) Any (parse_headed w ps at d (type_subs w ps ds))
    headed_judged at d ds h = found_judged (name_in d) (offset d) at ds h

    optioned_judged : (at : ℕ) (o : Option TypeOptions) (qs : List TypePart) (m : Load TypeSpecTree) → TypeJudges w qs Any m
        → TypeJudges w (optioned_type_seen at o qs) Any (parse_optioned at o m)
    optioned_judged at None qs m h = is_wrong w at
    optioned_judged at (Some o) qs m h = then_given w (with_options o) h

    options_judged : (at : ℕ) (qs : List TypePart) (m : Load TypeSpecTree) (ds : Datums) → TypeJudges w qs Any m
        → TypeJudges w (optioned_type_seen at (options_in (shapes_sighted (types_seen w ps ds))) qs) Any (parse_optioned at (options_in (shapes (type_subs w ps ds))) m)
    options_judged at qs m ds h =
        by_shapes (λ es. optioned_type_seen at (options_in es) qs) (λ es. parse_optioned at (options_in es) m) (λ es. optioned_judged at (options_in es) qs m h) ds

    -- ---- specifiers

    first_judged : (at : ℕ) (d : Datum) (more : Datums) → TypeJudges w (inner_type_seen w ps at d) Any (parse_inner w ps at d) → EachJudged more
        → TypeJudges w (first_type_seen w ps at d (inner_type_seen w ps at d) (types_seen w ps more)) Any (parse_first w ps at d (parse_inner w ps at d) (type_subs w ps more))
    first_judged at (list es inner_at) more i h = options_judged at (inner_type_seen w ps at (list es inner_at)) (parse_inner w ps at (list es inner_at)) more i
    first_judged at (word x name_at) more i h = headed_judged at (word x name_at) more h
    first_judged at (number z part_at) more i h = is_wrong w at
    first_judged at (literal s part_at) more i h = is_wrong w at
    first_judged at (quoted x part_at name_at) more i h = is_wrong w at
    first_judged at (stray part_at) more i h = is_wrong w at

    mutual
      pub type_judged : (d : Datum) → TypeJudges w (type_seen w ps d) Any (parse_type w ps d)
      type_judged (number z at) = is_wrong w at
      type_judged (literal s at) = is_wrong w at
      type_judged (word x at) =
          placed_judged (type_seen w ps (word x at)) ps at (parse_headed w ps at (word x at) []) (headed_judged at (word x at) none tt)
      type_judged (quoted x at name_at) = is_wrong w at
      type_judged (stray at) = is_wrong w at
      type_judged (list ds at) = placed_judged (type_seen w ps (list ds at)) ps at (parse_listed w ps at ds) (listed_judged at ds)

      listed_judged : (at : ℕ) (ds : Datums) → TypeJudges w (listed_type_seen w ps at ds) Any (parse_listed w ps at ds)
      listed_judged at none = is_wrong w at
      listed_judged at (item d more) = first_judged at d more (inner_judged at d) (types_judged more)

      inner_judged : (at : ℕ) (d : Datum) → TypeJudges w (inner_type_seen w ps at d) Any (parse_inner w ps at d)
      inner_judged at (list es inner_at) = parts_judged at es
      inner_judged at (number z part_at) = is_wrong w at
      inner_judged at (literal s part_at) = is_wrong w at
      inner_judged at (word x part_at) = is_wrong w at
      inner_judged at (quoted x part_at name_at) = is_wrong w at
      inner_judged at (stray part_at) = is_wrong w at

      parts_judged : (at : ℕ) (ds : Datums) → TypeJudges w (type_parts_seen w ps at ds) Any (parse_parts w ps at ds)
      parts_judged at none = is_wrong w at
      parts_judged at (item d more) = headed_judged at d more (types_judged more)

      types_judged : (ds : Datums) → EachJudged ds
      types_judged none = tt
      types_judged (item d ds) = (type_judged d, types_judged ds)
