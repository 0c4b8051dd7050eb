-- What is read of a datum as a type specifier writes it.
use Rattle.std.proofs.Common.{◌≡◌, ℕ, suc, true, false, List, [], ◌∷◌, refl, sym, ap, IfOk, ◌≤◌, nat_le, arith}
use Rattle.std.proofs.lemmas.Bool.Decides.{nat_tests}
use Rattle.std.specs.Prelude.{Result, Ok, Err, Option, Some, None, ◌==◌, length}
use Rattle.std.proofs.Math.Path.{subst}
use Rattle.cl_syntax.specs.TypeSpecTree.{TypeSpecTree, TypeArgTree, arg_trees_of}
use Rattle.cl_syntax.specs.declared.type_specs.TypeOptions.{TypeOptions}
use Rattle.cl_forms.specs.Datum.{Datum, Datums, number, literal, word, quoted, stray, list, none, item, in_order, offset}
use Rattle.cl_forms.specs.Naming.{fits, name_in}
use Rattle.cl_words.specs.declared.signatures.Signatures.{Signatures}
use Rattle.cl_expressions.specs.Load.{Load, Notes, Fault, after, refuse, placed, with_specifier}
use Rattle.cl_expressions.specs.Scopes.{Names}
use Rattle.cl_bodies.specs.Specifiers.{TypeSub, takes_named, shapes, parse_at_most, parse_given, parse_each_type, parse_nothing, parse_one_type, parse_some_types}
use Rattle.cl_bodies.specs.Specifiers.{parse_token_type, parse_tokens_and_type, parse_arguments, parse_known, parse_named, parse_headed, with_options}
use Rattle.cl_bodies.specs.Specifiers.{parse_optioned, parse_first, parse_type, parse_listed, parse_inner, parse_parts, type_subs}
use Rattle.cl_bodies.specs.TypeArguments.{tokens_in, options_in}
use Rattle.cl_bodies.specs.declared.specifiers.Takes.{Takes}
use Rattle.cl_bodies.specs.declared.specifiers.Takes.TheVariants as takes
use Rattle.cl_bodies.specs.declared.type_arguments.Wanted.{Wanted}
use Rattle.cl_bodies.specs.declared.type_arguments.Wanted.TheVariants as wanted
use Rattle.cl_grammar.proofs.Endings.{Ends, gives, refuses, chooses, notes_then, binds, ends_weaker}
use Rattle.cl_text_grammar.specs.WritesTypes.{WritesArguments, WritesType, a_name, a_list, with_its_options}
use Rattle.cl_text_grammar.specs.WritesTypes.{WritesNamed, a_known_type, an_unknown_type, WritesBehind, nothing, its_bounds, its_length, its_constants}
use Rattle.cl_text_grammar.specs.WritesTypes.{all_given, one_type, some_types, tokens_and_type, WritesTypes, no_more_types, one_more_type}
use Rattle.cl_text_grammar.proofs.ArgumentsWritten.{constants_end}
use Rattle.cl_text_grammar.proofs.NamesWritten.{tokens_written}

-- ---- what is noted of a specifier changes nothing of it

module _ (Q : TypeSpecTree → Type 0) (ps : Names) (at : ℕ) where
  after_placed : (place : ℕ) (r : Result (TypeSpecTree × Notes) Fault) → IfOk r (λ x. Q x.0)
      → IfOk (after r λ spec later. Ok (spec, with_specifier place spec ps at later)) (λ x. Q x.0)
  after_placed place (Ok x) h = h
  after_placed place (Err fault) h = tt

  pub placed_ends : (m : Load TypeSpecTree) → Ends Q m → Ends Q (placed ps at m)
  placed_ends m h = record { ends = λ u. after_placed (length u.specifiers) (m u) (h.ends u) }

-- ---- counts

not_nothing : (n : ℕ) → (suc n == 0) ≡ true → ⊥
not_nothing n e = grind (arith, nat_tests, e)

not_one : (n : ℕ) → (suc (suc n) == 1) ≡ true → ⊥
not_one n e = grind (arith, nat_tests, e)

fits_most : (n most : ℕ) → nat_le n most ≡ true → n ≤ most
fits_most n most e = grind (arith, nat_tests, e)

-- ---- what stands behind the name of a type

module _ (w : Signatures) (ps : Names) where
  -- what is read of an argument as a specifier writes it
  record WrittenSub (s : TypeSub) : Type 0 where
    spec : Ends (λ t. WritesType w ps t s.shape) s.spec

  abbrev WrittenSubs : List TypeSub → Type 0
  WrittenSubs [] = Unit {0}
  WrittenSubs (s ∷ subs) = WrittenSub s × WrittenSubs subs

  each_type_ends : (subs : List TypeSub) → WrittenSubs subs → Ends (λ ts. WritesTypes w ps (arg_trees_of ts) (shapes subs)) (parse_each_type subs)
  each_type_ends [] k = gives no_more_types
  each_type_ends (s ∷ subs) k = binds k.0.spec λ t i. binds (each_type_ends subs k.1) λ ts j. gives (one_more_type i j)

  -- what is read writes what stands behind the name
  abbrev BehindEnds : Takes → List TypeSub → Load (List TypeArgTree) → Type 0
  BehindEnds t subs m = Ends (λ ts. WritesBehind w ps t (arg_trees_of ts) (shapes subs)) m

  nothing_ends : (at : ℕ) (ds : List Datum) → Ends (λ ts. WritesBehind w ps takes.Nothing (arg_trees_of ts) ds) (parse_nothing at ds)
  nothing_ends at [] = gives nothing
  nothing_ends at (d ∷ ds) = refuses

  at_most_ends : (most : ℕ) (kind : Wanted) (t : Takes) (at : ℕ) (ds : List Datum)
      → ((ts : List TypeArgTree) → length ds ≤ most → WritesArguments ps kind (arg_trees_of ts) ds → WritesBehind w ps t (arg_trees_of ts) ds)
      → Ends (λ ts. WritesBehind w ps t (arg_trees_of ts) ds) (parse_at_most most ps kind at ds)
  at_most_ends most kind t at ds h =
      chooses (nat_le (length ds) most) (λ e. ends_weaker (λ ts i. h ts (fits_most (length ds) most e) i) (constants_end ps kind at ds)) (λ e. refuses)

  given_ends : (count : Option ℕ) (at : ℕ) (ds : List Datum) → Ends (λ ts. WritesBehind w ps (takes.Given count) (arg_trees_of ts) ds) (parse_given count ps at ds)
  given_ends count at ds =
      chooses (fits count (length ds)) (λ e. ends_weaker (λ ts i. all_given e i) (constants_end ps wanted.ConstantOrStar at ds)) (λ e. refuses)

  one_type_ends : (at : ℕ) (subs : List TypeSub) → WrittenSubs subs → BehindEnds takes.OneType subs (parse_one_type at subs)
  one_type_ends at [] k = refuses
  one_type_ends at (s ∷ []) k = binds k.0.spec λ t i. record { ends = λ u. one_type i }
  one_type_ends at (s ∷ r ∷ subs) k = chooses (length (s ∷ r ∷ subs) == 1) (λ e. absurd (not_one (length subs) e)) (λ e. refuses)

  some_types_end : (at : ℕ) (subs : List TypeSub) → WrittenSubs subs → BehindEnds takes.SomeTypes subs (parse_some_types at subs)
  some_types_end at [] k = refuses
  some_types_end at (s ∷ subs) k =
      chooses (length (s ∷ subs) == 0) (λ e. absurd (not_nothing (length subs) e)) (λ e. ends_weaker (λ ts i. some_types i) (each_type_ends (s ∷ subs) k))

  token_type_ends : (at : ℕ) (n s : TypeSub) (o : Option Names) → tokens_in n.shape ≡ o → WrittenSub s
      → BehindEnds takes.TokensAndType (n ∷ s ∷ []) (parse_token_type at o s)
  token_type_ends at n s None e k = refuses
  token_type_ends at n s (Some xs) e k = binds k.spec λ t i. gives (tokens_and_type (tokens_written n.shape xs e) i)

  tokens_and_type_ends : (at : ℕ) (subs : List TypeSub) → WrittenSubs subs → BehindEnds takes.TokensAndType subs (parse_tokens_and_type at subs)
  tokens_and_type_ends at (n ∷ s ∷ []) k = token_type_ends at n s (tokens_in n.shape) refl k.1.0
  tokens_and_type_ends at [] k = refuses
  tokens_and_type_ends at (n ∷ []) k = refuses
  tokens_and_type_ends at (n ∷ s ∷ r ∷ subs) k = refuses

  arguments_end : (t : Takes) (at : ℕ) (subs : List TypeSub) → WrittenSubs subs → BehindEnds t subs (parse_arguments ps t at subs)
  arguments_end takes.Nothing at subs k = nothing_ends at (shapes subs)
  arguments_end takes.Bounds at subs k = at_most_ends 2 wanted.NumberOrStar takes.Bounds at (shapes subs) (λ ts e i. its_bounds e i)
  arguments_end takes.Length at subs k = at_most_ends 1 wanted.Number takes.Length at (shapes subs) (λ ts e i. its_length e i)
  arguments_end takes.Constants at subs k = ends_weaker (λ ts i. its_constants i) (constants_end ps wanted.Constant at (shapes subs))
  arguments_end (takes.Given count) at subs k = given_ends count at (shapes subs)
  arguments_end takes.OneType at subs k = one_type_ends at subs k
  arguments_end takes.SomeTypes at subs k = some_types_end at subs k
  arguments_end takes.TokensAndType at subs k = tokens_and_type_ends at subs k

  -- ---- types by their names

  -- what is read writes the name with what stands behind it
  abbrev NamedEnds : Datum → List TypeSub → Load TypeSpecTree → Type 0
  NamedEnds n subs m = Ends (λ t. WritesNamed w ps t (n ∷ shapes subs)) m

  known_ends : (o : Option Takes) (x : List ℕ) (n : Datum) (name_at at : ℕ) (subs : List TypeSub) → name_in n ≡ Some x → takes_named w x ≡ o
      → WrittenSubs subs → NamedEnds n subs (parse_known ps o x name_at at subs)
  known_ends None x n name_at at subs e f k = notes_then false name_at (gives (an_unknown_type e f))
  known_ends (Some t) x n name_at at subs e f k = binds (arguments_end t at subs k) λ ts i. gives (a_known_type e f i)

  found_ends : (o : Option (List ℕ)) (n : Datum) (at : ℕ) (subs : List TypeSub) → name_in n ≡ o → WrittenSubs subs
      → NamedEnds n subs (elim o [ None ↦ refuse 6 at | Some x ↦ parse_named w ps x (offset n) at subs ])
  found_ends None n at subs e k = refuses
  found_ends (Some x) n at subs e k = known_ends (takes_named w x) x n (offset n) at subs e refl k

  headed_ends : (n : Datum) (at : ℕ) (subs : List TypeSub) → WrittenSubs subs → NamedEnds n subs (parse_headed w ps at n subs)
  headed_ends n at subs k = found_ends (name_in n) n at subs refl k

  -- ---- lists by their first part

  shapes_subs : (ds : Datums) → shapes (type_subs w ps ds) ≡ in_order ds
  shapes_subs none = refl
  shapes_subs (item d ds) = ap (λ es. d ∷ es) (shapes_subs ds)

  -- what is read of a name and the data behind it writes them
  listed_named : (n : Datum) (more : Datums) (m : Load TypeSpecTree) → NamedEnds n (type_subs w ps more) m
      → Ends (λ t. WritesNamed w ps t (n ∷ in_order more)) m
  listed_named n more m h = subst (λ ds. Ends (λ t. WritesNamed w ps t (n ∷ ds)) m) (shapes_subs more) h

  -- what is read of a list of a name and arguments writes it
  abbrev InnerEnds : Datum → Load TypeSpecTree → Type 0
  InnerEnds (list es inner_at) m = Ends (λ t. WritesNamed w ps t (in_order es)) m
  InnerEnds (number z at) m = Unit {0}
  InnerEnds (literal s at) m = Unit {0}
  InnerEnds (word x at) m = Unit {0}
  InnerEnds (quoted x at name_at) m = Unit {0}
  InnerEnds (stray at) m = Unit {0}

  optioned : (t : TypeSpecTree) (o : TypeOptions) (parts : List Datum) (es ds : Datums) (inner_at at : ℕ) → parts ≡ in_order es → WritesNamed w ps t parts
      → options_in (in_order ds) ≡ Some o → WritesType w ps (with_options o t) (list (item (list es inner_at) ds) at)
  optioned t o parts es ds inner_at at p (a_known_type e f i) g =
      with_its_options (subst (WritesNamed w ps _) p (a_known_type e f i)) g
  optioned t o parts es ds inner_at at p (an_unknown_type e f) g = with_its_options (subst (WritesNamed w ps _) p (an_unknown_type e f)) g

  optioned_ends : (o : Option TypeOptions) (es ds : Datums) (inner_at at : ℕ) (inner : Load TypeSpecTree) → options_in (in_order ds) ≡ o
      → Ends (λ t. WritesNamed w ps t (in_order es)) inner
      → Ends (λ t. WritesType w ps t (list (item (list es inner_at) ds) at)) (parse_optioned at o inner)
  optioned_ends None es ds inner_at at inner e h = refuses
  optioned_ends (Some o) es ds inner_at at inner e h = binds h λ t i. gives (optioned t o (in_order es) es ds inner_at at refl i e)

  first_ends : (d : Datum) (more : Datums) (at : ℕ) (inner : Load TypeSpecTree) → InnerEnds d inner → WrittenSubs (type_subs w ps more)
      → Ends (λ t. WritesType w ps t (list (item d more) at)) (parse_first w ps at d inner (type_subs w ps more))
  first_ends (list es inner_at) more at inner h k =
      optioned_ends (options_in (shapes (type_subs w ps more))) es more inner_at at inner (ap options_in (sym (shapes_subs more))) h
  first_ends (word x name_at) more at inner h k =
      ends_weaker (λ t i. a_list i)
      (listed_named (word x name_at) more (parse_headed w ps at (word x name_at) (type_subs w ps more)) (headed_ends (word x name_at) at (type_subs w ps more) k))
  first_ends (number z part_at) more at inner h k = refuses
  first_ends (literal s part_at) more at inner h k = refuses
  first_ends (quoted x part_at name_at) more at inner h k = refuses
  first_ends (stray part_at) more at inner h k = refuses

  -- ---- specifiers

  mutual
    pub type_ends : (d : Datum) → Ends (λ t. WritesType w ps t d) (parse_type w ps d)
    type_ends (list ds at) = placed_ends (λ t. WritesType w ps t (list ds at)) ps at (parse_listed w ps at ds) (listed_ends ds at)
    type_ends (word x at) =
        placed_ends (λ t. WritesType w ps t (word x at)) ps at (parse_headed w ps at (word x at) [])
        (ends_weaker (λ t i. a_name i) (headed_ends (word x at) at [] tt))
    type_ends (number z at) = refuses
    type_ends (literal s at) = refuses
    type_ends (quoted x at name_at) = refuses
    type_ends (stray at) = refuses

    listed_ends : (ds : Datums) (at : ℕ) → Ends (λ t. WritesType w ps t (list ds at)) (parse_listed w ps at ds)
    listed_ends none at = refuses
    listed_ends (item d more) at = first_ends d more at (parse_inner w ps at d) (inner_ends d at) (subs_written more)

    inner_ends : (d : Datum) (at : ℕ) → InnerEnds d (parse_inner w ps at d)
    inner_ends (list es inner_at) at = parts_end es at
    inner_ends (number z part_at) at = tt
    inner_ends (literal s part_at) at = tt
    inner_ends (word x part_at) at = tt
    inner_ends (quoted x part_at name_at) at = tt
    inner_ends (stray part_at) at = tt

    parts_end : (es : Datums) (at : ℕ) → Ends (λ t. WritesNamed w ps t (in_order es)) (parse_parts w ps at es)
    parts_end none at = refuses
    parts_end (item n more) at =
        listed_named n more (parse_headed w ps at n (type_subs w ps more)) (headed_ends n at (type_subs w ps more) (subs_written more))

    subs_written : (ds : Datums) → WrittenSubs (type_subs w ps ds)
    subs_written none = tt
    subs_written (item d ds) = (record { spec = type_ends d }, subs_written ds)
