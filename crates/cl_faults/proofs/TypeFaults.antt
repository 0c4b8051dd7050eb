-- The faults of a type stand in it, or at the form that asks for it.
use Rattle.std.proofs.Common.{◌≡◌, inl, inr, ℕ, Bool, true, false, ◌==◌, if◌then◌else◌, List, [], ◌∷◌, length, refl, sym, ap}
use Rattle.std.specs.Prelude.{Option, Some, None, Result, Ok, Err, nat_le}
use Rattle.std.specs.Option.{IfSome}
use Rattle.std.specs.Result.{IfErr}
use Rattle.std.proofs.Math.Path.{subst}
use Rattle.cl_syntax.specs.TypeSpecTree.{TypeSpecTree, plain_type}
use Rattle.cl_syntax.specs.declared.type_specs.TypeOptions.{TypeOptions}
use Rattle.cl_forms.specs.Datum.{Datum, Datums, number, literal, word, quoted, stray, list, none, item, in_order, offset}
use Rattle.cl_forms.specs.Naming.{fits, name_in}
use Rattle.cl_words.specs.declared.signatures.Signatures.{Signatures}
use Rattle.cl_expressions.specs.Load.{Load, Fault, Notes, after, give, refuse, placed, with_specifier}
use Rattle.cl_expressions.specs.Scopes.{Names}
use Rattle.cl_bodies.specs.TypeArguments.{arguments_in, first_stray, is_stray, may_all_stand, options_in, tokens_in}
use Rattle.cl_bodies.specs.Specifiers.{parse_arguments, parse_at_most, parse_constants, parse_each_type, parse_first, parse_given, parse_headed, parse_inner}
use Rattle.cl_bodies.specs.Specifiers.{parse_known, parse_listed, parse_named, parse_nothing, parse_optioned, parse_parts}
use Rattle.cl_bodies.specs.Specifiers.{parse_token_type, parse_tokens_and_type, parse_type, shapes, takes_named, type_subs}
use Rattle.cl_bodies.specs.declared.specifiers.Takes.{Takes}
use Rattle.cl_bodies.specs.declared.specifiers.Takes.TheVariants as takes
use Rattle.cl_bodies.specs.declared.type_arguments.Wanted.{Wanted}
use Rattle.cl_bodies.specs.declared.type_arguments.Wanted.TheVariants as wanted
use Rattle.cl_faults.proofs.FaultLemmas.{FaultsAt, outcome, gives, refuses, notes_then, binds, chooses}
use Rattle.cl_faults.proofs.ExpressionFaults.{Covers, CoversAll, covers_offset}
use Rattle.cl_faults.proofs.DataFaults.{CoversEach, covers_order}

-- ---- what is noted of a specifier

same_read : {A : Type 0} (x y : A) → ◌≡◌ {A = Result A Fault} (Ok x) (Ok y) → x ≡ y
same_read x y h = cc

placed_outcome : (place : ℕ) (ps : Names) (at : ℕ) (r : Result (TypeSpecTree × Notes) Fault)
    → outcome (after r (λ spec later. Ok (spec, with_specifier place spec ps at later))) ≡ outcome r
placed_outcome place ps at (Ok x) = refl
placed_outcome place ps at (Err fault) = refl

placed_stand : (P : ℕ → Type 0) (place : ℕ) (ps : Names) (at : ℕ) (r : Result (TypeSpecTree × Notes) Fault) → IfErr r (λ fault. P fault.1)
    → IfErr (after r (λ spec later. Ok (spec, with_specifier place spec ps at later))) (λ fault. P fault.1)
placed_stand P place ps at (Ok x) h = tt
placed_stand P place ps at (Err fault) h = h

one_or : (P : ℕ → Type 0) (b : Bool) (at : ℕ) (o : Option ℕ) → P at → IfSome o P → IfSome (if b then Some at else o) P
one_or P true at o h k = h
one_or P false at o h k = k

stray_covered : (P : ℕ → Type 0) (ds : List Datum) → CoversEach P ds → IfSome (first_stray ds) P
stray_covered P [] c = tt
stray_covered P (d ∷ ds) c = one_or P (is_stray d) (offset d) (first_stray ds) (covers_offset d c.0) (stray_covered P ds c.1)

-- ---- the specifiers among the arguments

-- the faults of each stand at offsets of which P holds
abbrev EachFaults : (P : ℕ → Type 0) → Signatures → Names → Datums → Type 0
EachFaults P w ps none = Unit {0}
EachFaults P w ps (item d ds) = FaultsAt P (parse_type w ps d) × EachFaults P w ps ds

shapes_read : (w : Signatures) (ps : Names) (ds : Datums) → shapes (type_subs w ps ds) ≡ in_order ds
shapes_read w ps none = refl
shapes_read w ps (item d ds) = ap (λ es. d ∷ es) (shapes_read w ps ds)

module _ {P : ℕ → Type 0} where
  placed_faults : (ps : Names) (at : ℕ) (m : Load TypeSpecTree) → FaultsAt P m → FaultsAt P (placed ps at m)
  placed_faults ps at m h = record {
    steady = λ u v.
        rw (placed_outcome (length u.specifiers) ps at (m u), placed_outcome (length v.specifiers) ps at (m v)) (h.steady u v);
    stand = λ u. placed_stand P (length u.specifiers) ps at (m u) (h.stand u);
  }

  -- ---- constants

  told_faults : {A : Type 0} (x : A) (o : Option ℕ) → IfSome o P → FaultsAt P (elim o [ None ↦ give x | Some at ↦ refuse 6 at ])
  told_faults x None h = gives
  told_faults x (Some at) h = refuses h

  constants_faults : (ps : Names) (kind : Wanted) (at : ℕ) (ds : List Datum) → P at → CoversEach P ds → FaultsAt P (parse_constants ps kind at ds)
  constants_faults ps kind at ds h c =
      chooses (may_all_stand ps kind ds) (told_faults (arguments_in ps ds) (first_stray ds) (stray_covered P ds c)) (refuses h)

  at_most_faults : (most : ℕ) (ps : Names) (kind : Wanted) (at : ℕ) (ds : List Datum) → P at → CoversEach P ds
      → FaultsAt P (parse_at_most most ps kind at ds)
  at_most_faults most ps kind at ds h c = chooses (nat_le (length ds) most) (constants_faults ps kind at ds h c) (refuses h)

  given_faults : (count : Option ℕ) (ps : Names) (at : ℕ) (ds : List Datum) → P at → CoversEach P ds → FaultsAt P (parse_given count ps at ds)
  given_faults count ps at ds h c = chooses (fits count (length ds)) (constants_faults ps wanted.ConstantOrStar at ds h c) (refuses h)

  nothing_faults : (at : ℕ) (ds : List Datum) → P at → FaultsAt P (parse_nothing at ds)
  nothing_faults at [] h = gives
  nothing_faults at (d ∷ ds) h = refuses h

  -- ---- rows, where the faults of the specifiers among the arguments stand in them

  module _ (w : Signatures) (ps : Names) where
    by_shapes : {A : Type 0} (m : List Datum → Load A) (ds : Datums) → FaultsAt P (m (in_order ds)) → FaultsAt P (m (shapes (type_subs w ps ds)))
    by_shapes m ds h = subst (λ es. FaultsAt P (m es)) (sym (shapes_read w ps ds)) h

    each_faults : (ds : Datums) → EachFaults P w ps ds → FaultsAt P (parse_each_type (type_subs w ps ds))
    each_faults none e = gives
    each_faults (item d ds) e = binds e.0 λ t. binds (each_faults ds e.1) λ ts. gives

    token_faults : (at : ℕ) (o : Option (List (List ℕ))) (d : Datum) → P at → FaultsAt P (parse_type w ps d)
        → FaultsAt P (parse_token_type at o (record { shape = d; spec = parse_type w ps d }))
    token_faults at None d h e = refuses h
    token_faults at (Some xs) d h e = binds e λ t. gives

    tokens_faults : (at : ℕ) (ds : Datums) → P at → EachFaults P w ps ds → FaultsAt P (parse_tokens_and_type at (type_subs w ps ds))
    tokens_faults at none h e = refuses h
    tokens_faults at (item n none) h e = refuses h
    tokens_faults at (item n (item d none)) h e = token_faults at (tokens_in n) d h e.1.0
    tokens_faults at (item n (item d (item c ds))) h e = refuses h

    arguments_faults : (t : Takes) (at : ℕ) (ds : Datums) → P at → CoversEach P (in_order ds) → EachFaults P w ps ds
        → FaultsAt P (parse_arguments ps t at (type_subs w ps ds))
    arguments_faults takes.Nothing at ds h c e = by_shapes (parse_nothing at) ds (nothing_faults at (in_order ds) h)
    arguments_faults takes.Bounds at ds h c e =
        by_shapes (parse_at_most 2 ps wanted.NumberOrStar at) ds (at_most_faults 2 ps wanted.NumberOrStar at (in_order ds) h c)
    arguments_faults takes.Length at ds h c e = by_shapes (parse_at_most 1 ps wanted.Number at) ds (at_most_faults 1 ps wanted.Number at (in_order ds) h c)
    arguments_faults takes.Constants at ds h c e = by_shapes (parse_constants ps wanted.Constant at) ds (constants_faults ps wanted.Constant at (in_order ds) h c)
    arguments_faults (takes.Given count) at ds h c e = by_shapes (parse_given count ps at) ds (given_faults count ps at (in_order ds) h c)
    arguments_faults takes.OneType at ds h c e = chooses (length (type_subs w ps ds) == 1) (each_faults ds e) (refuses h)
    arguments_faults takes.SomeTypes at ds h c e = chooses (length (type_subs w ps ds) == 0) (refuses h) (each_faults ds e)
    arguments_faults takes.TokensAndType at ds h c e = tokens_faults at ds h e

    known_faults : (o : Option Takes) (x : List ℕ) (name_at at : ℕ) (ds : Datums) → P at → CoversEach P (in_order ds) → EachFaults P w ps ds
        → FaultsAt P (parse_known ps o x name_at at (type_subs w ps ds))
    known_faults None x name_at at ds h c e = notes_then false name_at (plain_type x)
    known_faults (Some t) x name_at at ds h c e = binds (arguments_faults t at ds h c e) λ ts. gives

    found_faults : (o : Option (List ℕ)) (name_at at : ℕ) (ds : Datums) → P at → CoversEach P (in_order ds) → EachFaults P w ps ds
        → FaultsAt {A = TypeSpecTree} P (elim o [ None ↦ refuse 6 at | Some x ↦ parse_named w ps x name_at at (type_subs w ps ds) ])
    found_faults None name_at at ds h c e = refuses h
    found_faults (Some x) name_at at ds h c e = known_faults (takes_named w x) x name_at at ds h c e

    headed_faults : (at : ℕ) (d : Datum) (ds : Datums) → P at → CoversEach P (in_order ds) → EachFaults P w ps ds
        → FaultsAt P (parse_headed w ps at d (type_subs w ps ds))
    headed_faults at d ds h c e = found_faults (name_in d) (offset d) at ds h c e

    optioned_faults : (at : ℕ) (o : Option TypeOptions) (m : Load TypeSpecTree) → P at → FaultsAt P m → FaultsAt P (parse_optioned at o m)
    optioned_faults at None m h e = refuses h
    optioned_faults at (Some o) m h e = binds e λ s. gives

    -- ---- specifiers

    first_faults : (at : ℕ) (d : Datum) (more : Datums) → P at → FaultsAt P (parse_inner w ps at d) → CoversEach P (in_order more) → EachFaults P w ps more
        → FaultsAt P (parse_first w ps at d (parse_inner w ps at d) (type_subs w ps more))
    first_faults at (list es inner_at) more h i c e = optioned_faults at (options_in (shapes (type_subs w ps more))) (parse_inner w ps at (list es inner_at)) h i
    first_faults at (word x name_at) more h i c e = headed_faults at (word x name_at) more h c e
    first_faults at (number z part_at) more h i c e = refuses h
    first_faults at (literal s part_at) more h i c e = refuses h
    first_faults at (quoted x part_at name_at) more h i c e = refuses h
    first_faults at (stray part_at) more h i c e = refuses h

    mutual
      specifier_faults : (d : Datum) → Covers P d → FaultsAt P (parse_type w ps d)
      specifier_faults (list ds at) c = placed_faults ps at (parse_listed w ps at ds) (listed_faults at ds (c at (inl refl)) (λ o s. c o (inr s)))
      specifier_faults (word x at) c = placed_faults ps at (parse_headed w ps at (word x at) []) (headed_faults at (word x at) none (c at refl) tt tt)
      specifier_faults (number z at) c = refuses (c at refl)
      specifier_faults (literal s at) c = refuses (c at refl)
      specifier_faults (quoted x at name_at) c = refuses (c at (inl refl))
      specifier_faults (stray at) c = refuses (c at refl)

      listed_faults : (at : ℕ) (ds : Datums) → P at → CoversAll P ds → FaultsAt P (parse_listed w ps at ds)
      listed_faults at none h c = refuses h
      listed_faults at (item d more) h c =
          first_faults at d more h (inner_faults at d h (λ o s. c o (inl s))) (covers_order more (λ o s. c o (inr s))) (types_faults more (λ o s. c o (inr s)))

      inner_faults : (at : ℕ) (d : Datum) → P at → Covers P d → FaultsAt P (parse_inner w ps at d)
      inner_faults at (list es inner_at) h c = parts_faults at es h (λ o s. c o (inr s))
      inner_faults at (number z part_at) h c = refuses h
      inner_faults at (literal s part_at) h c = refuses h
      inner_faults at (word x part_at) h c = refuses h
      inner_faults at (quoted x part_at name_at) h c = refuses h
      inner_faults at (stray part_at) h c = refuses h

      parts_faults : (at : ℕ) (ds : Datums) → P at → CoversAll P ds → FaultsAt P (parse_parts w ps at ds)
      parts_faults at none h c = refuses h
      parts_faults at (item d more) h c = headed_faults at d more h (covers_order more (λ o s. c o (inr s))) (types_faults more (λ o s. c o (inr s)))

      types_faults : (ds : Datums) → CoversAll P ds → EachFaults P w ps ds
      types_faults none c = tt
      types_faults (item d ds) c = (specifier_faults d (λ o s. c o (inl s)), types_faults ds (λ o s. c o (inr s)))

  pub type_faults : (w : Signatures) (ps : Names) (d : Datum) → Covers P d → FaultsAt P (parse_type w ps d)
  type_faults w ps d c = specifier_faults w ps d c
