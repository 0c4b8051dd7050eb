-- How the logic stores a specifier.
use Rattle.std.proofs.Common.{◌≡◌, ℕ, refl, ap}
use Rattle.std.specs.Prelude.{List, Option}
use Rattle.std.proofs.lemmas.Bool.{eqb-false}
use Rattle.std.specs.Coded.{Coded, code_by, coded_list, coded_option, coded_ℕ, coded×}
use base.Stored.{Gv, gnil, gnum, gcons}
use Rattle.cl_value.specs.Data.{data_code}
use Rattle.cl_syntax.specs.Code.{head, tail, tag, has_parts, name_code, name_code-inj}
use Rattle.cl_syntax.specs.declared.type_specs.TypeOptions.{TypeOptions}
use Rattle.cl_syntax.specs.TypeSpecTree.{TypeSpecTree, specifier, TypeArgTree, Constant, Any, Param, Spec, Names, TypeArgTrees, none, argument}

-- how the logic stores options
abbrev pub coded_options : Coded TypeOptions
coded_options =
    code_by (Option (List ℕ) × Option ℕ) (coded× (coded_option (coded_list coded_ℕ)) (coded_option coded_ℕ)) (λ o. (o.description, o.separator))
    (λ p. record { description = p.0; separator = p.1 }) (λ _. refl)

-- how the logic stores a row of names
abbrev pub coded_names : Coded (List (List ℕ))
coded_names = coded_list (coded_list coded_ℕ)

-- the place of a kind of argument in its table
abbrev pub row : TypeArgTree → ℕ
row (Constant d) = 0
row Any = 1
row (Param x) = 2
row (Spec s) = 3
row (Names xs) = 4

abbrev mutual
  -- the term of a specifier
  pub code : TypeSpecTree → Gv
  code (specifier x ts o) = gcons (name_code x) (gcons (code_all ts) (coded_options.code o))

  -- the term of an argument
  pub code_arg : TypeArgTree → Gv
  code_arg (Constant d) = gcons (gnum 0) (data_code.code d)
  code_arg Any = gcons (gnum 1) gnil
  code_arg (Param x) = gcons (gnum 2) (name_code x)
  code_arg (Spec s) = gcons (gnum 3) (code s)
  code_arg (Names xs) = gcons (gnum 4) (coded_names.code xs)

  -- the term of a row of arguments
  pub code_all : TypeArgTrees → Gv
  code_all none = gnil
  code_all (argument a ts) = gcons (code_arg a) (code_all ts)

mutual
  -- specifiers of one term are one specifier
  pub code-inj : (s t : TypeSpecTree) → code s ≡ code t → s ≡ t
  code-inj (specifier x ts o) (specifier x' ts' o') p =
      let px : x ≡ x' = name_code-inj x x' (ap head p) in
      let pts : ts ≡ ts' = code_all-inj ts ts' (ap (λ g. head (tail g)) p) in
      let po : o ≡ o' = coded_options.inj o o' (ap (λ g. tail (tail g)) p) in
      λ i. specifier (px i) (pts i) (po i)

  -- arguments of one term are one argument
  pub code_arg-inj : (a b : TypeArgTree) → code_arg a ≡ code_arg b → a ≡ b
  code_arg-inj (Constant d) (Constant e) p = ap Constant (data_code.inj d e (ap tail p))
  code_arg-inj Any Any p = refl
  code_arg-inj (Param x) (Param y) p = ap Param (name_code-inj x y (ap tail p))
  code_arg-inj (Spec s) (Spec t) p = ap Spec (code-inj s t (ap tail p))
  code_arg-inj (Names xs) (Names ys) p = ap Names (coded_names.inj xs ys (ap tail p))
  code_arg-inj a b p = absurd (eqb-false (row a) (row b) refl (ap tag p))

  -- rows of one term are one row
  pub code_all-inj : (ts us : TypeArgTrees) → code_all ts ≡ code_all us → ts ≡ us
  code_all-inj none none p = refl
  code_all-inj (argument a ts) (argument b us) p =
      let first : a ≡ b = code_arg-inj a b (ap head p) in
      let rest : ts ≡ us = code_all-inj ts us (ap tail p) in
      λ i. argument (first i) (rest i)
  code_all-inj none (argument b us) p = absurd (eqb-false 0 1 refl (ap has_parts p))
  code_all-inj (argument a ts) none p = absurd (eqb-false 1 0 refl (ap has_parts p))

-- how the logic stores a specifier
abbrev pub coded_type_spec_tree : Coded TypeSpecTree
coded_type_spec_tree = record { code = code; inj = code-inj }

-- how the logic stores an argument
abbrev pub coded_type_arg_tree : Coded TypeArgTree
coded_type_arg_tree = record { code = code_arg; inj = code_arg-inj }
