-- Names that are read write their data.
use Rattle.std.proofs.Common.{◌≡◌, Bool, true, false, if◌then◌else◌, List, [], ◌∷◌, refl, ap}
use Rattle.std.specs.Prelude.{Some, None, is_some, map}
use Rattle.std.proofs.Math.Path.{subst}
use Rattle.cl_forms.specs.Datum.{Datum, number, literal, word, quoted, stray, list, in_order, parts_of}
use Rattle.cl_forms.specs.Naming.{name_in, are_names, symbol_of}
use Rattle.cl_expressions.specs.Scopes.{Names}
use Rattle.cl_bodies.specs.TypeArguments.{tokens_in}
use Rattle.cl_declare.specs.Names.{names_of, is_name_list}
use Rattle.cl_grammar.proofs.Spelled.{false_true, both_parts, name_is, some_same, nothing_found}
use Rattle.cl_text_grammar.specs.WritesNames.{WritesNames, no_name, one_name, WritesNameList, a_name_list}

pub names_written : (ds : List Datum) → are_names ds ≡ true → WritesNames (names_of ds) ds
names_written [] e = no_name
names_written (d ∷ ds) e =
    let parts : (is_some (name_in d) ≡ true) × (are_names ds ≡ true) = both_parts (is_some (name_in d)) (are_names ds) e in
    one_name (name_is d parts.0) (names_written ds parts.1)

pub name_list_written : (d : Datum) → is_name_list d ≡ true → WritesNameList (names_of (parts_of d)) d
name_list_written (list ds at) e = a_name_list (names_written (in_order ds) e)
name_list_written (number z at) e = absurd (false_true e)
name_list_written (literal s at) e = absurd (false_true e)
name_list_written (word s at) e = absurd (false_true e)
name_list_written (quoted s at name_at) e = absurd (false_true e)
name_list_written (stray at) e = absurd (false_true e)

-- the tokens of a list of names
symbols_of : (ds : List Datum) → names_of ds ≡ map symbol_of ds
symbols_of [] = refl
symbols_of (d ∷ ds) = ap (λ xs. symbol_of d ∷ xs) (symbols_of ds)

found_written : (b : Bool) (xs ys : Names) (d : Datum) → (b ≡ true → WritesNameList xs d) → (if b then Some xs else None) ≡ Some ys → WritesNameList ys d
found_written true xs ys d h e = subst (λ zs. WritesNameList zs d) (some_same e) (h refl)
found_written false xs ys d h e = absurd (nothing_found e)

pub tokens_written : (d : Datum) (xs : Names) → tokens_in d ≡ Some xs → WritesNameList xs d
tokens_written (list ds at) xs e =
    found_written (are_names (in_order ds)) (map symbol_of (in_order ds)) xs (list ds at)
    (λ h. a_name_list (subst (λ ys. WritesNames ys (in_order ds)) (symbols_of (in_order ds)) (names_written (in_order ds) h))) e
tokens_written (number z at) xs e = absurd (nothing_found e)
tokens_written (literal s at) xs e = absurd (nothing_found e)
tokens_written (word s at) xs e = absurd (nothing_found e)
tokens_written (quoted s at name_at) xs e = absurd (nothing_found e)
tokens_written (stray at) xs e = absurd (nothing_found e)
