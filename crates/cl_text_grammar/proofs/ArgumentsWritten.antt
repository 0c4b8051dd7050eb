-- What is read of the arguments of a type that are no specifiers writes them.
use Rattle.std.proofs.Common.{◌≡◌, ℕ, Bool, true, false, if◌then◌else◌, List, [], ◌∷◌, refl, sym, ◌∙◌}
use Rattle.std.specs.Prelude.{Option, Some, None, is_some, codes}
use Rattle.std.specs.Str.{bytes_eq}
use Rattle.std.proofs.Math.Path.{subst}
use Rattle.cl_value.specs.Data.{Data, int, bool, text, symbol, null}
use Rattle.cl_table.specs.Names.{place_of}
use Rattle.cl_syntax.specs.TypeSpecTree.{TypeArgTree, Constant, Any, Param, arg_trees_of}
use Rattle.cl_forms.specs.Datum.{Datum, number, literal, word, quoted, stray, list, offset}
use Rattle.cl_forms.specs.Words.{is_key}
use Rattle.cl_expressions.specs.Load.{give, refuse}
use Rattle.cl_expressions.specs.Scopes.{Names}
use Rattle.cl_bodies.specs.Specifiers.{parse_constants}
use Rattle.cl_bodies.specs.TypeArguments.{word_constant, argument_in, is_number, is_wanted, is_stray, may_all_stand, first_stray}
use Rattle.cl_bodies.specs.TypeArguments.{may_stand, argument_before, arguments_in}
use Rattle.cl_bodies.specs.declared.type_arguments.Wanted.{Wanted}
use Rattle.cl_bodies.specs.declared.type_arguments.Wanted.TheVariants as wanted
use Rattle.cl_grammar.proofs.Spelled.{false_true, both_parts, same_word, nothing_found}
use Rattle.cl_grammar.proofs.Endings.{Ends, gives, refuses, chooses}
use Rattle.cl_text_grammar.specs.WritesTypes.{WritesConstant, a_number, a_text, a_quoted_name, the_true, the_false, the_null, a_symbol}
use Rattle.cl_text_grammar.specs.WritesTypes.{WritesArgument, a_parameter, a_bound, no_bound, a_length, a_constant, a_given, none_given}
use Rattle.cl_text_grammar.specs.WritesTypes.{WritesArguments, no_more, one_more}

true_false : true ≡ false → ⊥
true_false h = cc

-- the argument is there, and writes the datum
record Made (ps : Names) (kind : Wanted) (d : Datum) (o : Option TypeArgTree) : Type 0 where
  argument : TypeArgTree
  made : o ≡ Some argument
  written : WritesArgument ps kind argument d

-- it is so where the argument may stand, and is no stray quote
record Stands (ps : Names) (kind : Wanted) (d : Datum) (o : Option TypeArgTree) : Type 0 where
  stands : elim o [ None ↦ is_stray d | Some a ↦ is_wanted kind a ] ≡ true → is_stray d ≡ false → Made ps kind d o

module _ (ps : Names) (d : Datum) where
  either : (kind : Wanted) (b : Bool) {o p : Option TypeArgTree} → (b ≡ true → Stands ps kind d o) → (b ≡ false → Stands ps kind d p)
      → Stands ps kind d (if b then o else p)
  either kind true h k = h refl
  either kind false h k = k refl

  constant_stands : (kind : Wanted) (v : Data) → is_number v ≡ false → WritesConstant ps v d → Stands ps kind d (Some (Constant v))
  constant_stands wanted.NumberOrStar v n h = record { stands = λ e f. absurd (true_false (sym e ∙ n)) }
  constant_stands wanted.Number v n h = record { stands = λ e f. absurd (true_false (sym e ∙ n)) }
  constant_stands wanted.Constant v n h = record { stands = λ e f. record { argument = Constant v; made = refl; written = a_constant h } }
  constant_stands wanted.ConstantOrStar v n h = record { stands = λ e f. record { argument = Constant v; made = refl; written = a_given h } }

module _ (ps : Names) (x : List ℕ) (at : ℕ) where
  -- as another word
  as_word : (v : Data) (y : List ℕ) → bytes_eq x y ≡ true → WritesConstant ps v (word y at) → WritesConstant ps v (word x at)
  as_word v y e h = subst (λ z. WritesConstant ps v (word z at)) (sym (same_word x y e)) h

  parameter_stands : (kind : Wanted) → is_some (place_of x ps) ≡ true → Stands ps kind (word x at) (Some (Param x))
  parameter_stands kind e = record { stands = λ f g. record { argument = Param x; made = refl; written = a_parameter e } }

  star_stands : (kind : Wanted) → bytes_eq x (codes "*") ≡ true → Stands ps kind (word x at) (Some Any)
  star_stands wanted.NumberOrStar e =
      record {
        stands = λ f g. record {
          argument = Any;
          made = refl;
          written = subst (λ z. WritesArgument ps wanted.NumberOrStar Any (word z at)) (sym (same_word x (codes "*") e)) no_bound;
        };
      }
  star_stands wanted.Number e = record { stands = λ f g. absurd (false_true f) }
  star_stands wanted.Constant e = record { stands = λ f g. absurd (false_true f) }
  star_stands wanted.ConstantOrStar e =
      record {
        stands = λ f g. record {
          argument = Any;
          made = refl;
          written = subst (λ z. WritesArgument ps wanted.ConstantOrStar Any (word z at)) (sym (same_word x (codes "*") e)) none_given;
        };
      }

  constant_word_stands : (kind : Wanted) → is_some (place_of x ps) ≡ false → bytes_eq x (codes "*") ≡ false
      → Stands ps kind (word x at) (word_constant x)
  constant_word_stands kind p s =
      either ps (word x at) kind (bytes_eq x (codes "true"))
      (λ e. constant_stands ps (word x at) kind (bool true) refl (as_word (bool true) (codes "true") e the_true)) λ e.
      either ps (word x at) kind (bytes_eq x (codes "false"))
      (λ f. constant_stands ps (word x at) kind (bool false) refl (as_word (bool false) (codes "false") f the_false)) λ f.
      either ps (word x at) kind (bytes_eq x (codes "null"))
      (λ g. constant_stands ps (word x at) kind null refl (as_word null (codes "null") g the_null)) λ g.
      either ps (word x at) kind (is_key x) (λ k. record { stands = λ h i. absurd (false_true h) }) λ k.
      constant_stands ps (word x at) kind (symbol x) refl
      (a_symbol (record { is_no_parameter = p; is_no_star = s; is_not_true = e; is_not_false = f; is_not_null = g; is_no_key = k }))

  word_stands : (kind : Wanted) → Stands ps kind (word x at) (argument_in ps (word x at))
  word_stands kind =
      either ps (word x at) kind (is_some (place_of x ps)) (λ e. parameter_stands kind e) λ e.
      either ps (word x at) kind (bytes_eq x (codes "*")) (λ f. star_stands kind f) λ f. constant_word_stands kind e f

module _ (ps : Names) where
  argument_stands : (kind : Wanted) (d : Datum) → Stands ps kind d (argument_in ps d)
  argument_stands wanted.NumberOrStar (number z at) = record { stands = λ e f. record { argument = Constant (int z); made = refl; written = a_bound } }
  argument_stands wanted.Number (number z at) = record { stands = λ e f. record { argument = Constant (int z); made = refl; written = a_length } }
  argument_stands wanted.Constant (number z at) =
      record { stands = λ e f. record { argument = Constant (int z); made = refl; written = a_constant a_number } }
  argument_stands wanted.ConstantOrStar (number z at) =
      record { stands = λ e f. record { argument = Constant (int z); made = refl; written = a_given a_number } }
  argument_stands kind (literal s at) = constant_stands ps (literal s at) kind (text s) refl a_text
  argument_stands kind (word x at) = word_stands ps x at kind
  argument_stands kind (quoted x at name_at) = constant_stands ps (quoted x at name_at) kind (symbol x) refl a_quoted_name
  argument_stands kind (stray at) = record { stands = λ e f. absurd (true_false f) }
  argument_stands kind (list ds at) = record { stands = λ e f. absurd (false_true e) }

  -- the first is no stray quote, and none is behind it
  none_stray : (b : Bool) (at : ℕ) (o : Option ℕ) → (if b then Some at else o) ≡ None → (b ≡ false) × (o ≡ None)
  none_stray true at o e = absurd (nothing_found (sym e))
  none_stray false at o e = (refl, e)

  made_first : (kind : Wanted) (d : Datum) (ds : List Datum) (rest : List TypeArgTree) → Made ps kind d (argument_in ps d)
      → WritesArguments ps kind (arg_trees_of rest) ds
      → WritesArguments ps kind (arg_trees_of (argument_before (argument_in ps d) rest)) (d ∷ ds)
  made_first kind d ds rest a h =
      subst (λ o. WritesArguments ps kind (arg_trees_of (argument_before o rest)) (d ∷ ds)) (sym a.made) (one_more a.written h)

  arguments_written : (kind : Wanted) (ds : List Datum) → may_all_stand ps kind ds ≡ true → first_stray ds ≡ None
      → WritesArguments ps kind (arg_trees_of (arguments_in ps ds)) ds
  arguments_written kind [] e f = no_more
  arguments_written kind (d ∷ ds) e f =
      let may : (may_stand ps kind d ≡ true) × (may_all_stand ps kind ds ≡ true) = both_parts (may_stand ps kind d) (may_all_stand ps kind ds) e in
      let none_is : (is_stray d ≡ false) × (first_stray ds ≡ None) = none_stray (is_stray d) (offset d) (first_stray ds) f in
      made_first kind d ds (arguments_in ps ds) ((argument_stands kind d).stands may.0 none_is.0) (arguments_written kind ds may.1 none_is.1)

  unless_stray : (kind : Wanted) (ds : List Datum) (o : Option ℕ) → first_stray ds ≡ o → may_all_stand ps kind ds ≡ true
      → Ends (λ ts. WritesArguments ps kind (arg_trees_of ts) ds)
      (elim o [ None ↦ give (arguments_in ps ds) | Some stray_at ↦ refuse 6 stray_at ])
  unless_stray kind ds None e f = gives (arguments_written kind ds f e)
  unless_stray kind ds (Some stray_at) e f = refuses

  pub constants_end : (kind : Wanted) (at : ℕ) (ds : List Datum) → Ends (λ ts. WritesArguments ps kind (arg_trees_of ts) ds) (parse_constants ps kind at ds)
  constants_end kind at ds = chooses (may_all_stand ps kind ds) (λ e. unless_stray kind ds (first_stray ds) refl e) (λ e. refuses)
