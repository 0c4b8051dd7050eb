-- Membership, by the kinds of values and by the first part of a type.
use Rattle.std.proofs.Common.{◌≡◌, ℕ, Bool, true, false, List, [], ◌∷◌, refl}
use Rattle.std.specs.Prelude.{Option, Some, None, ◌==◌, ◌||◌, if◌then◌else◌}
use Rattle.std.proofs.Common.{ap, sym, subst, ◌∙◌}
use Rattle.std.specs.Cmp.Lexicographic.{pointwise}
use Rattle.cl_syntax.specs.TypeSpecTree.{TypeSpecTree}
use Rattle.cl_syntax.specs.declared.type_decls.CommandType.{CommandType}
use Rattle.cl_table.specs.Names.{named}
use Rattle.cl_value.specs.Data.{Data, int, bool, text, symbol, null, list, rec}
use Rattle.cl_lattice.specs.Expanded.{Expanded, user}
use Rattle.cl_lattice.specs.Expansion.{declared_type, expansion, own_type}
use Rattle.cl_lattice.specs.Members.{Answers, asks, args_ask, any_command_asks, commands_ask, may_ask, inside, is_in, is_member}
use Rattle.cl_lattice.specs.World.{World, kind_in, kind_named}
use Rattle.cl_syntax.specs.StandardTypes.{standard_named}
use Rattle.cl_lattice.proofs.ExpansionLemmas.{own_is}
use Rattle.cl_lattice.specs.Arguments.{given}
use Rattle.cl_lattice.specs.Laws.{AllFit}
use Rattle.cl_lattice.specs.declared.declared_types.DeclaredType.{DeclaredType}
use Rattle.cl_lattice.specs.declared.declared_types.TypeKind.TheVariants as kind
use Rattle.cl_lattice.specs.declared.declared_types.UserType.{UserType}

-- a member of an expanded type is in it, with what its parts are members of
pub member_in : (w : World) (p : Answers) (d : Data) (t : Expanded) → is_member w p d t ≡ is_in w p d (inside w p d) t
member_in w p (int z) t = refl
member_in w p (bool b) t = refl
member_in w p (text s) t = refl
member_in w p (symbol s) t = refl
member_in w p null t = refl
member_in w p (list ds) t = refl
member_in w p (rec x ds) t = refl

-- ---- where predicates may be asked

or_true : (a b c : Bool) → (a ≡ true → c ≡ true) → (b ≡ true → c ≡ true) → (a || b) ≡ true → c ≡ true
or_true true b c f g h = f refl
or_true false b c f g h = g h

or_left : (a b : Bool) → a ≡ true → (a || b) ≡ true
or_left true b h = refl
or_left false b h = cc

or_right : (a b : Bool) → b ≡ true → (a || b) ≡ true
or_right true b h = refl
or_right false b h = h

-- what may ask does so in a command, or by itself
asks_either : (c : Bool) (t : Expanded) → asks c t ≡ true → (c || asks false t) ≡ true
asks_either true t h = refl
asks_either false t h = h

widened : (c a b : Bool) → (c || a) ≡ true → (c || (a || b)) ≡ true
widened true a b h = refl
widened false a b h = or_left a b h

-- an argument of which a predicate may be asked
pub arg_asks : (w : World) (s : TypeSpecTree) (ss : List TypeSpecTree) → may_ask w (expansion w [] s) ≡ true → (commands_ask w || args_ask w (s ∷ ss)) ≡ true
arg_asks w s ss h = widened (commands_ask w) (asks false (expansion w [] s)) (args_ask w ss) (asks_either (commands_ask w) (expansion w [] s) h)

-- later arguments of which a predicate may be asked
pub later_asks : (c a b : Bool) → (c || b) ≡ true → (c || (a || b)) ≡ true
later_asks true a b h = refl
later_asks false a b h = or_right a b h

some_same : {A : Type 0} (a b : A) → Some a ≡ Some b → a ≡ b
some_same a b e = ap (λ o. elim o [ None ↦ a | Some c ↦ c ]) e

by_test : (w : World) (x : List ℕ) (f : List ℕ × CommandType) (es : List (List ℕ × CommandType)) (c : CommandType) (b : Bool)
    → (if b then Some f.1 else named x es) ≡ Some c → args_ask w c.args ≡ true
    → (named x es ≡ Some c → any_command_asks w es ≡ true) → any_command_asks w (f ∷ es) ≡ true
by_test w x f es c true e h more = or_left (args_ask w f.1.args) (any_command_asks w es) (subst (λ (d : CommandType). args_ask w d.args ≡ true) (sym (some_same f.1 c e)) h)
by_test w x f es c false e h more = or_right (args_ask w f.1.args) (any_command_asks w es) (more e)

found_asks : (w : World) (x : List ℕ) (es : List (List ℕ × CommandType)) (c : CommandType) → named x es ≡ Some c → args_ask w c.args ≡ true → any_command_asks w es ≡ true
found_asks w x [] c e h = cc
found_asks w x (f ∷ es) c e h = by_test w x f es c (pointwise ◌==◌ x f.0) e h (λ more. found_asks w x es c more h)

-- the arguments of a command that is declared
pub command_asks : (w : World) (x : List ℕ) (c : CommandType) → named x w.commands ≡ Some c → (commands_ask w || args_ask w c.args) ≡ true → commands_ask w ≡ true
unfolding commands_ask
command_asks w x c e h = or_true (any_command_asks w w.commands) (args_ask w c.args) (any_command_asks w w.commands) (λ a. a) (λ a. found_asks w x w.commands c e a) h

-- a user type that is declared
pub declared_user : (w : World) → AllFit w → (x : List ℕ) → standard_named x ≡ None → (d : DeclaredType) (u : UserType) → Some d ≡ named x w.types → d.kind ≡ kind.User u
    → (vs : List (Option Data)) → declared_type (own_type w) (kind_named x w) x vs ≡ user x vs u.satisfies (expansion w (given u.parameters vs) u.inherit_from)
declared_user w f x plain d u e k vs =
    let found : kind_named x w ≡ Some (kind.User u) = ap kind_in (sym e) ∙ ap Some k in
    ap (λ o. declared_type (own_type w) o x vs) found ∙ own_is w f x u (record { own = plain; declared = found }) vs
