-- Where members of a value are looked for, a number falls.
use Rattle.std.proofs.Common.{◌≡◌, ℕ, zero, suc, ◌+◌, ◌*◌, ◌<◌, ◌≤◌, Bool, true, false, List, [], ◌∷◌, ap, subst, arith}
use Rattle.std.specs.Prelude.{Some, None, ◌==◌, if◌then◌else◌}
use Rattle.std.specs.Cmp.Lexicographic.{pointwise}
use Rattle.cl_syntax.specs.declared.type_decls.CommandType.{CommandType}
use Rattle.cl_table.specs.Names.{named}
use Rattle.cl_lattice.specs.Weights.{all_weights, args_weight, falling, span}
use Rattle.cl_lattice.specs.World.{World}

times : (m n k : ℕ) → m ≤ n → m * k ≤ n * k
times zero n k l = omega arith
times (suc m) zero k l = absurd (omega arith)
times (suc m) (suc n) k l = omega (arith, times m n k (omega (arith, l)))

-- no larger a value, and less of a type
pub less_type : (w : World) (m n a b : ℕ) → m ≤ n → a < b → falling w m a < falling w n b
less_type w m n a b l s = omega (arith, times m n (span w) l, s)

-- a smaller value, and no more of a type than a command may have
pub less_value : (w : World) (m n a b : ℕ) → m < n → a < b + span w → falling w m a < falling w n b
less_value w m n a b l s = omega (arith, times (suc m) n (span w) (omega (arith, l)), s)

pub span_some : (w : World) → 0 < span w
unfolding span
span_some w = omega arith

some_same : {A : Type 0} (a b : A) → Some a ≡ Some b → a ≡ b
some_same a b e = ap (λ o. elim o [ None ↦ a | Some c ↦ c ]) e

by_test : (w : World) (x : List ℕ) (f : List ℕ × CommandType) (es : List (List ℕ × CommandType)) (c : CommandType) (b : Bool)
    → (if b then Some f.1 else named x es) ≡ Some c → (named x es ≡ Some c → args_weight w c.args ≤ all_weights w es)
    → args_weight w c.args ≤ all_weights w (f ∷ es)
by_test w x f es c true e more = subst (λ (d : CommandType). args_weight w d.args ≤ all_weights w (f ∷ es)) (some_same f.1 c e) (omega arith)
by_test w x f es c false e more = omega (arith, more e)

found_weight : (w : World) (x : List ℕ) (es : List (List ℕ × CommandType)) (c : CommandType) → named x es ≡ Some c → args_weight w c.args ≤ all_weights w es
found_weight w x [] c e = cc
found_weight w x (f ∷ es) c e = by_test w x f es c (pointwise ◌==◌ x f.0) e (λ more. found_weight w x es c more)

-- the arguments of a command that is declared
pub within_span : (w : World) (x : List ℕ) (c : CommandType) → named x w.commands ≡ Some c → 4 * args_weight w c.args + 3 < span w
unfolding span
within_span w x c e = omega (arith, found_weight w x w.commands c e)
