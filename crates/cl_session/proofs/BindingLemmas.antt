-- The arguments that are left at a place of their table, with their values.
use Rattle.std.proofs.Common.{◌≡◌, ℕ, zero, suc, drop, length, get_or, ◌<◌, List, [], ◌∷◌, refl, arith}
use Rattle.std.specs.Prelude.{Some, None, map}
use Rattle.cl_application.specs.declared.declarations.ArgumentDecl.{ArgumentDecl}
use Rattle.cl_eval.specs.Slots.{Env}
use Rattle.cl_session.specs.Runs.{bound}
use Rattle.cl_table.specs.Names.{declared_at}
use Rattle.cl_value.specs.Data.{Data}
use Rattle.cl_value.specs.Value.{data_of}
use Rattle.cl_value.specs.declared.Value.{Value}

-- one more is bound
pub bound_next : (t : List (List ℕ × ArgumentDecl)) (vs : List Value) (i : ℕ) (d : ArgumentDecl) (v : Value) (env : Env) → Some d ≡ declared_at i t → i < length vs
    → v ≡ get_or vs i v → bound (drop i t) (map data_of (drop i vs)) env ≡ bound (drop (suc i) t) (map data_of (drop (suc i) vs)) ((d.name, data_of v) ∷ env)
bound_next [] vs zero d v env h l e = cc
bound_next [] vs (suc i) d v env h l e = cc
bound_next (a ∷ t) [] i d v env h l e = absurd (omega (arith, l))
bound_next (a ∷ t) (w ∷ vs) zero d v env h l e = grind arith
bound_next (a ∷ t) (w ∷ vs) (suc i) d v env h l e = bound_next t vs i d v env h (omega (arith, l)) e

-- there are no arguments left
pub bound_none : (t : List (List ℕ × ArgumentDecl)) (ds : List Data) (i : ℕ) (env : Env) → None ≡ declared_at i t → bound (drop i t) ds env ≡ env
bound_none [] [] zero env h = refl
bound_none [] (d ∷ ds) zero env h = refl
bound_none [] [] (suc i) env h = refl
bound_none [] (d ∷ ds) (suc i) env h = refl
bound_none (a ∷ t) ds zero env h = cc
bound_none (a ∷ t) ds (suc i) env h = bound_none t ds i env h
