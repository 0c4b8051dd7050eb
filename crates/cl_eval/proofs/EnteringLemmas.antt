-- A form that could be entered means what its parts mean, one level further down.
use Rattle.std.proofs.Common.{◌≡◌, ℕ, zero, suc, ◌+◌, ◌-◌, Bool, true, false, if◌then◌else◌, nat_le, arith}
use Rattle.cl_syntax.specs.ExprTree.{ExprTree}
use Rattle.cl_application.specs.declared.applications.App.{App}
use Rattle.cl_eval.specs.Outcome.{Outcome, Gives, Traps}
use Rattle.cl_eval.specs.Slots.{Slots, Env}
use Rattle.cl_eval.specs.Meaning.{entering, parts, means}

abbrev refused : Bool → ℕ → ℕ → Outcome (Unit {0})
refused b cost deepest = if b then Traps 5 cost deepest else Traps 6 cost deepest

pub no_entry : (b : Bool) (cost deepest c d : ℕ) → refused b cost deepest ≡ Gives tt c d → ⊥
no_entry true cost deepest c d p = cc
no_entry false cost deepest c d p = cc

pub means-entered : (left budget : ℕ) (app : App) (slots : Slots) (level : ℕ) (env : Env) (t : ExprTree) (cost deepest c d : ℕ)
    → entering left budget level cost deepest ≡ Gives tt c d
    → means left budget app slots level env t cost deepest ≡ parts app slots (means (left - 1) budget app slots) (level + 1) env t c d
means-entered zero budget app slots level env t cost deepest c d p = absurd (no_entry (nat_le budget cost) cost deepest c d p)
means-entered (suc n) budget app slots level env t cost deepest c d p =
    let less : suc n - 1 ≡ n = omega arith in
    rw (p, less)
