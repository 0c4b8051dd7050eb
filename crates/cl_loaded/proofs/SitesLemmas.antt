-- Updates whose sites lie one behind another.
use Rattle.std.proofs.Common.{◌≡◌, ◌∙◌, ◌≤◌, ◌<◌, ◌+◌, ◌⊎◌, inl, inr, ℕ, sym, ap, subst, arith}
use Rattle.std.specs.Prelude.{Option, Some}
use Rattle.cl_syntax.specs.ExprTree.{ExprTrees}
use Rattle.cl_syntax.specs.ShapeTree.{ShapeTrees}
use Rattle.cl_syntax.specs.UpdateTree.{UpdateTree}
use Rattle.cl_syntax.specs.declared.sites.Site.{Site}
use Rattle.cl_reuse.specs.Sited.{IsThat, Sited}

-- the place of a site in a text
abbrev pub form_of : Site → ℕ
form_of s = s.form

-- the query of a dialog whose line it is
abbrev pub query_of : Site → ℕ
query_of s = s.query

-- the numbers of those among some lie from one up to another, which none reaches; something holds of the site of each, and no two have one site
pub record Spaced (number : Site → ℕ) (Holds : Site → Type 0) (from to : ℕ) (P : Sited → Type 0) : Type 0 where
  pub within : (u : Sited) → P u → (from ≤ number u.site) × (number u.site < to)
  pub holds : (u : Sited) → P u → Holds u.site
  pub same : (u w : Sited) → P u → P w → u.site ≡ w.site → u ≡ w

module _ {number : Site → ℕ} {Holds : Site → Type 0} where
  pub nothing : (from to : ℕ) → Spaced number Holds from to (λ u. ⊥)
  nothing from to = record { within = λ u h. absurd h; holds = λ u h. absurd h; same = λ u w h k e. absurd h }

  pub wider : {P : Sited → Type 0} (before from to behind : ℕ) → before ≤ from → to ≤ behind → Spaced number Holds from to P
      → Spaced number Holds before behind P
  wider before from to behind b l h = record {
    within = λ u p.
        let i : (from ≤ number u.site) × (number u.site < to) = h.within u p in (omega (arith, b, i.0), omega (arith, l, i.1));
    holds = h.holds;
    same = h.same;
  }

  -- fewer updates
  pub fewer : {P Q : Sited → Type 0} (from to : ℕ) → ((u : Sited) → P u → Q u) → Spaced number Holds from to Q → Spaced number Holds from to P
  fewer from to f h = record {
    within = λ u p. h.within u (f u p);
    holds = λ u p. h.holds u (f u p);
    same = λ u w p q. h.same u w (f u p) (f w q);
  }

-- ---- one behind another

module _ {number : Site → ℕ} {Holds : Site → Type 0} {P Q : Sited → Type 0} (from middle to : ℕ) (h : Spaced number Holds from middle P)
    (k : Spaced number Holds middle to Q) where
  apart : (u w : Sited) → P u → Q w → u.site ≡ w.site → ⊥
  apart u w p q e =
      let place : number u.site ≡ number w.site = ap number e in
      omega (arith, (h.within u p).1, (k.within w q).0, place)

  either_within : from ≤ middle → middle ≤ to → (u : Sited) → P u ⊎ Q u → (from ≤ number u.site) × (number u.site < to)
  either_within l r u (inl p) = ((h.within u p).0, omega (arith, (h.within u p).1, r))
  either_within l r u (inr q) = (omega (arith, (k.within u q).0, l), (k.within u q).1)

  either_holds : (u : Sited) → P u ⊎ Q u → Holds u.site
  either_holds u (inl p) = h.holds u p
  either_holds u (inr q) = k.holds u q

  either_same : (u w : Sited) → P u ⊎ Q u → P w ⊎ Q w → u.site ≡ w.site → u ≡ w
  either_same u w (inl p) (inl q) e = h.same u w p q e
  either_same u w (inl p) (inr q) e = absurd (apart u w p q e)
  either_same u w (inr p) (inl q) e = absurd (apart w u q p (sym e))
  either_same u w (inr p) (inr q) e = k.same u w p q e

  pub either : from ≤ middle → middle ≤ to → Spaced number Holds from to (λ u. P u ⊎ Q u)
  either l r = record { within = either_within l r; holds = either_holds; same = either_same }

-- ---- one update

some_same : {x y : ExprTrees} → ◌≡◌ {A = Option ExprTrees} (Some x) (Some y) → x ≡ y
some_same e = cc

-- a form is one update
that_same : (w : UpdateTree) (fs : ShapeTrees) (u v : Sited) → IsThat u w fs → IsThat v w fs → u ≡ v
that_same w fs u v h k =
    let site : u.site ≡ v.site = sym h.0 ∙ k.0 in
    let cache : u.cache ≡ v.cache = some_same (sym h.1.0 ∙ k.1.0) in
    let body : u.body ≡ v.body = sym h.1.1 ∙ k.1.1 in
    λ i. record { site = site i; cache = cache i; body = body i }

pub that_spaced : (number : Site → ℕ) (Holds : Site → Type 0) (at : ℕ) (w : UpdateTree) (fs : ShapeTrees) → number w.site ≡ at → Holds w.site
    → Spaced number Holds at (at + 1) (λ u. IsThat u w fs)
that_spaced number Holds at w fs e holds = record {
  within = λ u h. let place : number w.site ≡ number u.site = ap number h.0 in (omega (arith, e, place), omega (arith, e, place));
  holds = λ u h. subst Holds h.0 holds;
  same = λ u v h k s. that_same w fs u v h k;
}
