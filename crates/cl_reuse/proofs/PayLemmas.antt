-- What is kept costs no more than what is drawn: sums over walks.
use Rattle.std.proofs.Common.{◌≡◌, ◌∙◌, ap, subst, sym, refl, ℕ, ◌+◌, ◌≤◌, Bool, true, false, if◌then◌else◌, List, [], ◌∷◌, ◌++◌, append_assoc}
use Rattle.std.proofs.Common.{Result, Ok, Err, arith}
use Rattle.cl_region.specs.declared.rects.Shift.{Shift}
use Rattle.cl_medium.specs.Items.{Item}
use Rattle.cl_eval.specs.Outcome.{Gives, Outcome, Run, Traps, after, cost_of, give, lift, trap}
use Rattle.cl_record.specs.Shifts.{still}
use Rattle.cl_record.specs.Trees.{Trees, none}
use Rattle.cl_eval.proofs.CostLemmas.{Grows}
use Rattle.cl_display.specs.Drawings.{DrawingAt}
use Rattle.cl_display.specs.Outcomes.{Draw, DrawOutcome, opens_none, run_of, walk_after, ◌>->◌, ◌>>=◌}
use Rattle.cl_display.specs.Walks.{Walk, done, met, ◌then◌}
use Rattle.cl_reuse.specs.Kept.{KeptAt, costs, found, kept_at, kept_of}

pub costs-behind : (ks js : List KeptAt) → costs (ks ++ js) ≡ costs ks + costs js
costs-behind [] js = omega arith
costs-behind (k ∷ ks) js = omega (arith, costs-behind ks js)

pub kept-then : (at : Shift) (old : Trees Item) (w u : Walk) → kept_of at old (w then u) ≡ kept_of at old w ++ kept_of at old u
kept-then at old done u = refl
kept-then at old (met o inside rest) u =
    let here = kept_at (found o.site o.id at old) o (λ there olds. kept_of there olds inside) in
    ap (λ (ks : List KeptAt). here ++ ks) (kept-then at old rest u) ∙ sym (append_assoc here (kept_of at old rest) (kept_of at old u))

costs-then : (at : Shift) (old : Trees Item) (w u : Walk) → costs (kept_of at old (w then u)) ≡ costs (kept_of at old w) + costs (kept_of at old u)
costs-then at old w u = ap (λ (ks : List KeptAt). costs ks) (kept-then at old w u) ∙ costs-behind (kept_of at old w) (kept_of at old u)

-- over no old records nothing is kept
pub none-kept : (at : Shift) (w : Walk) → kept_of at none w ≡ []
none-kept at done = refl
none-kept at (met o inside rest) = λ i. none-kept still inside i ++ none-kept at rest i

-- the costs of what is kept of a draw's walk do not pass what it cost
abbrev pub PaysFor : Shift → Trees Item → ℕ → DrawOutcome → Type 0
PaysFor at old c o = costs (kept_of at old o.walk) + c ≤ cost_of o.outcome

abbrev pub Pays : Shift → Trees Item → Draw → Type 0
Pays at old m = (c d : ℕ) → PaysFor at old c (m c d)

module _ (at : Shift) (old : Trees Item) where
  pays-none : (m : Run DrawingAt) → Grows m → Pays at old (opens_none m)
  pays-none m g c d = omega (arith, g c d)

  pub pays-lift : (r : Result DrawingAt ℕ) → Pays at old (opens_none (lift r))
  pays-lift (Ok s) c d = omega arith
  pays-lift (Err k) c d = omega arith

  pub pays-give : (s : DrawingAt) → Pays at old (opens_none (give s))
  pays-give s c d = omega arith

  pub pays-trap : (k : ℕ) → Pays at old (opens_none (trap k))
  pays-trap k c d = omega arith

  pub pays-choice : (b : Bool) (m n : Draw) → Pays at old m → Pays at old n → Pays at old (if b then m else n)
  pays-choice true m n g h = g
  pays-choice false m n g h = h

  pays-behind : (c : ℕ) (o : DrawOutcome) (f : DrawingAt → Draw) → PaysFor at old c o → ((t : DrawingAt) → Pays at old (f t))
      → (p : Outcome DrawingAt) → o.outcome ≡ p
      → costs (kept_of at old (o.walk then walk_after p f)) + c ≤ cost_of (after p (λ s. run_of (f s)))
  pays-behind c o f g h (Gives t i j) q =
      let first : costs (kept_of at old o.walk) + c ≤ i = subst (λ (x : Outcome DrawingAt). costs (kept_of at old o.walk) + c ≤ cost_of x) q g in
      omega (arith, costs-then at old o.walk (f t i j).walk, first, h t i j)
  pays-behind c o f g h (Traps k i j) q =
      let first : costs (kept_of at old o.walk) + c ≤ i = subst (λ (x : Outcome DrawingAt). costs (kept_of at old o.walk) + c ≤ cost_of x) q g in
      omega (arith, costs-then at old o.walk done, first)

  pub pays-then : (m : Draw) (f : DrawingAt → Draw) → Pays at old m → ((t : DrawingAt) → Pays at old (f t)) → Pays at old (m >>= f)
  pays-then m f g h c d = pays-behind c (m c d) f (g c d) h (m c d).outcome refl

  pays-given : {A : Type 0} (m : Run A) (f : A → Draw) (c d : ℕ) (o : Outcome A) → m c d ≡ o → c ≤ cost_of o
      → ((x : A) (i j : ℕ) → m c d ≡ Gives x i j → PaysFor at old i (f x i j))
      → costs (kept_of at old (walk_after o f)) + c ≤ cost_of (after o (λ x. run_of (f x)))
  pays-given m f c d (Gives x i j) q g h = omega (arith, g, h x i j q)
  pays-given m f c d (Traps k i j) q g h = omega (arith, g)

  pub pays-value : {A : Type 0} (m : Run A) (f : A → Draw) → Grows m → ((x : A) → Pays at old (f x)) → Pays at old (m >-> f)
  pays-value m f g h c d = pays-given m f c d (m c d) refl (g c d) (λ x i j q. h x i j)

  -- the same where it counts how the value came
  pub pays-come : {A : Type 0} (m : Run A) (f : A → Draw) → Grows m → ((x : A) (c d i j : ℕ) → m c d ≡ Gives x i j → PaysFor at old i (f x i j))
      → Pays at old (m >-> f)
  pays-come m f g h c d = pays-given m f c d (m c d) refl (g c d) (λ x i j q. h x c d i j q)
