-- What is counted on the way of a drawing over old records: each step of a draw, and what follows it.
use Rattle.std.proofs.Common.{◌≡◌, ◌∙◌, ap, subst, sym, refl, ℕ, ◌+◌, List, [], ◌∷◌, ◌++◌, Option, Result, Ok, Err, arith}
use Rattle.cl_eval.specs.Agrees.{Agrees, Comes, always}
use Rattle.cl_eval.specs.Outcome.{Gives, Outcome, Run, Traps, give, lift}
use Rattle.cl_eval.specs.declared.metering.Meter.{Meter}
use Rattle.cl_eval.specs.declared.metering.Stop.{Stop}
use Rattle.cl_eval.specs.declared.metering.Stop.TheVariants.{Trap, Memory}
use Rattle.cl_display.specs.Drawings.{DrawingAt}
use Rattle.cl_display.specs.Outcomes.{Draw, DrawOutcome, opens_none, ◌>->◌, ◌>>=◌}
use Rattle.cl_display.specs.Walks.{Walk, done, ◌then◌}
use Rattle.cl_record.specs.Trees.{trees_of}
use Rattle.cl_reuse.specs.Kept.{KeptAt, count_moved, count_still, items_kept}
use Rattle.cl_reuse.proofs.PayLemmas.{costs-behind, kept-then}
use Rattle.cl_damage.specs.Keeps as keeps
use Rattle.cl_damage.specs.Keeps.{Keeps, opened, with_last}
use Rattle.cl_region.specs.declared.rects.Shift.{Shift}
use Rattle.cl_untouched.specs.Keeps.{followed_by}
use Rattle.cl_untouched.proofs.KidLemmas.{followed-none, keeps-then}
use Rattle.cl_updating.specs.Levels.{LevelAt, kept_from}
use Rattle.cl_updating.specs.Redraws.{Redrawn, Redraws}
use Rattle.cl_updating.specs.Tallies.{Counts, KeptIn, kept_then, nothing_kept, put_behind}
use Rattle.cl_updating.specs.declared.tallies.Tally.{Tally}

-- ---- counts

still-behind : (ks js : List KeptAt) → count_still (ks ++ js) ≡ count_still ks + count_still js
still-behind [] js = omega arith
still-behind (k ∷ ks) js = omega (arith, still-behind ks js)

moved-behind : (ks js : List KeptAt) → count_moved (ks ++ js) ≡ count_moved ks + count_moved js
moved-behind [] js = omega arith
moved-behind (k ∷ ks) js = omega (arith, moved-behind ks js)

items-behind : (ks js : List KeptAt) → items_kept (ks ++ js) ≡ items_kept ks + items_kept js
items-behind [] js = omega arith
items-behind (k ∷ ks) js = omega (arith, items-behind ks js)

-- others are put behind in two parts
behind-twice : (before ks js : Keeps) → put_behind (put_behind before ks) js ≡ put_behind before (followed_by ks js)
behind-twice before keeps.none js = refl
behind-twice before (opened v inside rest) js = behind-twice (with_last before v inside) rest js

-- one update more stands between those before and those behind
last-between : (before : Keeps) (v : Option Shift) (inside rest : Keeps)
    → followed_by (with_last before v inside) rest ≡ followed_by before (opened v inside rest)
last-between keeps.none v inside rest = refl
last-between (opened w within more) v inside rest = ap (λ (behind : Keeps). opened w within behind) (last-between more v inside rest)

behind-followed : (before ks : Keeps) → put_behind before ks ≡ followed_by before ks
behind-followed before keeps.none = sym (followed-none before)
behind-followed before (opened v inside rest) =
    behind-followed (with_last before v inside) rest ∙ last-between before v inside rest

-- behind none they are the same
pub behind-none : (ks : Keeps) → put_behind keeps.none ks ≡ ks
behind-none ks = behind-followed keeps.none ks

-- nothing is kept where nothing but steps is counted
pub counts-steps : (c d : ℕ) (a b : Tally) → b.steps + c ≡ a.steps + d → b.kept ≡ a.kept → b.moved ≡ a.moved → b.items ≡ a.items
    → b.keeps ≡ a.keeps → Counts nothing_kept c d a b
counts-steps c d a b s k m i l =
    record {
      steps = omega (arith, s);
      kept = omega (arith, k);
      moved = omega (arith, m);
      items = omega (arith, i);
      keeps = l;
    }

-- nothing was done
pub counts-none : (c : ℕ) (a : Tally) → Counts nothing_kept c c a a
counts-none c a =
    record { steps = omega arith; kept = omega arith; moved = omega arith; items = omega arith; keeps = refl }

pub counts-join : (k j : KeptIn) (c d e : ℕ) (a b f : Tally) → Counts k c d a b → Counts j d e b f → Counts (kept_then k j) c e a f
counts-join k j c d e a b f p q =
    record {
      steps = omega (arith, costs-behind k.list j.list, p.steps, q.steps);
      kept = omega (arith, still-behind k.list j.list, p.kept, q.kept);
      moved = omega (arith, moved-behind k.list j.list, p.moved, q.moved);
      items = omega (arith, items-behind k.list j.list, p.items, q.items);
      keeps = q.keeps ∙ ap (λ (before : Keeps). put_behind before j.keeps) p.keeps ∙ behind-twice a.keeps k.keeps j.keeps;
    }

-- ---- steps

-- what is answered from behind some counts, from before them
pub redrawn-behind : (k j : KeptIn) (r : Result (Unit {0}) Stop) (s : DrawingAt) (c d : ℕ) (m : Meter) (a b e : Tally) (o : Outcome DrawingAt)
    → Counts k c d a b → Redrawn j r s d m b e o → Redrawn (kept_then k j) r s c m a e o
redrawn-behind k j (Ok u) s c d m a b e o p q = (q.0, counts-join k j c d m.cost a b e p q.1)
redrawn-behind k j (Err (Trap kind)) s c d m a b e o p q = (q.0, counts-join k j c d m.cost a b e p q.1)
redrawn-behind k j (Err Memory) s c d m a b e o p q = tt

-- a draw behind a value that came
pub value-on : {A B : Type 0} (f : A → B) (m : Run B) (k : B → Draw) (x : A) (n : Meter) (c d : ℕ) → Agrees f (Ok x) n (m c d)
    → (m >-> k) c d ≡ k (f x) n.cost n.deepest
value-on f m k x n c d p = rw p refl

pub lift-on : (q : Result DrawingAt ℕ) (k : DrawingAt → Draw) (t : DrawingAt) (c d : ℕ) → q ≡ Ok t → (lift q >-> k) c d ≡ k t c d
lift-on q k t c d p = rw p refl

came-same : (s t : DrawingAt) → ◌≡◌ {A = Result DrawingAt ℕ} (Ok s) (Ok t) → s ≡ t
came-same s t p = cc

came-trap : (s : DrawingAt) (k : ℕ) → ◌≡◌ {A = Result DrawingAt ℕ} (Ok s) (Err k) → ⊥
came-trap s k p = cc

module _ (l : LevelAt) where
  pub redraws-value : {A B : Type 0} (f : A → B) (m : Run B) (k : B → Draw) (x : A) (n : Meter) (c d : ℕ) (r : Result (Unit {0}) Stop) (s : DrawingAt)
      (n' : Meter) (a b e : Tally) → Agrees f (Ok x) n (m c d) → Counts nothing_kept c n.cost a b
      → Redraws l r s n.cost n' b e (k (f x) n.cost n.deepest) → Redraws l r s c n' a e ((m >-> k) c d)
  redraws-value f m k x n c d r s n' a b e p h q =
      subst (λ (o : DrawOutcome). Redraws l r s c n' a e o) (sym (value-on f m k x n c d p))
      (redrawn-behind nothing_kept (kept_from l (k (f x) n.cost n.deepest).walk) r s c n.cost n' a b e (k (f x) n.cost n.deepest).outcome h q)

  -- a value that did not come ends it
  pub stop-value : {A B : Type 0} (f : A → B) (m : Run B) (k : B → Draw) (x : Stop) (n : Meter) (c d : ℕ) (s : DrawingAt) (a b : Tally)
      → Agrees f (Err x) n (m c d) → Counts nothing_kept c n.cost a b → Redraws l (Err x) s c n a b ((m >-> k) c d)
  stop-value f m k (Trap kind) n c d s a b p h = rw p (refl, h)
  stop-value f m k Memory n c d s a b p h = tt

  -- what could not be entered
  pub stop-lift : (q : Result DrawingAt ℕ) (k : DrawingAt → Draw) (x : Stop) (n : Meter) (t s : DrawingAt) (a : Tally) → Comes {A = Unit {0}} (always t) (Err x) q
      → Redraws l (Err x) s n.cost n a a ((lift q >-> k) n.cost n.deepest)
  stop-lift q k (Trap kind) n t s a p = rw p (refl, counts-none n.cost a)
  stop-lift q k Memory n t s a p = tt

  redraws-walk : (w v : Walk) (r : Result (Unit {0}) Stop) (s : DrawingAt) (c d : ℕ) (m : Meter) (a b e : Tally) (o : Outcome DrawingAt)
      → Counts (kept_from l w) c d a b → Redrawn (kept_from l v) r s d m b e o → Redrawn (kept_from l (w then v)) r s c m a e o
  redraws-walk w v r s c d m a b e o p q =
      rw (kept-then l.at (trees_of l.old) w v, keeps-then l.at (trees_of l.old) w v)
      (redrawn-behind (kept_from l w) (kept_from l v) r s c d m a b e o p q)

  -- a draw behind another one that ended
  pub redraws-then : (m : Draw) (k : DrawingAt → Draw) (t : DrawingAt) (n : Meter) (c d : ℕ) (r : Result (Unit {0}) Stop) (s : DrawingAt) (n' : Meter)
      (a b e : Tally) → Redraws l (Ok tt) t c n a b (m c d) → Redraws l r s n.cost n' b e (k t n.cost n.deepest)
      → Redraws l r s c n' a e ((m >>= k) c d)
  redraws-then m k t n c d r s n' a b e p q =
      rw p.0 (redraws-walk (m c d).walk (k t n.cost n.deepest).walk r s c n.cost n' a b e (k t n.cost n.deepest).outcome p.1 q)

  -- one that did not end ends what follows
  pub stop-then : (m : Draw) (k : DrawingAt → Draw) (t s : DrawingAt) (x : Stop) (n : Meter) (c d : ℕ) (a b : Tally)
      → Redraws l (Err x) t c n a b (m c d) → Redraws l (Err x) s c n a b ((m >>= k) c d)
  stop-then m k t s (Trap kind) n c d a b p =
      rw p.0 (redraws-walk (m c d).walk done (Err (Trap kind)) s c n.cost n a b b (Traps kind n.cost n.deepest) p.1 (refl, counts-none n.cost b))
  stop-then m k t s Memory n c d a b p = tt

  -- what opens no update
  pub redraws-alone : (o : DrawOutcome) (r : Result (Unit {0}) Stop) (s : DrawingAt) (c : ℕ) (n : Meter) (a b : Tally) → o.walk ≡ done
      → Agrees (always s) r n o.outcome → Counts nothing_kept c n.cost a b → Redraws l r s c n a b o
  redraws-alone o (Ok u) s c n a b w p h = rw w (p, h)
  redraws-alone o (Err (Trap kind)) s c n a b w p h = rw w (p, h)
  redraws-alone o (Err Memory) s c n a b w p h = tt

  pub redraws-lift : (q : Result DrawingAt ℕ) (r : Result (Unit {0}) Stop) (s : DrawingAt) (n : Meter) (a : Tally) → Comes (always s) r q
      → Redraws l r s n.cost n a a (opens_none (lift q) n.cost n.deepest)
  redraws-lift q (Ok u) s n a p = rw p (refl, counts-none n.cost a)
  redraws-lift q (Err (Trap kind)) s n a p = rw p (refl, counts-none n.cost a)
  redraws-lift q (Err Memory) s n a p = tt

  pub redraws-give : (t : DrawingAt) (r : Result (Unit {0}) Stop) (s : DrawingAt) (n : Meter) (a : Tally) → Comes (always s) r (Ok t)
      → Redraws l r s n.cost n a a (opens_none (give t) n.cost n.deepest)
  redraws-give t (Ok u) s n a p = (ap (λ (x : DrawingAt). Gives x n.cost n.deepest) (came-same t s p), counts-none n.cost a)
  redraws-give t (Err (Trap kind)) s n a p = absurd (came-trap t kind p)
  redraws-give t (Err Memory) s n a p = tt

-- ---- loops

-- what is answered from here on is what is answered from the start
pub record Goes (l : LevelAt) (c : ℕ) (a : Tally) (o : DrawOutcome) (c0 : ℕ) (a0 : Tally) (o0 : DrawOutcome) : Type 0 where
  pub on : (r : Result (Unit {0}) Stop) (s : DrawingAt) (m : Meter) (e : Tally) → Redraws l r s c m a e o → Redraws l r s c0 m a0 e o0

pub goes-start : (l : LevelAt) (c : ℕ) (a : Tally) (o : DrawOutcome) → Goes l c a o c a o
goes-start l c a o = record { on = λ r s m e p. p }

-- behind one draw more
pub goes-then : (l : LevelAt) (m : Draw) (k : DrawingAt → Draw) (t : DrawingAt) (n : Meter) (c d : ℕ) (a b : Tally) (c0 : ℕ) (a0 : Tally) (o0 : DrawOutcome)
    → Goes l c a ((m >>= k) c d) c0 a0 o0 → Redraws l (Ok tt) t c n a b (m c d) → Goes l n.cost b (k t n.cost n.deepest) c0 a0 o0
goes-then l m k t n c d a b c0 a0 o0 g p =
    record { on = λ r s m' e q. g.on r s m' e (redraws-then l m k t n c d r s m' a b e p q) }
