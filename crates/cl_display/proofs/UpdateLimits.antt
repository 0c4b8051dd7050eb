-- An update that ends without a trap under some limits ends so under all limits that its cost, its reach and its weight do not pass.
use Rattle.std.proofs.Common.{◌≡◌, ap, ℕ, ◌+◌, ◌≤◌, pos, [], Option, Some, None, Result, Ok, Err, arith, refl}
use Rattle.std.specs.Prelude.{max}
use Rattle.cl_value.specs.Data.{int}
use Rattle.cl_syntax.specs.ExprTree.{ExprTree, ExprTrees}
use Rattle.cl_syntax.specs.ShapeTree.{ShapeTrees}
use Rattle.cl_syntax.specs.UpdateTree.{UpdateTree}
use Rattle.cl_syntax.specs.declared.sites.Site.{Site}
use Rattle.cl_eval.specs.Meaning.{Go, each}
use Rattle.cl_eval.specs.Outcome.{Outcome, Gives, Traps, give, lift}
use Rattle.cl_eval.specs.Slots.{Env}
use Rattle.cl_eval.proofs.LimitLemmas.{GoGoes, Goes, goes-each, goes-give, goes-then, no_value}
use Rattle.cl_display.specs.Drawings.{DrawingAt}
use Rattle.cl_display.specs.Fresh.{Allowance, Bodies, draws_body, draws_cached, draws_keyed, draws_update, left_over}
use Rattle.cl_display.specs.Outcomes.{Draw, ◌>->◌}
use Rattle.cl_display.specs.Siblings.{Siblings, count_at}
use Rattle.cl_display.specs.Updates.{KeyAt, cache_of, end_update, enter_body, enter_update, id_of, key_at}
use Rattle.cl_display.proofs.WeightLemmas.{Keeps, Rises, keeps-enter_update, rises-enter_update}
use Rattle.cl_display.proofs.Widening.{Extends, Widens, cost_at, deepest_at, weight_at, widens-value}

-- a body that ends under some limits ends so under others
abbrev pub BodiesWiden : Bodies → Bodies → Type 0
BodiesWiden bodies bodies' = (allowed allowed' : Allowance) (env : Env) (body : ShapeTrees) (s u : DrawingAt) (n r : ℕ)
    → (bodies.draw allowed env body s).outcome ≡ Gives u n r → n ≤ allowed'.budget → r ≤ bodies'.depth → u.weight ≤ allowed'.weight
    → (bodies'.draw allowed' env body s).outcome ≡ Gives u n r

module _ (budget depth most : ℕ) where
  widens-set : (s : DrawingAt) (r r' : Result DrawingAt ℕ) (f f' : DrawingAt → Draw) → Rises s r → Keeps most r r'
      → ((u : DrawingAt) → Widens budget depth most u (f u) (f' u)) → Widens budget depth most s (lift r >-> f) (lift r' >-> f')
  widens-set s (Ok u) r' f f' h k g c d t n l p =
      let inner = g u c d t n l p in
      record {
        cost = inner.cost;
        deepest = inner.deepest;
        weight = omega (arith, h, inner.weight);
        same = λ cheap shallow light.
            let goes : r' ≡ Ok u = k u refl (omega (arith, light, inner.weight)) in
            rw goes (inner.same cheap shallow light);
      }
  widens-set s (Err i) r' f f' h k g c d t n l p = absurd (no_value i c d t n l p)

  module _ (allowed allowed' : Allowance) (paid : allowed'.budget ≡ budget) (w : allowed'.weight ≡ most) (level : ℕ) (bodies bodies' : Bodies)
      (b : BodiesWiden bodies bodies') (deep : depth ≡ level + bodies'.depth) (env : Env) (body : ShapeTrees) where
    widens-ended : (key : KeyAt) (s : DrawingAt) (c d : ℕ) (o : Outcome DrawingAt)
        → (bodies.draw (left_over allowed c s.weight) env body (enter_body s)).outcome ≡ o
        → (t : DrawingAt) (n l : ℕ) → end_update key level s o c d ≡ Gives t n l
        → Extends budget depth most (draws_body allowed' bodies' level env body key s) s c d t n l
    widens-ended key s c d (Gives u i r) q t n l p =
        let cost : c + i ≡ n = ap cost_at p in
        let deepest : max d (level + r) ≡ l = ap deepest_at p in
        let weight : s.weight + u.weight ≡ t.weight = ap weight_at p in
        record {
          cost = omega (arith, cost);
          deepest = omega (arith, deepest);
          weight = omega (arith, weight);
          same = λ cheap shallow light.
              let goes : (bodies'.draw (left_over allowed' c s.weight) env body (enter_body s)).outcome ≡ Gives u i r =
              b (left_over allowed c s.weight) (left_over allowed' c s.weight) env body (enter_body s) u i r q (omega (arith, cheap, cost, paid))
              (omega (arith, shallow, deepest, deep)) (omega (arith, light, weight, w)) in
              rw goes p;
        }
    widens-ended key s c d (Traps k i r) q t n l p = absurd (no_value k (c + i) d t n l p)

    widens-keyed : (s : DrawingAt) (key : KeyAt)
        → Widens budget depth most s (draws_keyed allowed bodies level env body s key) (draws_keyed allowed' bodies' level env body s key)
    widens-keyed s key =
        widens-set s (enter_update allowed.weight key s) (enter_update allowed'.weight key s) (draws_body allowed bodies level env body key)
        (draws_body allowed' bodies' level env body key) (rises-enter_update allowed.weight key s) (rw w (keeps-enter_update most allowed.weight key s))
        (λ u c d t n l p. widens-ended key u c d (bodies.draw (left_over allowed c u.weight) env body (enter_body u)).outcome refl t n l p)

  goes-id : (level : ℕ) (value value' : Go) → GoGoes budget depth level value value' → (env : Env) (siblings : Siblings) (site : Site) (t : Option ExprTree)
      → Goes budget depth (id_of value level env siblings site t) (id_of value' level env siblings site t)
  goes-id level value value' v env siblings site None = goes-give budget depth (int (pos (count_at site siblings)))
  goes-id level value value' v env siblings site (Some t) = v env t

  goes-cache : (level : ℕ) (value value' : Go) → GoGoes budget depth level value value' → (env : Env) (ts : Option ExprTrees)
      → Goes budget depth (cache_of value level env ts) (cache_of value' level env ts)
  goes-cache level value value' v env None = goes-give budget depth None
  goes-cache level value value' v env (Some ts) =
      goes-then budget depth (each value level env ts []) (each value' level env ts []) (λ ds. give (Some ds)) (λ ds. give (Some ds))
      (goes-each budget depth value value' level v env ts []) (λ ds. goes-give budget depth (Some ds))

  pub widens-draws_update : (allowed allowed' : Allowance) → allowed'.budget ≡ budget → allowed'.weight ≡ most → (level : ℕ) (value value' : Go)
      → GoGoes budget depth level value value' → (bodies bodies' : Bodies) → BodiesWiden bodies bodies' → depth ≡ level + bodies'.depth
      → (env : Env) (u : UpdateTree) (body : ShapeTrees) (s : DrawingAt)
      → Widens budget depth most s (draws_update allowed value bodies level env u body s) (draws_update allowed' value' bodies' level env u body s)
  widens-draws_update allowed allowed' paid w level value value' v bodies bodies' b deep env u body s =
      widens-value budget depth most s (id_of value level env s.siblings u.site u.id) (id_of value' level env s.siblings u.site u.id)
      (draws_cached allowed value bodies level env u body s) (draws_cached allowed' value' bodies' level env u body s)
      (goes-id level value value' v env s.siblings u.site u.id)
      (λ id. widens-value budget depth most s (cache_of value level env u.cache) (cache_of value' level env u.cache)
      (λ cache. draws_keyed allowed bodies level env body s (key_at u id cache)) (λ cache. draws_keyed allowed' bodies' level env body s (key_at u id cache))
      (goes-cache level value value' v env u.cache)
      (λ cache. widens-keyed allowed allowed' paid w level bodies bodies' b deep env body s (key_at u id cache)))
