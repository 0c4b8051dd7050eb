use Rattle.std.proofs.Common.{◌≡◌, ◌-◌, ◌++◌, ℕ, List, [], take, sym, ap, ◌∙◌, subst}
use Rattle.std.specs.Prelude.{is_some}
use Rattle.cl_tables.proofs.SearchLemmas.{Search, search_begins, search_goes_on, search_falls, reached_is_visited}
use Rattle.cl_tables.proofs.SightLemmas.{some_map}
use Rattle.cl_tables.proofs.rings.reaches_itself.Goals as goal

pub loop-name-init : goal.loop-name-init
loop-name-init c =
    rw (c.in_ok-push_reversed.ensures, c.new-waiting.ensures.items, c.new-visited.ensures, c.as_slice.ensures)
    (search_begins c.args.tables.now c.args.decl.now.name c.args.decl.now.inherit_from c.requires)

pub loop-name-smaller : goal.loop-name-smaller
loop-name-smaller c =
    rw (c.in_ok-visit.ensures.waiting, c.in_ok-visit.ensures.visited, c.in-Some.ensures.items)
    (search_falls c.args.tables.now c.in-Some.name c.loop-name.visited c.pop.new.self.items)

pub loop-name-preserved : goal.loop-name-preserved
loop-name-preserved c =
    rw (c.in_ok-visit.ensures.waiting, c.in_ok-visit.ensures.visited)
    (search_goes_on c.args.tables.now c.args.decl.now.name c.in-Some.name c.loop-name.visited c.pop.new.self.items (rw c.in-Some.ensures.items at c.loop-name.invariant))

pub returns : goal.returns
returns c =
    let found = sym (some_map _ c.get.result ∙ sym c.is_some.ensures) ∙ ap is_some (rw c.as_slice-2.ensures at c.get.ensures) in
    let last : c.pop.new.self.items ≡ [] = c.in_default.ensures.rest ∙ ap (λ n. take (n - 1) c.loop-name.waiting.items) c.in_default.ensures.cases.0 in
    let empty : c.loop-name.waiting.items ≡ [] = c.in_default.ensures.items ∙ ap (λ (xs : List (List ℕ)). xs ++ []) last in
    let ended : Search c.args.tables.now c.args.decl.now.name c.loop-name.visited [] =
    subst (Search c.args.tables.now c.args.decl.now.name c.loop-name.visited) empty c.loop-name.invariant in (
      λ reached. c.loop-name.invariant.visited c.args.decl.now.name (sym found ∙ reached),
      λ ring. found ∙ reached_is_visited c.args.tables.now c.args.decl.now.name c.loop-name.visited ended ring,
    )
