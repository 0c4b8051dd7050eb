use Rattle.std.proofs.Common.{◌≡◌, ◌<◌, length, sym, ap, ◌∙◌, arith, unwrap_or}
use Rattle.std.proofs.lemmas.List.{length-map}
use Rattle.cl_outside.specs.Named.{place_in, updated}
use Rattle.cl_outside.specs.NameTables.{count_entry, counts_of}
use Rattle.cl_outside.proofs.Tables.{updated_found, found-none, first_updated}
use Rattle.cl_outside.proofs.count_table.CountTable.ready.Goals as goal

pub returns-in-Some-clause-counts : goal.returns-in-Some-clause-counts
returns-in-Some-clause-counts c =
    let is = c.in-Some.ensures in
    let there : place_in c.args.self.now c.args.name.now < length c.args.self.now = omega (arith, rw is.1 at is.0.first, is.0.below) in
    sym (updated_found c.args.self.now c.args.name.now 0 there)

pub returns-in_ok-add-in-None-clause-counts : goal.returns-in_ok-add-in-None-clause-counts
returns-in_ok-add-in-None-clause-counts c =
    c.in_ok-add-in-None.ensures.counts ∙ ap (λ o. updated c.args.self.now c.args.name.now (unwrap_or o 0)) (sym (found-none c.args.self.now c.args.name.now c.in-None.ensures))

pub returns-in_ok-add-in-None-clause-place : goal.returns-in_ok-add-in-None-clause-place
returns-in_ok-add-in-None-clause-place c =
    let v = c.self.view_is in
    let new : place_in (counts_of c.self.inside.list.items) c.args.name.now ≡ length (counts_of c.self.inside.list.items) = rw (← v) at c.in-None.ensures in
    let same : c.len-place.result ≡ place_in c.args.self.now c.args.name.now =
    rw (← v) (omega (arith, new, length-map c.self.inside.list.items count_entry, c.len-place.ensures, c.self.inside.list.ok.0)) in
    rw c.in_ok-add-in-None.ensures.counts (first_updated _ c.args.name.now _ c.len-place.result same)
