use Rattle.std.proofs.Common.{◌≡◌, length, ◌∙◌, arith}
use Rattle.std.proofs.lemmas.List.{length-map}
use Rattle.cl_outside.specs.Named.{place_in}
use Rattle.cl_outside.specs.NameTables.{entry_of, entries_of}
use Rattle.cl_outside.proofs.Tables.{IsFirst-updated, name_at-updated, first_updated}
use Rattle.cl_outside.proofs.file_table.FileTable.make.Goals as goal

pub returns-in-Some-clause-place : goal.returns-in-Some-clause-place
returns-in-Some-clause-place c =
    let is = c.in-Some.ensures in
    rw c.replace.ensures.entries (IsFirst-updated _ _ _ c.in-Some.place is.0, name_at-updated _ _ _ c.in-Some.place is.0.below ∙ is.1)

pub returns-in_ok-add-in-None-clause-place : goal.returns-in_ok-add-in-None-clause-place
returns-in_ok-add-in-None-clause-place c =
    let v = c.self.view_is in
    let new : place_in (entries_of c.self.inside.list.items) c.args.name.now ≡ length (entries_of c.self.inside.list.items) = rw (← v) at c.in-None.ensures in
    let same : c.len-place.result ≡ place_in c.args.self.now.entries c.args.name.now =
    rw (← v) (omega (arith, new, length-map c.self.inside.list.items entry_of, c.len-place.ensures, c.self.inside.list.ok.0)) in
    rw c.in_ok-add-in-None.ensures.entries (first_updated _ c.args.name.now _ c.len-place.result same)
