use Rattle.std.proofs.Common.{◌∙◌, ◌++◌, List, map, ap, sym}
use Rattle.std.specs.Prelude.{is_none, not}
use Rattle.std.proofs.lemmas.Result.{IfOk-weaker}
use Rattle.cl_record.specs.Trees.{trees_of}
use Rattle.cl_record.specs.declared.summaries.Summary.{Summary}
use Rattle.cl_medium.specs.Items.{Item}
use Rattle.cl_updating.specs.Gathers.{update_of, updates_of}
use Rattle.cl_updating.specs.declared.levels.Met.{Met}
use Rattle.cl_updating.proofs.FoundLemmas.{placed-of}
use Rattle.cl_updating.proofs.PlaceLemmas.{all-there, none-there}
use Rattle.cl_updating.proofs.levels.sites_of.Goals as goal

pub returns-then-is_none : goal.returns-then-is_none
returns-then-is_none c =
    none-there c.args.at (trees_of c.args.nodes.now) c.new.result.entries
    (ap (λ (s : Summary). is_none s.extents) (sym c.summary.ensures.value) ∙ ap not c.if-is_none.ensures) c.new.ensures.empty

pub gather_row-requires : goal.gather_row-requires
gather_row-requires c =
    placed-of c.args.at (trees_of c.args.nodes.now)
    (ap (λ (s : Summary). is_none s.extents) (sym c.summary.ensures.value) ∙ ap not c.if-is_none.ensures) c.summary.ensures.sound c.requires

pub returns : goal.returns
returns c =
    let all = trees_of c.args.nodes.now in
    let met = c.in_ok-gather_row.ensures ∙ ap (λ (ms : List (Met Item)). map update_of ms ++ updates_of c.args.at all) c.new-met.ensures.items in
    IfOk-weaker c.by_site.result _ _
    (λ sites finds. all-there c.args.at all (map update_of c.gather_row.new.met.items) sites.entries
    (placed-of c.args.at all (ap (λ (s : Summary). is_none s.extents) (sym c.summary.ensures.value) ∙ ap not c.if-is_none.ensures) c.summary.ensures.sound c.requires)
    met finds)
    c.by_site.ensures
