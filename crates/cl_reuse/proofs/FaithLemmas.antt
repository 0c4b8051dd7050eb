-- Faithful records stay so where they are moved.
use Rattle.std.proofs.Common.{[]}
use Rattle.cl_application.specs.declared.applications.App.{App}
use Rattle.cl_eval.specs.TypeMeanings.{TypeMeanings}
use Rattle.cl_medium.specs.Items.{Item, move_item}
use Rattle.cl_region.specs.declared.rects.Shift.{Shift}
use Rattle.cl_record.specs.Trees.{Tree, leaf, move_tree, presentation, update}
use Rattle.cl_reuse.specs.Recorded.{IsFaithful, IsFaithfulHistory}

pub none-faithful : (app : App) (types : TypeMeanings) → IsFaithfulHistory app types []
none-faithful app types = record { all = tt }

pub moved-faithful : (app : App) (types : TypeMeanings) (v : Shift) (t : Tree Item) → IsFaithful app types t → IsFaithful app types (move_tree move_item v t)
moved-faithful app types v (leaf a) h = tt
moved-faithful app types v (presentation l p ts) h = h
moved-faithful app types v (update h p ts) f = f
