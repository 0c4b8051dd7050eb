use Rattle.std.proofs.Common.{◌≡◌}
use Rattle.std.specs.Vec.Iter.{into_iter_items}
use Rattle.cl_dialog_forms.specs.Forms.{with_displays}
use Rattle.cl_dialog_forms.proofs.displays.add_displays.Given as goal

abbrev pub invariant-loop-display : goal.invariant-loop-display
invariant-loop-display l = with_displays l.table (into_iter_items l.display-iterator) ≡ with_displays l.initial.table l.fn.displays.items
