-- The sums over what was told of panes, and how often want of memory was told.
use Rattle.std.specs.Prelude.{ℕ, ◌+◌, min, Bool, true, false, List, [], ◌∷◌}
use Rattle.cl_frame.specs.declared.reports.Report.{Report}
use Rattle.cl_frame.specs.declared.reports.PaneReport.{PaneReport}
use Rattle.cl_frame.specs.declared.reports.PaneReport.TheVariants as report
use Rattle.cl_session.specs.declared.totals.Totals.{Totals}

-- a sum that would pass 2^64 - 1 stays there
abbrev pub stays : ℕ → ℕ → ℕ
stays a b = min (a + b) 18446744073709551615

-- the sums at the start, which are all 0
abbrev pub no_totals : Totals
no_totals = record { kept = 0; moved = 0; drawn = 0; erased = 0; memory = 0 }

-- a pane showed its display
abbrev pub with_shown : Totals → Report → Totals
with_shown t r = record {
  kept = stays t.kept r.kept;
  moved = stays t.moved r.moved;
  drawn = stays t.drawn r.drawn;
  erased = stays t.erased r.erased;
  memory = t.memory;
}

-- want of memory was told once more
abbrev pub with_memory : Totals → Totals
with_memory t = record t { memory = stays t.memory 1 }

-- what became of a pane; a trap and a pane that was not settled count nothing
abbrev pub with_report : Totals → PaneReport → Totals
with_report t (report.Shown r) = with_shown t r
with_report t (report.Trapped k) = t
with_report t report.Memory = with_memory t
with_report t report.Quiet = t

-- what became of panes, one after another
abbrev pub with_reports : Totals → List PaneReport → Totals
with_reports t [] = t
with_reports t (r ∷ rs) = with_reports (with_report t r) rs

-- a handling, and whether it met want of memory
abbrev pub with_handling : Totals → (met : Bool) → Totals
with_handling t true = with_memory t
with_handling t false = t

-- a gesture: its handling, and then what became of the panes
abbrev pub with_gesture : Totals → (met : Bool) → List PaneReport → Totals
with_gesture t met rs = with_reports (with_handling t met) rs
