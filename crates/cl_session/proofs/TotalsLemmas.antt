-- Reports of panes that are counted one after another.
use Rattle.std.proofs.Common.{◌≡◌, ℕ, ◌+◌, ◌<◌, suc, List, ◌∷◌, length, map, drop, refl, ◌∙◌, ap, arith, drop-cons, get_or}
use Rattle.cl_frame.specs.Panes.{report_of_pane}
use Rattle.cl_frame.specs.declared.panes.Pane.{Pane}
use Rattle.cl_session.specs.Totals.{with_report, with_reports}
use Rattle.cl_session.specs.declared.totals.Totals.{Totals}

-- the next pane is counted, and the others are left
pub counted-next : (t : Totals) (panes : List Pane) (d : Pane) (at : ℕ) → at < length panes
    → with_reports t (map report_of_pane (drop at panes))
    ≡ with_reports (with_report t (report_of_pane (get_or panes at d))) (map report_of_pane (drop (at + 1) panes))
counted-next t panes d at h =
    let one : suc at ≡ at + 1 = omega arith in
    let step : drop at panes ≡ get_or panes at d ∷ drop (at + 1) panes =
    drop-cons panes at d h ∙ ap (λ n. get_or panes at d ∷ drop n panes) one in
    rw step refl
