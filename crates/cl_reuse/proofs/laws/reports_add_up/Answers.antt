use Rattle.cl_reuse.proofs.CountRows.{new-bounds}
use Rattle.cl_reuse.proofs.GoneLemmas.{old-bounds}
use Rattle.cl_reuse.proofs.OnceRows.{display-once}
use Rattle.cl_reuse.proofs.Reports.{display-reported, one-report}
use Rattle.cl_reuse.proofs.laws.reports_add_up.Goals as goal

pub returns-clause-once : goal.returns-clause-once
returns-clause-once c = display-once

pub returns-clause-gone : goal.returns-clause-gone
returns-clause-gone c = old-bounds

pub returns-clause-new : goal.returns-clause-new
returns-clause-new c = new-bounds

pub returns-clause-report : goal.returns-clause-report
returns-clause-report c = display-reported

pub returns-clause-only : goal.returns-clause-only
returns-clause-only c = one-report
