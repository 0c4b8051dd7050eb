use Rattle.clim_cases.proofs.expanding.+expand.Given as goal

abbrev pub decreases-expand : goal.decreases-expand
decreases-expand l = l.depth
