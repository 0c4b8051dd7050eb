use Rattle.std.proofs.Common.{map, List, ℕ}
use denote.Bor.{Bor}
use Rattle.cl_program.proofs.StatusLemmas.{bench_declares, bench_unnamed, check_named, end_reached, fault_named, limit_passed, loaded_declares, none_benched, none_named, not_checked}
use Rattle.cl_program.proofs.StatusLemmas.{opened_checked, opened_declares, refused_commands, refused_declares, refused_makes, run_named}
use Rattle.cl_program.proofs.statuses.clim_main.Goals as goal

pub returns-in-Usage-clause-refusal_due : goal.returns-in-Usage-clause-refusal_due
returns-in-Usage-clause-refusal_due g c = λ name reason run place_fault declares.
    absurd (none_named (map (λ (w : Bor (List ℕ)). w.now) c.args.words.now) name c.in-Usage.ensures.ran.0 run)

pub returns-in-Usage-clause-check_due : goal.returns-in-Usage-clause-check_due
returns-in-Usage-clause-check_due g c = λ name run place_fault declares.
    absurd (none_named (map (λ (w : Bor (List ℕ)). w.now) c.args.words.now) name c.in-Usage.ensures.ran.0 (check_named (map (λ (w : Bor (List ℕ)). w.now) c.args.words.now) name run))

pub returns-in-Usage-clause-complete : goal.returns-in-Usage-clause-complete
returns-in-Usage-clause-complete g c = λ name wire budget run place_fault making_fault gesture_fault output_fault declares few.
    absurd (none_named (map (λ (w : Bor (List ℕ)). w.now) c.args.words.now) name c.in-Usage.ensures.ran.0 (run_named (map (λ (w : Bor (List ℕ)). w.now) c.args.words.now) name wire budget run))

pub returns-in-Usage-clause-limit_due : goal.returns-in-Usage-clause-limit_due
returns-in-Usage-clause-limit_due g c = λ name wire budget run place_fault making_fault gesture_fault output_fault declares many.
    absurd (none_named (map (λ (w : Bor (List ℕ)). w.now) c.args.words.now) name c.in-Usage.ensures.ran.0 (run_named (map (λ (w : Bor (List ℕ)). w.now) c.args.words.now) name wire budget run))

pub returns-in-UsageCut-clause-complete : goal.returns-in-UsageCut-clause-complete
returns-in-UsageCut-clause-complete g c = λ name wire budget run place_fault making_fault gesture_fault output_fault declares few.
    absurd (none_named (map (λ (w : Bor (List ℕ)). w.now) c.args.words.now) name c.in-UsageCut.ensures.ran.0 (run_named (map (λ (w : Bor (List ℕ)). w.now) c.args.words.now) name wire budget run))

pub returns-in-UsageCut-clause-limit_due : goal.returns-in-UsageCut-clause-limit_due
returns-in-UsageCut-clause-limit_due g c = λ name wire budget run place_fault making_fault gesture_fault output_fault declares many.
    absurd (none_named (map (λ (w : Bor (List ℕ)). w.now) c.args.words.now) name c.in-UsageCut.ensures.ran.0 (run_named (map (λ (w : Bor (List ℕ)). w.now) c.args.words.now) name wire budget run))

pub returns-in-AppFault-clause-usage_due : goal.returns-in-AppFault-clause-usage_due
returns-in-AppFault-clause-usage_due g c = λ none.
    absurd (none_named (map (λ (w : Bor (List ℕ)). w.now) c.args.words.now) _ none c.in-AppFault.ensures.ran.0.command)

pub returns-in-AppFault-clause-refusal_due : goal.returns-in-AppFault-clause-refusal_due
returns-in-AppFault-clause-refusal_due g c = λ name reason run place_fault declares.
    absurd (place_fault (fault_named (map (λ (w : Bor (List ℕ)). w.now) c.args.words.now) _ _ name c.in-AppFault.ensures.ran.0 run))

pub returns-in-AppFault-clause-check_due : goal.returns-in-AppFault-clause-check_due
returns-in-AppFault-clause-check_due g c = λ name run place_fault declares.
    absurd (place_fault (fault_named (map (λ (w : Bor (List ℕ)). w.now) c.args.words.now) _ _ name c.in-AppFault.ensures.ran.0 (check_named (map (λ (w : Bor (List ℕ)). w.now) c.args.words.now) name run)))

pub returns-in-AppFault-clause-complete : goal.returns-in-AppFault-clause-complete
returns-in-AppFault-clause-complete g c = λ name wire budget run place_fault making_fault gesture_fault output_fault declares few.
    absurd (place_fault (fault_named (map (λ (w : Bor (List ℕ)). w.now) c.args.words.now) _ _ name c.in-AppFault.ensures.ran.0 (run_named (map (λ (w : Bor (List ℕ)). w.now) c.args.words.now) name wire budget run)))

pub returns-in-AppFault-clause-limit_due : goal.returns-in-AppFault-clause-limit_due
returns-in-AppFault-clause-limit_due g c = λ name wire budget run place_fault making_fault gesture_fault output_fault declares many.
    absurd (place_fault (fault_named (map (λ (w : Bor (List ℕ)). w.now) c.args.words.now) _ _ name c.in-AppFault.ensures.ran.0 (run_named (map (λ (w : Bor (List ℕ)). w.now) c.args.words.now) name wire budget run)))

pub returns-in-Refused-clause-usage_due : goal.returns-in-Refused-clause-usage_due
returns-in-Refused-clause-usage_due g c = λ none.
    absurd (refused_commands _ (map (λ (w : Bor (List ℕ)). w.now) c.args.words.now) _ _ _ c.in-Refused.ensures.ran none)

pub returns-in-Refused-clause-check_due : goal.returns-in-Refused-clause-check_due
returns-in-Refused-clause-check_due g c = λ name run place_fault declares.
    absurd (refused_declares _ (map (λ (w : Bor (List ℕ)). w.now) c.args.words.now) _ _ _ name c.in-Refused.ensures.ran (check_named (map (λ (w : Bor (List ℕ)). w.now) c.args.words.now) name run) declares)

pub returns-in-Refused-clause-complete : goal.returns-in-Refused-clause-complete
returns-in-Refused-clause-complete g c = λ name wire budget run place_fault making_fault gesture_fault output_fault declares few.
    absurd (refused_declares _ (map (λ (w : Bor (List ℕ)). w.now) c.args.words.now) _ _ _ name c.in-Refused.ensures.ran (run_named (map (λ (w : Bor (List ℕ)). w.now) c.args.words.now) name wire budget run) declares)

pub returns-in-Refused-clause-limit_due : goal.returns-in-Refused-clause-limit_due
returns-in-Refused-clause-limit_due g c = λ name wire budget run place_fault making_fault gesture_fault output_fault declares many.
    absurd (refused_declares _ (map (λ (w : Bor (List ℕ)). w.now) c.args.words.now) _ _ _ name c.in-Refused.ensures.ran (run_named (map (λ (w : Bor (List ℕ)). w.now) c.args.words.now) name wire budget run) declares)

pub returns-in-Loads-clause-usage_due : goal.returns-in-Loads-clause-usage_due
returns-in-Loads-clause-usage_due g c = λ none.
    absurd (none_named (map (λ (w : Bor (List ℕ)). w.now) c.args.words.now) _ none (check_named (map (λ (w : Bor (List ℕ)). w.now) c.args.words.now) _ c.in-Loads.ensures.ran.0.command))

pub returns-in-Loads-clause-refusal_due : goal.returns-in-Loads-clause-refusal_due
returns-in-Loads-clause-refusal_due g c = λ name reason run place_fault declares.
    absurd (loaded_declares _ (map (λ (w : Bor (List ℕ)). w.now) c.args.words.now) _ name reason c.in-Loads.ensures.ran.0 run declares)

pub returns-in-Loads-clause-limit_due : goal.returns-in-Loads-clause-limit_due
returns-in-Loads-clause-limit_due g c = λ name wire budget run place_fault making_fault gesture_fault output_fault declares many.
    absurd (not_checked (map (λ (w : Bor (List ℕ)). w.now) c.args.words.now) name _ wire budget run c.in-Loads.ensures.ran.0.command)

pub returns-in-LoadsCut-clause-complete : goal.returns-in-LoadsCut-clause-complete
returns-in-LoadsCut-clause-complete g c = λ name wire budget run place_fault making_fault gesture_fault output_fault declares few.
    absurd (not_checked (map (λ (w : Bor (List ℕ)). w.now) c.args.words.now) name _ wire budget run c.in-LoadsCut.ensures.ran.0.command)

pub returns-in-LoadsCut-clause-limit_due : goal.returns-in-LoadsCut-clause-limit_due
returns-in-LoadsCut-clause-limit_due g c = λ name wire budget run place_fault making_fault gesture_fault output_fault declares many.
    absurd (not_checked (map (λ (w : Bor (List ℕ)). w.now) c.args.words.now) name _ wire budget run c.in-LoadsCut.ensures.ran.0.command)

pub returns-in-WireFault-clause-usage_due : goal.returns-in-WireFault-clause-usage_due
returns-in-WireFault-clause-usage_due g c = λ none.
    absurd (none_named (map (λ (w : Bor (List ℕ)). w.now) c.args.words.now) _ none (run_named (map (λ (w : Bor (List ℕ)). w.now) c.args.words.now) _ _ _ c.in-WireFault.ensures.ran.opened.command))

pub returns-in-WireFault-clause-refusal_due : goal.returns-in-WireFault-clause-refusal_due
returns-in-WireFault-clause-refusal_due g c = λ name reason run place_fault declares.
    absurd (opened_declares _ (map (λ (w : Bor (List ℕ)). w.now) c.args.words.now) _ _ _ name reason c.in-WireFault.ensures.ran.opened run declares)

pub returns-in-WireFault-clause-check_due : goal.returns-in-WireFault-clause-check_due
returns-in-WireFault-clause-check_due g c = λ name run place_fault declares.
    absurd (opened_checked _ (map (λ (w : Bor (List ℕ)). w.now) c.args.words.now) _ _ _ name c.in-WireFault.ensures.ran.opened run)

pub returns-in-Ended-Done-clause-usage_due : goal.returns-in-Ended-Done-clause-usage_due
returns-in-Ended-Done-clause-usage_due g c = λ none.
    absurd (none_named (map (λ (w : Bor (List ℕ)). w.now) c.args.words.now) _ none (run_named (map (λ (w : Bor (List ℕ)). w.now) c.args.words.now) _ _ _ c.in-Ended-Done.ensures.ran.opened.command))

pub returns-in-Ended-Done-clause-refusal_due : goal.returns-in-Ended-Done-clause-refusal_due
returns-in-Ended-Done-clause-refusal_due g c = λ name reason run place_fault declares.
    absurd (opened_declares _ (map (λ (w : Bor (List ℕ)). w.now) c.args.words.now) _ _ _ name reason c.in-Ended-Done.ensures.ran.opened run declares)

pub returns-in-Ended-ReadFault-clause-usage_due : goal.returns-in-Ended-ReadFault-clause-usage_due
returns-in-Ended-ReadFault-clause-usage_due g c = λ none.
    absurd (none_named (map (λ (w : Bor (List ℕ)). w.now) c.args.words.now) _ none (run_named (map (λ (w : Bor (List ℕ)). w.now) c.args.words.now) _ _ _ c.in-Ended-ReadFault.ensures.ran.opened.command))

pub returns-in-Ended-ReadFault-clause-refusal_due : goal.returns-in-Ended-ReadFault-clause-refusal_due
returns-in-Ended-ReadFault-clause-refusal_due g c = λ name reason run place_fault declares.
    absurd (opened_declares _ (map (λ (w : Bor (List ℕ)). w.now) c.args.words.now) _ _ _ name reason c.in-Ended-ReadFault.ensures.ran.opened run declares)

pub returns-in-Ended-ReadFault-clause-check_due : goal.returns-in-Ended-ReadFault-clause-check_due
returns-in-Ended-ReadFault-clause-check_due g c = λ name run place_fault declares.
    absurd (opened_checked _ (map (λ (w : Bor (List ℕ)). w.now) c.args.words.now) _ _ _ name c.in-Ended-ReadFault.ensures.ran.opened run)

pub returns-in-Ended-TooMany-clause-usage_due : goal.returns-in-Ended-TooMany-clause-usage_due
returns-in-Ended-TooMany-clause-usage_due g c = λ none.
    absurd (none_named (map (λ (w : Bor (List ℕ)). w.now) c.args.words.now) _ none (run_named (map (λ (w : Bor (List ℕ)). w.now) c.args.words.now) _ _ _ c.in-Ended-TooMany.ensures.ran.opened.command))

pub returns-in-Ended-TooMany-clause-refusal_due : goal.returns-in-Ended-TooMany-clause-refusal_due
returns-in-Ended-TooMany-clause-refusal_due g c = λ name reason run place_fault declares.
    absurd (opened_declares _ (map (λ (w : Bor (List ℕ)). w.now) c.args.words.now) _ _ _ name reason c.in-Ended-TooMany.ensures.ran.opened run declares)

pub returns-in-Ended-TooMany-clause-check_due : goal.returns-in-Ended-TooMany-clause-check_due
returns-in-Ended-TooMany-clause-check_due g c = λ name run place_fault declares.
    absurd (opened_checked _ (map (λ (w : Bor (List ℕ)). w.now) c.args.words.now) _ _ _ name c.in-Ended-TooMany.ensures.ran.opened run)

pub returns-in-Ended-Done-clause-limit_due : goal.returns-in-Ended-Done-clause-limit_due
returns-in-Ended-Done-clause-limit_due g c = λ name wire budget run place_fault making_fault gesture_fault output_fault declares many.
    absurd (end_reached _ (map (λ (w : Bor (List ℕ)). w.now) c.args.words.now) _ _ _ _ c.in-Ended-Done.field-0 c.in-Ended-Done.field-0-is c.in-Ended-Done.ensures.ran many)

pub returns-in-Ended-TooMany-clause-complete : goal.returns-in-Ended-TooMany-clause-complete
returns-in-Ended-TooMany-clause-complete g c = λ name wire budget run place_fault making_fault gesture_fault output_fault declares few.
    absurd (limit_passed _ (map (λ (w : Bor (List ℕ)). w.now) c.args.words.now) _ _ _ _ c.in-Ended-TooMany.field-0 c.in-Ended-TooMany.field-0-is c.in-Ended-TooMany.ensures.ran few)

pub returns-in-Usage-clause-bench_due : goal.returns-in-Usage-clause-bench_due
returns-in-Usage-clause-bench_due g c = λ items run declares.
    absurd (none_benched (map (λ (w : Bor (List ℕ)). w.now) c.args.words.now) items c.in-Usage.ensures.ran.0 run)

pub returns-in-AppFault-clause-bench_due : goal.returns-in-AppFault-clause-bench_due
returns-in-AppFault-clause-bench_due g c = λ items run declares.
    absurd (bench_unnamed (map (λ (w : Bor (List ℕ)). w.now) c.args.words.now) items _ run c.in-AppFault.ensures.ran.0.command)

pub returns-in-WireFault-clause-bench_due : goal.returns-in-WireFault-clause-bench_due
returns-in-WireFault-clause-bench_due g c = λ items run declares.
    absurd (bench_unnamed (map (λ (w : Bor (List ℕ)). w.now) c.args.words.now) items _ run (run_named (map (λ (w : Bor (List ℕ)). w.now) c.args.words.now) _ _ _ c.in-WireFault.ensures.ran.opened.command))

pub returns-in-Ended-ReadFault-clause-bench_due : goal.returns-in-Ended-ReadFault-clause-bench_due
returns-in-Ended-ReadFault-clause-bench_due g c = λ items run declares.
    absurd (bench_unnamed (map (λ (w : Bor (List ℕ)). w.now) c.args.words.now) items _ run (run_named (map (λ (w : Bor (List ℕ)). w.now) c.args.words.now) _ _ _ c.in-Ended-ReadFault.ensures.ran.opened.command))

pub returns-in-Ended-TooMany-clause-bench_due : goal.returns-in-Ended-TooMany-clause-bench_due
returns-in-Ended-TooMany-clause-bench_due g c = λ items run declares.
    absurd (bench_unnamed (map (λ (w : Bor (List ℕ)). w.now) c.args.words.now) items _ run (run_named (map (λ (w : Bor (List ℕ)). w.now) c.args.words.now) _ _ _ c.in-Ended-TooMany.ensures.ran.opened.command))

pub returns-in-Usage-clause-bench_refusal_due : goal.returns-in-Usage-clause-bench_refusal_due
returns-in-Usage-clause-bench_refusal_due g c = λ items reason run refused.
    absurd (none_benched (map (λ (w : Bor (List ℕ)). w.now) c.args.words.now) items c.in-Usage.ensures.ran.0 run)

pub returns-in-AppFault-clause-bench_refusal_due : goal.returns-in-AppFault-clause-bench_refusal_due
returns-in-AppFault-clause-bench_refusal_due g c = λ items reason run refused.
    absurd (bench_unnamed (map (λ (w : Bor (List ℕ)). w.now) c.args.words.now) items _ run c.in-AppFault.ensures.ran.0.command)

pub returns-in-WireFault-clause-bench_refusal_due : goal.returns-in-WireFault-clause-bench_refusal_due
returns-in-WireFault-clause-bench_refusal_due g c = λ items reason run refused.
    absurd (bench_unnamed (map (λ (w : Bor (List ℕ)). w.now) c.args.words.now) items _ run (run_named (map (λ (w : Bor (List ℕ)). w.now) c.args.words.now) _ _ _ c.in-WireFault.ensures.ran.opened.command))

pub returns-in-Ended-ReadFault-clause-bench_refusal_due : goal.returns-in-Ended-ReadFault-clause-bench_refusal_due
returns-in-Ended-ReadFault-clause-bench_refusal_due g c = λ items reason run refused.
    absurd (bench_unnamed (map (λ (w : Bor (List ℕ)). w.now) c.args.words.now) items _ run (run_named (map (λ (w : Bor (List ℕ)). w.now) c.args.words.now) _ _ _ c.in-Ended-ReadFault.ensures.ran.opened.command))

pub returns-in-Ended-TooMany-clause-bench_refusal_due : goal.returns-in-Ended-TooMany-clause-bench_refusal_due
returns-in-Ended-TooMany-clause-bench_refusal_due g c = λ items reason run refused.
    absurd (bench_unnamed (map (λ (w : Bor (List ℕ)). w.now) c.args.words.now) items _ run (run_named (map (λ (w : Bor (List ℕ)). w.now) c.args.words.now) _ _ _ c.in-Ended-TooMany.ensures.ran.opened.command))

pub returns-in-Ended-Done-clause-bench_refusal_due : goal.returns-in-Ended-Done-clause-bench_refusal_due
returns-in-Ended-Done-clause-bench_refusal_due g c = λ items reason run refused.
    absurd (bench_unnamed (map (λ (w : Bor (List ℕ)). w.now) c.args.words.now) items _ run (run_named (map (λ (w : Bor (List ℕ)). w.now) c.args.words.now) _ _ _ c.in-Ended-Done.ensures.ran.opened.command))

pub returns-in-Refused-clause-bench_due : goal.returns-in-Refused-clause-bench_due
returns-in-Refused-clause-bench_due g c = λ items run declares.
    absurd (refused_makes _ (map (λ (w : Bor (List ℕ)). w.now) c.args.words.now) _ _ _ items declares.0 c.in-Refused.ensures.ran run declares.1)

pub returns-in-Loads-clause-bench_refusal_due : goal.returns-in-Loads-clause-bench_refusal_due
returns-in-Loads-clause-bench_refusal_due g c = λ items reason run refused.
    absurd (bench_unnamed (map (λ (w : Bor (List ℕ)). w.now) c.args.words.now) items _ run (check_named (map (λ (w : Bor (List ℕ)). w.now) c.args.words.now) _ c.in-Loads.ensures.ran.0.command))

pub returns-in-Benched-clause-bench_refusal_due : goal.returns-in-Benched-clause-bench_refusal_due
returns-in-Benched-clause-bench_refusal_due g c = λ items reason run refused.
    absurd (bench_declares _ (map (λ (w : Bor (List ℕ)). w.now) c.args.words.now) _ items _ reason c.in-Benched.ensures.ran.1 c.in-Benched.ensures.ran.2.1 run refused)

pub returns-in-Benched-clause-usage_due : goal.returns-in-Benched-clause-usage_due
returns-in-Benched-clause-usage_due g c = λ none.
    absurd (none_benched (map (λ (w : Bor (List ℕ)). w.now) c.args.words.now) _ none c.in-Benched.ensures.ran.1)

pub returns-in-Benched-clause-refusal_due : goal.returns-in-Benched-clause-refusal_due
returns-in-Benched-clause-refusal_due g c = λ name reason run place_fault declares.
    absurd (bench_unnamed (map (λ (w : Bor (List ℕ)). w.now) c.args.words.now) _ name c.in-Benched.ensures.ran.1 run)

pub returns-in-Benched-clause-limit_due : goal.returns-in-Benched-clause-limit_due
returns-in-Benched-clause-limit_due g c = λ name wire budget run place_fault making_fault gesture_fault output_fault declares many.
    absurd (bench_unnamed (map (λ (w : Bor (List ℕ)). w.now) c.args.words.now) _ name c.in-Benched.ensures.ran.1 (run_named (map (λ (w : Bor (List ℕ)). w.now) c.args.words.now) name wire budget run))

pub returns-in-BenchCut-clause-complete : goal.returns-in-BenchCut-clause-complete
returns-in-BenchCut-clause-complete g c = λ name wire budget run place_fault making_fault gesture_fault output_fault declares few.
    absurd (bench_unnamed (map (λ (w : Bor (List ℕ)). w.now) c.args.words.now) _ name c.in-BenchCut.ensures.ran.1 (run_named (map (λ (w : Bor (List ℕ)). w.now) c.args.words.now) name wire budget run))

pub returns-in-BenchCut-clause-limit_due : goal.returns-in-BenchCut-clause-limit_due
returns-in-BenchCut-clause-limit_due g c = λ name wire budget run place_fault making_fault gesture_fault output_fault declares many.
    absurd (bench_unnamed (map (λ (w : Bor (List ℕ)). w.now) c.args.words.now) _ name c.in-BenchCut.ensures.ran.1 (run_named (map (λ (w : Bor (List ℕ)). w.now) c.args.words.now) name wire budget run))
