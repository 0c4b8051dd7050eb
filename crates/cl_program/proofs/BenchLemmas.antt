-- What a bench comes to, by the sums over what was told of its pane.
use Rattle.std.proofs.Common.{◌≡◌, ◌≤◌, ◌+◌, ℕ, List, ◌++◌, length, refl, ◌∙◌, ap, append-nil, Option, Some, None, inl, inr, arith}
use Rattle.std.specs.Prelude.{◌⊎◌, Err}
use Rattle.cl_application.specs.declared.applications.App.{App}
use Rattle.cl_frame.specs.Ground.{Ground, ground}
use Rattle.cl_gen.specs.Workload.{application_text, gestures_text}
use Rattle.cl_gesture.specs.Lines.{pieces}
use Rattle.cl_lattice.specs.World.{World}
use Rattle.cl_load.specs.Application.{IsApplication}
use Rattle.cl_load.specs.Loads.{Loads}
use Rattle.cl_load.specs.Types.{types_in}
use Rattle.cl_load.specs.declared.refusals.LoadRefusal.{LoadRefusal}
use Rattle.cl_outside.specs.Causes.{Rose}
use Rattle.cl_ptext.specs.Subtyping.{hierarchy_in}
use Rattle.cl_session.specs.declared.serving.End.TheVariants as end
use Rattle.cl_session.specs.declared.totals.Totals.{Totals}
use Rattle.cl_program.specs.Command.{IsBench}
use Rattle.cl_program.specs.Commands.{RanBench, Tells, TellsTotals}
use Rattle.cl_program.specs.Hosts.{HostMeanings, meanings_in, reads_in}
use Rattle.cl_program.specs.Run.{BenchesShort, EndsAs, IsMeasured, MakesText, OfBench, Ran, RanOut, RanOutBenching, RanOutServing, ReadToEnd, ReadToFault, ReadToLimit, SaysCut, SaysWhole, WrittenToFault, ground_in, limits_of, opening_cost}
use Rattle.cl_program.specs.Surroundings.{Placed, Streams, no_device, streams}
use Rattle.cl_program.specs.declared.running.How.{How}
use Rattle.cl_program.specs.declared.running.How.TheVariants as how
use Rattle.cl_program.proofs.CommandLemmas.{refuses, stands}
use Rattle.cl_program.proofs.StatusLemmas.{more_lines}

-- ---- the gestures

module _ (g : Ground) (bytes rest : List ℕ) (from to : ℕ) (totals : Totals) where
  -- gestures in memory that were read to their end were all read
  pub measured : EndsAs g (streams (Some bytes) 0 None 0 from) (streams (Some rest) 0 None 0 to) no_device no_device totals end.Done → IsMeasured g bytes from to totals
  measured r =
      let read : ReadToEnd g (streams (Some bytes) 0 None 0 from) (streams (Some rest) 0 None 0 to) no_device no_device totals = r in
      let all : bytes ≡ read.read = read.consumed ∙ (ap (λ xs. read.read ++ xs) read.at_end ∙ append-nil read.read) in
      record { written = read.written; transcript = rw (← all) at read.transcript }

  -- no read fails, no write fails, and no line is behind a million
  pub no_read_fault : EndsAs g (streams (Some bytes) 0 None 0 from) (streams (Some rest) 0 None 0 to) no_device no_device totals end.ReadFault → ⊥
  no_read_fault r =
      let read : ReadToFault g (streams (Some bytes) 0 None 0 from) (streams (Some rest) 0 None 0 to) no_device no_device totals = r in
      let rose : Rose 0 0 = read.rose in omega (arith, rose)

  pub no_output_fault : EndsAs g (streams (Some bytes) 0 None 0 from) (streams (Some rest) 0 None 0 to) no_device no_device totals end.OutputFault → ⊥
  no_output_fault r =
      let written : WrittenToFault g (streams (Some bytes) 0 None 0 from) (streams (Some rest) 0 None 0 to) no_device no_device totals = r in
      let rose : Rose 0 0 = written.rose in omega (arith, rose)

  pub no_limit : length (pieces bytes) ≤ 1000000 → EndsAs g (streams (Some bytes) 0 None 0 from) (streams (Some rest) 0 None 0 to) no_device no_device totals end.TooMany → ⊥
  no_limit few r =
      let read : ReadToLimit g (streams (Some bytes) 0 None 0 from) (streams (Some rest) 0 None 0 to) no_device no_device totals = r in
      more_lines (Some bytes) (Some rest) read.read read.further read.consumed read.whole read.lines read.more few

-- ---- the line

module _ (hosts : HostMeanings) (items : ℕ) (app : App) (types : World) (left : Option (List ℕ)) (faults from to : ℕ)
    (is : IsApplication hosts.bounds (application_text items) app) (same : types ≡ types_in hosts.bounds app) where
  abbrev own : Ground
  own = ground app (meanings_in hosts.names types app) (reads_in hosts.names types app) (hierarchy_in types) (limits_of None)

  abbrev stood : Ground
  stood = ground_in hosts app (limits_of None)

  on_types : (totals : Totals) → IsMeasured own (gestures_text items) from to totals → IsMeasured stood (gestures_text items) from to totals
  on_types totals m = rw same at m

  -- the sums were told, or want of memory was
  module _ (totals : Totals) (taken_old taken_new : Option (List ℕ)) (x y : ℕ) (m : IsMeasured own (gestures_text items) from to totals) where
    abbrev before : Streams
    before = streams left faults taken_old x from

    abbrev behind : Streams
    behind = streams left faults taken_new y to

    pub bench-told : (h : How) → TellsTotals items totals taken_old taken_new x y h → RanBench hosts items before behind h
    bench-told how.Usage told = absurd told
    bench-told how.UsageCut told = absurd told
    bench-told how.AppFault told = absurd told
    bench-told how.Refused told = absurd told
    bench-told how.RefusalCut told = absurd told
    bench-told how.Loads told = absurd told
    bench-told how.LoadsCut told = absurd told
    bench-told how.WireFault told = absurd told
    bench-told how.Memory told =
        let short : BenchesShort before behind items stood =
        record { same = rw (told.1, told.2) refl; totals = totals; measured = on_types totals m; short = told.0 } in
        let ran_out : RanOutBenching before behind items stood = inr short in
        inr (app, is, ran_out)
    bench-told how.Benched told = (app, is, record { totals = totals; measured = on_types totals m; complete = told.0; left = refl; faults = refl; said = told.1 })
    bench-told how.BenchCut told = (app, is, record { totals = totals; measured = on_types totals m; complete = told.0; left = refl; faults = refl; said = told.1 })
    bench-told (how.Ended e) told = absurd told

  -- the opening met want of memory
  pub bench-ran_out : (taken : Option (List ℕ)) (x : ℕ) → from ≤ to → to ≤ from + opening_cost own
      → RanBench hosts items (streams left faults taken x from) (streams left faults taken x to) how.Memory
  bench-ran_out taken x later most =
      let short : RanOut stood (streams left faults taken x from) (streams left faults taken x to) =
      record { same = refl; later = later; at_most = rw same at most } in
      let ran_out : RanOutBenching (streams left faults taken x from) (streams left faults taken x to) items stood = inl short in
      inr (app, is, ran_out)

-- the text of the bench is refused
pub bench-refused : (hosts : HostMeanings) (items : ℕ) (r : LoadRefusal) (s t : Streams) (h : How)
    → Loads hosts.bounds (application_text items) (Err r) → Tells r s t h → RanBench hosts items s t h
bench-refused hosts items r s t how.Usage is told = absurd told
bench-refused hosts items r s t how.UsageCut is told = absurd told
bench-refused hosts items r s t how.AppFault is told = absurd told
bench-refused hosts items r s t how.Refused is told = refuses hosts.bounds (application_text items) r (SaysWhole s t) (stands hosts.bounds (application_text items) r is) told
bench-refused hosts items r s t how.RefusalCut is told = refuses hosts.bounds (application_text items) r (SaysCut s t) (stands hosts.bounds (application_text items) r is) told
bench-refused hosts items r s t how.Loads is told = absurd told
bench-refused hosts items r s t how.LoadsCut is told = absurd told
bench-refused hosts items r s t how.WireFault is told = absurd told
bench-refused hosts items r s t how.Memory is told = inl told
bench-refused hosts items r s t how.Benched is told = absurd told
bench-refused hosts items r s t how.BenchCut is told = absurd told
bench-refused hosts items r s t (how.Ended e) is told = absurd told

-- ---- the words

pub Ran-bench : (hosts : HostMeanings) (words : List (List ℕ)) (items : ℕ) (p q : Placed) (s t : Streams) (h : How) → IsBench words items
    → RanBench hosts items s t h → Ran hosts words p q s t h
Ran-bench hosts words items p q s t how.Usage is r = absurd r
Ran-bench hosts words items p q s t how.UsageCut is r = absurd r
Ran-bench hosts words items p q s t how.AppFault is r = absurd r
Ran-bench hosts words items p q s t how.Refused is r =
    let made : MakesText words (application_text items) = record { items = items; command = is; made = refl } in
    record { reason = r.0; refused = record { text = application_text items; given = inr made; refusal = r.1 }; said = r.2 }
Ran-bench hosts words items p q s t how.RefusalCut is r =
    let made : MakesText words (application_text items) = record { items = items; command = is; made = refl } in
    record { reason = r.0; refused = record { text = application_text items; given = inr made; refusal = r.1 }; said = r.2 }
Ran-bench hosts words items p q s t how.Loads is r = absurd r
Ran-bench hosts words items p q s t how.LoadsCut is r = absurd r
Ran-bench hosts words items p q s t how.WireFault is r = absurd r
Ran-bench hosts words items p q s t how.Memory is (inl same) = inl same
Ran-bench hosts words items p q s t how.Memory is (inr r) =
    let bench : OfBench hosts words (RanOutBenching s t) = (items, is, r) in
    let either : RanOutServing hosts words p s t ⊎ OfBench hosts words (RanOutBenching s t) = inr bench in
    inr either
Ran-bench hosts words items p q s t how.Benched is r = (items, is, r)
Ran-bench hosts words items p q s t how.BenchCut is r = (items, is, r)
Ran-bench hosts words items p q s t (how.Ended e) is r = absurd r
