-- When a status is due.
use Rattle.std.proofs.Common.{refl, ◌≡◌, ℕ, Bool, List, Option, None, inl, inr, subst}
use Rattle.std.specs.Prelude.{◌⊎◌}
use Rattle.cl_live.specs.Runs.{FaultRose, Refuses, Went}
use Rattle.cl_live.specs.Statuses.{status_of}
use Rattle.cl_live.specs.Words.{IsLive, IsNoLive, as_run}
use Rattle.cl_live.specs.declared.ends.How.{How}
use Rattle.cl_live.specs.declared.ends.How.TheVariants as how
use Rattle.cl_load.specs.Reason.{Reason}
use Rattle.cl_load.specs.Types.{Bounds}
use Rattle.cl_outside.specs.Causes.{Rose}
use Rattle.cl_program.proofs.StatusLemmas.{one_name, opened_declares, refused_declares, run_named}
use Rattle.cl_program.specs.Command.{Names}
use Rattle.cl_program.specs.Hosts.{HostMeanings}
use Rattle.cl_program.specs.Run.{IsRefused, NamesText, SaysWhole}
use Rattle.cl_program.specs.Statuses.{DeclaresApplication, HasRefusal}
use Rattle.cl_program.specs.Surroundings.{Placed, Streams}
use Rattle.cl_terminal.specs.declared.flows.Closing.TheVariants as closing
use Rattle.cl_terminal.specs.declared.running.RunEnd.TheVariants as end

-- words that ask for an application name it
named : (words : List (List ℕ)) (name : List ℕ) (budget : Option ℕ) → IsLive words name budget → Names (as_run words) name
named words name budget is = run_named (as_run words) name None budget is

-- the fault of the application's name rose
fault_of : (words : List (List ℕ)) (old new : Placed) (name : List ℕ) (budget : Option ℕ) → IsLive words name budget → FaultRose words old new
    → Rose (old.app_faults name) (new.app_faults name)
fault_of words old new name budget is r =
    subst (λ (n : List ℕ). Rose (old.app_faults n) (new.app_faults n))
    (one_name (as_run words) r.name name (named words r.name r.budget r.asked) (named words name budget is)) r.rose

-- a text that is refused declares no application
refused_not_declared : (bounds : Bounds) (words : List (List ℕ)) (place : Placed) (old new : Streams) (name : List ℕ) (budget : Option ℕ)
    → IsLive words name budget → Refuses bounds words place (SaysWhole old new) → DeclaresApplication bounds (place.file name) → ⊥
refused_not_declared bounds words place old new name budget is r d =
    let of : NamesText (as_run words) place r.text =
    record { name = r.name; command = named words r.name r.budget r.asked; of_file = r.of_file } in
    let refused : IsRefused bounds (as_run words) place r.refuses.0 =
    record { text = r.text; given = inl of; refusal = r.refuses.1 } in
    refused_declares bounds (as_run words) place old new name (record { reason = r.refuses.0; refused = refused; said = r.refuses.2 })
    (named words name budget is) d

module _ (told : Bool) (hosts : HostMeanings) (words : List (List ℕ)) (p q : Placed) (s t : Streams) where
  pub usage_due : (h : How) → Went told hosts words p q s t h → IsNoLive words
      → (status_of h ≡ 2) ⊎ (status_of h ≡ 5) ⊎ (status_of h ≡ 7)
  usage_due how.Usage r none = inl refl
  usage_due how.UsageCut r none = inr (inl refl)
  usage_due how.AppFault r none = absurd (none r.0.name r.0.budget r.0.asked)
  usage_due how.Refused r none = absurd (none r.name r.budget r.asked)
  usage_due how.RefusalCut r none = absurd (none r.name r.budget r.asked)
  usage_due how.Memory r none = inr (inr refl)
  usage_due (how.Ran ended) r none = absurd (none r.opened.name r.opened.budget r.opened.command)

  pub refusal_due : (h : How) (name : List ℕ) (budget : Option ℕ) (reason : Reason) → Went told hosts words p q s t h → IsLive words name budget
      → (Rose (p.app_faults name) (q.app_faults name) → ⊥) → HasRefusal hosts.bounds (p.file name) reason
      → (status_of h ≡ 1) ⊎ (status_of h ≡ 5) ⊎ (status_of h ≡ 7)
  refusal_due how.Usage name budget reason r is quiet refusal = absurd (r.0 name budget is)
  refusal_due how.UsageCut name budget reason r is quiet refusal = inr (inl refl)
  refusal_due how.AppFault name budget reason r is quiet refusal = absurd (quiet (fault_of words p q name budget is r.0))
  refusal_due how.Refused name budget reason r is quiet refusal = inl refl
  refusal_due how.RefusalCut name budget reason r is quiet refusal = inr (inl refl)
  refusal_due how.Memory name budget reason r is quiet refusal = inr (inr refl)
  refusal_due (how.Ran ended) name budget reason r is quiet refusal =
      absurd (opened_declares hosts (as_run words) p None r.g name reason r.opened (named words name budget is) refusal)

  pub complete : (h : How) (name : List ℕ) (budget : Option ℕ) → Went told hosts words p q s t h → IsLive words name budget
      → (Rose (p.app_faults name) (q.app_faults name) → ⊥) → (Rose s.gesture_faults t.gesture_faults → ⊥)
      → (Rose s.output_faults t.output_faults → ⊥) → DeclaresApplication hosts.bounds (p.file name)
      → (status_of h ≡ 0) ⊎ (status_of h ≡ 8) ⊎ (status_of h ≡ 7)
  complete how.Usage name budget r is quiet keys output declares = absurd (r.0 name budget is)
  complete how.UsageCut name budget r is quiet keys output declares = absurd (r.0 name budget is)
  complete how.AppFault name budget r is quiet keys output declares = absurd (quiet (fault_of words p q name budget is r.0))
  complete how.Refused name budget r is quiet keys output declares =
      absurd (refused_not_declared hosts.bounds words p s t name budget is r declares)
  complete how.RefusalCut name budget r is quiet keys output declares = absurd (output r.refuses.2.1.rose)
  complete how.Memory name budget r is quiet keys output declares = inr (inr refl)
  complete (how.Ran end.Memory) name budget r is quiet keys output declares = inr (inr refl)
  complete (how.Ran (end.Served closing.Done)) name budget r is quiet keys output declares = inl refl
  complete (how.Ran (end.Served closing.ReadFault)) name budget r is quiet keys output declares = absurd (keys r.ran.ran.served.serves.1)
  complete (how.Ran (end.Served closing.OutputFault)) name budget r is quiet keys output declares =
      absurd (output (subst (λ (n : ℕ). Rose s.output_faults n) r.ran.faults_is r.ran.ran.0))
  complete (how.Ran (end.Served closing.TooLong)) name budget r is quiet keys output declares = inr (inl refl)
