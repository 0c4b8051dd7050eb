-- A run of words, by the run of the text that they name.
use Rattle.std.proofs.Common.{refl, ◌≡◌, ◌≢◌, ◌≤◌, ◌⊎◌, ℕ, List, sym, ◌∙◌, ap, Option, Some, None, Bool, true, inl, inr, subst, arith}
use Rattle.std.specs.Prelude.{Err, option_and_then, option_map}
use Rattle.cl_application.specs.declared.applications.App.{App}
use Rattle.cl_eval.specs.declared.metering.Limits.{Limits}
use Rattle.cl_frame.specs.Ground.{Ground, ground}
use Rattle.cl_frame.specs.Sending.{Wire, wire_of}
use Rattle.cl_invocation.specs.Words.{Invocation, run, check, invocation_of}
use Rattle.cl_lattice.specs.World.{World}
use Rattle.cl_load.specs.Application.{IsApplication, IsReason}
use Rattle.cl_load.specs.Loads.{Loads}
use Rattle.cl_load.specs.Reason.{Reason, refused, uncovered}
use Rattle.cl_load.specs.Types.{Bounds, holds_in, types_in}
use Rattle.cl_load.specs.declared.refusals.LoadRefusal.{LoadRefusal}
use Rattle.cl_load.specs.declared.refusals.LoadRefusal.TheVariants as refusal
use Rattle.cl_loaded.proofs.Reused.{loaded_reuse}
use Rattle.cl_outside.specs.Causes.{Rose}
use Rattle.cl_outside.specs.Place.{IsTold}
use Rattle.cl_ptext.specs.Subtyping.{hierarchy_in}
use Rattle.cl_updating.specs.Redisplays.{CanReuse}
use Rattle.cl_program.specs.Command.{IsCheck, IsRun, application_of}
use Rattle.cl_program.specs.Commands.{Checked, KeepsFiles, MakesNoneAt, RanOn, RanText, RefusesText, SaysLine, Stands, Tells}
use Rattle.cl_program.specs.Hosts.{HostMeanings, meanings_in, reads_in}
use Rattle.cl_program.specs.Run.{IsRefused, NamesText, OfBench, Opens, Ran, RanLoaded, RanOutBenching, RanOutServing, SaysCut, SaysWhole, ground_in, limits_of}
use Rattle.cl_program.specs.Surroundings.{IsMade, Placed, Streams, UsesDevice, no_device}
use Rattle.cl_program.specs.Texts.{IsTextOf}
use Rattle.cl_program.specs.declared.running.How.{How}
use Rattle.cl_program.specs.declared.running.How.TheVariants as how

-- the device of a run, where nothing came to the sink before it
uses_from : (wire : Option (List ℕ)) (old mid new : Placed) (d e : Wire) → mid.sink ≡ old.sink → UsesDevice wire mid new d e → UsesDevice wire old new d e
uses_from None old mid new d e same u = (u.0, u.1, u.2 ∙ same)
uses_from (Some name) old mid new d e same u =
    (subst (λ (w : Wire). IsMade w d) same u.0, u.1, u.2)

-- words that name a file whose text is refused
is-refused : (bounds : Bounds) (words : List (List ℕ)) (place : Placed) (i : Invocation) (name text : List ℕ) (reason : Reason)
    → invocation_of words ≡ Some i → application_of i ≡ Some name → IsTextOf (place.file name) text → IsReason bounds text reason
    → IsRefused bounds words place reason
is-refused bounds words place i name text reason e f of refusal =
    let names : NamesText words place text =
    record { name = name; command = ap (option_and_then application_of) e ∙ f; of_file = of } in
    record { text = text; given = inl names; refusal = refusal }

module _ (hosts : HostMeanings) (words : List (List ℕ)) (name : List ℕ) (wire : Option (List ℕ)) (budget : Option ℕ) (run_is : IsRun words name wire budget) where
  opens : (place : Placed) (text : List ℕ) (app : App) → IsTextOf (place.file name) text → IsApplication hosts.bounds text app
      → Opens hosts words place wire (ground_in hosts app (limits_of budget))
  opens place text app of is =
      record { name = name; budget = budget; command = run_is; text = text; of_file = of; declared = is; stands = refl }

  pub Ran-text : (old mid new : Placed) (s t : Streams) (text : List ℕ) (h : How) → IsTextOf (old.file name) text → mid.sink ≡ old.sink
      → mid.making_faults ≡ old.making_faults → RanText hosts text wire (limits_of budget) mid new s t h → Ran hosts words old new s t h
  Ran-text old mid new s t text how.Usage of sink making r = absurd r
  Ran-text old mid new s t text how.UsageCut of sink making r = absurd r
  Ran-text old mid new s t text how.AppFault of sink making r = absurd r
  Ran-text old mid new s t text how.Refused of sink making r = record {
    reason = r.0;
    refused = is-refused hosts.bounds words old (run name wire budget) name text r.0 run_is refl of r.1;
    said = r.2;
  }
  Ran-text old mid new s t text how.RefusalCut of sink making r = record {
    reason = r.0;
    refused = is-refused hosts.bounds words old (run name wire budget) name text r.0 run_is refl of r.1;
    said = r.2;
  }
  Ran-text old mid new s t text how.Loads of sink making r = absurd r
  Ran-text old mid new s t text how.LoadsCut of sink making r = absurd r
  Ran-text old mid new s t text how.WireFault of sink making r = record {
    g = ground_in hosts r.0 (limits_of budget);
    wire = r.2.0;
    opened = subst (λ (w : Option (List ℕ)). Opens hosts words old w (ground_in hosts r.0 (limits_of budget))) r.2.1 (opens old text r.0 of r.1);
    rose = subst (λ (n : ℕ). Rose n new.making_faults) making r.2.2;
    same = r.2.3;
  }
  Ran-text old mid new s t text how.Memory of sink making (inl same) = inl same
  Ran-text old mid new s t text how.Memory of sink making (inr r) =
      let serving : RanOutServing hosts words old s t =
      record { g = ground_in hosts r.0 (limits_of budget); wire = wire; opened = opens old text r.0 of r.1; ran_out = r.2 } in
      let either : RanOutServing hosts words old s t ⊎ OfBench hosts words (RanOutBenching s t) = inl serving in
      inr either
  Ran-text old mid new s t text how.Benched of sink making r = absurd r
  Ran-text old mid new s t text how.BenchCut of sink making r = absurd r
  Ran-text old mid new s t text (how.Ended e) of sink making r = record {
    g = ground_in hosts r.0 (limits_of budget);
    wire = wire;
    opened = opens old text r.0 of r.1;
    device_old = r.2.device_old;
    device_new = r.2.device_new;
    uses = uses_from wire old mid new r.2.device_old r.2.device_new sink r.2.uses;
    totals = r.2.totals;
    went = r.2.went;
  }

pub Ran-check : (hosts : HostMeanings) (words : List (List ℕ)) (name : List ℕ) (old new : Placed) (s t : Streams) (text : List ℕ) (h : How) → IsCheck words name
    → IsTextOf (old.file name) text → Checked hosts.bounds text s t h → Ran hosts words old new s t h
Ran-check hosts words name old new s t text how.Usage is of r = absurd r
Ran-check hosts words name old new s t text how.UsageCut is of r = absurd r
Ran-check hosts words name old new s t text how.AppFault is of r = absurd r
Ran-check hosts words name old new s t text how.Refused is of r = record {
  reason = r.0;
  refused = is-refused hosts.bounds words old (check name) name text r.0 is refl of r.1;
  said = r.2;
}
Ran-check hosts words name old new s t text how.RefusalCut is of r = record {
  reason = r.0;
  refused = is-refused hosts.bounds words old (check name) name text r.0 is refl of r.1;
  said = r.2;
}
Ran-check hosts words name old new s t text how.Loads is of r = (record { name = name; command = is; text = text; of_file = of; app = r.0; declared = r.1 }, r.2)
Ran-check hosts words name old new s t text how.LoadsCut is of r = (record { name = name; command = is; text = text; of_file = of; app = r.0; declared = r.1 }, r.2)
Ran-check hosts words name old new s t text how.WireFault is of r = absurd r
Ran-check hosts words name old new s t text how.Memory is of r = inl r
Ran-check hosts words name old new s t text how.Benched is of r = absurd r
Ran-check hosts words name old new s t text how.BenchCut is of r = absurd r
Ran-check hosts words name old new s t text (how.Ended e) is of r = absurd r

-- its histories may be reused
pub reuse-loaded : (hosts : HostMeanings) (text : List ℕ) (app : App) (types : World) → IsApplication hosts.bounds text app → types ≡ types_in hosts.bounds app
    → CanReuse app (meanings_in hosts.names types app)
reuse-loaded hosts text app types is same =
    subst (λ (w : World). CanReuse app (meanings_in hosts.names w app)) (sym same)
    (loaded_reuse hosts.bounds text hosts.names (holds_in (types_in hosts.bounds app) app) app is)

-- an application that was loaded, with its types
pub Ran-application : (hosts : HostMeanings) (text : List ℕ) (wire : Option (List ℕ)) (limits : Limits) (app : App) (types : World) (p q : Placed) (s t : Streams) (h : How)
    → IsApplication hosts.bounds text app → types ≡ types_in hosts.bounds app → RanOn wire (ground app (meanings_in hosts.names types app) (reads_in hosts.names types app) (hierarchy_in types) limits) p q s t h → RanText hosts text wire limits p q s t h
Ran-application hosts text wire limits app types p q s t how.Usage is same r = absurd r
Ran-application hosts text wire limits app types p q s t how.UsageCut is same r = absurd r
Ran-application hosts text wire limits app types p q s t how.AppFault is same r = absurd r
Ran-application hosts text wire limits app types p q s t how.Refused is same r = absurd r
Ran-application hosts text wire limits app types p q s t how.RefusalCut is same r = absurd r
Ran-application hosts text wire limits app types p q s t how.Loads is same r = absurd r
Ran-application hosts text wire limits app types p q s t how.LoadsCut is same r = absurd r
Ran-application hosts text wire limits app types p q s t how.WireFault is same r = (app, is, r)
Ran-application hosts text wire limits app types p q s t how.Memory is same (inl r) = inl r
Ran-application hosts text wire limits app types p q s t how.Memory is same (inr r) = inr (app, is, rw same at r)
Ran-application hosts text wire limits app types p q s t how.Benched is same r = absurd r
Ran-application hosts text wire limits app types p q s t how.BenchCut is same r = absurd r
Ran-application hosts text wire limits app types p q s t (how.Ended e) is same r = (app, is, rw same at r)

-- ---- a text that does not load

-- the line of its refusal was said so
pub refuses : (bounds : Bounds) (text : List ℕ) (r : LoadRefusal) (said : List ℕ → Type 0) → Stands bounds text r → SaysLine r said → RefusesText bounds text said
refuses bounds text (refusal.Refused number at) said is line = (refused number at, is, line)
refuses bounds text (refusal.Uncovered form path) said is line = (uncovered (record { form = form; path = path }), is, line)
refuses bounds text refusal.Memory said is line = absurd line

pub stands : (bounds : Bounds) (text : List ℕ) (r : LoadRefusal) → Loads bounds text (Err r) → Stands bounds text r
stands bounds text (refusal.Refused number at) h = h
stands bounds text (refusal.Uncovered form path) h = h
stands bounds text refusal.Memory h = tt

-- a run of it
pub Ran-refused : (hosts : HostMeanings) (text : List ℕ) (wire : Option (List ℕ)) (limits : Limits) (r : LoadRefusal) (p q : Placed) (s t : Streams) (h : How)
    → Loads hosts.bounds text (Err r) → Tells r s t h → RanText hosts text wire limits p q s t h
Ran-refused hosts text wire limits r p q s t how.Usage is told = absurd told
Ran-refused hosts text wire limits r p q s t how.UsageCut is told = absurd told
Ran-refused hosts text wire limits r p q s t how.AppFault is told = absurd told
Ran-refused hosts text wire limits r p q s t how.Refused is told = refuses hosts.bounds text r (SaysWhole s t) (stands hosts.bounds text r is) told
Ran-refused hosts text wire limits r p q s t how.RefusalCut is told = refuses hosts.bounds text r (SaysCut s t) (stands hosts.bounds text r is) told
Ran-refused hosts text wire limits r p q s t how.Loads is told = absurd told
Ran-refused hosts text wire limits r p q s t how.LoadsCut is told = absurd told
Ran-refused hosts text wire limits r p q s t how.WireFault is told = absurd told
Ran-refused hosts text wire limits r p q s t how.Memory is told = inl told
Ran-refused hosts text wire limits r p q s t how.Benched is told = absurd told
Ran-refused hosts text wire limits r p q s t how.BenchCut is told = absurd told
Ran-refused hosts text wire limits r p q s t (how.Ended e) is told = absurd told

-- a check of it
pub Checked-refused : (bounds : Bounds) (text : List ℕ) (r : LoadRefusal) (s t : Streams) (h : How) → Stands bounds text r → Tells r s t h → Checked bounds text s t h
Checked-refused bounds text r s t how.Usage is told = absurd told
Checked-refused bounds text r s t how.UsageCut is told = absurd told
Checked-refused bounds text r s t how.AppFault is told = absurd told
Checked-refused bounds text r s t how.Refused is told = refuses bounds text r (SaysWhole s t) is told
Checked-refused bounds text r s t how.RefusalCut is told = refuses bounds text r (SaysCut s t) is told
Checked-refused bounds text r s t how.Loads is told = absurd told
Checked-refused bounds text r s t how.LoadsCut is told = absurd told
Checked-refused bounds text r s t how.WireFault is told = absurd told
Checked-refused bounds text r s t how.Memory is told = told
Checked-refused bounds text r s t how.Benched is told = absurd told
Checked-refused bounds text r s t how.BenchCut is told = absurd told
Checked-refused bounds text r s t (how.Ended e) is told = absurd told

-- ---- an application that was loaded

-- without a wire
pub RanOn-none : (wire : Option (List ℕ)) (g : Ground) (p q : Placed) (s t : Streams) (d e : Wire) (h : How) → wire ≡ None → d ≡ no_device → e ≡ no_device
    → q.sink ≡ p.sink → RanLoaded g s t d e h → RanOn wire g p q s t h
RanOn-none wire g p q s t d e how.Usage none begun ends sink r = absurd r
RanOn-none wire g p q s t d e how.UsageCut none begun ends sink r = absurd r
RanOn-none wire g p q s t d e how.AppFault none begun ends sink r = absurd r
RanOn-none wire g p q s t d e how.Refused none begun ends sink r = absurd r
RanOn-none wire g p q s t d e how.RefusalCut none begun ends sink r = absurd r
RanOn-none wire g p q s t d e how.Loads none begun ends sink r = absurd r
RanOn-none wire g p q s t d e how.LoadsCut none begun ends sink r = absurd r
RanOn-none wire g p q s t d e how.WireFault none begun ends sink r = absurd r
RanOn-none wire g p q s t d e how.Memory none begun ends sink r = inr r
RanOn-none wire g p q s t d e how.Benched none begun ends sink r = absurd r
RanOn-none wire g p q s t d e how.BenchCut none begun ends sink r = absurd r
RanOn-none wire g p q s t d e (how.Ended x) none begun ends sink r = record {
  device_old = d;
  device_new = e;
  uses = subst (λ (w : Option (List ℕ)). UsesDevice w p q d e) (sym none) (begun, ends, sink);
  totals = r.0;
  went = r.1;
}

-- on the sink of the file of its wire
pub RanOn-wire : (wire : Option (List ℕ)) (name : List ℕ) (g : Ground) (p q : Placed) (s t : Streams) (d : Wire) (h : How) → wire ≡ Some name
    → IsMade p.sink d → IsTold None q.sink.bytes (q.file name) → RanLoaded g s t d q.sink h → RanOn wire g p q s t h
RanOn-wire wire name g p q s t d how.Usage is made held r = absurd r
RanOn-wire wire name g p q s t d how.UsageCut is made held r = absurd r
RanOn-wire wire name g p q s t d how.AppFault is made held r = absurd r
RanOn-wire wire name g p q s t d how.Refused is made held r = absurd r
RanOn-wire wire name g p q s t d how.RefusalCut is made held r = absurd r
RanOn-wire wire name g p q s t d how.Loads is made held r = absurd r
RanOn-wire wire name g p q s t d how.LoadsCut is made held r = absurd r
RanOn-wire wire name g p q s t d how.WireFault is made held r = absurd r
RanOn-wire wire name g p q s t d how.Memory is made held r = inr r
RanOn-wire wire name g p q s t d how.Benched is made held r = absurd r
RanOn-wire wire name g p q s t d how.BenchCut is made held r = absurd r
RanOn-wire wire name g p q s t d (how.Ended x) is made held r = record {
  device_old = d;
  device_new = q.sink;
  uses = subst (λ (w : Option (List ℕ)). UsesDevice w p q d q.sink) (sym is) (made, refl, held);
  totals = r.0;
  went = r.1;
}

-- ---- what stays of a place

some_other : (name other : List ℕ) → Some name ≢ Some other → other ≢ name
some_other name other apart e = apart (ap (λ (n : List ℕ). Some n) (sym e))

no_none : {P : Type 0} (name : List ℕ) → Some name ≡ None → P
no_none name e = cc

-- a wire was made, or was to be
pub KeepsFiles-made : (application : List ℕ) (wire : Option (List ℕ)) (name : List ℕ) (by_name : Bool) (old new : Placed) → wire ≡ Some name
    → ((other : List ℕ) (file : Option (List ℕ)) → other ≢ name → old.file other ≡ Some file → new.file other ≡ Some file)
    → old.making_faults ≤ new.making_faults → old.sink.faults ≤ new.sink.faults → new.sink.told ≡ old.sink.told
    → ((other : List ℕ) → new.app_faults other ≡ old.app_faults other) → KeepsFiles application wire by_name old new
KeepsFiles-made application wire name by_name old new is files making sink told faults =
    let kept : KeepsFiles application (Some name) by_name old new = record {
      told_files = λ other file apart h. files other file (some_other name other apart) h;
      files = λ none. no_none name none;
      making = λ none. no_none name none;
      making_later = making;
      sink = λ none. no_none name none;
      sink_later = sink;
      told = told;
      faults_later = λ other. omega (arith, faults other);
      other_faults = λ each other apart. faults other;
    } in
    subst (λ (w : Option (List ℕ)). KeepsFiles application w by_name old new) (sym is) kept

-- a file was read before
pub KeepsFiles-read : (application : List ℕ) (wire : Option (List ℕ)) (by_old by_mid : Bool) (old mid new : Placed) → by_mid ≡ by_old
    → ((other : List ℕ) → mid.file other ≡ old.file other) → mid.making_faults ≡ old.making_faults → mid.sink ≡ old.sink
    → ((other : List ℕ) → old.app_faults other ≤ mid.app_faults other)
    → (by_old ≡ true → (other : List ℕ) → other ≢ application → mid.app_faults other ≡ old.app_faults other)
    → KeepsFiles application wire by_mid mid new → KeepsFiles application wire by_old old new
KeepsFiles-read application wire by_old by_mid old mid new same files making sink later others h = record {
  told_files = λ name file apart is. h.told_files name file apart (files name ∙ is);
  files = λ none name. h.files none name ∙ files name;
  making = λ none. h.making none ∙ making;
  making_later = omega (arith, making, h.making_later);
  sink = λ none. h.sink none ∙ sink;
  sink_later = omega (arith, ap (λ (w : Wire). w.faults) sink, h.sink_later);
  told = h.told ∙ ap (λ (w : Wire). w.told) sink;
  faults_later = λ name. omega (arith, later name, h.faults_later name);
  other_faults = λ each name apart. h.other_faults (same ∙ each) name apart ∙ others each name apart;
}

-- a sink by what is told of it
pub wire_same : (a b : Option (List ℕ)) (x y : ℕ) (s t : Bool) → a ≡ b → x ≡ y → s ≡ t → wire_of a x s ≡ wire_of b y t
wire_same a b x y s t e f g = rw (e, f, g) refl

-- a file that is told, as one of the others
pub told_other : (other : Option (Option (List ℕ))) (taken : Option (List ℕ)) (file : Option (Option (List ℕ))) (bytes : Option (List ℕ))
    → other ≡ Some bytes → IsTold other taken file → file ≡ Some bytes
told_other other taken file bytes e h = rw e at h

-- none was fallen into
pub none_by : {A B : Type 0} (f : A → B) (o : Option A) → ((x : A) → o ≡ Some x → ⊥) → option_map f o ≡ None
none_by f None no_one = refl
none_by f (Some x) no_one = absurd (no_one x refl)

-- ---- where no sink is made

-- each part of the place is as it was
pub makes-kept : (old new : Placed) (h : How) → ((name : List ℕ) → new.file name ≡ old.file name) → new.making_faults ≡ old.making_faults
    → new.sink ≡ old.sink → MakesNoneAt h old new
makes-kept old new how.Usage files making sink = tt
makes-kept old new how.UsageCut files making sink = tt
makes-kept old new how.AppFault files making sink = record { files = files; making = making; sink = sink }
makes-kept old new how.Refused files making sink = record { files = files; making = making; sink = sink }
makes-kept old new how.RefusalCut files making sink = record { files = files; making = making; sink = sink }
makes-kept old new how.Loads files making sink = tt
makes-kept old new how.LoadsCut files making sink = tt
makes-kept old new how.WireFault files making sink = tt
makes-kept old new how.Memory files making sink = tt
makes-kept old new how.Benched files making sink = tt
makes-kept old new how.BenchCut files making sink = tt
makes-kept old new (how.Ended end) files making sink = tt

-- a file was read before
pub makes-read : (old mid new : Placed) (h : How) → ((name : List ℕ) → mid.file name ≡ old.file name) → mid.making_faults ≡ old.making_faults
    → mid.sink ≡ old.sink → MakesNoneAt h mid new → MakesNoneAt h old new
makes-read old mid new how.Usage files making sink m = tt
makes-read old mid new how.UsageCut files making sink m = tt
makes-read old mid new how.AppFault files making sink m = record { files = λ name. m.files name ∙ files name; making = m.making ∙ making; sink = m.sink ∙ sink }
makes-read old mid new how.Refused files making sink m = record { files = λ name. m.files name ∙ files name; making = m.making ∙ making; sink = m.sink ∙ sink }
makes-read old mid new how.RefusalCut files making sink m = record { files = λ name. m.files name ∙ files name; making = m.making ∙ making; sink = m.sink ∙ sink }
makes-read old mid new how.Loads files making sink m = tt
makes-read old mid new how.LoadsCut files making sink m = tt
makes-read old mid new how.WireFault files making sink m = tt
makes-read old mid new how.Memory files making sink m = tt
makes-read old mid new how.Benched files making sink m = tt
makes-read old mid new how.BenchCut files making sink m = tt
makes-read old mid new (how.Ended end) files making sink m = tt

-- an application that was loaded is neither unread nor refused
pub makes-ran : (wire : Option (List ℕ)) (g : Ground) (p q : Placed) (s t : Streams) (h : How) → RanOn wire g p q s t h → MakesNoneAt h p q
makes-ran wire g p q s t how.Usage r = tt
makes-ran wire g p q s t how.UsageCut r = tt
makes-ran wire g p q s t how.AppFault r = absurd r
makes-ran wire g p q s t how.Refused r = absurd r
makes-ran wire g p q s t how.RefusalCut r = absurd r
makes-ran wire g p q s t how.Loads r = tt
makes-ran wire g p q s t how.LoadsCut r = tt
makes-ran wire g p q s t how.WireFault r = tt
makes-ran wire g p q s t how.Memory r = tt
makes-ran wire g p q s t how.Benched r = tt
makes-ran wire g p q s t how.BenchCut r = tt
makes-ran wire g p q s t (how.Ended end) r = tt
