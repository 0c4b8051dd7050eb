-- What the panes of a frame and all steps stand on.
use Rattle.cl_application.specs.declared.applications.App.{App}
use Rattle.cl_eval.specs.Statements.{Member}
use Rattle.cl_eval.specs.TypeMeanings.{Hierarchy, Presents, Reads, TypeMeanings}
use Rattle.cl_eval.specs.declared.metering.Limits.{Limits}
use Rattle.cl_eval.specs.declared.programs.Program.{Program}

-- an application, what its types say of values, what texts read as, which types stand above which, and the limits of its displays and commands
pub record Ground : Type 0 where
  pub app : App
  pub types : TypeMeanings
  pub reads : Reads
  pub hierarchy : Hierarchy
  pub limits : Limits

-- a ground of these parts
abbrev pub ground : App → TypeMeanings → Reads → Hierarchy → Limits → Ground
ground app types reads hierarchy limits = record { app = app; types = types; reads = reads; hierarchy = hierarchy; limits = limits }

-- what the types of a program say of values, by which are members of a type and by the texts of values
abbrev pub meanings_of : {T : Type 0} → (T → Member) → (T → Presents) → T → TypeMeanings
meanings_of holds presents types = record { holds = holds types; presents = presents types }

-- the ground of a program
abbrev pub ground_of : {T : Type 0} → (T → Member) → (T → Presents) → (T → Reads) → (T → Hierarchy) → Program T → Ground
ground_of holds presents reads hierarchy program =
    ground program.app.now (meanings_of holds presents program.types.now) (reads program.types.now) (hierarchy program.types.now) program.limits
