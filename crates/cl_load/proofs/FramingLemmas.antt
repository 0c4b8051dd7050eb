-- What comes of the one frame of declarations.
use Rattle.std.proofs.Common.{◌≡◌, ◌++◌, ℕ, List, [], ◌∷◌, refl}
use Rattle.std.specs.Prelude.{Some, Ok, Err, option_to_list}
use Rattle.cl_application.specs.declared.applications.App.{App}
use Rattle.cl_application.specs.declared.declarations.FrameDecl.{FrameDecl}
use Rattle.cl_expressions.specs.Load.{itself}
use Rattle.cl_forms.specs.declared.refusals.FormRefusal.{FormRefusal}
use Rattle.cl_forms.specs.declared.refusals.FormRefusal.TheVariants.{Refused, Memory}
use Rattle.cl_declare.specs.declared.declarations.Declarations.{Declarations}
use Rattle.cl_declare.specs.declared.frames.FrameForm.{FrameForm}
use Rattle.cl_opening.specs.Answers.{Makes}
use Rattle.cl_opening.specs.Placing.{place_frame}
use Rattle.cl_load.specs.Refusals.{app_of}
use Rattle.cl_load.specs.Settling.{AppFramed, FramesApp, TakesFrame}

-- the one frame is the one that is taken out
pub only_taken : (f g : FrameForm) (left : List FrameForm) → f ∷ [] ≡ left ++ option_to_list (Some g) → f ≡ g
only_taken f g [] h = cc
only_taken f g (x ∷ []) h = cc
only_taken f g (x ∷ y ∷ left) h = cc

-- no frame, or two
pub misses_frame : (e : FormRefusal) (size : ℕ) (s : Declarations) → TakesFrame (Err e) size s.frames → FramesApp (Err e) size s
misses_frame (Refused number at) size s h = rw h refl
misses_frame Memory size s h = tt

-- no place for it
pub misses_place : (e : FormRefusal) (size : ℕ) (s : Declarations) (f : FrameForm) → s.frames ≡ f ∷ [] → Makes (itself {A = FrameDecl}) (Err e) (place_frame f)
    → FramesApp (Err e) size s
misses_place (Refused number at) size s f one h = rw (one, h) refl
misses_place Memory size s f one h = tt

pub app_framed : (s : Declarations) (f : FrameForm) (d : FrameDecl) (app : App) → s.frames ≡ f ∷ [] → place_frame f ≡ Ok d → app ≡ app_of s d → AppFramed s app
app_framed s f d app one placed made = rw made (record { form = f; one = one; placed = placed; made = refl })
