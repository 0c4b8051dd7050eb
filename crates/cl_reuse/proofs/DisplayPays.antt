-- Displays over faithful histories.
use Rattle.std.proofs.Common.{◌≡◌, subst, sym, refl, ℕ, suc, ◌+◌, ◌≤◌, Bool, true, false, if◌then◌else◌, List, [], ◌∷◌, length, arith}
use Rattle.cl_syntax.specs.ShapeTree.{ShapeTree, shape_trees_of}
use Rattle.cl_application.specs.declared.applications.App.{App}
use Rattle.cl_cover.specs.Updates.{AreCovered}
use Rattle.cl_eval.specs.Outcome.{Gives, cost_of}
use Rattle.cl_eval.specs.Slots.{Env, Slots}
use Rattle.cl_eval.specs.TypeMeanings.{AreTexts, TypeMeanings}
use Rattle.cl_eval.specs.declared.metering.Limits.{Limits}
use Rattle.cl_medium.specs.Items.{Item}
use Rattle.cl_record.specs.Shifts.{still}
use Rattle.cl_record.specs.Trees.{Tree, trees_of}
use Rattle.cl_display.specs.Drawings.{DrawingAt, blank_drawing}
use Rattle.cl_display.specs.Outcomes.{DrawOutcome}
use Rattle.cl_display.specs.Script.{fresh, whole_allowance}
use Rattle.cl_reuse.specs.Kept.{KeptAt, costs, count_moved, count_still, is_still, kept, work}
use Rattle.cl_reuse.specs.ReadValues.{SeesReads, scene_on}
use Rattle.cl_reuse.specs.Recorded.{HasFaithfulHistory, IsFaithfulHistory}
use Rattle.cl_reuse.specs.Sited.{AreApart, AreOwn}
use Rattle.cl_reuse.proofs.FaithRows.{forms-run}
use Rattle.cl_reuse.proofs.PayLemmas.{none-kept}
use Rattle.cl_reuse.proofs.PayRows.{pays-forms}

pub nothing-kept : (o : DrawOutcome) → kept [] o ≡ []
nothing-kept o = none-kept still o.walk

pub display-pays : (limits : Limits) (app : App) (types : TypeMeanings) (slots : Slots) (forms : List ShapeTree) (env : Env)
    → AreTexts app types.presents → SeesReads app types.presents → AreCovered app → AreApart app → AreOwn app (shape_trees_of forms)
    → (old : List (Tree Item)) → IsFaithfulHistory app types old
    → costs (kept old (fresh limits (scene_on app slots types) forms env)) ≤ cost_of (fresh limits (scene_on app slots types) forms env).outcome
unfolding fresh
display-pays limits app types slots forms env texts sees covered apart own old f =
    let pays = pays-forms app slots types texts sees covered apart limits.depth (whole_allowance limits) 0 env
    (shape_trees_of forms) own blank_drawing still (trees_of old)
    f.all 0 0 in
    omega (arith, pays)

-- the work and what is kept are the whole
pub display-works : (limits : Limits) (app : App) (types : TypeMeanings) (slots : Slots) (forms : List ShapeTree) (env : Env)
    → AreTexts app types.presents → SeesReads app types.presents → AreCovered app → AreApart app → AreOwn app (shape_trees_of forms)
    → (old : List (Tree Item)) → IsFaithfulHistory app types old → (o : DrawOutcome) → o ≡ fresh limits (scene_on app slots types) forms env
    → work old o + costs (kept old o) ≡ cost_of o.outcome
display-works limits app types slots forms env texts sees covered apart own old f o e =
    let pays : costs (kept old o) ≤ cost_of o.outcome =
    subst (λ (x : DrawOutcome). costs (kept old x) ≤ cost_of x.outcome) (sym e) (display-pays limits app types slots forms env texts sees covered apart own old f) in
    omega (arith, pays)

one-counted : (still : Bool) (a b n : ℕ) → a + b ≡ n → ((if still then 1 else 0) + a) + ((if still then 0 else 1) + b) ≡ suc n
one-counted true a b n e = omega (arith, e)
one-counted false a b n e = omega (arith, e)

pub all-counted : (ks : List KeptAt) → count_still ks + count_moved ks ≡ length ks
all-counted [] = refl
all-counted (k ∷ ks) = one-counted (is_still k) (count_still ks) (count_moved ks) (length ks) (all-counted ks)

pub display-faithful : (limits : Limits) (app : App) (types : TypeMeanings) (slots : Slots) (forms : List ShapeTree) (env : Env)
    → AreOwn app (shape_trees_of forms)
    → (s : DrawingAt) (cost reach : ℕ) → (fresh limits (scene_on app slots types) forms env).outcome ≡ Gives s cost reach
    → HasFaithfulHistory app types s.part.marks
unfolding fresh
display-faithful limits app types slots forms env own s cost reach p =
    let drawn = forms-run app types slots limits.depth (whole_allowance limits) 0 env (shape_trees_of forms) own blank_drawing 0 0 s cost reach p in
    record { history = drawn.own; marks_are = drawn.behind; faithful = record { all = drawn.faithful } }
