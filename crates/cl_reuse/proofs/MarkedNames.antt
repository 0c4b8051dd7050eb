-- Whether no level has a site and an id twice is told by the marks; and so it is of what displays draw.
use Rattle.std.proofs.Common.{◌≡◌, ◌∙◌, ap, sym, subst, refl, List, [], ◌∷◌, ◌++◌}
use Rattle.cl_value.specs.Data.{Data}
use Rattle.cl_syntax.specs.ShapeTree.{ShapeTree, shape_trees_of}
use Rattle.cl_syntax.specs.declared.sites.Site.{Site}
use Rattle.cl_region.specs.declared.rects.Shift.{Shift}
use Rattle.cl_application.specs.declared.applications.App.{App}
use Rattle.cl_eval.specs.Outcome.{Gives, Outcome, Traps}
use Rattle.cl_eval.specs.Slots.{Env, Slots}
use Rattle.cl_eval.specs.TypeMeanings.{TypeMeanings}
use Rattle.cl_eval.specs.declared.metering.Limits.{Limits}
use Rattle.cl_medium.specs.Items.{Item, move_item}
use Rattle.cl_record.specs.Marks.{Mark, close, draw, history_marks, move_marks, open_update}
use Rattle.cl_record.specs.Shifts.{join_shifts, still}
use Rattle.cl_record.specs.Trees.{Tree, Trees, leaf, none, presentation, tree, trees_of, update}
use Rattle.cl_display.specs.Drawings.{DrawingAt, blank_drawing}
use Rattle.cl_display.specs.Script.{fresh, history_of, script, whole_allowance}
use Rattle.cl_reuse.specs.Once.{AreOnce, HoldOnce, HoldsOnce, IsNamedOnce, names, names_in}
use Rattle.cl_reuse.specs.ReadValues.{scene_on}
use Rattle.cl_reuse.specs.Sited.{AreOwn}
use Rattle.cl_reuse.proofs.FaithRows.{forms-run}
use Rattle.cl_reuse.proofs.FlatRows.{behind, flat, no-branch, one_flat, row-flat, split-row, split-tree}
use Rattle.cl_reuse.proofs.NameLemmas.{names-once}

-- the name of the update that begins there
abbrev begun : List (Mark Item) → List (Site × Data)
begun (open_update h ∷ ms) = (h.site, h.id) ∷ []
begun ms = []

-- two rows that draw the same, where they stand, have the same names at their level
mutual
  names-of-tree : (v w : Shift) (t u : Tree Item) (rest others : List (Mark Item)) → one_flat v t rest ≡ one_flat w u others → names_in t ≡ names_in u
  names-of-tree v w (leaf a) (leaf b) rest others e = refl
  names-of-tree v w (presentation l p ts) (presentation m q us) rest others e =
      let inside = split-row (join_shifts p v) (join_shifts q w) ts us (close ∷ rest) (close ∷ others) tt tt (ap behind e) in
      names-of-row (join_shifts p v) (join_shifts q w) ts us (inside.marks [])
  names-of-tree v w (update h p ts) (update k q us) rest others e = ap begun e
  names-of-tree v w (leaf a) (presentation m q us) rest others e = cc
  names-of-tree v w (leaf a) (update k q us) rest others e = cc
  names-of-tree v w (presentation l p ts) (leaf b) rest others e = cc
  names-of-tree v w (presentation l p ts) (update k q us) rest others e = cc
  names-of-tree v w (update h p ts) (leaf b) rest others e = cc
  names-of-tree v w (update h p ts) (presentation m q us) rest others e = cc

  names-of-row : (v w : Shift) (ts us : Trees Item) → flat v ts [] ≡ flat w us [] → names ts ≡ names us
  names-of-row v w none none e = refl
  names-of-row v w none (tree u us) e = absurd (no-branch w u (flat w us []) e)
  names-of-row v w (tree t ts) none e = absurd (no-branch v t (flat v ts []) (sym e))
  names-of-row v w (tree t ts) (tree u us) e =
      let one = split-tree v w t u (flat v ts []) (flat w us []) e in
      let here = names-of-tree v w t u (flat v ts []) (flat w us []) e in
      let more = names-of-row v w ts us one.behind in
      λ i. here i ++ more i

mutual
  hold-tree : (v w : Shift) (t u : Tree Item) (rest others : List (Mark Item)) → one_flat v t rest ≡ one_flat w u others → HoldsOnce t → HoldsOnce u
  hold-tree v w (leaf a) (leaf b) rest others e h = tt
  hold-tree v w (presentation l p ts) (presentation m q us) rest others e h =
      let inside = split-row (join_shifts p v) (join_shifts q w) ts us (close ∷ rest) (close ∷ others) tt tt (ap behind e) in
      hold-level (join_shifts p v) (join_shifts q w) ts us (inside.marks []) h
  hold-tree v w (update h p ts) (update k q us) rest others e o =
      let inside = split-row (join_shifts p v) (join_shifts q w) ts us (close ∷ rest) (close ∷ others) tt tt (ap behind e) in
      let same = names-of-row (join_shifts p v) (join_shifts q w) ts us (inside.marks []) in
      (subst (λ (ns : List (Site × Data)). AreOnce ns) same o.0, hold-level (join_shifts p v) (join_shifts q w) ts us (inside.marks []) o.1)
  hold-tree v w (leaf a) (presentation m q us) rest others e h = cc
  hold-tree v w (leaf a) (update k q us) rest others e h = cc
  hold-tree v w (presentation l p ts) (leaf b) rest others e h = cc
  hold-tree v w (presentation l p ts) (update k q us) rest others e h = cc
  hold-tree v w (update h p ts) (leaf b) rest others e o = cc
  hold-tree v w (update h p ts) (presentation m q us) rest others e o = cc

  hold-level : (v w : Shift) (ts us : Trees Item) → flat v ts [] ≡ flat w us [] → HoldOnce ts → HoldOnce us
  hold-level v w ts none e h = tt
  hold-level v w none (tree u us) e h = absurd (no-branch w u (flat w us []) e)
  hold-level v w (tree t ts) (tree u us) e h =
      let one = split-tree v w t u (flat v ts []) (flat w us []) e in
      (hold-tree v w t u (flat v ts []) (flat w us []) e h.0, hold-level v w ts us one.behind h.1)

pub marked-once : (a b : List (Tree Item)) → history_marks move_item a ≡ history_marks move_item b → IsNamedOnce a → IsNamedOnce b
marked-once a b e h =
    let same : flat still (trees_of a) [] ≡ flat still (trees_of b) [] =
    row-flat still (trees_of a) ∙ ap (λ (ms : List (Mark Item)). move_marks move_item still ms) e ∙ sym (row-flat still (trees_of b)) in
    record {
      top = subst (λ (ns : List (Site × Data)). AreOnce ns) (names-of-row still still (trees_of a) (trees_of b) same) h.top;
      inside = hold-level still still (trees_of a) (trees_of b) same h.inside;
    }

pub none-once : IsNamedOnce []
none-once = record { top = tt; inside = tt }

-- ---- displays

-- the one mark of a display that trapped
item-once : (a : Item) (b : List (Tree Item)) → history_marks move_item b ≡ draw a ∷ [] → IsNamedOnce b
item-once a b m = marked-once (leaf a ∷ []) b (sym m) (record { top = tt; inside = (tt, tt) })

pub display-named : (limits : Limits) (app : App) (types : TypeMeanings) (slots : Slots) (forms : List ShapeTree) (env : Env)
    → AreOwn app (shape_trees_of forms) → (b : List (Tree Item))
    → history_marks move_item b ≡ script limits (scene_on app slots types) forms env → IsNamedOnce b
unfolding fresh
display-named limits app types slots forms env own b e = by-outcome (fresh limits (scene_on app slots types) forms env).outcome refl e
  where
    by-outcome : (o : Outcome DrawingAt) → (fresh limits (scene_on app slots types) forms env).outcome ≡ o → history_marks move_item b ≡ history_of o
        → IsNamedOnce b
    by-outcome (Gives s cost reach) p m =
        let drawn = forms-run app types slots limits.depth (whole_allowance limits) 0 env (shape_trees_of forms) own blank_drawing 0 0 s cost reach p in
        marked-once drawn.own b (sym drawn.behind ∙ sym m)
        (record { top = names-once (names (trees_of drawn.own)) [] drawn.named.new; inside = drawn.named.inside })
    by-outcome (Traps kind cost reach) p m = item-once _ b m
