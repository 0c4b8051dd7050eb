-- The children of new records are told by their marks.
use Rattle.std.proofs.Common.{◌≡◌, ap, sym, refl, List, [], ◌∷◌, None}
use Rattle.cl_value.specs.Data.{Data}
use Rattle.cl_region.specs.declared.rects.Shift.{Shift}
use Rattle.cl_syntax.specs.declared.sites.Site.{Site}
use Rattle.cl_medium.specs.Items.{Item, move_item}
use Rattle.cl_record.specs.Marks.{Mark, close, draw, open_update}
use Rattle.cl_record.specs.Shifts.{join_shifts}
use Rattle.cl_record.specs.Trees.{Tree, Trees, leaf, presentation, tree, update}
use Rattle.cl_record.specs.Trees as records
use Rattle.cl_reuse.proofs.FlatRows.{behind, first, flat, no-branch, one_flat, split-row, split-tree}
use Rattle.cl_damage.specs.Children.{Children, child, item, none, updated}
use Rattle.cl_damage.specs.Keeps.{Keeps, opened}
use Rattle.cl_damage.specs.Keeps as keeps
use Rattle.cl_damage.specs.NewChildren.{new_child_before, new_children_before}

-- the item that is drawn first, and others
abbrev item_first : List (Mark Item) → Children Item → Children Item
item_first (draw a ∷ ms) ks = child (item a) ks
item_first ms ks = ks

-- the name of the update that is opened first
abbrev name_first : Site × Data → List (Mark Item) → Site × Data
name_first name (open_update h ∷ ms) = (h.site, h.id)
name_first name ms = name

mutual
  told-tree : (v w : Shift) (t u : Tree Item) (ms ns : List (Mark Item)) → one_flat v t ms ≡ one_flat w u ns → (ks : Keeps)
      → (rest other : Keeps → Children Item) → ((left : Keeps) → rest left ≡ other left)
      → new_child_before move_item v t ks rest ≡ new_child_before move_item w u ks other
  told-tree v w (leaf a) (leaf b) ms ns e ks rest other h = λ i. item_first (first (e i)) (h ks i)
  told-tree v w (presentation l p ts) (presentation m q us) ms ns e ks rest other h =
      let inside = split-row (join_shifts p v) (join_shifts q w) ts us (close ∷ ms) (close ∷ ns) tt tt (ap behind e) in
      told-row (join_shifts p v) (join_shifts q w) ts us (inside.marks []) ks rest other h
  told-tree v w (update hd p ts) (update k q us) ms ns e keeps.none rest other h =
      let inside = split-row (join_shifts p v) (join_shifts q w) ts us (close ∷ ms) (close ∷ ns) tt tt (ap behind e) in
      let within = told-row (join_shifts p v) (join_shifts q w) ts us (inside.marks []) keeps.none (λ _. none) (λ _. none) (λ _. refl) in
      λ i. child (updated (name_first (hd.site, hd.id) (first (e i))) None (within i)) (h keeps.none i)
  told-tree v w (update hd p ts) (update k q us) ms ns e (opened x inner more) rest other h =
      let inside = split-row (join_shifts p v) (join_shifts q w) ts us (close ∷ ms) (close ∷ ns) tt tt (ap behind e) in
      let within = told-row (join_shifts p v) (join_shifts q w) ts us (inside.marks []) inner (λ _. none) (λ _. none) (λ _. refl) in
      λ i. child (updated (name_first (hd.site, hd.id) (first (e i))) x (within i)) (h more i)
  told-tree v w (leaf a) (presentation m q us) ms ns e ks rest other h = absurd (cc)
  told-tree v w (leaf a) (update k q us) ms ns e ks rest other h = absurd (cc)
  told-tree v w (presentation l p ts) (leaf b) ms ns e ks rest other h = absurd (cc)
  told-tree v w (presentation l p ts) (update k q us) ms ns e ks rest other h = absurd (cc)
  told-tree v w (update hd p ts) (leaf b) ms ns e ks rest other h = absurd (cc)
  told-tree v w (update hd p ts) (presentation m q us) ms ns e ks rest other h = absurd (cc)

  -- two rows that draw the same have the same children
  pub told-row : (v w : Shift) (ts us : Trees Item) → flat v ts [] ≡ flat w us [] → (ks : Keeps) (rest other : Keeps → Children Item)
      → ((left : Keeps) → rest left ≡ other left) → new_children_before move_item v ts ks rest ≡ new_children_before move_item w us ks other
  told-row v w records.none records.none e ks rest other h = h ks
  told-row v w records.none (tree u us) e ks rest other h = absurd (no-branch w u (flat w us []) e)
  told-row v w (tree t ts) records.none e ks rest other h = absurd (no-branch v t (flat v ts []) (sym e))
  told-row v w (tree t ts) (tree u us) e ks rest other h =
      let one = split-tree v w t u (flat v ts []) (flat w us []) e in
      told-tree v w t u (flat v ts []) (flat w us []) e ks (λ left. new_children_before move_item v ts left rest) (λ left. new_children_before move_item w us left other)
      (λ left. told-row v w ts us one.behind left rest other h)
