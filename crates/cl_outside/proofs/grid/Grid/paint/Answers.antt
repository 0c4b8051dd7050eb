use Rattle.std.proofs.Common.{List, ℕ, length, drop, ◌∙◌, subst}
use Rattle.std.proofs.lemmas.List.{take_at}
use Rattle.cl_outside.specs.MemoryDevice.{IsPut, IsFilled}
use Rattle.cl_outside.proofs.Grids.{IsCells-painted}
use Rattle.cl_outside.proofs.grid.Grid.paint.Goals as goal

pub invariant_of-self : goal.invariant_of-self
invariant_of-self c =
    let glyphs = take_at {A = ℕ} c.put.new.cells (drop (length c.put.new.cells) c.self.inside.glyphs.items) c.self.inside.glyphs.len (c.put.ensures.same_length ∙ c.as_mut_slice.ensures.len) in
    let inks = take_at {A = ℕ} c.fill.new.cells (drop (length c.fill.new.cells) c.self.inside.inks.items) c.self.inside.inks.len (c.fill.ensures.same_length ∙ c.as_mut_slice-2.ensures.len) in
    rw (glyphs, inks) (IsCells-painted _ c.put.new.cells _ c.fill.new.cells c.args.glyphs.now c.args.at c.args.ink c.self.invariant
    (subst (λ (l : List ℕ). IsPut l c.put.new.cells c.args.at c.args.glyphs.now) c.as_mut_slice.ensures.value c.put.ensures)
    (subst (λ (l : List ℕ). IsFilled l c.fill.new.cells c.args.at (length c.args.glyphs.now) c.args.ink) c.as_mut_slice-2.ensures.value c.fill.ensures)
    c.requires.ink c.requires.glyphs)
