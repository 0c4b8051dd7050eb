use Rattle.std.proofs.Common.{◌≡◌, ◌≤◌, ◌-◌, ℕ, List, true, vec_len}
use Rattle.std.specs.Io.KnownBytes.{Consumes}
use Rattle.cl_program.specs.Texts.{most_bytes}
use Rattle.cl_program.proofs.texts.read_opened.Given as goal

abbrev pub invariant-pieces : goal.invariant-pieces
invariant-pieces g l = record {
  consumed : Consumes (g.P.Place.left l.initial.place) (g.P.Place.left l.place) l.text.items;
  short : vec_len l.text ≤ most_bytes;
  opened : g.P.Place.opened l.place ≡ true;
  reads : (name : List ℕ) → g.P.Place.reads l.initial.place name → g.P.Place.reads l.place name;
  files : (other : List ℕ) → g.P.Place.file l.place other ≡ g.P.Place.file l.initial.place other;
  later : (other : List ℕ) → g.P.Place.app_faults l.initial.place other ≤ g.P.Place.app_faults l.place other;
  lent : g.P.Place.lent l.place ≡ g.P.Place.lent l.initial.place;
  making : g.P.Place.making_faults l.place ≡ g.P.Place.making_faults l.initial.place;
  writing : g.P.Place.writing_faults l.place ≡ g.P.Place.writing_faults l.initial.place;
  taken : g.P.Place.taken l.place ≡ g.P.Place.taken l.initial.place;
  tells : g.P.Place.tells l.place ≡ g.P.Place.tells l.initial.place;
  by_name : g.P.Place.by_name l.place ≡ g.P.Place.by_name l.initial.place;
  reads_alone : (name : List ℕ) → g.P.Place.reads l.place name → g.P.Place.reads l.initial.place name;
  other_faults : g.P.Place.by_name l.initial.place ≡ true → (other : List ℕ) → (g.P.Place.reads l.initial.place other → ⊥)
      → g.P.Place.app_faults l.place other ≡ g.P.Place.app_faults l.initial.place other;
}

abbrev pub decreases-pieces : goal.decreases-pieces
decreases-pieces g l = most_bytes - vec_len l.text
