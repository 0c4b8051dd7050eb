-- The invariant and the view of a place in memory over a change of its tables.
use Rattle.std.proofs.Common.{◌≡◌, ℕ, ◌+◌, ◌-◌, ◌≤◌, min, List, ◌++◌, Option, Some, None, length, take, refl, sym, ap, ◌∙◌, arith, unwrap_or, length-append}
use Rattle.std.specs.Prelude.{slice_index}
use Rattle.cl_outside.specs.declared.reading.Reading.{Reading}
use Rattle.cl_outside.specs.declared.mem_place.MemPlace.TheInside.{Inside}
use Rattle.cl_outside.specs.declared.answers.Took.TheVariants as took
use Rattle.cl_outside.specs.contracts.mem_place.MemPlace.{the_view}
use Rattle.std.specs.Io.KnownBytes.{Appends}
use Rattle.cl_outside.specs.Memory.{Plan, one_more, counted, next_piece, later_pieces}
use Rattle.cl_outside.specs.Named.{found, name_at, IsFirst, updated, bytes_of, count_of}
use Rattle.cl_outside.specs.NameTables.{Files}
use Rattle.cl_outside.specs.MemoryPlace.{IsPlace, named_source, named_sink, taken_in, WriteStep}
use Rattle.cl_outside.proofs.Tables.{IsFirst-updated, name_at-updated, updated-updated, found-updated_same}

-- a count is given
pub IsPlace-fault : (files : Files) (faults : List (List ℕ × ℕ)) (source : Option Reading) (sink : Option ℕ) (room : ℕ) (name : List ℕ) (count : ℕ)
    → IsPlace files faults source sink room → IsPlace files (updated faults name count) source sink room
IsPlace-fault files faults None sink room name count is = record {
  source_first = tt;
  fault_first = tt;
  same_name = tt;
  sink_first = is.sink_first;
  sink_room = is.sink_room;
  sink_fits = is.sink_fits;
}
IsPlace-fault files faults (Some r) sink room name count is = record {
  source_first = is.source_first;
  fault_first = IsFirst-updated faults name count r.fault is.fault_first;
  same_name = name_at-updated faults name count r.fault is.fault_first.below ∙ is.same_name;
  sink_first = is.sink_first;
  sink_room = is.sink_room;
  sink_fits = is.sink_fits;
}

-- a file is given some bytes, and is the sink
pub IsPlace-file : (files now : Files) (faults : List (List ℕ × ℕ)) (source : Option Reading) (sink : Option ℕ) (room : ℕ) (name bytes : List ℕ) (place : ℕ)
    → now.entries ≡ updated files.entries name bytes → IsFirst now.entries place → name_at now.entries place ≡ name → room ≤ slice_index now.rooms place → length bytes ≤ room
    → IsPlace files faults source sink room → IsPlace now faults source (Some place) room
IsPlace-file files now faults None sink room name bytes place same first named roomy fits is = record {
  source_first = tt;
  fault_first = tt;
  same_name = tt;
  sink_first = first;
  sink_room = roomy;
  sink_fits = rw (named, same, found-updated_same files.entries name bytes) fits;
}
IsPlace-file files now faults (Some r) sink room name bytes place same first named roomy fits is = record {
  source_first = rw same (IsFirst-updated files.entries name bytes r.file is.source_first);
  fault_first = is.fault_first;
  same_name = is.same_name ∙ sym (ap (λ (l : List (List ℕ × List ℕ)). name_at l r.file) same ∙ name_at-updated files.entries name bytes r.file is.source_first.below);
  sink_first = first;
  sink_room = roomy;
  sink_fits = rw (named, same, found-updated_same files.entries name bytes) fits;
}

-- the open source keeps its name
pub named_source-updated : (files : Files) (faults : List (List ℕ × ℕ)) (source : Option Reading) (sink : Option ℕ) (room : ℕ) (name bytes : List ℕ)
    → IsPlace files faults source sink room → named_source (updated files.entries name bytes) source ≡ named_source files.entries source
named_source-updated files faults None sink room name bytes is = refl
named_source-updated files faults (Some r) sink room name bytes is = rw (name_at-updated files.entries name bytes r.file is.source_first.below) refl

-- a name that was made ready counts one more
pub ready_raised : (faults ready raised : List (List ℕ × ℕ)) (name : List ℕ) (place : ℕ) → ready ≡ updated faults name (count_of faults name) → name_at ready place ≡ name
    → raised ≡ updated ready (name_at ready place) (one_more (count_of ready (name_at ready place))) → raised ≡ updated faults name (one_more (count_of faults name))
ready_raised faults ready raised name place first named second =
    let count : count_of ready name ≡ count_of faults name =
    ap (λ (l : List (List ℕ × ℕ)). count_of l name) first ∙ ap (λ (o : Option ℕ). unwrap_or o 0) (found-updated_same faults name (count_of faults name)) in
    second ∙ ap (λ n. updated ready n (one_more (count_of ready n))) named ∙ ap (λ n. updated ready name (one_more n)) count
    ∙ ap (λ (l : List (List ℕ × ℕ)). updated l name (one_more (count_of faults name))) first ∙ updated-updated faults name (count_of faults name) (one_more (count_of faults name))

-- the sink's file grows within its room
pub IsPlace-written : (files now : Files) (faults : List (List ℕ × ℕ)) (source : Option Reading) (sink : Option ℕ) (room : ℕ) (place : ℕ) (more : List ℕ) → sink ≡ Some place
    → now.entries ≡ updated files.entries (name_at files.entries place) (bytes_of files.entries (name_at files.entries place) ++ more) → slice_index files.rooms place ≤ slice_index now.rooms place
    → length (bytes_of files.entries (name_at files.entries place)) + length more ≤ room → IsPlace files faults source sink room → IsPlace now faults source sink room
IsPlace-written files now faults source sink room place more made same roomy fits is =
    let name : List ℕ = name_at files.entries place in
    let bytes : List ℕ = bytes_of files.entries name ++ more in
    let at : IsFirst files.entries place = rw made at is.sink_first in
    let had : room ≤ slice_index files.rooms place = rw made at is.sink_room in
    rw made (IsPlace-file files now faults source sink room name bytes place same
    (rw same (IsFirst-updated files.entries name bytes place at))
    (ap (λ (l : List (List ℕ × List ℕ)). name_at l place) same ∙ name_at-updated files.entries name bytes place at.below)
    (omega arith) (omega (arith, length-append (bytes_of files.entries name) more)) is)

-- a write that took some bytes
module _ (p : Inside) (now : Files) (place : ℕ) (held : List ℕ) (made : p.sink ≡ Some place) (is : IsPlace p.files p.faults p.source p.sink p.room)
    (has : found p.files.entries (name_at p.files.entries place) ≡ Some held) where
  abbrev grown : List ℕ → List (List ℕ × List ℕ)
  grown more = updated p.files.entries (name_at p.files.entries place) (bytes_of p.files.entries (name_at p.files.entries place) ++ more)

  pub bytes_held : bytes_of p.files.entries (name_at p.files.entries place) ≡ held
  bytes_held = rw has refl

  pub sink_at : IsFirst p.files.entries place
  sink_at = rw made at is.sink_first

  pub named_again : (more : List ℕ) → now.entries ≡ grown more → name_at now.entries place ≡ name_at p.files.entries place
  named_again more same = ap (λ (l : List (List ℕ × List ℕ)). name_at l place) same
      ∙ name_at-updated p.files.entries (name_at p.files.entries place) (bytes_of p.files.entries (name_at p.files.entries place) ++ more) place sink_at.below

  pub taken_appended : (more : List ℕ) → now.entries ≡ grown more → Appends (taken_in p.files.entries (named_sink p.files.entries p.sink)) (taken_in now.entries (named_sink now.entries p.sink)) more
  taken_appended more same =
      rw (made, named_again more same, same, found-updated_same p.files.entries (name_at p.files.entries place) (bytes_of p.files.entries (name_at p.files.entries place) ++ more), has) refl

  pub written_step : (pieces : List ℕ) (plan : Plan) (bytes : List ℕ) (n : ℕ) → now.entries ≡ grown (take n bytes) → n ≡ min (next_piece p.pieces (length bytes)) (p.room - length held)
      → pieces ≡ later_pieces p.pieces → plan ≡ counted p.plan
      → WriteStep (the_view p) (the_view (record p { files = now; pieces = pieces; plan = plan })) (named_sink p.files.entries p.sink) bytes (took.Bytes n)
  written_step pieces plan bytes n same amount later next =
      rw (
        made,
        named_again (take n bytes) same,
        same,
        named_source-updated p.files p.faults p.source p.sink p.room (name_at p.files.entries place) (bytes_of p.files.entries (name_at p.files.entries place) ++ take n bytes) is,
        later,
        next,
      )
      (amount ∙ ap (λ l. min (next_piece p.pieces (length bytes)) (p.room - length l)) (sym bytes_held), refl)
