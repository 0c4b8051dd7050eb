-- What the search for the next line answers.
use Rattle.std.specs.Prelude.{◌≡◌, ◌+◌, ◌<◌, ◌≤◌, ℕ, Option, List, [], ◌∷◌, true, false, length, take, drop, All}
use Rattle.cl_outside.specs.Causes.{Rose}
use Rattle.cl_gesture.specs.declared.cut.Found.{Found}
use Rattle.cl_gesture.specs.declared.cut.Found.TheVariants as found
use Rattle.cl_gesture.specs.declared.cut.Cut.{Cut}
use Rattle.cl_gesture.specs.declared.cut.Cut.TheVariants as cut
use Rattle.cl_gesture.specs.Lines.{line, long, ended, held_from, longest_line, IsNoFeed, Reads, Lines}

-- where the first piece of the bytes ends
abbrev pub FoundIn : List ℕ → Found → Type 0
FoundIn bytes (found.Line n) = (n < length bytes) × (ended (take (n + 1) bytes) ≡ line (take n bytes) ∷ []) × (held_from [] (take (n + 1) bytes) ≡ [])
FoundIn bytes found.Long = (4097 ≤ length bytes) × (ended (take 4097 bytes) ≡ long (take 4097 bytes) ∷ []) × (held_from [] (take 4097 bytes) ≡ [])
FoundIn bytes found.Unended = (length bytes ≤ longest_line) × All IsNoFeed bytes

-- what has been read once the bytes of the next piece are taken from those ahead
abbrev pub CutOf : Option (List ℕ) → Option (List ℕ) → List ℕ → List ℕ → ℕ → ℕ → Cut → Type 0
CutOf old new ahead_old ahead_new faults_old faults_new (cut.Line n) =
    (n < length ahead_new) × Lines old new ahead_old (drop (n + 1) ahead_new) false (line (take n ahead_new) ∷ [])
CutOf old new ahead_old ahead_new faults_old faults_new cut.Long =
    (4097 ≤ length ahead_new) × Lines old new ahead_old (drop 4097 ahead_new) false (long (take 4097 ahead_new) ∷ [])
CutOf old new ahead_old ahead_new faults_old faults_new cut.Last = Lines old new ahead_old [] true (line ahead_new ∷ [])
CutOf old new ahead_old ahead_new faults_old faults_new cut.End = Lines old new ahead_old ahead_new true []
CutOf old new ahead_old ahead_new faults_old faults_new cut.Fault =
    Reads old new ahead_old [] ahead_new × (ended ahead_new ≡ []) × Rose faults_old faults_new
