-- The frames, the user types and the commands that are left at a place among them.
use Rattle.std.proofs.Common.{◌≡◌, ◌+◌, ◌<◌, inl, inr, ℕ, zero, suc, length, drop, get_or, List, [], ◌∷◌, refl, sym, ap, ◌∙◌, subst, arith}
use Rattle.std.specs.Prelude.{◌↔◌, Bool, false, IsTrue, Option, Some, None}
use Rattle.std.proofs.lemmas.List.{drop_more}
use Rattle.cl_declare.specs.declared.frames.FrameForm.{FrameForm}
use Rattle.cl_syntax.specs.declared.type_decls.TypeDecl.{TypeDecl}
use Rattle.cl_application.specs.declared.declarations.CommandDecl.{CommandDecl}
use Rattle.cl_table.specs.Names.{declared_at}
use Rattle.cl_lattice.specs.Firsts.{IsFirst, offset_of}
use Rattle.cl_phases.specs.SlotReads.{AnyReads, DefaultsRead, Functions}
use Rattle.cl_opening.specs.Readings.{CommandReads, IsFirstReading, NoneReads, PredicateReads, TypeReads, command_offset}

-- what the frames from a place on say of all frames
pub record Same (fs : Functions) (frames left : List FrameForm) : Type 0 where
  pub first : (at : ℕ) → IsFirstReading fs left at → IsFirstReading fs frames at
  pub none : NoneReads fs left → NoneReads fs frames

pub same_start : (fs : Functions) (frames : List FrameForm) → Same fs frames frames
same_start fs frames = record { first = λ at h. h; none = λ h. h }

pub same_next : (fs : Functions) (frames : List FrameForm) (i : ℕ) (f : FrameForm) → i < length frames → f ≡ get_or frames i f → (AnyReads fs f.slots → ⊥)
    → Same fs frames (drop i frames) → Same fs frames (drop (i + 1) frames)
same_next fs frames i f l e n s =
    let whole : drop i frames ≡ f ∷ drop (i + 1) frames = drop_more frames i f l ∙ ap (λ (g : FrameForm). g ∷ drop (i + 1) frames) (sym e) in
    let from : Same fs frames (f ∷ drop (i + 1) frames) = subst (λ (left : List FrameForm). Same fs frames left) whole s in
    record { first = λ at h. from.first at (inr (n, h)); none = λ h. from.none (n, h) }

pub same_here : (fs : Functions) (frames : List FrameForm) (i : ℕ) (f : FrameForm) → i < length frames → f ≡ get_or frames i f → AnyReads fs f.slots
    → Same fs frames (drop i frames) → IsFirstReading fs frames f.at
same_here fs frames i f l e r s =
    let whole : drop i frames ≡ f ∷ drop (i + 1) frames = drop_more frames i f l ∙ ap (λ (g : FrameForm). g ∷ drop (i + 1) frames) (sym e) in
    let from : Same fs frames (f ∷ drop (i + 1) frames) = subst (λ (left : List FrameForm). Same fs frames left) whole s in
    from.first f.at (inl (r, refl))

-- ---- user types

abbrev pub TypeTable : Type 0
TypeTable = List (List ℕ × TypeDecl)

-- what the user types from a place on say of all of them
pub record TypesLeft (fs : Functions) (types left : TypeTable) : Type 0 where
  pub first : (r : Option ℕ) → IsFirst (TypeReads fs) offset_of left r → IsFirst (TypeReads fs) offset_of types r

pub types_start : (fs : Functions) (types : TypeTable) → TypesLeft fs types types
types_start fs types = record { first = λ r x. x }

-- the user type at a place reads no slot, and so the others decide
pub type_on : (fs : Functions) (types : TypeTable) (i : ℕ) (d : TypeDecl) → Some d ≡ declared_at i types → (PredicateReads fs d.satisfies → ⊥) → (r : Option ℕ)
    → IsFirst (TypeReads fs) offset_of (drop (i + 1) types) r → IsFirst (TypeReads fs) offset_of (drop i types) r
type_on fs types i d h n r x =
    let next : i + 1 ≡ suc i = omega arith in
    on fs types i d h n r (subst (λ (k : ℕ). IsFirst (TypeReads fs) offset_of (drop k types) r) next x)
  where
    on : (fs : Functions) (types : TypeTable) (i : ℕ) (d : TypeDecl) → Some d ≡ declared_at i types → (PredicateReads fs d.satisfies → ⊥) → (r : Option ℕ)
        → IsFirst (TypeReads fs) offset_of (drop (suc i) types) r → IsFirst (TypeReads fs) offset_of (drop i types) r
    on fs [] zero d h n r x = cc
    on fs [] (suc i) d h n r x = cc
    on fs (e ∷ types) zero d h n None x =
        let same : d ≡ e.1 = cc in (subst (λ (c : TypeDecl). PredicateReads fs c.satisfies → ⊥) same n, x)
    on fs (e ∷ types) zero d h n (Some k) x =
        let same : d ≡ e.1 = cc in inr (subst (λ (c : TypeDecl). PredicateReads fs c.satisfies → ⊥) same n, x)
    on fs (e ∷ types) (suc i) d h n r x = on fs types i d h n r x

pub types_next : (fs : Functions) (types : TypeTable) (i : ℕ) (d : TypeDecl) → Some d ≡ declared_at i types → (PredicateReads fs d.satisfies → ⊥)
    → TypesLeft fs types (drop i types) → TypesLeft fs types (drop (i + 1) types)
types_next fs types i d h n left = record { first = λ r x. left.first r (type_on fs types i d h n r x) }

-- the user type at a place is the first that reads one
pub type_here : (fs : Functions) (types : TypeTable) (i : ℕ) (d : TypeDecl) → Some d ≡ declared_at i types → PredicateReads fs d.satisfies
    → IsFirst (TypeReads fs) offset_of (drop i types) (Some d.at)
type_here fs [] zero d h p = cc
type_here fs [] (suc i) d h p = cc
type_here fs (e ∷ types) zero d h p =
    let same : d ≡ e.1 = cc in inl (subst (λ (c : TypeDecl). PredicateReads fs c.satisfies) same p, ap (λ (c : TypeDecl). c.at) (sym same))
type_here fs (e ∷ types) (suc i) d h p = type_here fs types i d h p

-- past the last none does
pub types_end : (fs : Functions) (types : TypeTable) → IsFirst (TypeReads fs) offset_of (drop (length types) types) None
types_end fs [] = tt
types_end fs (e ∷ types) = types_end fs types

pub types_here : (fs : Functions) (types : TypeTable) (i : ℕ) (d : TypeDecl) → Some d ≡ declared_at i types → PredicateReads fs d.satisfies
    → TypesLeft fs types (drop i types) → IsFirst (TypeReads fs) offset_of types (Some d.at)
types_here fs types i d h p left = left.first (Some d.at) (type_here fs types i d h p)

pub types_done : (fs : Functions) (types : TypeTable) → TypesLeft fs types (drop (length types) types) → IsFirst (TypeReads fs) offset_of types None
types_done fs types left = left.first None (types_end fs types)

-- the answer no
pub reads_not : (b : Bool) (fs gs : Functions) (d : TypeDecl) → b ≡ false → fs ≡ gs → IsTrue b ↔ PredicateReads fs d.satisfies → PredicateReads gs d.satisfies → ⊥
reads_not b fs gs d answered same reads p =
    let yes : IsTrue b = reads.1 (subst (λ (hs : Functions). PredicateReads hs d.satisfies) (sym same) p) in cc

-- ---- commands

abbrev pub CommandTable : Type 0
CommandTable = List (List ℕ × CommandDecl)

-- what the commands from a place on say of all of them
pub record CommandsLeft (fs : Functions) (commands left : CommandTable) : Type 0 where
  pub first : (r : Option ℕ) → IsFirst (CommandReads fs) command_offset left r → IsFirst (CommandReads fs) command_offset commands r

pub commands_start : (fs : Functions) (commands : CommandTable) → CommandsLeft fs commands commands
commands_start fs commands = record { first = λ r x. x }

-- the command at a place has no default that reads a slot, and so the others decide
command_on : (fs : Functions) (commands : CommandTable) (i : ℕ) (d : CommandDecl) → Some d ≡ declared_at i commands → (DefaultsRead fs d.arguments → ⊥) → (r : Option ℕ)
    → IsFirst (CommandReads fs) command_offset (drop (suc i) commands) r → IsFirst (CommandReads fs) command_offset (drop i commands) r
command_on fs [] zero d h n r x = cc
command_on fs [] (suc i) d h n r x = cc
command_on fs (e ∷ commands) zero d h n None x =
    let same : d ≡ e.1 = cc in (subst (λ (c : CommandDecl). DefaultsRead fs c.arguments → ⊥) same n, x)
command_on fs (e ∷ commands) zero d h n (Some k) x =
    let same : d ≡ e.1 = cc in inr (subst (λ (c : CommandDecl). DefaultsRead fs c.arguments → ⊥) same n, x)
command_on fs (e ∷ commands) (suc i) d h n r x = command_on fs commands i d h n r x

pub commands_next : (fs : Functions) (commands : CommandTable) (i : ℕ) (d : CommandDecl) → Some d ≡ declared_at i commands → (DefaultsRead fs d.arguments → ⊥)
    → CommandsLeft fs commands (drop i commands) → CommandsLeft fs commands (drop (i + 1) commands)
commands_next fs commands i d h n left =
    let next : i + 1 ≡ suc i = omega arith in
    subst (λ (k : ℕ). CommandsLeft fs commands (drop k commands)) (sym next) (record { first = λ r x. left.first r (command_on fs commands i d h n r x) })

-- the command at a place is the first that has one
command_here : (fs : Functions) (commands : CommandTable) (i : ℕ) (d : CommandDecl) → Some d ≡ declared_at i commands → DefaultsRead fs d.arguments
    → IsFirst (CommandReads fs) command_offset (drop i commands) (Some d.at)
command_here fs [] zero d h p = cc
command_here fs [] (suc i) d h p = cc
command_here fs (e ∷ commands) zero d h p =
    let same : d ≡ e.1 = cc in inl (subst (λ (c : CommandDecl). DefaultsRead fs c.arguments) same p, ap (λ (c : CommandDecl). c.at) (sym same))
command_here fs (e ∷ commands) (suc i) d h p = command_here fs commands i d h p

-- past the last none does
commands_end : (fs : Functions) (commands : CommandTable) → IsFirst (CommandReads fs) command_offset (drop (length commands) commands) None
commands_end fs [] = tt
commands_end fs (e ∷ commands) = commands_end fs commands

pub commands_here : (fs : Functions) (commands : CommandTable) (i : ℕ) (d : CommandDecl) → Some d ≡ declared_at i commands → DefaultsRead fs d.arguments
    → CommandsLeft fs commands (drop i commands) → IsFirst (CommandReads fs) command_offset commands (Some d.at)
commands_here fs commands i d h p left = left.first (Some d.at) (command_here fs commands i d h p)

pub commands_done : (fs : Functions) (commands : CommandTable) → CommandsLeft fs commands (drop (length commands) commands)
    → IsFirst (CommandReads fs) command_offset commands None
commands_done fs commands left = left.first None (commands_end fs commands)

-- the answer no
pub command_reads_not : (b : Bool) (fs gs : Functions) (d : CommandDecl) → b ≡ false → fs ≡ gs → IsTrue b ↔ DefaultsRead fs d.arguments
    → DefaultsRead gs d.arguments → ⊥
command_reads_not b fs gs d answered same reads p =
    let yes : IsTrue b = reads.1 (subst (λ (hs : Functions). DefaultsRead hs d.arguments) (sym same) p) in cc
