-- What is looked at of a type lies in it, part behind part; and what is blamed of it and not declared stands there.
use Rattle.std.proofs.Common.{◌≡◌, ℕ, ◌≤◌, inl, inr, Bool, true, false, if◌then◌else◌, List, [], ◌∷◌, ◌++◌, arith}
use Rattle.cl_words.specs.declared.signatures.Signatures.{Signatures}
use Rattle.cl_grammar.proofs.Bounds.{Within}
use Rattle.cl_text_grammar.specs.Types.{TypePart, refused, type_name, TypePartBlames, TypeBlames, TypePartUnnamed, TypeUnnamed}

-- the offset of the part
abbrev pub place : TypePart → ℕ
place (refused refusal at) = at
place (type_name x at) = at

-- the parts stand one behind another, from one place up to another
abbrev pub LieType : ℕ → List TypePart → ℕ → Type 0
LieType from [] to = from ≤ to
LieType from (p ∷ ps) to = (next : ℕ) × Within from (place p) next × LieType next ps to

pub type_rises : (ps : List TypePart) (from to : ℕ) → LieType from ps to → from ≤ to
type_rises [] from to h = h
type_rises (p ∷ ps) from to h = omega (arith, h.1.0, h.1.1, type_rises ps h.0 to h.2)

pub type_earlier : (ps : List TypePart) (before from to : ℕ) → before ≤ from → LieType from ps to → LieType before ps to
type_earlier [] before from to e h = omega (arith, e, h)
type_earlier (p ∷ ps) before from to e h = (h.0, (omega (arith, e, h.1.0), h.1.1), h.2)

pub type_later : (ps : List TypePart) (from to behind : ℕ) → to ≤ behind → LieType from ps to → LieType from ps behind
type_later [] from to behind e h = omega (arith, e, h)
type_later (p ∷ ps) from to behind e h = (h.0, h.1, type_later ps h.0 to behind e h.2)

pub types_joined : (ps qs : List TypePart) (from middle to : ℕ) → LieType from ps middle → LieType middle qs to → LieType from (ps ++ qs) to
types_joined [] qs from middle to h k = type_earlier qs from middle to h k
types_joined (p ∷ ps) qs from middle to h k = (h.0, h.1, types_joined ps qs h.0 middle to h.2 k)

abbrev pub LieTypesApart : ℕ → List TypePart → List TypePart → ℕ → Type 0
LieTypesApart from ps qs to = (middle : ℕ) × LieType from ps middle × LieType middle qs to

pub types_split : (ps qs : List TypePart) (from to : ℕ) → LieType from (ps ++ qs) to → LieTypesApart from ps qs to
types_split [] qs from to h = (from, omega arith, h)
types_split (p ∷ ps) qs from to h =
    let rest : LieTypesApart h.0 ps qs to = types_split ps qs h.0 to h.2 in (rest.0, (h.0, h.1, rest.1), rest.2)

-- one part alone
pub one_part_lies : (p : TypePart) (from to : ℕ) → Within from (place p) to → LieType from (p ∷ []) to
one_part_lies p from to h = (to, h, omega arith)

pub chosen_lies : (b : Bool) (ps qs : List TypePart) (from to : ℕ) → LieType from ps to → LieType from qs to → LieType from (if b then ps else qs) to
chosen_lies true ps qs from to h k = h
chosen_lies false ps qs from to h k = k

-- ---- bounds

-- the offset is this one
there : (from at to o : ℕ) → Within from at to → o ≡ at → Within from o to
there from at to o h e = (omega (arith, h.0, e), omega (arith, h.1, e))

part_within : (p : TypePart) (n o from to : ℕ) → Within from (place p) to → TypePartBlames p n o → Within from o to
part_within (refused refusal at) n o from to h b = there from at to o h b.1
part_within (type_name x at) n o from to h b = absurd b

pub type_within : (ps : List TypePart) (n o from to : ℕ) → LieType from ps to → TypeBlames ps n o → Within from o to
type_within [] n o from to h b = absurd b
type_within (p ∷ ps) n o from to h (inl b) =
    let own : Within from o h.0 = part_within p n o from h.0 h.1 b in (own.0, omega (arith, own.1, type_rises ps h.0 to h.2))
type_within (p ∷ ps) n o from to h (inr b) =
    let own : Within h.0 o to = type_within ps n o h.0 to h.2 b in (omega (arith, own.0, h.1.0, h.1.1), own.1)

-- ---- one number at one offset

part_number : (p : TypePart) (n k o : ℕ) → TypePartBlames p n o → TypePartBlames p k o → n ≡ k
part_number (refused refusal at) n k o a b = omega (arith, a.0, b.0)
part_number (type_name x at) n k o a b = absurd a

pub type_number : (ps : List TypePart) (n k o from to : ℕ) → LieType from ps to → TypeBlames ps n o → TypeBlames ps k o → n ≡ k
type_number [] n k o from to h a b = absurd a
type_number (p ∷ ps) n k o from to h (inl a) (inl b) = part_number p n k o a b
type_number (p ∷ ps) n k o from to h (inl a) (inr b) =
    let left : Within from o h.0 = part_within p n o from h.0 h.1 a in
    let right : Within h.0 o to = type_within ps k o h.0 to h.2 b in
    absurd (omega (arith, left.1, right.0))
type_number (p ∷ ps) n k o from to h (inr a) (inl b) =
    let left : Within from o h.0 = part_within p k o from h.0 h.1 b in
    let right : Within h.0 o to = type_within ps n o h.0 to h.2 a in
    absurd (omega (arith, left.1, right.0))
type_number (p ∷ ps) n k o from to h (inr a) (inr b) = type_number ps n k o h.0 to h.2 a b

-- ---- names

module _ (w : Signatures) where
  part_missing_within : (p : TypePart) (o from to : ℕ) → Within from (place p) to → TypePartUnnamed w p o → Within from o to
  part_missing_within (refused refusal at) o from to h b = absurd b
  part_missing_within (type_name x at) o from to h b = there from at to o h b.1

  pub type_missing_within : (ps : List TypePart) (o from to : ℕ) → LieType from ps to → TypeUnnamed w ps o → Within from o to
  type_missing_within [] o from to h b = absurd b
  type_missing_within (p ∷ ps) o from to h (inl b) =
      let own : Within from o h.0 = part_missing_within p o from h.0 h.1 b in (own.0, omega (arith, own.1, type_rises ps h.0 to h.2))
  type_missing_within (p ∷ ps) o from to h (inr b) =
      let own : Within h.0 o to = type_missing_within ps o h.0 to h.2 b in (omega (arith, own.0, h.1.0, h.1.1), own.1)
