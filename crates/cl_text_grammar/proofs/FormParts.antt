-- The parts of a form of any language: what holds of each of them, and the data that they stand for.
use Rattle.std.proofs.Common.{◌≡◌, ℕ, List, [], ◌∷◌, drop, refl, zero, suc}
use Rattle.cl_forms.specs.Datum.{Datum, Datums, none, item, in_order}
use Rattle.cl_words.specs.declared.signatures.Signatures.{Signatures}
use Rattle.cl_bodies.specs.Bodies.{Language, Part, subs_of, parts_in}
use Rattle.cl_grammar.proofs.Written.{shapes}

-- P holds of each part
abbrev pub EachPart : {F C : Type 0} → (Part F C → Type 0) → List (Part F C) → Type 0
EachPart P [] = Unit {0}
EachPart P (p ∷ ps) = P p × EachPart P ps

-- the parts as they stand
abbrev pub stand : {F C : Type 0} → List (Part F C) → List Datum
stand ps = shapes (subs_of ps)

pub parts_behind : {F C : Type 0} (P : Part F C → Type 0) (count : ℕ) (ps : List (Part F C)) → EachPart P ps → EachPart P (drop count ps)
parts_behind P zero ps k = k
parts_behind P (suc n) [] k = tt
parts_behind P (suc n) (p ∷ ps) k = parts_behind P n ps k.1

pub stand_behind : {F C : Type 0} (count : ℕ) (ps : List (Part F C)) → stand (drop count ps) ≡ drop count (stand ps)
stand_behind zero ps = refl
stand_behind (suc n) [] = refl
stand_behind (suc n) (p ∷ ps) = stand_behind n ps

pub stand_all : {F O C : Type 0} (l : Language F O C) (w : Signatures) (ds : Datums) → stand (parts_in l w ds) ≡ in_order ds
stand_all l w none = refl
stand_all l w (item d ds) = λ i. d ∷ stand_all l w ds i
