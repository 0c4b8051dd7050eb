-- Readings of types against what is looked at of them: a reading gives a value where nothing is blamed, and fails where something is, at the
-- least offset.
use Rattle.std.proofs.Common.{◌≡◌, ℕ, ◌⊎◌, inl, inr, Bool, true, false, if◌then◌else◌, List, [], ◌∷◌, ◌++◌, refl, arith}
use Rattle.std.specs.Prelude.{None}
use Rattle.cl_words.specs.declared.signatures.Signatures.{Signatures}
use Rattle.cl_expressions.specs.Load.{Load, Notes, ◌>>=◌, give, refuse, noted}
use Rattle.cl_bodies.specs.Specifiers.{takes_named}
use Rattle.cl_grammar.proofs.Bounds.{Within, before_within}
use Rattle.cl_grammar.proofs.Judging.{Any, Verdict, Joins, both_judged, given_judged, neither, noted_none, noted_one}
use Rattle.cl_text_grammar.specs.Types.{TypePart, refused, type_name, TypeBlames, TypeUnnamed, wrong}
use Rattle.cl_text_grammar.proofs.TypePartsLie.{LieType, LieTypesApart, types_split, type_within, type_missing_within}

-- ---- some of the parts

later : {A B C : Type 0} → B ⊎ C → (A ⊎ B) ⊎ C
later (inl h) = inl (inr h)
later (inr h) = inr h

blames_left : (ps qs : List TypePart) (n o : ℕ) → TypeBlames ps n o → TypeBlames (ps ++ qs) n o
blames_left [] qs n o h = absurd h
blames_left (p ∷ ps) qs n o (inl h) = inl h
blames_left (p ∷ ps) qs n o (inr h) = inr (blames_left ps qs n o h)

blames_right : (ps qs : List TypePart) (n o : ℕ) → TypeBlames qs n o → TypeBlames (ps ++ qs) n o
blames_right [] qs n o h = h
blames_right (p ∷ ps) qs n o h = inr (blames_right ps qs n o h)

blames_split : (ps qs : List TypePart) (n o : ℕ) → TypeBlames (ps ++ qs) n o → TypeBlames ps n o ⊎ TypeBlames qs n o
blames_split [] qs n o h = inr h
blames_split (p ∷ ps) qs n o (inl h) = inl (inl h)
blames_split (p ∷ ps) qs n o (inr h) = later (blames_split ps qs n o h)

module _ (w : Signatures) where
  unnamed_left : (ps qs : List TypePart) (o : ℕ) → TypeUnnamed w ps o → TypeUnnamed w (ps ++ qs) o
  unnamed_left [] qs o h = absurd h
  unnamed_left (p ∷ ps) qs o (inl h) = inl h
  unnamed_left (p ∷ ps) qs o (inr h) = inr (unnamed_left ps qs o h)

  unnamed_right : (ps qs : List TypePart) (o : ℕ) → TypeUnnamed w qs o → TypeUnnamed w (ps ++ qs) o
  unnamed_right [] qs o h = h
  unnamed_right (p ∷ ps) qs o h = inr (unnamed_right ps qs o h)

  unnamed_split : (ps qs : List TypePart) (o : ℕ) → TypeUnnamed w (ps ++ qs) o → TypeUnnamed w ps o ⊎ TypeUnnamed w qs o
  unnamed_split [] qs o h = inr h
  unnamed_split (p ∷ ps) qs o (inl h) = inl (inl h)
  unnamed_split (p ∷ ps) qs o (inr h) = later (unnamed_split ps qs o h)

  -- ---- one reading behind another

  -- what a reading of these parts comes to, where they lie in order
  pub record TypeJudges {A : Type 0} (ps : List TypePart) (Q : A → Type 0) (m : Load A) : Type 0 where
    pub judged : (from to : ℕ) → LieType from ps to → (u : Notes) → Verdict (TypeBlames ps) (TypeUnnamed w ps) Q u (m u)

  -- parts that lie one behind the other
  parts_join : (ps qs : List TypePart) (from middle to : ℕ) → LieType from ps middle → LieType middle qs to
      → Joins (TypeBlames ps) (TypeBlames qs) (TypeBlames (ps ++ qs)) (TypeUnnamed w ps) (TypeUnnamed w qs) (TypeUnnamed w (ps ++ qs))
  parts_join ps qs from middle to l r = record {
    blames_first = blames_left ps qs;
    blames_second = blames_right ps qs;
    blames_either = blames_split ps qs;
    blames_rise = λ n o m p a b. before_within from middle to (type_within ps n o from middle l a) (type_within qs m p middle to r b);
    unnamed_first = unnamed_left ps qs;
    unnamed_second = unnamed_right ps qs;
    unnamed_either = unnamed_split ps qs;
    unnamed_rise = λ o p a b. before_within from middle to (type_missing_within w ps o from middle l a) (type_missing_within w qs p middle to r b);
  }

  pub joined : {A B : Type 0} {P : A → Type 0} {Q : B → Type 0} (ps qs : List TypePart) {m : Load A} {f : A → Load B} → TypeJudges ps P m
      → ((x : A) → P x → TypeJudges qs Q (f x)) → TypeJudges (ps ++ qs) Q (m >>= f)
  joined {P} {Q} ps qs {m} {f} h g = record {
    judged = λ from to lie u.
        let apart : LieTypesApart from ps qs to = types_split ps qs from to lie in
        both_judged (parts_join ps qs from apart.0 to apart.1 apart.2) P Q f (λ x i v. (g x i).judged apart.0 to apart.2 v) u (m u)
        (h.judged from apart.0 apart.1 u);
  }

  -- where what is given holds so
  pub given_so : {A B : Type 0} {ps : List TypePart} {m : Load A} (P : A → Type 0) (Q : B → Type 0) (g : A → B) → TypeJudges ps P m
      → ((x : A) → P x → Q (g x)) → TypeJudges ps Q (m >>= λ x. give (g x))
  given_so {ps} {m} P Q g h i = record {
    judged = λ from to lie u. given_judged (TypeBlames ps) (TypeUnnamed w ps) P Q g i u (m u) (h.judged from to lie u);
  }

  pub then_given : {A B : Type 0} {ps : List TypePart} {m : Load A} (g : A → B) → TypeJudges ps Any m → TypeJudges ps Any (m >>= λ x. give (g x))
  then_given g h = given_so Any Any g h (λ x i. tt)

  pub ended : {A : Type 0} {x : A} → TypeJudges [] Any (give x)
  ended = record { judged = λ from to lie u. (tt, λ n o b. b, noted_none (TypeUnnamed w []) u.unknown (λ o b. b)) }

  -- ---- parts

  -- a specifier that is refused by itself, whatever stands behind it
  pub refused_first : {A : Type 0} (number at : ℕ) (ps : List TypePart) → TypeJudges {A = A} (refused number at ∷ ps) Any (refuse number at)
  refused_first number at ps = record {
    judged = λ from to lie u. (
      inl (refl, refl),
      λ n o b. neither
          (λ c. omega (arith, c.1))
          (λ c.
          let right : Within lie.0 o to = type_within ps n o lie.0 to lie.2 c in omega (arith, lie.1.1, right.0)) b,
    );
  }

  -- a wrong specifier
  pub is_wrong : {A : Type 0} (at : ℕ) → TypeJudges {A = A} (wrong at) Any (refuse 6 at)
  is_wrong at = refused_first 6 at []

  -- the name of a type that is not declared
  pub type_name_judged : (x : List ℕ) (at : ℕ) → takes_named w x ≡ None → TypeJudges (type_name x at ∷ []) Any (noted false at)
  type_name_judged x at e = record {
    judged = λ from to lie u. (
      tt,
      λ n o b. neither (λ c. c) (λ c. c) b,
      noted_one (TypeUnnamed w (type_name x at ∷ [])) u.unknown at (inl (e, refl)) (λ o b. neither (λ c. c.1) (λ c. absurd c) b),
    );
  }

  pub chosen : {A : Type 0} (b : Bool) {ps qs : List TypePart} {m n : Load A} → TypeJudges ps Any m → TypeJudges qs Any n
      → TypeJudges (if b then ps else qs) Any (if b then m else n)
  chosen true h k = h
  chosen false h k = k
