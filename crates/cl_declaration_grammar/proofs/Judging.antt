-- Readings against what is looked at: a reading gives a value where nothing is blamed, and fails where something is, at the least offset.
use Rattle.std.proofs.Common.{◌≡◌, ℕ, ◌⊎◌, inl, inr, List, [], ◌∷◌, ◌++◌, refl, arith}
use Rattle.cl_words.specs.declared.signatures.Signatures.{Signatures}
use Rattle.cl_expressions.specs.Load.{Load, Notes, ◌>>=◌, give, refuse}
use Rattle.cl_grammar.proofs.Bounds.{Within, blames_any_within, unnamed_any_within, any_one_number, before_within}
use Rattle.cl_grammar.proofs.Judging.{Any, Verdict, Joins, both_judged, given_judged, neither, noted_none}
use Rattle.cl_text_grammar.specs.FormSights.{shape_seen, act_seen}
use Rattle.cl_text_grammar.proofs.TypePartsLie.{type_within, type_missing_within, type_number}
use Rattle.cl_text_grammar.proofs.FormsLie.{shapes_lie, acts_lie}
use Rattle.cl_text_grammar.proofs.FormBounds.{any_within, any_unnamed_within, any_number}
use Rattle.cl_declaration_grammar.specs.Parts.{Part, refused, specifier, method_name, function_name, display_name, table_name, command_name, pane_name}
use Rattle.cl_declaration_grammar.specs.Parts.{expressions, shapes, acts, SomeOf, PartBlames, PartUnnamed}
use Rattle.cl_declaration_grammar.proofs.PartsLie.{LiePart, LieParts, LieApart, part_rises, parts_rise, parts_split}

-- ---- one of some parts

some_left : (P : Part → Type 0) (ps qs : List Part) → SomeOf P ps → SomeOf P (ps ++ qs)
some_left P [] qs h = absurd h
some_left P (p ∷ ps) qs (inl h) = inl h
some_left P (p ∷ ps) qs (inr h) = inr (some_left P ps qs h)

some_right : (P : Part → Type 0) (ps qs : List Part) → SomeOf P qs → SomeOf P (ps ++ qs)
some_right P [] qs h = h
some_right P (p ∷ ps) qs h = inr (some_right P ps qs h)

later : {A B C : Type 0} → B ⊎ C → (A ⊎ B) ⊎ C
later (inl h) = inl (inr h)
later (inr h) = inr h

some_split : (P : Part → Type 0) (ps qs : List Part) → SomeOf P (ps ++ qs) → SomeOf P ps ⊎ SomeOf P qs
some_split P [] qs h = inr h
some_split P (p ∷ ps) qs (inl h) = inl (inl h)
some_split P (p ∷ ps) qs (inr h) = later (some_split P ps qs h)

-- ---- what is blamed or not declared stands in its part

module _ (w : Signatures) where
  abbrev pub Blamed : List Part → ℕ → ℕ → Type 0
  Blamed ps n o = SomeOf (PartBlames w n o) ps

  abbrev pub Missing : List Part → ℕ → Type 0
  Missing ps o = SomeOf (PartUnnamed w o) ps

  -- the offset is this one
  there : (from at to o : ℕ) → Within from at to → o ≡ at → Within from o to
  there from at to o h e = (omega (arith, h.0, e), omega (arith, h.1, e))

  part_blamed_within : (p : Part) (n o from to : ℕ) → LiePart from p to → PartBlames w n o p → Within from o to
  part_blamed_within (refused number at) n o from to h b = there from at to o h b.1
  part_blamed_within (specifier ts) n o from to h b = type_within ts n o from to h b
  part_blamed_within (method_name x at) n o from to h b = absurd b
  part_blamed_within (function_name x at) n o from to h b = absurd b
  part_blamed_within (display_name x at) n o from to h b = absurd b
  part_blamed_within (table_name x at) n o from to h b = absurd b
  part_blamed_within (command_name x at) n o from to h b = absurd b
  part_blamed_within (pane_name x at) n o from to h b = absurd b
  part_blamed_within (expressions qs) n o from to h b = blames_any_within b from to h
  part_blamed_within (shapes fs) n o from to h b = any_within (shape_seen w) w (shapes_lie w) b from to h
  part_blamed_within (acts fs) n o from to h b = any_within act_seen w acts_lie b from to h

  part_missing_within : (p : Part) (o from to : ℕ) → LiePart from p to → PartUnnamed w o p → Within from o to
  part_missing_within (refused number at) o from to h b = absurd b
  part_missing_within (specifier ts) o from to h b = type_missing_within w ts o from to h b
  part_missing_within (method_name x at) o from to h b = there from at to o h b.1
  part_missing_within (function_name x at) o from to h b = there from at to o h b.1
  part_missing_within (display_name x at) o from to h b = there from at to o h b.1
  part_missing_within (table_name x at) o from to h b = there from at to o h b.1
  part_missing_within (command_name x at) o from to h b = there from at to o h b.1
  part_missing_within (pane_name x at) o from to h b = there from at to o h b.1
  part_missing_within (expressions qs) o from to h b = unnamed_any_within b from to h
  part_missing_within (shapes fs) o from to h b = any_unnamed_within (shape_seen w) w (shapes_lie w) b from to h
  part_missing_within (acts fs) o from to h b = any_unnamed_within act_seen w acts_lie b from to h

  pub blamed_within : (ps : List Part) (n o from to : ℕ) → LieParts from ps to → Blamed ps n o → Within from o to
  blamed_within [] n o from to h b = absurd b
  blamed_within (p ∷ ps) n o from to h (inl b) =
      let place : Within from o h.0 = part_blamed_within p n o from h.0 h.1 b in (place.0, omega (arith, place.1, parts_rise ps h.0 to h.2))
  blamed_within (p ∷ ps) n o from to h (inr b) =
      let place : Within h.0 o to = blamed_within ps n o h.0 to h.2 b in (omega (arith, place.0, part_rises p from h.0 h.1), place.1)

  missing_within : (ps : List Part) (o from to : ℕ) → LieParts from ps to → Missing ps o → Within from o to
  missing_within [] o from to h b = absurd b
  missing_within (p ∷ ps) o from to h (inl b) =
      let place : Within from o h.0 = part_missing_within p o from h.0 h.1 b in (place.0, omega (arith, place.1, parts_rise ps h.0 to h.2))
  missing_within (p ∷ ps) o from to h (inr b) =
      let place : Within h.0 o to = missing_within ps o h.0 to h.2 b in (omega (arith, place.0, part_rises p from h.0 h.1), place.1)

  -- ---- one number at one offset

  part_number : (p : Part) (n k o from to : ℕ) → LiePart from p to → PartBlames w n o p → PartBlames w k o p → n ≡ k
  part_number (refused number at) n k o from to h a b = omega (arith, a.0, b.0)
  part_number (specifier ts) n k o from to h a b = type_number ts n k o from to h a b
  part_number (method_name x at) n k o from to h a b = absurd a
  part_number (function_name x at) n k o from to h a b = absurd a
  part_number (display_name x at) n k o from to h a b = absurd a
  part_number (table_name x at) n k o from to h a b = absurd a
  part_number (command_name x at) n k o from to h a b = absurd a
  part_number (pane_name x at) n k o from to h a b = absurd a
  part_number (expressions qs) n k o from to h a b = any_one_number a k from to h b
  part_number (shapes fs) n k o from to h a b = any_number (shape_seen w) w (shapes_lie w) a k from to h b
  part_number (acts fs) n k o from to h a b = any_number act_seen w acts_lie a k from to h b

  pub one_number : (ps : List Part) (n k o from to : ℕ) → LieParts from ps to → Blamed ps n o → Blamed ps k o → n ≡ k
  one_number [] n k o from to h a b = absurd a
  one_number (p ∷ ps) n k o from to h (inl a) (inl b) = part_number p n k o from h.0 h.1 a b
  one_number (p ∷ ps) n k o from to h (inl a) (inr b) =
      let left : Within from o h.0 = part_blamed_within p n o from h.0 h.1 a in
      let right : Within h.0 o to = blamed_within ps k o h.0 to h.2 b in
      absurd (omega (arith, left.1, right.0))
  one_number (p ∷ ps) n k o from to h (inr a) (inl b) =
      let left : Within from o h.0 = part_blamed_within p k o from h.0 h.1 b in
      let right : Within h.0 o to = blamed_within ps n o h.0 to h.2 a in
      absurd (omega (arith, left.1, right.0))
  one_number (p ∷ ps) n k o from to h (inr a) (inr b) = one_number ps n k o h.0 to h.2 a b

  -- ---- one reading behind another

  -- what a reading of these parts comes to, where they lie in order
  pub record Judges {A : Type 0} (ps : List Part) (Q : A → Type 0) (m : Load A) : Type 0 where
    pub judged : (from to : ℕ) → LieParts from ps to → (u : Notes) → Verdict (Blamed ps) (Missing ps) Q u (m u)

  -- parts that lie one behind the other
  parts_join : (ps qs : List Part) (from middle to : ℕ) → LieParts from ps middle → LieParts middle qs to
      → Joins (Blamed ps) (Blamed qs) (Blamed (ps ++ qs)) (Missing ps) (Missing qs) (Missing (ps ++ qs))
  parts_join ps qs from middle to l r = record {
    blames_first = λ n o b. some_left (PartBlames w n o) ps qs b;
    blames_second = λ n o b. some_right (PartBlames w n o) ps qs b;
    blames_either = λ n o b. some_split (PartBlames w n o) ps qs b;
    blames_rise = λ n o m p a b. before_within from middle to (blamed_within ps n o from middle l a) (blamed_within qs m p middle to r b);
    unnamed_first = λ o b. some_left (PartUnnamed w o) ps qs b;
    unnamed_second = λ o b. some_right (PartUnnamed w o) ps qs b;
    unnamed_either = λ o b. some_split (PartUnnamed w o) ps qs b;
    unnamed_rise = λ o p a b. before_within from middle to (missing_within ps o from middle l a) (missing_within qs p middle to r b);
  }

  pub joined : {A B : Type 0} {P : A → Type 0} {Q : B → Type 0} (ps qs : List Part) {m : Load A} {f : A → Load B} → Judges ps P m
      → ((x : A) → P x → Judges qs Q (f x)) → Judges (ps ++ qs) Q (m >>= f)
  joined {P} {Q} ps qs {m} {f} h g = record {
    judged = λ from to lie u.
        let apart : LieApart from ps qs to = parts_split ps qs from to lie in
        both_judged (parts_join ps qs from apart.0 to apart.1 apart.2) P Q f (λ x i v. (g x i).judged apart.0 to apart.2 v) u (m u)
        (h.judged from apart.0 apart.1 u);
  }

  pub then_given : {A B : Type 0} {ps : List Part} {m : Load A} (g : A → B) → Judges ps Any m → Judges ps Any (m >>= λ x. give (g x))
  then_given {ps} {m} g h = record {
    judged = λ from to lie u. given_judged (Blamed ps) (Missing ps) Any Any g (λ x i. tt) u (m u) (h.judged from to lie u);
  }

  pub ended : {A : Type 0} {x : A} → Judges [] Any (give x)
  ended = record { judged = λ from to lie u. (tt, λ n o b. b, noted_none (Missing []) u.unknown (λ o b. b)) }

  -- a form that is refused by itself, whatever stands behind it
  pub refused_first : {A : Type 0} (number at : ℕ) (ps : List Part) → Judges {A = A} (refused number at ∷ ps) Any (refuse number at)
  refused_first number at ps = record {
    judged = λ from to lie u. (
      inl (refl, refl),
      λ n o b. neither
          (λ c. omega (arith, c.1))
          (λ c.
          let right : Within lie.0 o to = blamed_within ps n o lie.0 to lie.2 c in omega (arith, lie.1.1, right.0)) b,
    );
  }
