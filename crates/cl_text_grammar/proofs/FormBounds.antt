-- What is blamed and not declared stands within the form; and what a form of each kind is blamed for.
use Rattle.std.proofs.Common.{◌≡◌, ℕ, ◌+◌, ◌⊎◌, inl, inr, false, List, [], ◌∷◌, refl, sym, arith}
use Rattle.std.proofs.Math.Path.{subst}
use Rattle.cl_forms.specs.Datum.{Datum, Datums, list, in_order, offset}
use Rattle.cl_words.specs.declared.signatures.Signatures.{Signatures}
use Rattle.cl_expressions.specs.Scopes.{Names}
use Rattle.cl_declare.specs.Names.{is_list}
use Rattle.cl_grammar.specs.Lies.{Lies}
use Rattle.cl_grammar.specs.Sights.{Seen}
use Rattle.cl_grammar.specs.Blames.{BlamesAny}
use Rattle.cl_grammar.specs.Unnamed.{UnnamedAny}
use Rattle.cl_grammar.proofs.Bounds.{Within, blames_any_within, unnamed_any_within, any_one_number}
use Rattle.cl_grammar.proofs.Lying.{list_lies, own_lies, datum_rises, seen_rises}
use Rattle.cl_grammar.proofs.Spelled.{false_true}
use Rattle.cl_text_grammar.specs.Types.{TypePart, TypeBlames, TypeUnnamed}
use Rattle.cl_text_grammar.specs.FormSights.{NameSpace, FormSeen, expressions, specifier, name_among, form, FormSight, Misshapen, UnknownHead, PlannedHead, Sees}
use Rattle.cl_text_grammar.specs.FormBlames.{FormBlames, FormBlamesAny, an_atom, a_misshapen_form, an_unknown_head, a_planned_head, in_a_part}
use Rattle.cl_text_grammar.specs.FormBlames.{in_expressions, in_a_type, in_the_form, in_a_later}
use Rattle.cl_text_grammar.specs.FormUnnamed.{is_declared, FormUnnamed, FormUnnamedAny}
use Rattle.cl_text_grammar.specs.FormUnnamed as unnamed
use Rattle.cl_text_grammar.proofs.TypePartsLie.{type_rises, type_within, type_missing_within, type_number}
use Rattle.cl_text_grammar.proofs.FormsLie.{LieForms, LieFormSight, forms_rise, LieSights}

module _ (seen : Names → List Datum → FormSight) (w : Signatures) where
  -- ---- parts

  pub none_blamed : (n o : ℕ) → FormBlamesAny seen w [] n o → ⊥
  none_blamed n o b = elim b [ ]

  pub none_unnamed : (o : ℕ) → FormUnnamedAny seen w [] o → ⊥
  none_unnamed o b = elim b [ ]

  pub expressions_blamed : (qs : List Seen) (ps : List FormSeen) (n o : ℕ) → FormBlamesAny seen w (expressions qs ∷ ps) n o
      → BlamesAny w qs n o ⊎ FormBlamesAny seen w ps n o
  expressions_blamed qs ps n o (in_expressions b) = inl b
  expressions_blamed qs ps n o (in_a_later b) = inr b

  pub expressions_unnamed : (qs : List Seen) (ps : List FormSeen) (o : ℕ) → FormUnnamedAny seen w (expressions qs ∷ ps) o
      → UnnamedAny w qs o ⊎ FormUnnamedAny seen w ps o
  expressions_unnamed qs ps o (unnamed.in_expressions b) = inl b
  expressions_unnamed qs ps o (unnamed.in_a_later b) = inr b

  pub type_blamed : (ts : List TypePart) (ps : List FormSeen) (n o : ℕ) → FormBlamesAny seen w (specifier ts ∷ ps) n o
      → TypeBlames ts n o ⊎ FormBlamesAny seen w ps n o
  type_blamed ts ps n o (in_a_type b) = inl b
  type_blamed ts ps n o (in_a_later b) = inr b

  pub type_unnamed : (ts : List TypePart) (ps : List FormSeen) (o : ℕ) → FormUnnamedAny seen w (specifier ts ∷ ps) o
      → TypeUnnamed w ts o ⊎ FormUnnamedAny seen w ps o
  type_unnamed ts ps o (unnamed.in_a_type b) = inl b
  type_unnamed ts ps o (unnamed.in_a_later b) = inr b

  pub name_blamed : (k : NameSpace) (x : List ℕ) (at : ℕ) (ps : List FormSeen) (n o : ℕ) → FormBlamesAny seen w (name_among k x at ∷ ps) n o
      → ⊥ ⊎ FormBlamesAny seen w ps n o
  name_blamed k x at ps n o (in_a_later b) = inr b

  pub name_unnamed : (k : NameSpace) (x : List ℕ) (at : ℕ) (ps : List FormSeen) (o : ℕ) → FormUnnamedAny seen w (name_among k x at ∷ ps) o
      → ((is_declared w k x ≡ false) × (o ≡ at)) ⊎ FormUnnamedAny seen w ps o
  name_unnamed k x at ps o (unnamed.a_name e) = inl (e, refl)
  name_unnamed k x at ps o (unnamed.in_a_later b) = inr b

  pub first_form_blamed : (env : Names) (d : Datum) (ps : List FormSeen) (n o : ℕ) → FormBlamesAny seen w (form env d ∷ ps) n o
      → FormBlames seen w env d n o ⊎ FormBlamesAny seen w ps n o
  first_form_blamed env d ps n o (in_the_form b) = inl b
  first_form_blamed env d ps n o (in_a_later b) = inr b

  pub first_form_unnamed : (env : Names) (d : Datum) (ps : List FormSeen) (o : ℕ) → FormUnnamedAny seen w (form env d ∷ ps) o
      → FormUnnamed seen w env d o ⊎ FormUnnamedAny seen w ps o
  first_form_unnamed env d ps o (unnamed.in_the_form b) = inl b
  first_form_unnamed env d ps o (unnamed.in_a_later b) = inr b

  -- ---- what there is to blame

  pub atom_blamed : (env : Names) (d : Datum) → is_list d ≡ false → (n o : ℕ) → FormBlames seen w env d n o → (n ≡ 6) × (o ≡ offset d)
  atom_blamed env d e n o (an_atom f) = (refl, refl)
  atom_blamed env d e n o (a_misshapen_form f) = absurd (false_true (sym e))
  atom_blamed env d e n o (an_unknown_head f) = absurd (false_true (sym e))
  atom_blamed env d e n o (a_planned_head f) = absurd (false_true (sym e))
  atom_blamed env d e n o (in_a_part f b) = absurd (false_true (sym e))

  -- a form with this sight is blamed so
  abbrev pub SightBlames : FormSight → ℕ → ℕ → ℕ → Type 0
  SightBlames Misshapen at n o = (n ≡ 6) × (o ≡ at)
  SightBlames (UnknownHead k) at n o = (n ≡ 5) × (o ≡ k)
  SightBlames (PlannedHead k) at n o = (n ≡ 0) × (o ≡ k)
  SightBlames (Sees ps) at n o = FormBlamesAny seen w ps n o

  pub form_blamed : {env : Names} {ds : Datums} {at n o : ℕ} → FormBlames seen w env (list ds at) n o → SightBlames (seen env (in_order ds)) at n o
  form_blamed (an_atom e) = absurd (false_true (sym e))
  form_blamed (a_misshapen_form {env} {ds} {at} e) = subst (λ s. SightBlames s at 6 at) (sym e) (refl, refl)
  form_blamed (an_unknown_head {env} {ds} {at} {head_at = k} e) = subst (λ s. SightBlames s at 5 k) (sym e) (refl, refl)
  form_blamed (a_planned_head {env} {ds} {at} {head_at = k} e) = subst (λ s. SightBlames s at 0 k) (sym e) (refl, refl)
  form_blamed (in_a_part {env} {ds} {at} {ps} {number = n} {offset = o} e b) = subst (λ s. SightBlames s at n o) (sym e) b

  -- names in a form with this sight are not declared
  abbrev pub SightUnnamed : FormSight → ℕ → Type 0
  SightUnnamed Misshapen o = ⊥
  SightUnnamed (UnknownHead k) o = ⊥
  SightUnnamed (PlannedHead k) o = ⊥
  SightUnnamed (Sees ps) o = FormUnnamedAny seen w ps o

  pub form_unnamed : {env : Names} {ds : Datums} {at o : ℕ} → FormUnnamed seen w env (list ds at) o → SightUnnamed (seen env (in_order ds)) o
  form_unnamed (unnamed.in_a_part {env} {ds} {at} {ps} {offset = o} e b) = subst (λ s. SightUnnamed s o) (sym e) b

module _ (seen : Names → List Datum → FormSight) (w : Signatures) (lies : LieSights seen) where
  part_lies : (env : Names) (ds : Datums) (at from to : ℕ) (s : FormSight) → seen env (in_order ds) ≡ s → Lies from (list ds at) to
      → LieFormSight (at + 1) s to
  part_lies env ds at from to s e h =
      subst (λ r. LieFormSight (at + 1) r to) e (lies env (in_order ds) (at + 1) to (list_lies ds (at + 1) to h.2))

  -- ---- bounds

  mutual
    pub form_within : {env : Names} {d : Datum} {n o : ℕ} → FormBlames seen w env d n o → (from to : ℕ) → Lies from d to → Within from o to
    form_within (an_atom {env} {d} e) from to h = own_lies d from to h
    form_within (a_misshapen_form e) from to h = (h.0, h.1)
    form_within (an_unknown_head {env} {ds} {at} {head_at = k} e) from to h =
        let place : Within (at + 1) k to = part_lies env ds at from to (UnknownHead k) e h in (omega (arith, h.0, place.0), place.1)
    form_within (a_planned_head {env} {ds} {at} {head_at = k} e) from to h =
        let place : Within (at + 1) k to = part_lies env ds at from to (PlannedHead k) e h in (omega (arith, h.0, place.0), place.1)
    form_within (in_a_part {env} {ds} {at} {ps} {number = n} {offset = o} e b) from to h =
        let place : Within (at + 1) o to = any_within b (at + 1) to (part_lies env ds at from to (Sees ps) e h) in
        (omega (arith, h.0, place.0), place.1)

    pub any_within : {ps : List FormSeen} {n o : ℕ} → FormBlamesAny seen w ps n o → (from to : ℕ) → LieForms from ps to → Within from o to
    any_within (in_expressions {qs} {ps} {number = n} {offset = o} b) from to h =
        let place : Within from o h.0 = blames_any_within b from h.0 h.1 in (place.0, omega (arith, place.1, forms_rise ps h.0 to h.2))
    any_within (in_a_type {ts} {ps} {number = n} {offset = o} b) from to h =
        let place : Within from o h.0 = type_within ts n o from h.0 h.1 b in (place.0, omega (arith, place.1, forms_rise ps h.0 to h.2))
    any_within (in_the_form {env} {d} {ps} {number = n} {offset = o} b) from to h =
        let place : Within from o h.0 = form_within b from h.0 h.1 in (place.0, omega (arith, place.1, forms_rise ps h.0 to h.2))
    any_within (in_a_later {p = expressions qs} {ps} {number = n} {offset = o} b) from to h =
        let place : Within h.0 o to = any_within b h.0 to h.2 in (omega (arith, place.0, seen_rises qs from h.0 h.1), place.1)
    any_within (in_a_later {p = specifier ts} {ps} {number = n} {offset = o} b) from to h =
        let place : Within h.0 o to = any_within b h.0 to h.2 in (omega (arith, place.0, type_rises ts from h.0 h.1), place.1)
    any_within (in_a_later {p = name_among k x at} {ps} {number = n} {offset = o} b) from to h =
        let place : Within (at + 1) o to = any_within b (at + 1) to h.1 in (omega (arith, place.0, h.0), place.1)
    any_within (in_a_later {p = form env d} {ps} {number = n} {offset = o} b) from to h =
        let place : Within h.0 o to = any_within b h.0 to h.2 in (omega (arith, place.0, datum_rises d from h.0 h.1), place.1)

  mutual
    pub form_unnamed_within : {env : Names} {d : Datum} {o : ℕ} → FormUnnamed seen w env d o → (from to : ℕ) → Lies from d to → Within from o to
    form_unnamed_within (unnamed.in_a_part {env} {ds} {at} {ps} {offset = o} e b) from to h =
        let place : Within (at + 1) o to = any_unnamed_within b (at + 1) to (part_lies env ds at from to (Sees ps) e h) in
        (omega (arith, h.0, place.0), place.1)

    pub any_unnamed_within : {ps : List FormSeen} {o : ℕ} → FormUnnamedAny seen w ps o → (from to : ℕ) → LieForms from ps to → Within from o to
    any_unnamed_within (unnamed.in_expressions {qs} {ps} {offset = o} b) from to h =
        let place : Within from o h.0 = unnamed_any_within b from h.0 h.1 in (place.0, omega (arith, place.1, forms_rise ps h.0 to h.2))
    any_unnamed_within (unnamed.in_a_type {ts} {ps} {offset = o} b) from to h =
        let place : Within from o h.0 = type_missing_within w ts o from h.0 h.1 b in (place.0, omega (arith, place.1, forms_rise ps h.0 to h.2))
    any_unnamed_within (unnamed.a_name {k} {x} {at} {ps} e) from to h = (h.0, omega (arith, forms_rise ps (at + 1) to h.1))
    any_unnamed_within (unnamed.in_the_form {env} {d} {ps} {offset = o} b) from to h =
        let place : Within from o h.0 = form_unnamed_within b from h.0 h.1 in (place.0, omega (arith, place.1, forms_rise ps h.0 to h.2))
    any_unnamed_within (unnamed.in_a_later {p = expressions qs} {ps} {offset = o} b) from to h =
        let place : Within h.0 o to = any_unnamed_within b h.0 to h.2 in (omega (arith, place.0, seen_rises qs from h.0 h.1), place.1)
    any_unnamed_within (unnamed.in_a_later {p = specifier ts} {ps} {offset = o} b) from to h =
        let place : Within h.0 o to = any_unnamed_within b h.0 to h.2 in (omega (arith, place.0, type_rises ts from h.0 h.1), place.1)
    any_unnamed_within (unnamed.in_a_later {p = name_among k x at} {ps} {offset = o} b) from to h =
        let place : Within (at + 1) o to = any_unnamed_within b (at + 1) to h.1 in (omega (arith, place.0, h.0), place.1)
    any_unnamed_within (unnamed.in_a_later {p = form env d} {ps} {offset = o} b) from to h =
        let place : Within h.0 o to = any_unnamed_within b h.0 to h.2 in (omega (arith, place.0, datum_rises d from h.0 h.1), place.1)

  -- ---- one number at one offset

  mutual
    pub form_number : {env : Names} {d : Datum} {n o : ℕ} → FormBlames seen w env d n o → (m from to : ℕ) → Lies from d to
        → FormBlames seen w env d m o → n ≡ m
    form_number (an_atom {env} {d} e) m from to h b = sym (atom_blamed seen w env d e m (offset d) b).0
    form_number (a_misshapen_form {env} {ds} {at} e) m from to h b = sym (subst (λ s. SightBlames seen w s at m at) e (form_blamed seen w b)).0
    form_number (an_unknown_head {env} {ds} {at} {head_at = k} e) m from to h b = sym (subst (λ s. SightBlames seen w s at m k) e (form_blamed seen w b)).0
    form_number (a_planned_head {env} {ds} {at} {head_at = k} e) m from to h b = sym (subst (λ s. SightBlames seen w s at m k) e (form_blamed seen w b)).0
    form_number (in_a_part {env} {ds} {at} {ps} {number = n} {offset = o} e a) m from to h b =
        any_number a m (at + 1) to (part_lies env ds at from to (Sees ps) e h) (subst (λ s. SightBlames seen w s at m o) e (form_blamed seen w b))

    pub any_number : {ps : List FormSeen} {n o : ℕ} → FormBlamesAny seen w ps n o → (m from to : ℕ) → LieForms from ps to
        → FormBlamesAny seen w ps m o → n ≡ m
    any_number (in_expressions a) m from to h (in_expressions b) = any_one_number a m from h.0 h.1 b
    any_number (in_expressions {qs} {ps} {number = n} {offset = o} a) m from to h (in_a_later b) =
        let left : Within from o h.0 = blames_any_within a from h.0 h.1 in
        let right : Within h.0 o to = any_within b h.0 to h.2 in
        absurd (omega (arith, left.1, right.0))
    any_number (in_a_type {ts} {ps} {number = n} {offset = o} a) m from to h (in_a_type b) = type_number ts n m o from h.0 h.1 a b
    any_number (in_a_type {ts} {ps} {number = n} {offset = o} a) m from to h (in_a_later b) =
        let left : Within from o h.0 = type_within ts n o from h.0 h.1 a in
        let right : Within h.0 o to = any_within b h.0 to h.2 in
        absurd (omega (arith, left.1, right.0))
    any_number (in_the_form a) m from to h (in_the_form b) = form_number a m from h.0 h.1 b
    any_number (in_the_form {env} {d} {ps} {number = n} {offset = o} a) m from to h (in_a_later b) =
        let left : Within from o h.0 = form_within a from h.0 h.1 in
        let right : Within h.0 o to = any_within b h.0 to h.2 in
        absurd (omega (arith, left.1, right.0))
    any_number (in_a_later {p = expressions qs} {ps} {number = n} {offset = o} a) m from to h (in_expressions b) =
        let left : Within from o h.0 = blames_any_within b from h.0 h.1 in
        let right : Within h.0 o to = any_within a h.0 to h.2 in
        absurd (omega (arith, left.1, right.0))
    any_number (in_a_later {p = expressions qs} a) m from to h (in_a_later b) = any_number a m h.0 to h.2 b
    any_number (in_a_later {p = specifier ts} {ps} {number = n} {offset = o} a) m from to h (in_a_type b) =
        let left : Within from o h.0 = type_within ts m o from h.0 h.1 b in
        let right : Within h.0 o to = any_within a h.0 to h.2 in
        absurd (omega (arith, left.1, right.0))
    any_number (in_a_later {p = specifier ts} a) m from to h (in_a_later b) = any_number a m h.0 to h.2 b
    any_number (in_a_later {p = name_among k x at} a) m from to h (in_a_later b) = any_number a m (at + 1) to h.1 b
    any_number (in_a_later {p = form env d} {ps} {number = n} {offset = o} a) m from to h (in_the_form b) =
        let left : Within from o h.0 = form_within b from h.0 h.1 in
        let right : Within h.0 o to = any_within a h.0 to h.2 in
        absurd (omega (arith, left.1, right.0))
    any_number (in_a_later {p = form env d} a) m from to h (in_a_later b) = any_number a m h.0 to h.2 b
