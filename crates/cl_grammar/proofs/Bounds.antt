-- What is blamed and not declared stands within the datum; and what a datum of each kind is blamed for.
use Rattle.std.proofs.Common.{◌≡◌, ℕ, ◌+◌, ◌≤◌, ◌<◌, ◌⊎◌, inl, inr, true, false, List, [], ◌∷◌, ◌++◌, refl, sym, arith}
use Rattle.std.specs.Prelude.{None}
use Rattle.std.proofs.Math.Path.{subst}
use Rattle.cl_forms.specs.Datum.{Datum, Datums, word, stray, list, in_order}
use Rattle.cl_forms.specs.Words.{is_name}
use Rattle.cl_words.specs.Signatures.{record_in, slot_in}
use Rattle.cl_words.specs.declared.signatures.Signatures.{Signatures}
use Rattle.cl_expressions.specs.Scopes.{Names, among}
use Rattle.cl_grammar.specs.Lies.{Lies}
use Rattle.cl_grammar.specs.Sights.{Seen, expression, slot_name, record_name, refused, Sight, Misshapen, UnknownHead, Sees, form_seen}
use Rattle.cl_grammar.specs.Blames.{Blames, BlamesAny, is_atom, a_stray_quote, no_atom, a_misshapen_form, an_unknown_head, in_a_part, in_the_first, by_itself}
use Rattle.cl_grammar.specs.Blames.{in_a_later}
use Rattle.cl_grammar.specs.Unnamed.{Unnamed, UnnamedAny}
use Rattle.cl_grammar.specs.Unnamed as unnamed
use Rattle.cl_grammar.proofs.Lying.{LieSeen, LieSight, list_lies, form_lies, seen_rises, datum_rises}

abbrev pub Within : ℕ → ℕ → ℕ → Type 0
Within from o to = (from ≤ o) × (o < to)

pub before_within : (from middle to : ℕ) {o p : ℕ} → Within from o middle → Within middle p to → o ≤ p
before_within from middle to {o} {p} l r = omega (arith, l.1, r.0)

part_lies : (w : Signatures) (env : Names) (ds : Datums) (at from to : ℕ) (s : Sight) → form_seen w env (in_order ds) ≡ s → Lies from (list ds at) to
    → LieSight (at + 1) s to
part_lies w env ds at from to s e h =
    subst (λ r. LieSight (at + 1) r to) e (form_lies w env (in_order ds) (at + 1) to (list_lies ds (at + 1) to h.2))

-- a form with this sight is blamed so
abbrev pub SightBlames : Signatures → Sight → ℕ → ℕ → ℕ → Type 0
SightBlames w Misshapen at n o = (n ≡ 6) × (o ≡ at)
SightBlames w (UnknownHead k) at n o = (n ≡ 5) × (o ≡ k)
SightBlames w (Sees ps) at n o = BlamesAny w ps n o

-- names in a form with this sight are not declared
abbrev pub SightUnnamed : Signatures → Sight → ℕ → Type 0
SightUnnamed w Misshapen o = ⊥
SightUnnamed w (UnknownHead k) o = ⊥
SightUnnamed w (Sees ps) o = UnnamedAny w ps o

module _ {w : Signatures} where
  -- ---- bounds

  mutual
    pub blames_within : {env : Names} {d : Datum} {n o : ℕ} → Blames w env d n o → (from to : ℕ) → Lies from d to → Within from o to
    blames_within a_stray_quote from to h = h
    blames_within (no_atom e) from to h = h
    blames_within (a_misshapen_form e) from to h = (h.0, h.1)
    blames_within (an_unknown_head {env} {ds} {at} {head_at = k} e) from to h =
        let place : Within (at + 1) k to = part_lies w env ds at from to (UnknownHead k) e h in (omega (arith, h.0, place.0), place.1)
    blames_within (in_a_part {env} {ds} {at} {ps} {number = n} {offset = o} e b) from to h =
        let place : Within (at + 1) o to = blames_any_within b (at + 1) to (part_lies w env ds at from to (Sees ps) e h) in
        (omega (arith, h.0, place.0), place.1)

    pub blames_any_within : {ps : List Seen} {n o : ℕ} → BlamesAny w ps n o → (from to : ℕ) → LieSeen from ps to → Within from o to
    blames_any_within (in_the_first {env} {d} {ps} {number = n} {offset = o} b) from to h =
        let place : Within from o h.0 = blames_within b from h.0 h.1 in (place.0, omega (arith, place.1, seen_rises ps h.0 to h.2))
    blames_any_within (by_itself {ps} {number = n} {offset = o}) from to h = (h.0, omega (arith, seen_rises ps (o + 1) to h.1))
    blames_any_within (in_a_later {p = expression env d} {ps} {number = n} {offset = o} b) from to h =
        let place : Within h.0 o to = blames_any_within b h.0 to h.2 in (omega (arith, place.0, datum_rises d from h.0 h.1), place.1)
    blames_any_within (in_a_later {p = slot_name x at} {ps} {number = n} {offset = o} b) from to h =
        let place : Within (at + 1) o to = blames_any_within b (at + 1) to h.1 in (omega (arith, place.0, h.0), place.1)
    blames_any_within (in_a_later {p = record_name x at} {ps} {number = n} {offset = o} b) from to h =
        let place : Within (at + 1) o to = blames_any_within b (at + 1) to h.1 in (omega (arith, place.0, h.0), place.1)
    blames_any_within (in_a_later {p = refused m at} {ps} {number = n} {offset = o} b) from to h =
        let place : Within (at + 1) o to = blames_any_within b (at + 1) to h.1 in (omega (arith, place.0, h.0), place.1)

  mutual
    pub unnamed_within : {env : Names} {d : Datum} {o : ℕ} → Unnamed w env d o → (from to : ℕ) → Lies from d to → Within from o to
    unnamed_within (unnamed.a_variable e f) from to h = h
    unnamed_within (unnamed.in_a_part {env} {ds} {at} {ps} {offset = o} e b) from to h =
        let place : Within (at + 1) o to = unnamed_any_within b (at + 1) to (part_lies w env ds at from to (Sees ps) e h) in
        (omega (arith, h.0, place.0), place.1)

    pub unnamed_any_within : {ps : List Seen} {o : ℕ} → UnnamedAny w ps o → (from to : ℕ) → LieSeen from ps to → Within from o to
    unnamed_any_within (unnamed.a_slot {x} {at} {ps} e) from to h = (h.0, omega (arith, seen_rises ps (at + 1) to h.1))
    unnamed_any_within (unnamed.a_record {x} {at} {ps} e) from to h = (h.0, omega (arith, seen_rises ps (at + 1) to h.1))
    unnamed_any_within (unnamed.in_the_first {env} {d} {ps} {offset = o} b) from to h =
        let place : Within from o h.0 = unnamed_within b from h.0 h.1 in (place.0, omega (arith, place.1, seen_rises ps h.0 to h.2))
    unnamed_any_within (unnamed.in_a_later {p = expression env d} {ps} {offset = o} b) from to h =
        let place : Within h.0 o to = unnamed_any_within b h.0 to h.2 in (omega (arith, place.0, datum_rises d from h.0 h.1), place.1)
    unnamed_any_within (unnamed.in_a_later {p = slot_name x at} {ps} {offset = o} b) from to h =
        let place : Within (at + 1) o to = unnamed_any_within b (at + 1) to h.1 in (omega (arith, place.0, h.0), place.1)
    unnamed_any_within (unnamed.in_a_later {p = record_name x at} {ps} {offset = o} b) from to h =
        let place : Within (at + 1) o to = unnamed_any_within b (at + 1) to h.1 in (omega (arith, place.0, h.0), place.1)
    unnamed_any_within (unnamed.in_a_later {p = refused m at} {ps} {offset = o} b) from to h =
        let place : Within (at + 1) o to = unnamed_any_within b (at + 1) to h.1 in (omega (arith, place.0, h.0), place.1)

  -- ---- parts of a list of parts

  pub none_blamed : {n o : ℕ} → BlamesAny w [] n o → ⊥
  none_blamed b = elim b [ ]

  pub none_unnamed : {o : ℕ} → UnnamedAny w [] o → ⊥
  none_unnamed b = elim b [ ]

  pub blames_left : (ps qs : List Seen) (n o : ℕ) → BlamesAny w ps n o → BlamesAny w (ps ++ qs) n o
  blames_left [] qs n o b = elim b [ ]
  blames_left (p ∷ ps) qs n o (in_the_first b) = in_the_first b
  blames_left (p ∷ ps) qs n o by_itself = by_itself
  blames_left (p ∷ ps) qs n o (in_a_later b) = in_a_later (blames_left ps qs n o b)

  pub blames_right : (ps qs : List Seen) (n o : ℕ) → BlamesAny w qs n o → BlamesAny w (ps ++ qs) n o
  blames_right [] qs n o b = b
  blames_right (p ∷ ps) qs n o b = in_a_later (blames_right ps qs n o b)

  later_blames : {p : Seen} {ps : List Seen} {B : Type 0} {n o : ℕ} → BlamesAny w ps n o ⊎ B → BlamesAny w (p ∷ ps) n o ⊎ B
  later_blames (inl b) = inl (in_a_later b)
  later_blames (inr b) = inr b

  pub blames_split : (ps qs : List Seen) (n o : ℕ) → BlamesAny w (ps ++ qs) n o → BlamesAny w ps n o ⊎ BlamesAny w qs n o
  blames_split [] qs n o b = inr b
  blames_split (p ∷ ps) qs n o (in_the_first b) = inl (in_the_first b)
  blames_split (p ∷ ps) qs n o by_itself = inl by_itself
  blames_split (p ∷ ps) qs n o (in_a_later b) = later_blames (blames_split ps qs n o b)

  pub unnamed_left : (ps qs : List Seen) (o : ℕ) → UnnamedAny w ps o → UnnamedAny w (ps ++ qs) o
  unnamed_left [] qs o b = elim b [ ]
  unnamed_left (p ∷ ps) qs o (unnamed.a_slot e) = unnamed.a_slot e
  unnamed_left (p ∷ ps) qs o (unnamed.a_record e) = unnamed.a_record e
  unnamed_left (p ∷ ps) qs o (unnamed.in_the_first b) = unnamed.in_the_first b
  unnamed_left (p ∷ ps) qs o (unnamed.in_a_later b) = unnamed.in_a_later (unnamed_left ps qs o b)

  pub unnamed_right : (ps qs : List Seen) (o : ℕ) → UnnamedAny w qs o → UnnamedAny w (ps ++ qs) o
  unnamed_right [] qs o b = b
  unnamed_right (p ∷ ps) qs o b = unnamed.in_a_later (unnamed_right ps qs o b)

  later_unnamed : {p : Seen} {ps : List Seen} {B : Type 0} {o : ℕ} → UnnamedAny w ps o ⊎ B → UnnamedAny w (p ∷ ps) o ⊎ B
  later_unnamed (inl b) = inl (unnamed.in_a_later b)
  later_unnamed (inr b) = inr b

  pub unnamed_split : (ps qs : List Seen) (o : ℕ) → UnnamedAny w (ps ++ qs) o → UnnamedAny w ps o ⊎ UnnamedAny w qs o
  unnamed_split [] qs o b = inr b
  unnamed_split (p ∷ ps) qs o (unnamed.a_slot e) = inl (unnamed.a_slot e)
  unnamed_split (p ∷ ps) qs o (unnamed.a_record e) = inl (unnamed.a_record e)
  unnamed_split (p ∷ ps) qs o (unnamed.in_the_first b) = inl (unnamed.in_the_first b)
  unnamed_split (p ∷ ps) qs o (unnamed.in_a_later b) = later_unnamed (unnamed_split ps qs o b)

  -- ---- what there is to blame

  pub only_blamed : {env : Names} {d : Datum} {n o : ℕ} → BlamesAny w (expression env d ∷ []) n o → Blames w env d n o
  only_blamed (in_the_first b) = b
  only_blamed (in_a_later b) = absurd (none_blamed b)

  pub only_unnamed : {env : Names} {d : Datum} {o : ℕ} → UnnamedAny w (expression env d ∷ []) o → Unnamed w env d o
  only_unnamed (unnamed.in_the_first b) = b
  only_unnamed (unnamed.in_a_later b) = absurd (none_unnamed b)

  pub slot_unnamed : {x : List ℕ} {at o : ℕ} → UnnamedAny w (slot_name x at ∷ []) o → (slot_in w x ≡ false) × (o ≡ at)
  slot_unnamed (unnamed.a_slot e) = (e, refl)
  slot_unnamed (unnamed.in_a_later b) = absurd (none_unnamed b)

  pub record_unnamed : {x : List ℕ} {at o : ℕ} → UnnamedAny w (record_name x at ∷ []) o → (record_in w x ≡ None) × (o ≡ at)
  record_unnamed (unnamed.a_record e) = (e, refl)
  record_unnamed (unnamed.in_a_later b) = absurd (none_unnamed b)

  pub slot_blames : {x : List ℕ} {at n o : ℕ} → BlamesAny w (slot_name x at ∷ []) n o → ⊥
  slot_blames (in_a_later b) = none_blamed b

  pub record_blames : {x : List ℕ} {at n o : ℕ} → BlamesAny w (record_name x at ∷ []) n o → ⊥
  record_blames (in_a_later b) = none_blamed b

  pub itself_blamed : {k at n o : ℕ} → BlamesAny w (refused k at ∷ []) n o → (n ≡ k) × (o ≡ at)
  itself_blamed by_itself = (refl, refl)
  itself_blamed (in_a_later b) = absurd (none_blamed b)

  itself_either : {ps : List Seen} {k at n o : ℕ} → BlamesAny w (refused k at ∷ ps) n o → ((n ≡ k) × (o ≡ at)) ⊎ BlamesAny w ps n o
  itself_either by_itself = inl (refl, refl)
  itself_either (in_a_later b) = inr b

  -- what is blamed at the same offset is the part itself, since the others stand behind it
  itself_number : {ps : List Seen} (n m o to : ℕ) → (BlamesAny w ps m o → Within (o + 1) o to) → ((m ≡ n) × (o ≡ o)) ⊎ BlamesAny w ps m o → n ≡ m
  itself_number n m o to f (inl e) = sym e.0
  itself_number n m o to f (inr b) = let right : Within (o + 1) o to = f b in absurd (omega (arith, right.0))

  pub word_blamed : {env : Names} {x : List ℕ} {at n o : ℕ} → Blames w env (word x at) n o → (is_atom x ≡ false) × (n ≡ 6) × (o ≡ at)
  word_blamed (no_atom e) = (e, refl, refl)

  pub word_unnamed : {env : Names} {x : List ℕ} {at o : ℕ} → Unnamed w env (word x at) o → (is_name x ≡ true) × (among x env ≡ false) × (o ≡ at)
  word_unnamed (unnamed.a_variable e f) = (e, f, refl)

  pub stray_blamed : {env : Names} {at n o : ℕ} → Blames w env (stray at) n o → (n ≡ 6) × (o ≡ at)
  stray_blamed a_stray_quote = (refl, refl)

  pub form_blamed : {env : Names} {ds : Datums} {at n o : ℕ} → Blames w env (list ds at) n o → SightBlames w (form_seen w env (in_order ds)) at n o
  form_blamed (a_misshapen_form {env} {ds} {at} e) = subst (λ s. SightBlames w s at 6 at) (sym e) (refl, refl)
  form_blamed (an_unknown_head {env} {ds} {at} {head_at = k} e) = subst (λ s. SightBlames w s at 5 k) (sym e) (refl, refl)
  form_blamed (in_a_part {env} {ds} {at} {ps} {number = n} {offset = o} e b) = subst (λ s. SightBlames w s at n o) (sym e) b

  pub form_unnamed : {env : Names} {ds : Datums} {at o : ℕ} → Unnamed w env (list ds at) o → SightUnnamed w (form_seen w env (in_order ds)) o
  form_unnamed (unnamed.in_a_part {env} {ds} {at} {ps} {offset = o} e b) = subst (λ s. SightUnnamed w s o) (sym e) b

  -- ---- one number at one offset

  mutual
    pub one_number : {env : Names} {d : Datum} {n o : ℕ} → Blames w env d n o → (m from to : ℕ) → Lies from d to → Blames w env d m o → n ≡ m
    one_number a_stray_quote m from to h b = sym (stray_blamed b).0
    one_number (no_atom e) m from to h b = sym (word_blamed b).1
    one_number (a_misshapen_form {env} {ds} {at} e) m from to h b = sym (subst (λ s. SightBlames w s at m at) e (form_blamed b)).0
    one_number (an_unknown_head {env} {ds} {at} {head_at = k} e) m from to h b = sym (subst (λ s. SightBlames w s at m k) e (form_blamed b)).0
    one_number (in_a_part {env} {ds} {at} {ps} {number = n} {offset = o} e a) m from to h b =
        any_one_number a m (at + 1) to (part_lies w env ds at from to (Sees ps) e h) (subst (λ s. SightBlames w s at m o) e (form_blamed b))

    pub any_one_number : {ps : List Seen} {n o : ℕ} → BlamesAny w ps n o → (m from to : ℕ) → LieSeen from ps to → BlamesAny w ps m o → n ≡ m
    any_one_number (in_the_first a) m from to h (in_the_first b) = one_number a m from h.0 h.1 b
    any_one_number (in_the_first {env} {d} {ps} {number = n} {offset = o} a) m from to h (in_a_later b) =
        let left : Within from o h.0 = blames_within a from h.0 h.1 in
        let right : Within h.0 o to = blames_any_within b h.0 to h.2 in
        absurd (omega (arith, left.1, right.0))
    any_one_number (in_a_later {p = expression env d} {ps} {number = n} {offset = o} a) m from to h (in_the_first b) =
        let left : Within from o h.0 = blames_within b from h.0 h.1 in
        let right : Within h.0 o to = blames_any_within a h.0 to h.2 in
        absurd (omega (arith, left.1, right.0))
    any_one_number (in_a_later {p = expression env d} a) m from to h (in_a_later b) = any_one_number a m h.0 to h.2 b
    any_one_number (in_a_later {p = slot_name x at} a) m from to h (in_a_later b) = any_one_number a m (at + 1) to h.1 b
    any_one_number (in_a_later {p = record_name x at} a) m from to h (in_a_later b) = any_one_number a m (at + 1) to h.1 b
    any_one_number (by_itself {ps} {number = n} {offset = o}) m from to h b =
        itself_number n m o to (λ c. blames_any_within c (o + 1) to h.1) (itself_either b)
    any_one_number (in_a_later {p = refused k at} {ps} {number = n} {offset = o} a) m from to h by_itself =
        let right : Within (at + 1) at to = blames_any_within a (at + 1) to h.1 in absurd (omega (arith, right.0))
    any_one_number (in_a_later {p = refused k at} a) m from to h (in_a_later b) = any_one_number a m (at + 1) to h.1 b
