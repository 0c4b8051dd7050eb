-- Readings against what is to blame: a reading gives a value where nothing is blamed, and fails where something is, at the least offset.
use Rattle.std.proofs.Common.{◌≡◌, ℕ, ◌+◌, ◌≤◌, ◌⊎◌, inl, inr, Bool, true, false, List, [], ◌∷◌, ◌++◌, refl, sym, arith, ◌∙◌}
use Rattle.std.specs.Prelude.{Result, Ok, Err, Option, Some, None}
use Rattle.std.proofs.Math.Path.{subst}
use Rattle.cl_forms.specs.Datum.{Datum, Datums, list, in_order}
use Rattle.cl_words.specs.Signatures.{record_in, slot_in}
use Rattle.cl_words.specs.declared.signatures.Signatures.{Signatures}
use Rattle.cl_expressions.specs.Load.{Load, Notes, Fault, after, ◌>>=◌, give, refuse, noted, first_of}
use Rattle.cl_expressions.specs.Scopes.{Names}
use Rattle.cl_grammar.specs.Lies.{Lies}
use Rattle.cl_grammar.specs.Sights.{Seen, expression, slot_name, record_name, refused, Sight, Misshapen, UnknownHead, Sees, form_seen}
use Rattle.cl_grammar.specs.Blames.{Blames, BlamesAny, a_misshapen_form, an_unknown_head, in_a_part, in_the_first, by_itself}
use Rattle.cl_grammar.specs.Unnamed.{Unnamed, UnnamedAny, IsNoted}
use Rattle.cl_grammar.specs.Unnamed as unnamed
use Rattle.cl_grammar.proofs.Lying.{LieSeen, LieSight, LieApart, seen_split, list_lies, form_lies}
use Rattle.cl_grammar.proofs.Bounds.{before_within, blames_any_within, unnamed_any_within, none_blamed, none_unnamed, blames_left, blames_right}
use Rattle.cl_grammar.proofs.Bounds.{blames_split, unnamed_left, unnamed_right, unnamed_split, only_blamed, only_unnamed, slot_unnamed}
use Rattle.cl_grammar.proofs.Bounds.{record_unnamed, slot_blames, record_blames, itself_blamed, SightBlames, SightUnnamed, form_blamed, form_unnamed}
use Rattle.cl_grammar.proofs.Spelled.{false_true}

-- no value asks for more
abbrev pub Any : {A : Type 0} → A → Type 0
Any x = Unit {0}

-- a value of which Q holds, where nothing is blamed, with the least name that is not declared noted; or the fault of least offset
abbrev pub Verdict : {A : Type 0} → (B : ℕ → ℕ → Type 0) → (N : ℕ → Type 0) → (Q : A → Type 0) → Notes → Result (A × Notes) Fault → Type 0
Verdict B N Q u (Ok x) = Q x.0 × ((n o : ℕ) → B n o → ⊥) × IsNoted N u.unknown x.1.unknown
Verdict B N Q u (Err fault) = B fault.0 fault.1 × ((n o : ℕ) → B n o → fault.1 ≤ o)

-- what a reading of these parts comes to, where they lie in order
pub record Judges {A : Type 0} (w : Signatures) (ps : List Seen) (Q : A → Type 0) (m : Load A) : Type 0 where
  pub judged : (from to : ℕ) → LieSeen from ps to → (u : Notes) → Verdict (BlamesAny w ps) (UnnamedAny w ps) Q u (m u)

-- ---- notes

pub noted_none : (N : ℕ → Type 0) (u : Option ℕ) → ((o : ℕ) → N o → ⊥) → IsNoted N u u
noted_none N None h = h
noted_none N (Some earlier) h = refl

pub noted_one : (N : ℕ → Type 0) (u : Option ℕ) (at : ℕ) → N at → ((o : ℕ) → N o → o ≡ at) → IsNoted N u (first_of u at)
noted_one N None at h k = (h, λ o b. omega (arith, k o b))
noted_one N (Some earlier) at h k = refl

noted_same : (N M : ℕ → Type 0) → ((o : ℕ) → N o → M o) → ((o : ℕ) → M o → N o) → (u v : Option ℕ) → IsNoted N u v → IsNoted M u v
noted_same N M f g (Some earlier) v h = h
noted_same N M f g None None h = λ o b. h o (g o b)
noted_same N M f g None (Some first) h = (f first h.0, λ o b. h.1 o (g o b))

pub neither : {A B C : Type 0} → (A → C) → (B → C) → A ⊎ B → C
neither f g (inl a) = f a
neither f g (inr b) = g b

-- what is blamed and not declared in two together is so in the one or in the other, and all of the first stands before the second
pub record Joins (B C D : ℕ → ℕ → Type 0) (L M N : ℕ → Type 0) : Type 0 where
  pub blames_first : (n o : ℕ) → B n o → D n o
  pub blames_second : (n o : ℕ) → C n o → D n o
  pub blames_either : (n o : ℕ) → D n o → B n o ⊎ C n o
  pub blames_rise : (n o m p : ℕ) → B n o → C m p → o ≤ p
  pub unnamed_first : (o : ℕ) → L o → N o
  pub unnamed_second : (o : ℕ) → M o → N o
  pub unnamed_either : (o : ℕ) → N o → L o ⊎ M o
  pub unnamed_rise : (o p : ℕ) → L o → M p → o ≤ p

-- ---- one reading behind another

module _ {B C D : ℕ → ℕ → Type 0} {L M N : ℕ → Type 0} (j : Joins B C D L M N) where
  noted_joined : (u v z : Option ℕ) → IsNoted L u v → IsNoted M v z → IsNoted N u z
  noted_joined (Some earlier) v z h k = subst (λ s. IsNoted M s z) h k
  noted_joined None None None h k = λ o b. neither (h o) (k o) (j.unnamed_either o b)
  noted_joined None None (Some first) h k = (j.unnamed_second first k.0, λ o b. neither (λ c. absurd (h o c)) (k.1 o) (j.unnamed_either o b))
  noted_joined None (Some first) z h k =
      subst (IsNoted N None) (sym k)
      (j.unnamed_first first h.0, λ o b. neither (h.1 o) (λ c. j.unnamed_rise first o h.0 c) (j.unnamed_either o b))

  second_judged : {E : Type 0} (Q : E → Type 0) (u v : Notes) (s : Result (E × Notes) Fault) → ((n o : ℕ) → B n o → ⊥)
      → IsNoted L u.unknown v.unknown → Verdict C M Q v s → Verdict D N Q u s
  second_judged Q u v (Ok y) h i k =
      (k.0, λ n o b. neither (h n o) (k.1 n o) (j.blames_either n o b), noted_joined u.unknown v.unknown y.1.unknown i k.2)
  second_judged Q u v (Err fault) h i k =
      (j.blames_second fault.0 fault.1 k.0, λ n o b. neither (λ c. absurd (h n o c)) (k.1 n o) (j.blames_either n o b))

  pub both_judged : {A E : Type 0} (P : A → Type 0) (Q : E → Type 0) (f : A → Load E)
      → ((x : A) → P x → (v : Notes) → Verdict C M Q v (f x v)) → (u : Notes) → (s : Result (A × Notes) Fault) → Verdict B L P u s
      → Verdict D N Q u (after s f)
  both_judged P Q f g u (Ok x) h = second_judged Q u x.1 (f x.0 x.1) h.1 h.2 (g x.0 h.0 x.1)
  both_judged P Q f g u (Err fault) h = (
    j.blames_first fault.0 fault.1 h.0,
    λ n o b. neither (h.1 n o) (λ c. j.blames_rise fault.0 fault.1 n o h.0 c) (j.blames_either n o b),
  )

pub given_judged : {A E : Type 0} (B : ℕ → ℕ → Type 0) (N : ℕ → Type 0) (P : A → Type 0) (Q : E → Type 0) (g : A → E)
    → ((x : A) → P x → Q (g x)) → (u : Notes) → (s : Result (A × Notes) Fault) → Verdict B N P u s
    → Verdict B N Q u (after s (λ x. give (g x)))
given_judged B N P Q g i u (Ok x) h = (i x.0 h.0, h.1, h.2)
given_judged B N P Q g i u (Err fault) h = h

pub verdict_same : {A : Type 0} (B C : ℕ → ℕ → Type 0) (N M : ℕ → Type 0) (Q : A → Type 0) → ((n o : ℕ) → B n o → C n o)
    → ((n o : ℕ) → C n o → B n o) → ((o : ℕ) → N o → M o) → ((o : ℕ) → M o → N o) → (u : Notes) (s : Result (A × Notes) Fault)
    → Verdict B N Q u s → Verdict C M Q u s
verdict_same B C N M Q f g i j u (Ok x) h = (h.0, λ n o b. h.1 n o (g n o b), noted_same N M i j u.unknown x.1.unknown h.2)
verdict_same B C N M Q f g i j u (Err fault) h = (f fault.0 fault.1 h.0, λ n o b. h.1 n o (g n o b))

-- parts that lie one behind the other
parts_join : (w : Signatures) (ps qs : List Seen) (from middle to : ℕ) → LieSeen from ps middle → LieSeen middle qs to
    → Joins (BlamesAny w ps) (BlamesAny w qs) (BlamesAny w (ps ++ qs)) (UnnamedAny w ps) (UnnamedAny w qs) (UnnamedAny w (ps ++ qs))
parts_join w ps qs from middle to l r = record {
  blames_first = λ n o b. blames_left ps qs n o b;
  blames_second = λ n o b. blames_right ps qs n o b;
  blames_either = λ n o b. blames_split ps qs n o b;
  blames_rise = λ n o m p a b. before_within from middle to (blames_any_within a from middle l) (blames_any_within b middle to r);
  unnamed_first = λ o b. unnamed_left ps qs o b;
  unnamed_second = λ o b. unnamed_right ps qs o b;
  unnamed_either = λ o b. unnamed_split ps qs o b;
  unnamed_rise = λ o p a b. before_within from middle to (unnamed_any_within a from middle l) (unnamed_any_within b middle to r);
}

module _ {w : Signatures} {B : Type 0} {Q : B → Type 0} where
  pub joined : {A : Type 0} {P : A → Type 0} (ps qs : List Seen) {m : Load A} {f : A → Load B} → Judges w ps P m
      → ((x : A) → P x → Judges w qs Q (f x)) → Judges w (ps ++ qs) Q (m >>= f)
  joined {P} ps qs {m} {f} h g = record {
    judged = λ from to lie u.
        let apart : LieApart from ps qs to = seen_split ps qs from to lie in
        both_judged (parts_join w ps qs from apart.0 to apart.1 apart.2) P Q f (λ x i v. (g x i).judged apart.0 to apart.2 v) u (m u)
        (h.judged from apart.0 apart.1 u);
  }

  -- one part, and then the others
  pub then_part : {A : Type 0} {P : A → Type 0} {p : Seen} {qs : List Seen} {m : Load A} {f : A → Load B} → Judges w (p ∷ []) P m
      → ((x : A) → P x → Judges w qs Q (f x)) → Judges w (p ∷ qs) Q (m >>= f)
  then_part {p} {qs} h g = joined (p ∷ []) qs h g

  pub then_given : {A : Type 0} {P : A → Type 0} {ps : List Seen} {m : Load A} (g : A → B) → Judges w ps P m → ((x : A) → P x → Q (g x))
      → Judges w ps Q (m >>= λ x. give (g x))
  then_given {P} {ps} {m} g h i = record {
    judged = λ from to lie u. given_judged (BlamesAny w ps) (UnnamedAny w ps) P Q g i u (m u) (h.judged from to lie u);
  }

  pub ended : {x : B} → Q x → Judges w [] Q (give x)
  ended h = record { judged = λ from to lie u. (h, λ n o b. none_blamed b, noted_none (UnnamedAny w []) u.unknown (λ o b. none_unnamed b)) }

-- ---- names

module _ (w : Signatures) (x : List ℕ) (at : ℕ) where
  slot_known : (known : Bool) → slot_in w x ≡ known → Judges w (slot_name x at ∷ []) Any (noted known at)
  slot_known true e = record {
    judged = λ from to lie u. (
      tt,
      λ n o b. slot_blames b,
      noted_none (UnnamedAny w (slot_name x at ∷ [])) u.unknown (λ o b. false_true (sym (slot_unnamed b).0 ∙ e)),
    );
  }
  slot_known false e = record {
    judged = λ from to lie u. (
      tt,
      λ n o b. slot_blames b,
      noted_one (UnnamedAny w (slot_name x at ∷ [])) u.unknown at (unnamed.a_slot e) (λ o b. (slot_unnamed b).1),
    );
  }

  pub slot_judged : Judges w (slot_name x at ∷ []) Any (noted (slot_in w x) at)
  slot_judged = slot_known (slot_in w x) refl

  pub record_judged : record_in w x ≡ None → Judges w (record_name x at ∷ []) Any (noted false at)
  record_judged e = record {
    judged = λ from to lie u. (
      tt,
      λ n o b. record_blames b,
      noted_one (UnnamedAny w (record_name x at ∷ [])) u.unknown at (unnamed.a_record e) (λ o b. (record_unnamed b).1),
    );
  }

-- ---- what is refused by itself

pub refused_judged : {A : Type 0} {w : Signatures} (n at : ℕ) {Q : A → Type 0} {m : Load A} → ((u : Notes) → m u ≡ Err (n, at))
    → Judges w (refused n at ∷ []) Q m
refused_judged n at {Q} h = record {
  judged = λ from to lie u.
      subst (Verdict (BlamesAny _ (refused n at ∷ [])) (UnnamedAny _ (refused n at ∷ [])) Q u) (sym (h u))
      (by_itself, λ k o b. omega (arith, (itself_blamed b).1));
}

-- ---- one datum

-- a datum is judged where it lies
pub alone : {A : Type 0} (w : Signatures) (env : Names) (d : Datum) (Q : A → Type 0) (m : Load A)
    → ((from to : ℕ) → Lies from d to → (u : Notes) → Verdict (Blames w env d) (Unnamed w env d) Q u (m u))
    → Judges w (expression env d ∷ []) Q m
alone w env d Q m h = record {
  judged = λ from to lie u.
      verdict_same (Blames w env d) (BlamesAny w (expression env d ∷ [])) (Unnamed w env d) (UnnamedAny w (expression env d ∷ [])) Q
      (λ n o b. in_the_first b) (λ n o b. only_blamed b) (λ o b. unnamed.in_the_first b) (λ o b. only_unnamed b) u (m u) (h from lie.0 lie.1 u);
}

-- what is judged as the only part
pub only_verdict : {A : Type 0} (w : Signatures) (env : Names) (d : Datum) (Q : A → Type 0) (u : Notes) (s : Result (A × Notes) Fault)
    → Verdict (BlamesAny w (expression env d ∷ [])) (UnnamedAny w (expression env d ∷ [])) Q u s → Verdict (Blames w env d) (Unnamed w env d) Q u s
only_verdict w env d Q u s h =
    verdict_same (BlamesAny w (expression env d ∷ [])) (Blames w env d) (UnnamedAny w (expression env d ∷ [])) (Unnamed w env d) Q
    (λ n o b. only_blamed b) (λ n o b. in_the_first b) (λ o b. only_unnamed b) (λ o b. unnamed.in_the_first b) u s h

-- ---- a form

-- the reading answers to what the form sees
abbrev AnswersTo : {A : Type 0} → Signatures → ℕ → Sight → Load A → Type 0
AnswersTo w at Misshapen m = (u : Notes) → m u ≡ Err (6, at)
AnswersTo w at (UnknownHead head_at) m = (u : Notes) → m u ≡ Err (5, head_at)
AnswersTo w at (Sees ps) m = Judges w ps Any m

pub record Answers {A : Type 0} (w : Signatures) (at : ℕ) (s : Sight) (m : Load A) : Type 0 where
  pub answers : AnswersTo w at s m

module _ {w : Signatures} {A : Type 0} {at : ℕ} where
  pub misshapen : Answers w at Misshapen (refuse {A = A} 6 at)
  misshapen = record { answers = λ u. refl }

  pub unknown_head : {head_at : ℕ} → Answers w at (UnknownHead head_at) (refuse {A = A} 5 head_at)
  unknown_head = record { answers = λ u. refl }

  pub sees : {ps : List Seen} {m : Load A} → Judges w ps Any m → Answers w at (Sees ps) m
  sees h = record { answers = h }

module _ {A : Type 0} (w : Signatures) (env : Names) (ds : Datums) (at : ℕ) (m : Load A) where
  sight_judged : (s : Sight) → form_seen w env (in_order ds) ≡ s → AnswersTo w at s m → (to : ℕ) → LieSight (at + 1) s to → (u : Notes)
      → Verdict (Blames w env (list ds at)) (Unnamed w env (list ds at)) Any u (m u)
  sight_judged Misshapen e h to lie u =
      subst (Verdict (Blames w env (list ds at)) (Unnamed w env (list ds at)) Any u) (sym (h u)) (
        a_misshapen_form e,
        λ n o b. omega (arith, (subst (λ s. SightBlames w s at n o) e (form_blamed b)).1),
      )
  sight_judged (UnknownHead k) e h to lie u =
      subst (Verdict (Blames w env (list ds at)) (Unnamed w env (list ds at)) Any u) (sym (h u)) (
        an_unknown_head e,
        λ n o b. omega (arith, (subst (λ s. SightBlames w s at n o) e (form_blamed b)).1),
      )
  sight_judged (Sees ps) e h to lie u =
      verdict_same (BlamesAny w ps) (Blames w env (list ds at)) (UnnamedAny w ps) (Unnamed w env (list ds at)) Any
      (λ n o b. in_a_part e b) (λ n o b. subst (λ s. SightBlames w s at n o) e (form_blamed b))
      (λ o b. unnamed.in_a_part e b) (λ o b. subst (λ s. SightUnnamed w s o) e (form_unnamed b)) u (m u) (h.judged (at + 1) to lie u)

  pub list_judged : Answers w at (form_seen w env (in_order ds)) m → Judges w (expression env (list ds at) ∷ []) Any m
  list_judged h =
      alone w env (list ds at) Any m
      (λ from to lie u. sight_judged (form_seen w env (in_order ds)) refl h.answers to
      (form_lies w env (in_order ds) (at + 1) to (list_lies ds (at + 1) to lie.2)) u)
