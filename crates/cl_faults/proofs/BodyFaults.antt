-- The faults of display forms and statements stand in their forms, where those of the language's own forms do.
use Rattle.std.proofs.Common.{inl, inr, ℕ, zero, suc, List, [], ◌∷◌, drop, refl}
use Rattle.std.specs.Prelude.{Option, Some, None}
use Rattle.cl_forms.specs.Datum.{Datum, Datums, number, literal, word, quoted, stray, list, none, item}
use Rattle.cl_expressions.specs.Scopes.{Names}
use Rattle.cl_words.specs.Heads.{head_named}
use Rattle.cl_expressions.specs.Expressions.{Sub, is_binding_list}
use Rattle.cl_words.specs.declared.heads.Head.{Head}
use Rattle.cl_words.specs.declared.heads.Head.TheVariants as head
use Rattle.cl_words.specs.declared.heads.Control.{Control}
use Rattle.cl_words.specs.declared.heads.Control.TheVariants as control
use Rattle.cl_words.specs.declared.signatures.Signatures.{Signatures}
use Rattle.cl_bodies.specs.declared.own.Own.{Own}
use Rattle.cl_bodies.specs.declared.own.Own.TheVariants.{Whole, Before}
use Rattle.cl_bodies.specs.Bodies.{Language, Part, subs_of, parse_each, parse_if, parse_when, parse_let, parse_dolist, parse_progn, parse_control, finished, parse_own, parse_head, parse_headed, parse_listed, parse_form, parts_in, parse_body}
use Rattle.cl_faults.proofs.FaultLemmas.{FaultsAt, gives, refuses, binds, chooses}
use Rattle.cl_faults.proofs.ExpressionFaults.{Covers, CoversAll, CoversPart, CoversParts, expr_faults, bound_faults, binding_in_faults}

-- P holds of each fault of the language's own forms, and of those that are called by their names
pub record OwnFaults {F O C : Type 0} (P : ℕ → Type 0) (l : Language F O C) : Type 0 where
  pub own : (w : Signatures) (c : C) (h : Head) (head_at at : ℕ) (ps : List Sub) (env : Names) → P head_at → P at → CoversParts P ps
      → FaultsAt P (l.own w c h head_at at ps env)
  pub call : (w : Signatures) (x : List ℕ) (head_at at : ℕ) (ps : List Sub) (env : Names) → P head_at → P at → CoversParts P ps
      → FaultsAt P (l.call w x head_at at ps env)

-- the same of a part that is a form too
pub record CoversForm {F C : Type 0} (P : ℕ → Type 0) (p : Part F C) : Type 0 where
  pub sub : CoversPart P p.sub
  pub form : (c : C) (env : Names) → FaultsAt P (p.form c env)

abbrev pub CoversForms : {F C : Type 0} → (ℕ → Type 0) → List (Part F C) → Type 0
CoversForms P [] = Unit {0}
CoversForms P (p ∷ ps) = CoversForm P p × CoversForms P ps

module _ {F C : Type 0} (P : ℕ → Type 0) where
  covers_behind : (n : ℕ) (ps : List (Part F C)) → CoversForms P ps → CoversForms P (drop n ps)
  covers_behind zero ps k = k
  covers_behind (suc n) [] k = tt
  covers_behind (suc n) (p ∷ ps) k = covers_behind n ps k.1

  covers_subs_of : (ps : List (Part F C)) → CoversForms P ps → CoversParts P (subs_of ps)
  covers_subs_of [] k = tt
  covers_subs_of (p ∷ ps) k = (k.0.sub, covers_subs_of ps k.1)

module _ {F C : Type 0} {P : ℕ → Type 0} where
  each_faults : (c : C) (ps : List (Part F C)) (env : Names) → CoversForms P ps → FaultsAt P (parse_each c ps env)
  each_faults c [] env k = gives
  each_faults c (p ∷ ps) env k = binds (k.0.form c env) λ f. binds (each_faults c ps env k.1) λ fs. gives

module _ {F O C : Type 0} {P : ℕ → Type 0} (l : Language F O C) where
  if_faults : (c : C) (at : ℕ) (ps : List (Part F C)) (env : Names) → P at → CoversForms P ps → FaultsAt P (parse_if l c at ps env)
  if_faults c at (a ∷ b ∷ d ∷ []) env h k =
      binds (k.0.sub.expr env) λ t. binds (k.1.0.form c env) λ f. binds (k.1.1.0.form c env) λ g. gives
  if_faults c at ps env h k = refuses h

  when_faults : (c : C) (at : ℕ) (ps : List (Part F C)) (env : Names) → P at → CoversForms P ps → FaultsAt P (parse_when l c at ps env)
  when_faults c at [] env h k = refuses h
  when_faults c at (a ∷ ps) env h k = binds (k.0.sub.expr env) λ t. binds (each_faults c ps env k.1) λ fs. gives

  let_faults : (c : C) (at : ℕ) (ps : List (Part F C)) (env : Names) → P at → CoversForms P ps → FaultsAt P (parse_let l c at ps env)
  let_faults c at [] env h k = refuses h
  let_faults c at (a ∷ ps) env h k =
      chooses (is_binding_list a.sub.shape) (binds (k.0.sub.bound at env h) λ r. binds (each_faults c ps r.1 k.1) λ fs. gives) (refuses h)

  dolist_faults : (w : Signatures) (c : C) (at : ℕ) (ps : List (Part F C)) (env : Names) → P at → CoversForms P ps
      → FaultsAt P (parse_dolist l w c at ps env)
  dolist_faults w c at [] env h k = refuses h
  dolist_faults w c at (a ∷ ps) env h k =
      binds (binding_in_faults w a.sub.shape at env h k.0.sub.shape) λ b. binds (each_faults c ps (b.name ∷ env) k.1) λ fs. gives

  progn_faults : (c : C) (ps : List (Part F C)) (env : Names) → CoversForms P ps → FaultsAt P (parse_progn l c ps env)
  progn_faults c ps env k = binds (each_faults c ps env k) λ fs. gives

  control_faults : (w : Signatures) (c : C) (k : Control) (at : ℕ) (ps : List (Part F C)) (env : Names) → P at → CoversForms P ps
      → FaultsAt P (parse_control l w c k at ps env)
  control_faults w c control.When at ps env h k = when_faults c at ps env h k
  control_faults w c control.Dolist at ps env h k = dolist_faults w c at ps env h k
  control_faults w c control.Progn at ps env h k = progn_faults c ps env k

  finished_faults : (own : Own F O C) (ps : List (Part F C)) (env : Names) → CoversForms P ps → FaultsAt P (finished l own ps env)
  finished_faults (Whole f) ps env k = gives
  finished_faults (Before o count c) ps env k = binds (each_faults c (drop count ps) env (covers_behind P count ps k)) λ fs. gives

  module _ (faults : OwnFaults P l) where
    own_faults : (w : Signatures) (c : C) (h : Head) (head_at at : ℕ) (ps : List (Part F C)) (env : Names) → P head_at → P at
        → CoversForms P ps → FaultsAt P (parse_own l w c h head_at at ps env)
    own_faults w c h head_at at ps env g p k =
        binds (faults.own w c h head_at at (subs_of ps) env g p (covers_subs_of P ps k)) λ o. finished_faults o ps env k

    head_faults : (w : Signatures) (c : C) (h : Option Head) (x : List ℕ) (head_at at : ℕ) (ps : List (Part F C)) (env : Names) → P head_at
        → P at → CoversForms P ps → FaultsAt P (parse_head l w c h x head_at at ps env)
    head_faults w c None x head_at at ps env g h k = faults.call w x head_at at (subs_of ps) env g h (covers_subs_of P ps k)
    head_faults w c (Some head.If) x head_at at ps env g h k = if_faults c at ps env h k
    head_faults w c (Some head.Let) x head_at at ps env g h k = let_faults c at ps env h k
    head_faults w c (Some (head.Control e)) x head_at at ps env g h k = control_faults w c e at ps env h k
    head_faults w c (Some other) x head_at at ps env g h k = own_faults w c other head_at at ps env g h k

    headed_faults : (w : Signatures) (c : C) (d : Datum) (at : ℕ) (ps : List (Part F C)) (env : Names) → Covers P d → P at → CoversForms P ps
        → FaultsAt P (parse_headed l w c d at ps env)
    headed_faults w c (word x head_at) at ps env s h k = head_faults w c (head_named x) x head_at at ps env (s head_at refl) h k
    headed_faults w c d at ps env s h k = refuses h

    listed_faults : (w : Signatures) (c : C) (at : ℕ) (ps : List (Part F C)) (env : Names) → P at → CoversForms P ps
        → FaultsAt P (parse_listed l w c at ps env)
    listed_faults w c at [] env h k = refuses h
    listed_faults w c at (p ∷ ps) env h k = headed_faults w c p.sub.shape at ps env k.0.sub.shape h k.1

    mutual
      form_faults : (w : Signatures) (c : C) (d : Datum) (env : Names) → Covers P d → FaultsAt P (parse_form l w c d env)
      form_faults w c (list ds at) env s =
          listed_faults w c at (parts_in l w ds) env (s at (inl refl)) (covers_parts_in w ds (λ o e. s o (inr e)))
      form_faults w c (number z at) env s = refuses (s at refl)
      form_faults w c (literal x at) env s = refuses (s at refl)
      form_faults w c (quoted x at name_at) env s = refuses (s at (inl refl))
      form_faults w c (word x at) env s = refuses (s at refl)
      form_faults w c (stray at) env s = refuses (s at refl)

      covers_parts_in : (w : Signatures) (ds : Datums) → CoversAll P ds → CoversForms P (parts_in l w ds)
      covers_parts_in w none s = tt
      covers_parts_in w (item d ds) s = (
        record {
          sub = record {
            shape = λ o e. s o (inl e);
            expr = λ env. expr_faults w d env (λ o e. s o (inl e));
            bound = λ at env h. bound_faults w d at env h (λ o e. s o (inl e));
          };
          form = λ c env. form_faults w c d env (λ o e. s o (inl e));
        },
        covers_parts_in w ds (λ o e. s o (inr e)),
      )

    pub body_faults : (w : Signatures) (c : C) (ds : Datums) (env : Names) → CoversAll P ds → FaultsAt P (parse_body l w c ds env)
    body_faults w c ds env s = each_faults c (parts_in l w ds) env (covers_parts_in w ds s)
