-- Which commands are enabled, by what is kept of it.
use Rattle.std.proofs.Common.{◌≡◌, ◌==◌, ℕ, Bool, true, false, cond, List, [], ◌∷◌, Option, Some, None, refl, ap, ◌∙◌}
use Rattle.std.specs.Prelude.{if◌then◌else◌, option_map}
use Rattle.std.specs.Cmp.Lexicographic.{pointwise}
use Rattle.std.specs.Str.{bytes_eq}
use Rattle.std.proofs.lemmas.Cmp.{nat_list_eq_equiv}
use Rattle.std.proofs.lemmas.Slice.Eq.{bytes_eq-Decides}
use Rattle.cl_application.specs.declared.applications.App.{App}
use Rattle.cl_application.specs.declared.declarations.CommandDecl.{CommandDecl}
use Rattle.cl_session.specs.Handling.{enabled_in}
use Rattle.cl_session.specs.Naming.{place_of, places_of}
use Rattle.cl_session.specs.Runs.{all_switched, switched}
use Rattle.cl_session.specs.World.{Enabled, all_enabled}
use Rattle.cl_table.specs.Names.{named}
use Rattle.cl_tables.specs.Enabled.{AreAllEnabled, States, with_switch, with_switches}

-- ---- switches

same_name : (x y : List ℕ) → bytes_eq x y ≡ true → x ≡ y
same_name x y h = (bytes_eq-Decides x y).0 h

one_switched : (states : States) (s : List ℕ × Bool) (x : List ℕ) → enabled_in (with_switch s.0 s.1 states) x ≡ switched s (enabled_in states) x
one_switched [] s x = by (bytes_eq x s.0)
  where
    by : (b : Bool) → None ≡ (if b then option_map (λ (c : Bool). s.1) None else None)
    by true = refl
    by false = refl
one_switched (e ∷ es) s x = by (bytes_eq s.0 e.0) (bytes_eq x e.0) refl refl (one_switched es s x)
  where
    found : States → Option Bool
    found fs = enabled_in fs x

    turned : Option Bool → Option Bool
    turned o = option_map (λ (c : Bool). s.1) o

    by : (b c : Bool) → bytes_eq s.0 e.0 ≡ b → bytes_eq x e.0 ≡ c
        → found (with_switch s.0 s.1 es) ≡ (if bytes_eq x s.0 then turned (found es) else found es)
        → found (cond b ((e.0, s.1) ∷ es) (e ∷ with_switch s.0 s.1 es))
        ≡ (if bytes_eq x s.0 then turned (cond c (Some e.1) (found es)) else cond c (Some e.1) (found es))
    by true true f g rest = rw (ap (bytes_eq x) (same_name s.0 e.0 f) ∙ g, g) refl
    by true false f g rest = rw (ap (bytes_eq x) (same_name s.0 e.0 f) ∙ g, g) refl
    by false true f g rest = rw (ap (λ z. bytes_eq z s.0) (same_name x e.0 g) ∙ nat_list_eq_equiv.symm e.0 s.0 ∙ f, g) refl
    by false false f g rest = rw g rest

pub are_switched : (ss : List (List ℕ × Bool)) (states : States) → enabled_in (with_switches ss states) ≡ all_switched ss (enabled_in states)
are_switched [] states = refl
are_switched (s ∷ ss) states =
    are_switched ss (with_switch s.0 s.1 states) ∙ ap (λ (e : Enabled). all_switched ss e) (λ i x. one_switched states s x i)

-- ---- the opening

one_placed : (e : List ℕ × CommandDecl) (commands : List (List ℕ × CommandDecl)) (x : List ℕ) (b : Bool)
    → option_map (λ c. true) (named x (places_of commands)) ≡ option_map (λ c. true) (named x commands)
    → option_map (λ c. true) (if b then Some (place_of e.1) else named x (places_of commands)) ≡ option_map (λ c. true) (if b then Some e.1 else named x commands)
one_placed e commands x true rest = refl
one_placed e commands x false rest = rest

-- a command is found in its place as it is declared
pub placed_as : (commands : List (List ℕ × CommandDecl)) (x : List ℕ) → option_map (λ c. true) (named x (places_of commands)) ≡ option_map (λ c. true) (named x commands)
placed_as [] x = refl
placed_as (e ∷ commands) x = one_placed e commands x (pointwise ◌==◌ x e.0) (placed_as commands x)

pub opens_enabled : (app : App) (states : States) → AreAllEnabled (places_of app.commands) states → enabled_in states ≡ all_enabled app
opens_enabled app states h = λ i x. (h x ∙ placed_as app.commands x) i
