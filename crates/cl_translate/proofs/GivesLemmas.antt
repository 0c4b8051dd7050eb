-- What translators give.
use Rattle.std.proofs.Common.{◌≡◌, ◌+◌, ◌-◌, ◌++◌, ◌∷◌, ◌<◌, ℕ, zero, suc, List, drop, map, refl, sym, ap, ◌∙◌, arith}
use Rattle.std.specs.Prelude.{Option, Some, None}
use Rattle.cl_application.specs.declared.declarations.TranslatorDecl.{TranslatorDecl}
use Rattle.cl_record.specs.Touches.{TouchAt}
use Rattle.cl_syntax.specs.TypeSpecTree.{TypeSpecTree}
use Rattle.cl_table.specs.Names.{named}
use Rattle.cl_value.specs.Data.{Data}
use Rattle.cl_translators.specs.Order.{digits}
use Rattle.cl_translators.specs.declared.declarations.GestureName.{GestureName}
use Rattle.cl_translators.specs.declared.declarations.TranslatorPlace.{TranslatorPlace}
use Rattle.cl_translate.specs.Applies.{translated}
use Rattle.cl_translate.specs.Choices.{declared, given_by, gives, identities, place_gives}
use Rattle.cl_translate.specs.Scenes.{Scene}
use Rattle.cl_translate.proofs.FirstLemmas.{First, none_before, same_answers, some_before}

-- what the declaration under its name gives
pub of_declared : (s : Scene) (context : TypeSpecTree) (c : TouchAt) (p : TranslatorPlace) (t : TranslatorDecl) (o : Option Data) → named p.name s.app.translators ≡ Some t
    → o ≡ translated s context t c.object → o ≡ place_gives s context c p
of_declared s context c p t o is h = h ∙ ap (given_by s context c.object) (sym is)

-- the declared translators, and then the identity translator for a gesture that has it
pub identity_last : (s : Scene) (context : TypeSpecTree) (c : TouchAt) (g : GestureName) (ps : List TranslatorPlace) (o : Option Data)
    → First (place_gives s context c) ps None → First (gives s context c) (identities g) o → First (gives s context c) (map (λ p. declared p) ps ++ identities g) o
identity_last s context c g ps o n h =
    none_before (gives s context c) (map (λ p. declared p) ps) (identities g) o
    (n ∙ same_answers (place_gives s context c) (gives s context c) (λ p. declared p) (λ p. refl) ps) h

pub declared_first : (s : Scene) (context : TypeSpecTree) (c : TouchAt) (g : GestureName) (ps : List TranslatorPlace) (d : Data)
    → First (place_gives s context c) ps (Some d) → First (gives s context c) (map (λ p. declared p) ps ++ identities g) (Some d)
declared_first s context c g ps d h =
    some_before (gives s context c) (map (λ p. declared p) ps) (identities g) d
    (h ∙ same_answers (place_gives s context c) (gives s context c) (λ p. declared p) (λ p. refl) ps)

-- the digit in a place, and those behind it
pub digit_here : (n : ℕ) → n < 10 → drop n digits ≡ (9 - n) ∷ drop (n + 1) digits
digit_here zero h = refl
digit_here (suc zero) h = refl
digit_here (suc (suc zero)) h = refl
digit_here (suc (suc (suc zero))) h = refl
digit_here (suc (suc (suc (suc zero)))) h = refl
digit_here (suc (suc (suc (suc (suc zero))))) h = refl
digit_here (suc (suc (suc (suc (suc (suc zero)))))) h = refl
digit_here (suc (suc (suc (suc (suc (suc (suc zero))))))) h = refl
digit_here (suc (suc (suc (suc (suc (suc (suc (suc zero)))))))) h = refl
digit_here (suc (suc (suc (suc (suc (suc (suc (suc (suc zero))))))))) h = refl
digit_here (suc (suc (suc (suc (suc (suc (suc (suc (suc (suc n)))))))))) h = absurd (omega (arith, h))
