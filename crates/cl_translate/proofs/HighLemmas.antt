-- The high parts that no translator of a gesture has say nothing.
use Rattle.std.proofs.Common.{◌≡◌, ◌<◌, ◌+◌, ◌++◌, ◌∷◌, ℕ, zero, suc, Bool, true, false, List, [], length, drop, get_or, refl, sym, ap, subst, ◌∙◌, arith}
use Rattle.std.proofs.lemmas.List.Elements.{All-filter, All-get_or}
use Rattle.std.specs.Prelude.{◌&&◌, ◌||◌, ◌/◌, ◌==◌, if◌then◌else◌, filter, All}
use Rattle.std.specs.List.{flat_map, list_any}
use Rattle.std.specs.Str.{bytes_eq}
use denote.Enum.Bare.{sameb}
use Rattle.cl_translators.specs.Order.{digits, gesture_number, is_for}
use Rattle.cl_translators.specs.contracts.declarations.GestureName.{the_type}
use Rattle.cl_translators.specs.declared.declarations.GestureName.{GestureName}
use Rattle.cl_translators.specs.declared.declarations.GestureName.TheVariants.{Select, Describe, Menu, Edit, Delete}
use Rattle.cl_translators.specs.declared.declarations.TranslatorPlace.{TranslatorPlace}
use Rattle.cl_translate.specs.Choices.{gathered, gathered_high}
use Rattle.cl_translate.specs.Highs.{has_high, highs_of}
use Rattle.cl_translate.proofs.FirstLemmas.{item_here}

-- ---- what a filter leaves out

module _ {A B : Type 0} (p : A → Bool) (f : A → List B) (nothing : (a : A) → p a ≡ false → f a ≡ []) where
  one_left_out : (a : A) (rest : List A) (b : Bool) → p a ≡ b → flat_map f (if b then a ∷ rest else rest) ≡ f a ++ flat_map f rest
  one_left_out a rest true h = refl
  one_left_out a rest false h = ap (λ bs. bs ++ flat_map f rest) (sym (nothing a h))

  left_out : (xs : List A) → flat_map f (filter p xs) ≡ flat_map f xs
  left_out [] = refl
  left_out (x ∷ xs) = one_left_out x (filter p xs) (p x) refl ∙ ap (λ bs. f x ++ bs) (left_out xs)

-- ---- translators of a gesture and a high part

same_gestures : (a b : GestureName) → sameb the_type a b ≡ (gesture_number a == gesture_number b)
same_gestures Select Select = refl
same_gestures Select Describe = refl
same_gestures Select Menu = refl
same_gestures Select Edit = refl
same_gestures Select Delete = refl
same_gestures Describe Select = refl
same_gestures Describe Describe = refl
same_gestures Describe Menu = refl
same_gestures Describe Edit = refl
same_gestures Describe Delete = refl
same_gestures Menu Select = refl
same_gestures Menu Describe = refl
same_gestures Menu Menu = refl
same_gestures Menu Edit = refl
same_gestures Menu Delete = refl
same_gestures Edit Select = refl
same_gestures Edit Describe = refl
same_gestures Edit Menu = refl
same_gestures Edit Edit = refl
same_gestures Edit Delete = refl
same_gestures Delete Select = refl
same_gestures Delete Describe = refl
same_gestures Delete Menu = refl
same_gestures Delete Edit = refl
same_gestures Delete Delete = refl

has_no_rank : (g : GestureName) (high : ℕ) (from : List ℕ) (t : TranslatorPlace) → has_high g high t ≡ false → is_for g from high t ≡ false
has_no_rank g high from t h =
    ap (λ b. (b && ((t.priority / 10) == high)) && bytes_eq t.from from) (sym (same_gestures t.gesture g)) ∙ ap (λ b. b && bytes_eq t.from from) h

or_left : (a b : Bool) → (a || b) ≡ false → a ≡ false
or_left true b h = h
or_left false b h = refl

or_right : (a b : Bool) → (a || b) ≡ false → b ≡ false
or_right true b h = cc
or_right false b h = h

not_kept : {A : Type 0} (a : A) (rest : List A) (b : Bool) → b ≡ false → rest ≡ [] → (if b then a ∷ rest else rest) ≡ []
not_kept a rest true h e = cc
not_kept a rest false h e = e

none_of : (g : GestureName) (high : ℕ) (from : List ℕ) (ts : List TranslatorPlace) → list_any (has_high g high) ts ≡ false → filter (is_for g from high) ts ≡ []
none_of g high from [] h = refl
none_of g high from (t ∷ ts) h =
    not_kept t (filter (is_for g from high) ts) (is_for g from high t) (has_no_rank g high from t (or_left (has_high g high t) (list_any (has_high g high) ts) h))
    (none_of g high from ts (or_right (has_high g high t) (list_any (has_high g high) ts) h))

all_empty : {A B : Type 0} (f : A → List B) → ((a : A) → f a ≡ []) → (xs : List A) → flat_map f xs ≡ []
all_empty f each [] = refl
all_empty f each (x ∷ xs) = ap (λ ys. ys ++ flat_map f xs) (each x) ∙ all_empty f each xs

none_high : (ts : List TranslatorPlace) (g : GestureName) (precedence : List (List ℕ)) (high : ℕ) → list_any (has_high g high) ts ≡ false
    → gathered_high ts g precedence high ≡ []
none_high ts g precedence high h = all_empty (λ from. filter (is_for g from high) ts) (λ from. none_of g high from ts h) precedence

-- ---- the high parts that there are

-- they give all that is gathered
pub gathered_by : (ts : List TranslatorPlace) (g : GestureName) (precedence : List (List ℕ)) → flat_map (gathered_high ts g precedence) (highs_of g ts) ≡ gathered ts g precedence
gathered_by ts g precedence = left_out (λ high. list_any (has_high g high) ts) (gathered_high ts g precedence) (none_high ts g precedence) digits

digits_small : (k d : ℕ) → k < 10 → get_or digits k d < 10
digits_small zero d l = omega arith
digits_small (suc zero) d l = omega arith
digits_small (suc (suc zero)) d l = omega arith
digits_small (suc (suc (suc zero))) d l = omega arith
digits_small (suc (suc (suc (suc zero)))) d l = omega arith
digits_small (suc (suc (suc (suc (suc zero))))) d l = omega arith
digits_small (suc (suc (suc (suc (suc (suc zero)))))) d l = omega arith
digits_small (suc (suc (suc (suc (suc (suc (suc zero))))))) d l = omega arith
digits_small (suc (suc (suc (suc (suc (suc (suc (suc zero)))))))) d l = omega arith
digits_small (suc (suc (suc (suc (suc (suc (suc (suc (suc zero))))))))) d l = omega arith
digits_small (suc (suc (suc (suc (suc (suc (suc (suc (suc (suc k)))))))))) d l = absurd (omega (arith, l))

-- each is a digit
pub high_small : (ts : List TranslatorPlace) (g : GestureName) (highs : List ℕ) (i : ℕ) → highs ≡ highs_of g ts → i < length highs → get_or highs i 0 < 10
high_small ts g highs i is within =
    let all : All (λ (k : ℕ). k < 10) highs = subst (All (λ (k : ℕ). k < 10)) (sym is) (All-filter (λ high. list_any (has_high g high) ts) (λ (k : ℕ). k < 10) digits digits_small) in
    All-get_or (λ (k : ℕ). k < 10) highs i 0 within all

same_default : (highs : List ℕ) (i d e : ℕ) → i < length highs → get_or highs i d ≡ get_or highs i e
same_default (h ∷ highs) zero d e within = refl
same_default (h ∷ highs) (suc i) d e within = same_default highs i d e (omega (arith, within))
same_default [] i d e within = absurd (omega (arith, within))

-- the one in its place, and those behind it
pub high_here : (highs : List ℕ) (i : ℕ) → i < length highs → drop i highs ≡ get_or highs i 0 ∷ drop (i + 1) highs
high_here highs i within = item_here highs i (get_or highs i 0) within (same_default highs i 0 (get_or highs i 0) within)
