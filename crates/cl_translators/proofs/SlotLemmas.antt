-- Slots by their numbers.
use Rattle.std.proofs.Common.{◌≡◌, ℕ, zero, suc, ◌+◌, ◌*◌, ◌/◌, ◌%◌, ◌<◌, ◌++◌, List, [], ◌∷◌, Some, length, ap, sym, subst, ◌∙◌, arith}
use Rattle.std.specs.Prelude.{◌&&◌, filter, slice_get}
use Rattle.std.specs.Str.{bytes_eq}
use Rattle.cl_translators.specs.Groups.{Grouped, IsSlot, group_of}
use Rattle.cl_translators.specs.Order.{gesture_number, has_rank, is_for}
use Rattle.cl_translators.specs.declared.declarations.GestureName.{GestureName}
use Rattle.cl_translators.specs.declared.declarations.TranslatorPlace.{TranslatorPlace}

-- what holds of each by its place, and of one more
each_more : (P : ℕ → Grouped → Type 0) (slots : List Grouped) (g : Grouped) → ((s : ℕ) (h : Grouped) → slice_get slots s ≡ Some h → P s h) → P (length slots) g
    → (s : ℕ) (h : Grouped) → slice_get (slots ++ g ∷ []) s ≡ Some h → P s h
each_more P [] g each last zero h e =
    let same : g ≡ h = cc in
    subst (P 0) same last
each_more P [] g each last (suc s) h e = cc
each_more P (x ∷ xs) g each last zero h e = each zero h e
each_more P (x ∷ xs) g each last (suc s) h e = each_more (λ n i. P (suc n) i) xs g (λ n i f. each (suc n) i f) last s h e

pub one_more : (ts : List TranslatorPlace) (slots : List Grouped) (slot : ℕ) (g : Grouped) → length slots ≡ slot
    → ((s : ℕ) (h : Grouped) → slice_get slots s ≡ Some h → IsSlot ts s h) → IsSlot ts slot g
    → (s : ℕ) (h : Grouped) → slice_get (slots ++ g ∷ []) s ≡ Some h → IsSlot ts s h
one_more ts slots slot g long each last = each_more (IsSlot ts) slots g each (subst (λ (n : ℕ). IsSlot ts n g) (sym long) last)

-- the group of a gesture and a high part
pub in_its_slot : (gesture : GestureName) (from : List ℕ) (high slot : ℕ) (ts : List TranslatorPlace) (groups : Grouped) → slot ≡ 10 * gesture_number gesture + high
    → high < 10 → IsSlot ts slot groups → group_of from groups ≡ filter (is_for gesture from high) ts
in_its_slot gesture from high slot ts groups is digit whole =
    let tens : slot / 10 ≡ gesture_number gesture = omega (arith, is, digit) in
    let ones : slot % 10 ≡ high = omega (arith, is, digit) in
    whole from
    ∙ ap (λ (g : ℕ). filter (λ t. has_rank g (slot % 10) t && bytes_eq t.from from) ts) tens
    ∙ ap (λ (h : ℕ). filter (λ t. has_rank (gesture_number gesture) h t && bytes_eq t.from from) ts) ones
