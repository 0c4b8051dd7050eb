-- The words of a point: what is read from them is what they spell.
use Rattle.std.proofs.Common.{◌≡◌, ℕ, ℤ, pos, neg_ℤ, Bool, true, false, cond, inl, inr, List, [], ◌∷◌, ◌++◌, map, drop, get_or, codes, Option, Some, None, option_map, All, refl, ap, sym, subst, ◌∙◌, arith}
use Rattle.std.specs.Char.{to_ascii_lowercase}
use Rattle.std.specs.Str.{bytes_eq, str_to_ascii_lowercase}
use Rattle.std.specs.Str.Parse.{digits_value, starts_with_minus}
use Rattle.std.proofs.lemmas.Bool.{eqb-true, ne_eqb, cond-false}
use Rattle.std.proofs.lemmas.List.Elements.{All-nil, All-cons, All-head, All-tail, All-same, All-weaker, All-get_or}
use Rattle.std.proofs.lemmas.Option.{cond_some, option_and_then_some, same_Some}
use Rattle.std.proofs.lemmas.Slice.Eq.{bytes_eq-Decides}
use Rattle.cl_translators.specs.declared.declarations.GestureName.{GestureName}
use Rattle.cl_translators.specs.declared.declarations.GestureName.TheVariants as name
use Rattle.cl_gesture.specs.declared.answers.PointAt.{PointAt}
use Rattle.cl_gesture.specs.Gesture.{is_word, verb_of, rest_of, point_in, IsNoSpace, SpellsPoint}
use Rattle.cl_gesture.specs.Pointing.{gesture_named, is_number, number_of, coordinate_of, name_of, IsNameOf, IsDigit, WritesNumber, WritesCoordinate}
use Rattle.cl_gesture.proofs.Numbers.{number_parts, are_digits, is_number-yes}
use Rattle.cl_gesture.proofs.Verbs.{behind, rejoin}
use Rattle.cl_gesture.proofs.Words.{have_no_space, is_word-true, is_word-yes, cut-word, cut-more}

-- ---- the gesture's name

same_name : (word : List ℕ) (g h : GestureName) → IsNameOf g word → Some g ≡ Some h → IsNameOf h word
same_name word g h is same = let P : GestureName → Type 0 = λ k. IsNameOf k word in subst P (same_Some g h same) is

named_by : (word : List ℕ) (g : GestureName) (s d m e l : Bool)
    → (s ≡ true → IsNameOf name.Select word) → (d ≡ true → IsNameOf name.Describe word) → (m ≡ true → IsNameOf name.Menu word)
    → (e ≡ true → IsNameOf name.Edit word) → (l ≡ true → IsNameOf name.Delete word)
    → cond s (Some name.Select) (cond d (Some name.Describe) (cond m (Some name.Menu) (cond e (Some name.Edit) (cond l (Some name.Delete) None)))) ≡ Some g
    → IsNameOf g word
named_by word g true d m e l is_s is_d is_m is_e is_l same = same_name word name.Select g (is_s refl) same
named_by word g false true m e l is_s is_d is_m is_e is_l same = same_name word name.Describe g (is_d refl) same
named_by word g false false true e l is_s is_d is_m is_e is_l same = same_name word name.Menu g (is_m refl) same
named_by word g false false false true l is_s is_d is_m is_e is_l same = same_name word name.Edit g (is_e refl) same
named_by word g false false false false true is_s is_d is_m is_e is_l same = same_name word name.Delete g (is_l refl) same
named_by word g false false false false false is_s is_d is_m is_e is_l same = absurd (cc)

gesture_named-some : (word : List ℕ) (g : GestureName) → gesture_named word ≡ Some g → IsNameOf g word
gesture_named-some word g same =
    let lower = str_to_ascii_lowercase word in
    named_by word g (bytes_eq lower (codes "select")) (bytes_eq lower (codes "describe")) (bytes_eq lower (codes "menu")) (bytes_eq lower (codes "edit")) (bytes_eq lower (codes "delete"))
    (bytes_eq-Decides lower (codes "select")).0 (bytes_eq-Decides lower (codes "describe")).0 (bytes_eq-Decides lower (codes "menu")).0
    (bytes_eq-Decides lower (codes "edit")).0 (bytes_eq-Decides lower (codes "delete")).0 same

gesture_named-yes : (word : List ℕ) (g : GestureName) → IsNameOf g word → gesture_named word ≡ Some g
gesture_named-yes word name.Select h = rw h
gesture_named-yes word name.Describe h = rw h
gesture_named-yes word name.Menu h = rw h
gesture_named-yes word name.Edit h = rw h
gesture_named-yes word name.Delete h = rw h

name-no_space : (g : GestureName) → All IsNoSpace (name_of g)
name-no_space name.Select = have_no_space (codes "select") refl
name-no_space name.Describe = have_no_space (codes "describe") refl
name-no_space name.Menu = have_no_space (codes "menu") refl
name-no_space name.Edit = have_no_space (codes "edit") refl
name-no_space name.Delete = have_no_space (codes "delete") refl

any_case : (word : List ℕ) → All IsNoSpace (map to_ascii_lowercase word) → All IsNoSpace word
any_case [] h = All-nil IsNoSpace
any_case (x ∷ xs) h =
    let lower = map to_ascii_lowercase xs in
    All-cons IsNoSpace x xs (λ space. All-head IsNoSpace (to_ascii_lowercase x) lower h (ap to_ascii_lowercase space)) (any_case xs (All-tail IsNoSpace (to_ascii_lowercase x) lower h))

named-no_space : (word : List ℕ) (g : GestureName) → IsNameOf g word → All IsNoSpace word
named-no_space word g h = any_case word (All-same IsNoSpace (map to_ascii_lowercase word) (name_of g) h (name-no_space g))

-- ---- the numbers

writes_number : (digits : List ℕ) → is_number digits ≡ true → WritesNumber digits (digits_value 10 digits)
writes_number digits h =
    let parts = number_parts digits h in record { some = parts.0; few = parts.1; decimal = are_digits digits parts.2; value = refl }

number_of-yes : (digits : List ℕ) (n : ℕ) → WritesNumber digits n → number_of digits ≡ Some n
number_of-yes digits n h = rw (is_number-yes digits h.some h.few h.decimal) (ap Some (sym h.value))

minus_first : (word : List ℕ) → starts_with_minus word ≡ true → word ≡ 45 ∷ drop 1 word
minus_first [] h = absurd (cc)
minus_first (x ∷ xs) h = ap (λ b. b ∷ xs) (eqb-true x 45 h)

below_by : (word : List ℕ) (z : ℤ) (number : Bool) → starts_with_minus word ≡ true → is_number (drop 1 word) ≡ number
    → option_map (λ n. neg_ℤ (pos n)) (cond number (Some (digits_value 10 (drop 1 word))) None) ≡ Some z → WritesCoordinate word z
below_by word z true minus number same =
    let value : neg_ℤ (pos (digits_value 10 (drop 1 word))) ≡ z = cc in
    (drop 1 word, digits_value 10 (drop 1 word), writes_number (drop 1 word) number, inr (minus_first word minus, sym value))
below_by word z false minus number same = absurd (cc)

from_zero_by : (word : List ℕ) (z : ℤ) (number : Bool) → is_number word ≡ number
    → option_map pos (cond number (Some (digits_value 10 word)) None) ≡ Some z → WritesCoordinate word z
from_zero_by word z true number same =
    let value : pos (digits_value 10 word) ≡ z = cc in (word, digits_value 10 word, writes_number word number, inl (refl, sym value))
from_zero_by word z false number same = absurd (cc)

coordinate_by : (word : List ℕ) (z : ℤ) (minus : Bool) → starts_with_minus word ≡ minus
    → cond minus (option_map (λ n. neg_ℤ (pos n)) (number_of (drop 1 word))) (option_map pos (number_of word)) ≡ Some z → WritesCoordinate word z
coordinate_by word z true minus same = below_by word z (is_number (drop 1 word)) minus refl same
coordinate_by word z false minus same = from_zero_by word z (is_number word) refl same

coordinate_of-some : (word : List ℕ) (z : ℤ) → coordinate_of word ≡ Some z → WritesCoordinate word z
coordinate_of-some word z same = coordinate_by word z (starts_with_minus word) refl same

no_minus : (digits : List ℕ) (n : ℕ) → WritesNumber digits n → starts_with_minus digits ≡ false
no_minus digits n h =
    let first : IsDigit (get_or digits 0 0) = All-get_or IsDigit digits 0 0 h.some h.decimal in
    ne_eqb (get_or digits 0 0) 45 (λ minus. omega (arith, first, minus))

coordinate_of-yes : (word : List ℕ) (z : ℤ) → WritesCoordinate word z → coordinate_of word ≡ Some z
coordinate_of-yes word z (digits, n, writes, inl (same, value)) =
    let read = ap (λ (o : Option ℕ). option_map pos o) (number_of-yes digits n writes) in
    let from_zero =
    cond-false (starts_with_minus digits) (option_map (λ m. neg_ℤ (pos m)) (number_of (drop 1 digits))) (option_map pos (number_of digits)) (no_minus digits n writes) in
    ap coordinate_of same ∙ (from_zero ∙ (read ∙ ap Some (sym value)))
coordinate_of-yes word z (digits, n, writes, inr (same, value)) =
    let read = ap (λ (o : Option ℕ). option_map (λ m. neg_ℤ (pos m)) o) (number_of-yes digits n writes) in ap coordinate_of same ∙ (read ∙ ap Some (sym value))

digits-no_space : (digits : List ℕ) (n : ℕ) → WritesNumber digits n → All IsNoSpace digits
digits-no_space digits n h = All-weaker IsDigit IsNoSpace (λ b digit space. omega (arith, digit, space)) digits h.decimal

coordinate-no_space : (word : List ℕ) (z : ℤ) → WritesCoordinate word z → All IsNoSpace word
coordinate-no_space word z (digits, n, writes, inl (same, value)) = All-same IsNoSpace word digits same (digits-no_space digits n writes)
coordinate-no_space word z (digits, n, writes, inr (same, value)) =
    All-same IsNoSpace word (45 ∷ digits) same (All-cons IsNoSpace 45 digits (λ space. omega (arith, space)) (digits-no_space digits n writes))

-- ---- the words of a point

cut_spelled : (line more : List ℕ) → rest_of line ≡ Some more → line ≡ verb_of line ++ 32 ∷ more
cut_spelled line more h = rejoin line ∙ ap (λ r. verb_of line ++ behind r) h

line_spelled : (rest : Option (List ℕ)) (words after numbers row : List ℕ) → rest ≡ Some words → rest_of words ≡ Some after → rest_of after ≡ Some numbers
    → rest_of numbers ≡ Some row
    → codes "point" ++ behind rest ≡ codes "point " ++ (verb_of words ++ 32 ∷ (verb_of after ++ 32 ∷ (verb_of numbers ++ 32 ∷ row)))
line_spelled rest words after numbers row is_words is_after is_numbers is_row =
    let third = ap (λ l. verb_of after ++ 32 ∷ l) (cut_spelled numbers row is_row) in
    let second = ap (λ l. verb_of words ++ 32 ∷ l) (cut_spelled after numbers is_numbers ∙ third) in
    ap (λ r. codes "point" ++ behind r) is_words ∙ ap (λ l. codes "point " ++ l) (cut_spelled words after is_after ∙ second)

pub point_spelled : (rest : Option (List ℕ)) (point : PointAt) → point_in rest ≡ Some point → SpellsPoint (codes "point" ++ behind rest) point
point_spelled rest point h =
    option_and_then_some _ rest point h (λ words is_words h1.
    option_and_then_some _ (rest_of words) point h1 (λ after is_after h2.
    option_and_then_some _ (rest_of after) point h2 (λ numbers is_numbers h3.
    option_and_then_some _ (rest_of numbers) point h3 (λ row is_row h4.
    option_and_then_some _ (gesture_named (verb_of after)) point h4 (λ g is_g h5.
    option_and_then_some _ (coordinate_of (verb_of numbers)) point h5 (λ x is_x h6.
    option_and_then_some _ (coordinate_of row) point h6 (λ y is_y h7.
    let read : PointAt = record { pane = verb_of words; gesture = g; x = x; y = y } in
    let made = cond_some (is_word (verb_of words)) read point h7 in
    let P : PointAt → Type 0 = λ p. SpellsPoint (codes "point" ++ behind rest) p in
    subst P made.1 (record {
      gesture_word = verb_of after;
      x_word = verb_of numbers;
      y_word = row;
      spelled = line_spelled rest words after numbers row is_words is_after is_numbers is_row;
      pane = is_word-true (verb_of words) made.0;
      named = gesture_named-some (verb_of after) g is_g;
      x = coordinate_of-some (verb_of numbers) x is_x;
      y = coordinate_of-some row y is_y;
    }))))))))

pub point_said : (bytes : List ℕ) (point : PointAt) (h : SpellsPoint bytes point)
    → point_in (Some (point.pane ++ 32 ∷ (h.gesture_word ++ 32 ∷ (h.x_word ++ 32 ∷ h.y_word)))) ≡ Some point
point_said bytes point h =
    let numbers = h.x_word ++ 32 ∷ h.y_word in let after = h.gesture_word ++ 32 ∷ numbers in
    let column = coordinate-no_space h.x_word point.x h.x in let named = named-no_space h.gesture_word point.gesture h.named in
    rw (
      cut-more point.pane after h.pane.1,
      cut-more h.gesture_word numbers named,
      cut-more h.x_word h.y_word column,
      cut-word h.gesture_word numbers named,
      gesture_named-yes h.gesture_word point.gesture h.named,
      cut-word h.x_word h.y_word column,
      coordinate_of-yes h.x_word point.x h.x,
      coordinate_of-yes h.y_word point.y h.y,
      cut-word point.pane after h.pane.1,
      is_word-yes point.pane h.pane,
    )
