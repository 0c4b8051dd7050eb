-- Each member of a subtype is a member of the other type.
use Rattle.std.proofs.Common.{◌≡◌, ℕ, ℤ, true, List, [], ◌∷◌, refl}
use Rattle.std.specs.Prelude.{Option, Some, None}
use Rattle.cl_value.specs.Data.{Data, int, bool, text, symbol, null, list, rec, Items, item}
use Rattle.cl_value.specs.Data as value
use Rattle.cl_lattice.specs.Expanded.{Expanded, integer, ExpandedTypes}
use Rattle.cl_lattice.specs.Members.{Answers, Membership, is_in, is_in_some, is_in_each, is_member, memberships, is_within, is_at_least, is_at_most, is_text, is_subset, are_among, differ, is_one_of, is_null, is_list, every, is_satisfied}
use Rattle.cl_lattice.specs.Subtypes.{IsSubtype, EachIsSubtype, SomeIsSubtype, IsSubtypeOfEach, IsSubtypeOfSome, is_low_within, is_high_within, all_among, all_tokens}
use Rattle.cl_lattice.specs.Subtypes as rule
use Rattle.cl_lattice.specs.World.{World}
use Rattle.cl_lattice.proofs.SubtypeTests.{first_of_both, second_of_both, left_is, right_is, each_way, either_way, both_ways, both_are, low_lets, high_lets, among_lets, all_among_lets, tokens_let}

-- what is a member of a type is a member of each type of which it is a subtype
abbrev pub Follows : Membership → Type 0
Follows m = (a b : Expanded) → IsSubtype a b → m a ≡ true → m b ≡ true

abbrev pub EachFollows : List Membership → Type 0
EachFollows [] = Unit {0}
EachFollows (m ∷ ms) = Follows m × EachFollows ms

every_follows : (ms : List Membership) → EachFollows ms → (a b : Expanded) → IsSubtype a b → every ms a ≡ true → every ms b ≡ true
every_follows [] fs a b s h = refl
every_follows (m ∷ ms) fs a b s h = both_ways (m a) (every ms a) (m b) (every ms b) (fs.0 a b s) (every_follows ms fs.1 a b s) h

within_follows : (low high low' high' : Option ℤ) → is_low_within low low' ≡ true → is_high_within high high' ≡ true → (d : Data)
    → is_within low high d ≡ true → is_within low' high' d ≡ true
within_follows low high low' high' p q (int z) h =
    both_ways (is_at_least low z) (is_at_most high z) (is_at_least low' z) (is_at_most high' z) (low_lets low low' z p) (high_lets high high' z q) h
within_follows low high low' high' p q (bool b) h = h
within_follows low high low' high' p q (text s) h = h
within_follows low high low' high' p q (symbol s) h = h
within_follows low high low' high' p q null h = h
within_follows low high low' high' p q (list ds) h = h
within_follows low high low' high' p q (rec x ds) h = h

text_follows : (n : Option ℤ) (d : Data) → is_text n d ≡ true → is_text None d ≡ true
text_follows n (int z) h = h
text_follows n (bool b) h = h
text_follows n (text s) h = refl
text_follows n (symbol s) h = h
text_follows n null h = h
text_follows n (list ds) h = h
text_follows n (rec x ds) h = h

subset_follows : (cs ds : List Data) → all_among cs ds ≡ true → (d : Data) → is_subset cs d ≡ true → is_subset ds d ≡ true
subset_follows cs ds p (int z) h = h
subset_follows cs ds p (bool b) h = h
subset_follows cs ds p (text s) h = h
subset_follows cs ds p (symbol s) h = h
subset_follows cs ds p null h = h
subset_follows cs ds p (list es) h = both_ways (are_among es cs) (differ es) (are_among es ds) (differ es) (all_among_lets es cs ds p) (λ e. e) h
subset_follows cs ds p (rec x es) h = h

one_follows : (xs ys : List (List ℕ)) → all_tokens xs ys ≡ true → (d : Data) → is_one_of xs d ≡ true → is_one_of ys d ≡ true
one_follows xs ys p (int z) h = h
one_follows xs ys p (bool b) h = h
one_follows xs ys p (text s) h = h
one_follows xs ys p (symbol s) h = tokens_let s xs ys p h
one_follows xs ys p null h = h
one_follows xs ys p (list ds) h = h
one_follows xs ys p (rec x ds) h = h

-- along a derivation, for one value whose parts follow
mutual
  in_follows : (w : World) (p : Answers) (d : Data) (ms : List Membership) → EachFollows ms → Follows (is_in w p d ms)
  in_follows w p d ms fs _ _ (rule.in_everything a) h = refl
  in_follows w p d ms fs _ _ (rule.of_nothing b) h = absurd cc
  in_follows w p d ms fs _ _ (rule.of_integers low high low' high' l u) h = within_follows low high low' high' l u d h
  in_follows w p d ms fs _ _ (rule.of_strings n) h = text_follows n d h
  in_follows w p d ms fs _ _ (rule.itself a e) h = h
  in_follows w p d ms fs _ _ (rule.of_members cs ds e) h = among_lets d cs ds e h
  in_follows w p d ms fs _ _ (rule.of_subsets cs ds e) h = subset_follows cs ds e d h
  in_follows w p d ms fs _ _ (rule.of_sequences a b s) h =
      both_ways (is_list d) (every ms a) (is_list d) (every ms b) (λ e. e) (every_follows ms fs a b s) h
  in_follows w p d ms fs _ _ (rule.each_part ps b s) h = from_each w p d ms fs ps b s h
  in_follows w p d ms fs _ _ (rule.in_some_part a qs s) h = to_some w p d ms fs a qs s h
  in_follows w p d ms fs _ _ (rule.some_part ps b s) h = from_some w p d ms fs ps b s h
  in_follows w p d ms fs _ _ (rule.in_each_part a qs s) h = to_each w p d ms fs a qs s h
  in_follows w p d ms fs _ _ (rule.of_null_ors a b s) h =
      each_way (is_null d) (is_in w p d ms a) (is_null d) (is_in w p d ms b) (λ e. e) (in_follows w p d ms fs a b s) h
  in_follows w p d ms fs _ _ (rule.in_null_or a b s) h = right_is (is_null d) (is_in w p d ms b) (in_follows w p d ms fs a b s h)
  in_follows w p d ms fs _ _ (rule.of_token_ors xs ys a b e s) h =
      each_way (is_one_of xs d) (is_in w p d ms a) (is_one_of ys d) (is_in w p d ms b) (one_follows xs ys e d) (in_follows w p d ms fs a b s) h
  in_follows w p d ms fs _ _ (rule.in_token_or a ys b s) h = right_is (is_one_of ys d) (is_in w p d ms b) (in_follows w p d ms fs a b s h)
  in_follows w p d ms fs _ _ (rule.of_user x vs f a b s) h =
      in_follows w p d ms fs a b s (first_of_both (is_in w p d ms a) (is_satisfied p f d vs) h)
  in_follows w p d ms fs _ _ (rule.of_host x low high b s) h = in_follows w p d ms fs (integer (Some low) (Some high)) b s h

  from_each : (w : World) (p : Answers) (d : Data) (ms : List Membership) → EachFollows ms → (ps : ExpandedTypes) (b : Expanded) → EachIsSubtype ps b
      → is_in_some w p d ms ps ≡ true → is_in w p d ms b ≡ true
  from_each w p d ms fs _ _ (rule.each_none b) h = absurd cc
  from_each w p d ms fs _ _ (rule.each_more a ps b s ss) h =
      either_way (is_in w p d ms a) (is_in_some w p d ms ps) (is_in w p d ms b) (in_follows w p d ms fs a b s) (from_each w p d ms fs ps b ss) h

  to_some : (w : World) (p : Answers) (d : Data) (ms : List Membership) → EachFollows ms → (a : Expanded) (qs : ExpandedTypes) → IsSubtypeOfSome a qs
      → is_in w p d ms a ≡ true → is_in_some w p d ms qs ≡ true
  to_some w p d ms fs _ _ (rule.of_some_here a b qs s) h = left_is (is_in w p d ms b) (is_in_some w p d ms qs) (in_follows w p d ms fs a b s h)
  to_some w p d ms fs _ _ (rule.of_some_later a b qs s) h = right_is (is_in w p d ms b) (is_in_some w p d ms qs) (to_some w p d ms fs a qs s h)

  from_some : (w : World) (p : Answers) (d : Data) (ms : List Membership) → EachFollows ms → (ps : ExpandedTypes) (b : Expanded) → SomeIsSubtype ps b
      → is_in_each w p d ms ps ≡ true → is_in w p d ms b ≡ true
  from_some w p d ms fs _ _ (rule.some_here a ps b s) h = in_follows w p d ms fs a b s (first_of_both (is_in w p d ms a) (is_in_each w p d ms ps) h)
  from_some w p d ms fs _ _ (rule.some_later a ps b s) h = from_some w p d ms fs ps b s (second_of_both (is_in w p d ms a) (is_in_each w p d ms ps) h)

  to_each : (w : World) (p : Answers) (d : Data) (ms : List Membership) → EachFollows ms → (a : Expanded) (qs : ExpandedTypes) → IsSubtypeOfEach a qs
      → is_in w p d ms a ≡ true → is_in_each w p d ms qs ≡ true
  to_each w p d ms fs _ _ (rule.of_each_none a) h = refl
  to_each w p d ms fs _ _ (rule.of_each_more a b qs s ss) h =
      both_are (is_in w p d ms b) (is_in_each w p d ms qs) (in_follows w p d ms fs a b s h) (to_each w p d ms fs a qs ss h)

-- ---- along a value

mutual
  pub sound : (w : World) (p : Answers) (d : Data) → Follows (is_member w p d)
  sound w p (int z) a b s h = in_follows w p (int z) [] tt a b s h
  sound w p (bool v) a b s h = in_follows w p (bool v) [] tt a b s h
  sound w p (text t) a b s h = in_follows w p (text t) [] tt a b s h
  sound w p (symbol t) a b s h = in_follows w p (symbol t) [] tt a b s h
  sound w p null a b s h = in_follows w p null [] tt a b s h
  sound w p (list ds) a b s h = in_follows w p (list ds) (memberships w p ds) (sound_parts w p ds) a b s h
  sound w p (rec x ds) a b s h = in_follows w p (rec x ds) [] tt a b s h

  sound_parts : (w : World) (p : Answers) (ds : Items) → EachFollows (memberships w p ds)
  sound_parts w p value.none = tt
  sound_parts w p (item d ds) = (λ a b s h. sound w p d a b s h, sound_parts w p ds)
