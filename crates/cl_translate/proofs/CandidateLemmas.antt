-- Going over candidates and contexts.
use Rattle.std.proofs.Common.{◌≡◌, ◌+◌, ◌++◌, ◌∷◌, [], ◌<◌, ◌≤◌, ℤ, ℕ, zero, suc, List, drop, get_or, length, map, reverse, refl, sym, ap, subst, ◌∙◌, arith}
use Rattle.std.specs.Prelude.{Option, Some, None, option_map}
use Rattle.std.proofs.lemmas.List.{map_push}
use Rattle.cl_record.specs.Labels.{LabelAt}
use Rattle.cl_record.specs.Touches.{TouchAt, touch_of_label}
use Rattle.cl_syntax.specs.TypeSpecTree.{TypeSpecTree, name_of}
use Rattle.cl_value.specs.Data.{Data}
use Rattle.cl_translators.specs.declared.declarations.GestureName.{GestureName}
use Rattle.cl_translate.specs.Choices.{Translator, candidates, gives, translators_for, trial_gives, trials, trials_in, trials_of, tried}
use Rattle.cl_translate.specs.Scenes.{Scene}
use Rattle.cl_translate.proofs.FirstLemmas.{First, Leads, found, mapped, passed, same_answers}

-- a place, by equal numbers
pub spot_is : (P : (x y : ℤ) → Type 0) (x y a b : ℤ) → a ≡ x → b ≡ y → P a b → P x y
spot_is P x y a b e f h = rw (← e, ← f) h

seen_from : {X A : Type 0} (f : X → A) (xs : List X) (i : ℕ) (x : X) → i < length xs → x ≡ get_or xs i x → drop i (map f xs) ≡ f x ∷ drop (suc i) (map f xs)
seen_from f (y ∷ xs) zero x within is = ap (λ z. f z ∷ map f xs) (sym is)
seen_from f (y ∷ xs) (suc i) x within is = seen_from f xs i x (omega (arith, within)) is
seen_from f [] i x within is = absurd (omega (arith, within))

-- what is seen of an element in its place, and of those behind it
pub seen_here : {X A : Type 0} (f : X → A) (xs : List X) (i : ℕ) (x : X) → i < length xs → x ≡ get_or xs i x → drop i (map f xs) ≡ f x ∷ drop (i + 1) (map f xs)
seen_here f xs i x within is =
    let next : suc i ≡ i + 1 = omega arith in
    seen_from f xs i x within is ∙ ap (λ (n : ℕ). f x ∷ drop n (map f xs)) next

-- behind the last nothing is seen
pub none_behind : {X A : Type 0} (f : X → A) (xs : List X) (i : ℕ) → length xs ≤ i → drop i (map f xs) ≡ []
none_behind f [] zero h = refl
none_behind f [] (suc i) h = refl
none_behind f (x ∷ xs) zero h = absurd (omega (arith, h))
none_behind f (x ∷ xs) (suc i) h = none_behind f xs i (omega (arith, h))

-- the presentations that were touched, and behind them the place itself
pub all_candidates : {X : Type 0} (seen : X → TouchAt) (touches all : List X) (last : X) (ls : List LabelAt) (blank : TouchAt)
    → map seen touches ≡ map touch_of_label (reverse ls) → all ≡ touches ++ last ∷ [] → seen last ≡ blank → map seen all ≡ candidates ls blank
all_candidates seen touches all last ls blank gathered is place =
    ap (map seen) is ∙ (map_push seen touches last ∙ (ap (λ cs. cs ++ seen last ∷ []) gathered ∙ ap (λ c. map touch_of_label (reverse ls) ++ c ∷ []) place))

-- ---- the first for a candidate

pub of_trials : (s : Scene) (context : TypeSpecTree) (g : GestureName) (c : TouchAt) (o : Option Data)
    → First (gives s context c) (translators_for s g (name_of c.spec)) o → First (trial_gives s context) (trials_of s g c) o
of_trials s context g c o h =
    h ∙ same_answers (gives s context c) (trial_gives s context) (λ (t : Translator). record { candidate = c; translator = t }) (λ t. refl)
    (translators_for s g (name_of c.spec))

-- ---- the first in a context

pub of_context : (s : Scene) (g : GestureName) (n : ℕ) (context : TypeSpecTree) (cs : List TouchAt) (o : Option Data)
    → First (trial_gives s context) (trials_in s g cs) o
    → First (tried s) (map (λ t. record { number = n; context = context; trial = t }) (trials_in s g cs)) (option_map (λ (d : Data). record { number = n; value = d }) o)
of_context s g n context cs o h =
    ap (option_map (λ (d : Data). record { number = n; value = d })) h
    ∙ mapped (trial_gives s context) (tried s) (λ t. record { number = n; context = context; trial = t }) (λ (d : Data). record { number = n; value = d }) (λ t. refl)
    (trials_in s g cs)

pub context_passed : (s : Scene) (g : GestureName) (contexts : List TypeSpecTree) (cs : List TouchAt) (n : ℕ) (context : TypeSpecTree)
    → drop n contexts ≡ context ∷ drop (n + 1) contexts → Leads (tried s) (trials s g n (drop n contexts) cs) (trials s g 0 contexts cs)
    → First (trial_gives s context) (trials_in s g cs) None → Leads (tried s) (trials s g (n + 1) (drop (n + 1) contexts) cs) (trials s g 0 contexts cs)
context_passed s g contexts cs n context is leads none =
    passed (tried s) (map (λ t. record { number = n; context = context; trial = t }) (trials_in s g cs)) (trials s g (n + 1) (drop (n + 1) contexts) cs) (trials s g 0 contexts cs)
    (subst (λ xs. Leads (tried s) (trials s g n xs cs) (trials s g 0 contexts cs)) is leads) (of_context s g n context cs None none)

pub context_found : (s : Scene) (g : GestureName) (contexts : List TypeSpecTree) (cs : List TouchAt) (n : ℕ) (context : TypeSpecTree) (v : Data)
    → drop n contexts ≡ context ∷ drop (n + 1) contexts → Leads (tried s) (trials s g n (drop n contexts) cs) (trials s g 0 contexts cs)
    → First (trial_gives s context) (trials_in s g cs) (Some v) → First (tried s) (trials s g 0 contexts cs) (Some (record { number = n; value = v }))
context_found s g contexts cs n context v is leads h =
    found (tried s) (map (λ t. record { number = n; context = context; trial = t }) (trials_in s g cs)) (trials s g (n + 1) (drop (n + 1) contexts) cs) (trials s g 0 contexts cs)
    (record { number = n; value = v })
    (subst (λ xs. Leads (tried s) (trials s g n xs cs) (trials s g 0 contexts cs)) is leads) (of_context s g n context cs (Some v) h)

-- no context is left
pub no_context_left : (s : Scene) (g : GestureName) (contexts : List TypeSpecTree) (cs : List TouchAt) (n : ℕ) → drop n contexts ≡ []
    → Leads (tried s) (trials s g n (drop n contexts) cs) (trials s g 0 contexts cs) → First (tried s) (trials s g 0 contexts cs) None
no_context_left s g contexts cs n is leads = leads None (subst (λ xs. First (tried s) (trials s g n xs cs) None) (sym is) refl)
