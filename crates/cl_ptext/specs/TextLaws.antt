-- Texts by themselves under other limits, and on other slots.
use Rattle.std.proofs.Common.{◌≡◌, ◌≤◌, ◌+◌, ℕ, List, [], ◌∷◌, ap, arith, subst}
use Rattle.std.specs.Prelude.{Some}
use Rattle.cl_application.specs.App.{present_method}
use Rattle.cl_application.specs.declared.declarations.MethodDecl.{MethodDecl}
use Rattle.cl_eval.proofs.LimitLemmas.{goes-give, goes-means, goes-then}
use Rattle.cl_eval.proofs.SameLemmas.{same-whole}
use Rattle.cl_eval.specs.Meaning.{means}
use Rattle.cl_eval.specs.Outcome.{Outcome, Gives, Traps, after, cost_of, give}
use Rattle.cl_eval.specs.Slots.{Slots}
use Rattle.cl_eval.specs.TypeMeanings.{AreTexts, IsText}
use Rattle.cl_eval.specs.ReadPaths.{AgreeOn}
use Rattle.cl_eval.specs.declared.metering.Limits.{Limits}
use Rattle.cl_lattice.specs.Expanded.{Expanded}
use Rattle.cl_syntax.specs.TypeSpecTree.{TypeSpecTree}
use Rattle.cl_value.specs.Data.{Data, text}
use Rattle.cl_ptext.specs.Book.{Book}
use Rattle.cl_ptext.specs.Texts.{outcome_of_text, text_of}
use Rattle.cl_eval.proofs.KeepLemmas.{Kept, keeps-give, keeps-means, keeps-then}
use Rattle.cl_ptext.specs.TextLimitLemmas.{text-goes}
use Rattle.cl_ptext.specs.TextSlotLemmas.{text-same}
use Rattle.cl_ptext.specs.TextKeepLemmas.{text-keeps}

-- a text is the same under all limits that its cost and its reach do not pass
pub wider_text : (b : Book) (limits wider : Limits) (slots : Slots) (t : Expanded) (s : TypeSpecTree) (d x : Data) (cost reach : ℕ)
    → outcome_of_text b limits slots t s d ≡ Gives x cost reach → cost ≤ wider.budget → reach ≤ wider.depth → outcome_of_text b wider slots t s d ≡ Gives x cost reach
unfolding outcome_of_text
wider_text b limits wider slots t s d x cost reach p cheap shallow =
    let go = means limits.depth limits.budget b.app slots in
    let go' = means wider.depth wider.budget b.app slots in
    let within : reach ≤ 0 + wider.depth = omega (arith, shallow) in
    (goes-then wider.budget (0 + wider.depth) (text_of b go 0 t s d []) (text_of b go' 0 t s d []) (λ y. give (text y)) (λ y. give (text y))
    (text-goes wider.budget (0 + wider.depth) b go go' 0 (goes-means limits.depth limits.budget wider.depth wider.budget b.app slots 0) t s d [])
    (λ y. goes-give wider.budget (0 + wider.depth) (text y)) 0 0 x cost reach p).same cheap within

-- a text is the same on slots that agree on what present methods read
pub same_slots : (b : Book) (limits : Limits) (slots other : Slots)
    → ((x : List ℕ) (m : MethodDecl) → present_method x b.app ≡ Some m → (d : Data) → AgreeOn b.app m.body slots ((m.parameter, d) ∷ []) other ((m.parameter, d) ∷ []))
    → (t : Expanded) (s : TypeSpecTree) (d : Data) → outcome_of_text b limits slots t s d ≡ outcome_of_text b limits other t s d
unfolding outcome_of_text
same_slots b limits slots other agree t s d =
    let go = means limits.depth limits.budget b.app slots in
    let go' = means limits.depth limits.budget b.app other in
    let same = text-same b go go' 0
    (λ x m found e. λ i. same-whole b.app slots other limits.depth limits.budget 0 ((m.parameter, e) ∷ []) ((m.parameter, e) ∷ []) m.body (λ p n h. agree x m found e p (record { calls = n; reads = h })) i)
    t s d [] in
    λ i. after (same i 0 0) (λ y. give (text y))

-- the whole run of a text
kept_run : (b : Book) (limits : Limits) (slots : Slots) (t : Expanded) (s : TypeSpecTree) (d : Data)
    → Kept limits.budget (0 + limits.depth) (outcome_of_text b limits slots t s d)
unfolding outcome_of_text
kept_run b limits slots t s d =
    let go = means limits.depth limits.budget b.app slots in
    keeps-then limits.budget (0 + limits.depth) (text_of b go 0 t s d []) (λ y. give (text y))
    (text-keeps limits.budget (0 + limits.depth) b go 0 (keeps-means limits.depth limits.budget b.app slots 0) t s d [])
    (λ y. keeps-give limits.budget (0 + limits.depth) (text y)) 0 0 (omega arith) (omega arith)

-- neither the cost nor the reach of a text passes the limits
pub kept_text : (b : Book) (limits : Limits) (slots : Slots) (t : Expanded) (s : TypeSpecTree) (d x : Data) (cost reach : ℕ)
    → outcome_of_text b limits slots t s d ≡ Gives x cost reach → (cost ≤ limits.budget) × (reach ≤ limits.depth)
kept_text b limits slots t s d x cost reach p =
    let kept : (cost ≤ limits.budget) × (reach ≤ 0 + limits.depth) = subst (Kept limits.budget (0 + limits.depth)) p (kept_run b limits slots t s d) in
    (kept.0, omega (arith, kept.1))

-- a run that keeps to the limits costs no more than the budget
cost_kept : (budget depth : ℕ) (o : Outcome Data) → Kept budget depth o → cost_of o ≤ budget
cost_kept budget depth (Gives x c d) k = k.0
cost_kept budget depth (Traps kind c d) k = k.0

-- a trap comes before the budget is passed too
pub paid_text : (b : Book) (limits : Limits) (slots : Slots) (t : Expanded) (s : TypeSpecTree) (d : Data) → cost_of (outcome_of_text b limits slots t s d) ≤ limits.budget
paid_text b limits slots t s d = cost_kept limits.budget (0 + limits.depth) (outcome_of_text b limits slots t s d) (kept_run b limits slots t s d)

-- a run of bytes that is given as a text gives a text
text_behind : (o : Outcome (List ℕ)) (x : Data) (cost reach : ℕ) → after o (λ y. give (text y)) ≡ Gives x cost reach → IsText x
text_behind (Gives y c d) x cost reach p =
    let same : text y ≡ x = ap given_or p in
    subst IsText same tt
  where
    given_or : Outcome Data → Data
    given_or (Gives z c d) = z
    given_or (Traps kind c d) = text []
text_behind (Traps kind c d) x cost reach p = cc

-- what is given as the text of a value is a text
pub is_text : (b : Book) (limits : Limits) (slots : Slots) (t : Expanded) (s : TypeSpecTree) (d x : Data) (cost reach : ℕ)
    → outcome_of_text b limits slots t s d ≡ Gives x cost reach → IsText x
unfolding outcome_of_text
is_text b limits slots t s d x cost reach p = text_behind (text_of b (means limits.depth limits.budget b.app slots) 0 t s d [] 0 0) x cost reach p

-- the texts of the types of a book, by the expansion of each
pub book_texts : (b : Book) (expand : TypeSpecTree → Expanded) → AreTexts b.app (λ limits slots s d. outcome_of_text b limits slots (expand s) s d)
book_texts b expand = record {
  texts = λ limits slots s d x cost reach p. (is_text b limits slots (expand s) s d x cost reach p, (kept_text b limits slots (expand s) s d x cost reach p).1);
  paid = λ limits slots s d. paid_text b limits slots (expand s) s d;
  wider = λ limits wider slots s d x cost reach p cheap shallow. wider_text b limits wider slots (expand s) s d x cost reach p cheap shallow;
  sees = λ limits slots other agree s d. same_slots b limits slots other agree (expand s) s d;
}
