-- The texts of values under wider limits, where they are asked for.
use Rattle.std.proofs.Common.{◌≡◌, ℕ, ◌+◌, ◌-◌, ap, arith, refl}
use Rattle.std.specs.Prelude.{max}
use Rattle.cl_value.specs.Data.{Data}
use Rattle.cl_syntax.specs.TypeSpecTree.{TypeSpecTree}
use Rattle.cl_application.specs.declared.applications.App.{App}
use Rattle.cl_eval.specs.declared.metering.Limits.{Limits}
use Rattle.cl_eval.specs.Outcome.{Outcome, Gives, Traps, cost_of}
use Rattle.cl_eval.specs.Slots.{Slots}
use Rattle.cl_eval.specs.TypeMeanings.{AreTexts, Presents}
use Rattle.cl_eval.proofs.LimitLemmas.{Goes, Reaches}
use Rattle.cl_display.specs.Presentations.{Texts, count_in, texts_on}

-- what texts end with at a level, the others end with too, within the budget and the depth
abbrev pub TextsGo : (budget depth level : ℕ) → Texts → Texts → Type 0
TextsGo budget depth level text text' = (spec : TypeSpecTree) (d : Data) → Goes budget depth (text level spec d) (text' level spec d)

abbrev reach_at : {A : Type 0} → Outcome A → ℕ
reach_at (Gives x cost deepest) = deepest
reach_at (Traps kind cost deepest) = deepest

goes-counted : (app : App) (presents : Presents) → AreTexts app presents → (limits wider : Limits) (slots : Slots) (spec : TypeSpecTree) (e : Data)
    (level budget c d : ℕ) (o : Outcome Data) → presents limits slots spec e ≡ o → wider.budget ≡ budget - c → (v : Data) (n l : ℕ)
    → count_in level o c d ≡ Gives v n l
    → Reaches (λ i j. count_in level (presents wider slots spec e) i j) budget (level + wider.depth) c d v n l
goes-counted app presents texts limits wider slots spec e level budget c d (Gives x k r) q b v n l p =
    let cost : c + k ≡ n = ap cost_of p in
    let deepest : max d (level + r) ≡ l = ap reach_at p in
    record {
      cost = omega (arith, cost);
      deepest = omega (arith, deepest);
      same = λ cheap shallow.
          let goes : presents wider slots spec e ≡ Gives x k r =
          texts.wider limits wider slots spec e x k r q (omega (arith, cheap, cost, b)) (omega (arith, shallow, deepest)) in
          rw goes p;
    }
goes-counted app presents texts limits wider slots spec e level budget c d (Traps kind k r) q b v n l p = cc

pub goes-texts : (app : App) (presents : Presents) → AreTexts app presents → (slots : Slots) (budget budget' left left' level : ℕ)
    → TextsGo budget' (level + left') level (texts_on presents slots budget left) (texts_on presents slots budget' left')
goes-texts app presents texts slots budget budget' left left' level spec e c d v n l p =
    let limits : Limits = record { budget = budget - c; depth = left } in
    let wider : Limits = record { budget = budget' - c; depth = left' } in
    let reached = goes-counted app presents texts limits wider slots spec e level budget' c d (presents limits slots spec e) refl refl v n l p in
    record { cost = reached.cost; deepest = reached.deepest; same = reached.same }
