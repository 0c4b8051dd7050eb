-- What is uncovered first, and that nothing is where each update is covered.
use Rattle.std.proofs.Common.{◌≡◌, ◌++◌, ◌∙◌, ℕ, List, [], ◌∷◌, refl, ap, subst}
use Rattle.std.specs.Prelude.{◌↔◌, All, Option, Some, None}
use Rattle.std.proofs.lemmas.List.Elements.{All-cons, All-head, All-nil, All-tail}
use Rattle.cl_syntax.specs.Paths.{first_uncovered}
use Rattle.cl_syntax.specs.declared.paths.Path.{Path}
use Rattle.cl_application.specs.declared.applications.App.{App}
use Rattle.cl_cover.specs.Updates.{AreCovered, CachedUpdate, IsCovered, IsFirstUncovered, at_form, there_or, uncovered_among, uncovered_in, uncovered_of, updates_of}
use Rattle.cl_cover.specs.Walk.{reads_of}
use Rattle.cl_cover.specs.declared.updates.Uncovered.{Uncovered}
use Rattle.cl_cover.proofs.CoverLemmas.{none_is_all, some_is_read}

there_again : (a b c : Option Uncovered) → there_or a (there_or b c) ≡ there_or (there_or a b) c
there_again None b c = refl
there_again (Some u) b c = refl

-- the first of updates is the first of those in front, or of those behind them
pub behind_others : (app : App) (us vs : List CachedUpdate)
    → uncovered_among app (us ++ vs) ≡ there_or (uncovered_among app us) (uncovered_among app vs)
behind_others app [] vs = refl
behind_others app (u ∷ us) vs =
    ap (there_or (uncovered_in app u)) (behind_others app us vs)
    ∙ there_again (uncovered_in app u) (uncovered_among app us) (uncovered_among app vs)

-- ---- none

at_none : (form : ℕ) (o : Option Path) → at_form form o ≡ None → o ≡ None
at_none form None h = refl
at_none form (Some p) h = cc

both_none : (a b : Option Uncovered) → there_or a b ≡ None → (a ≡ None) × (b ≡ None)
both_none None b h = (refl, h)
both_none (Some u) b h = cc

one_covered : (app : App) (u : CachedUpdate) → uncovered_in app u ≡ None → IsCovered app u
one_covered app u h = (none_is_all app u.listed u.body).0 (at_none u.form (first_uncovered u.listed (reads_of app u.body)) h)

none_there : (app : App) (u : CachedUpdate) → IsCovered app u → uncovered_in app u ≡ None
none_there app u c = ap (at_form u.form) ((none_is_all app u.listed u.body).1 c)

all_covered : (app : App) (us : List CachedUpdate) → uncovered_among app us ≡ None → All (IsCovered app) us
all_covered app [] h = All-nil (IsCovered app)
all_covered app (u ∷ us) h =
    let t = both_none (uncovered_in app u) (uncovered_among app us) h in
    All-cons (IsCovered app) u us (one_covered app u t.0) (all_covered app us t.1)

none_among : (app : App) (us : List CachedUpdate) → All (IsCovered app) us → uncovered_among app us ≡ None
none_among app [] h = refl
none_among app (u ∷ us) h =
    ap (λ (o : Option Uncovered). there_or o (uncovered_among app us)) (none_there app u (All-head (IsCovered app) u us h))
    ∙ none_among app us (All-tail (IsCovered app) u us h)

pub none_is_covered : (app : App) → (uncovered_of app ≡ None) ↔ AreCovered app
none_is_covered app = (all_covered app (updates_of app.displays), none_among app (updates_of app.displays))

-- ---- one

first_at : (app : App) (u : CachedUpdate) (us : List CachedUpdate) (found : Uncovered) (o : Option Path)
    → first_uncovered u.listed (reads_of app u.body) ≡ o → at_form u.form o ≡ Some found → IsFirstUncovered app (u ∷ us) found
first_at app u us found None e h = cc
first_at app u us found (Some p) e h =
    let same : record { form = u.form; path = p } ≡ found = cc in
    let read = some_is_read app u.listed u.body p e in
    subst (λ (w : Uncovered). IsFirstUncovered app (u ∷ us) w) same (record {
      earlier = [];
      update = u;
      later = us;
      among = refl;
      covered = All-nil (IsCovered app);
      form = refl;
      read = read.0;
      unlisted = read.1;
    })

behind_covered : (app : App) (u : CachedUpdate) (us : List CachedUpdate) (found : Uncovered) → IsCovered app u → IsFirstUncovered app us found
    → IsFirstUncovered app (u ∷ us) found
behind_covered app u us found c f = record {
  earlier = u ∷ f.earlier;
  update = f.update;
  later = f.later;
  among = ap (λ (vs : List CachedUpdate). u ∷ vs) f.among;
  covered = All-cons (IsCovered app) u f.earlier c f.covered;
  form = f.form;
  read = f.read;
  unlisted = f.unlisted;
}

first_by : (app : App) (u : CachedUpdate) (us : List CachedUpdate) (found : Uncovered) (o : Option Uncovered) → uncovered_in app u ≡ o
    → there_or o (uncovered_among app us) ≡ Some found → (uncovered_among app us ≡ Some found → IsFirstUncovered app us found)
    → IsFirstUncovered app (u ∷ us) found
first_by app u us found None e h rest = behind_covered app u us found (one_covered app u e) (rest h)
first_by app u us found (Some v) e h rest =
    first_at app u us found (first_uncovered u.listed (reads_of app u.body)) refl (e ∙ h)

first_among : (app : App) (us : List CachedUpdate) (found : Uncovered) → uncovered_among app us ≡ Some found → IsFirstUncovered app us found
first_among app [] found h = cc
first_among app (u ∷ us) found h = first_by app u us found (uncovered_in app u) refl h (first_among app us found)

pub some_is_first : (app : App) (found : Uncovered) → uncovered_of app ≡ Some found → IsFirstUncovered app (updates_of app.displays) found
some_is_first app found h = first_among app (updates_of app.displays) found h
