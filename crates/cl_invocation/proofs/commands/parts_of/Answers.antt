use Rattle.std.proofs.Common.{◌≡◌, ◌∙◌, ap, sym, subst, true, inl, inr}
use Rattle.std.specs.List.{list_all}
use Rattle.std.proofs.lemmas.List.Folds.{list_all-map}
use Rattle.clap.specs.Faults.{fault_of, is_simple_and_free}
use Rattle.clap.specs.Kinds.{HasKind}
use Rattle.clap.specs.Values.{kind_of}
use Rattle.clap.specs.Simple.{App, app_of, is_simple, matches_of}
use Rattle.cl_invocation.specs.Command.{app}
use Rattle.cl_invocation.specs.Shown.{texts}
use Rattle.cl_invocation.specs.Words.{any, is_word}
use Rattle.cl_invocation.proofs.Parses.{no_parts_of, refused, taken}
use Rattle.cl_invocation.proofs.Rules.{is_free_app, is_simple_app}
use Rattle.cl_invocation.proofs.commands.parts_of.Goals as goal

pub returns-then-not-are_words : goal.returns-then-not-are_words
returns-then-not-are_words c =
    sym (no_parts_of (texts c.args.words.now) any
    (list_all-map is_word (λ word. word.now) c.args.words.now ∙ sym c.if-not-are_words.ensures))

pub returns-in-Ok : goal.returns-in-Ok
returns-in-Ok c =
    let words = texts c.args.words.now in
    let made : app_of c.in_ok-command.command ≡ app = c.in_ok-command.ensures in
    let all : list_all is_word words ≡ true = list_all-map is_word (λ word. word.now) c.args.words.now ∙ sym c.if-not-are_words.ensures in
    taken words c.in-Ok.matches all
    (ap (λ (a : App). fault_of a words) (sym made) ∙ c.in-Ok.ensures.kinds (ap is_simple_and_free made ∙ is_free_app))
    ((c.in-Ok.ensures.matches (ap is_simple made ∙ is_simple_app)).0 ∙ ap (λ (a : App). matches_of a words) made)

pub returns : goal.returns
returns c =
    let words = texts c.args.words.now in
    let made : app_of c.in_ok-command.command ≡ app = c.in_ok-command.ensures in
    let all : list_all is_word words ≡ true = list_all-map is_word (λ word. word.now) c.args.words.now ∙ sym c.if-not-are_words.ensures in
    let kind : HasKind (fault_of app words) c.in-Err.error =
    subst (λ (a : App). HasKind (fault_of a words) c.in-Err.error) made
    (c.in-Err.ensures.kinds (ap is_simple_and_free made ∙ is_free_app)) in
    elim kind [
      | inl memory ↦ absurd (c.in_default.not-OutOfMemory (c.kind.ensures ∙ memory))
      | inr among ↦ refused words (kind_of c.in-Err.error) all among
    ]
