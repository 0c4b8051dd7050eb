use Rattle.std.proofs.Common.{rules, ◌≡◌, ◌∙◌, ap, ap₂, true, codes}
use Rattle.std.proofs.lemmas.Result.{IfOk-weaker}
use Rattle.clap.specs.Simple.{app_of, app_of_fields, on_top, with_rule}
use Rattle.clap.specs.Walk.{rule_of}
use Rattle.cl_invocation.specs.Command.{empty_app, option_rule, positional_rule}
use Rattle.cl_invocation.proofs.commands.command.Goals as goal

pub returns : goal.returns
returns c =
    let words_is : rule_of c.action-words.result ≡ positional_rule (codes "words") = search rules in
    let wire_is : rule_of c.long-wire.result ≡ option_rule (codes "wire") = search rules in
    let budget_is : rule_of c.long-budget.result ≡ option_rule (codes "budget") = search rules in
    let empty_is : app_of c.disable_help_flag.result ≡ empty_app =
    ap app_of_fields c.disable_help_flag.ensures
    ∙ ap (on_top (λ s. record s { disable_help_flag = true }))
    (ap app_of_fields c.no_binary_name.ensures ∙ ap (on_top (λ s. record s { no_binary_name = true })) c.new-4.ensures.app) in
    let one : app_of c.in_ok-arg.field-0 ≡ with_rule empty_app (positional_rule (codes "words")) =
    c.in_ok-arg.ensures.shape (search rules) ∙ ap₂ with_rule empty_is words_is in
    let two : app_of c.in_ok-arg-2.field-0 ≡ with_rule (with_rule empty_app (positional_rule (codes "words")))
    (option_rule (codes "wire")) =
    c.in_ok-arg-2.ensures.shape (search rules) ∙ ap₂ with_rule one wire_is in
    IfOk-weaker c.arg-3.result _ _ (λ made h. h.shape (search rules) ∙ ap₂ with_rule two budget_is) c.arg-3.ensures
