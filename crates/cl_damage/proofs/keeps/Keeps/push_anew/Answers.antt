use Rattle.std.proofs.Common.{◌∙◌, List, ap}
use Rattle.cl_damage.specs.KeepRows.{inside_of, keeps_of, moved_of}
use Rattle.cl_damage.specs.Keeps.{Keeps, with_last}
use Rattle.cl_damage.specs.declared.keeps.Keep.{Keep}
use Rattle.cl_damage.specs.declared.keeps.Keep.TheVariants as keep
use Rattle.cl_damage.proofs.KeepLemmas.{keeps-last}
use Rattle.cl_damage.proofs.keeps.Keeps.push_anew.Goals as goal

pub returns-clause-ok : goal.returns-clause-ok
returns-clause-ok c =
    let last = keep.Anew c.args.inside in
    ap (λ (ks : List Keep). keeps_of ks) c.in_ok-push.ensures.items
    ∙ (keeps-last c.self.inside.items.items last ∙ ap (λ (ks : Keeps). with_last ks (moved_of last) (inside_of last)) c.self.view_is)
