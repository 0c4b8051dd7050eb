use Rattle.std.proofs.Common.{sym}
use Rattle.std.specs.Prelude.{option_map}
use Rattle.cl_record.specs.TouchWalks.{touch_of}
use Rattle.cl_value.specs.Value.{data_of}
use Rattle.cl_translate.specs.Scenes.{scene_of}
use Rattle.cl_translate.proofs.FirstLemmas.{each_ok}
use Rattle.cl_translate.proofs.GivesLemmas.{of_declared}
use Rattle.cl_translate.proofs.choosers.Chooser.of_place.Goals as goal

pub returns-in-Some : goal.returns-in-Some
returns-in-Some g c =
    each_ok _ _ c.translate.result
    (λ o h. of_declared (scene_of g.T.Types.holds g.T.Types.hierarchy c.args.self.now) c.args.context.now (touch_of c.args.candidate) c.args.place.now c.in-Some.translator.now
    (option_map data_of o) (sym (rw c.as_slice.ensures at c.in-Some.ensures)) h) c.translate.ensures
