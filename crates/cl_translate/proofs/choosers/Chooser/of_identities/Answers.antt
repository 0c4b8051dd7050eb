use Rattle.std.proofs.Common.{refl}
use Rattle.std.specs.Prelude.{option_map}
use Rattle.cl_record.specs.TouchWalks.{touch_of}
use Rattle.cl_value.specs.Value.{data_of}
use Rattle.cl_translate.specs.Choices.{gives, identity}
use Rattle.cl_translate.specs.Scenes.{scene_of}
use Rattle.cl_translate.proofs.FirstLemmas.{each_ok, of_one}
use Rattle.cl_translate.proofs.choosers.Chooser.of_identities.Goals as goal

pub returns-in-Select : goal.returns-in-Select
returns-in-Select g c =
    rw c.in-Select.is (each_ok _ _ c.of_identity.result
    (λ o h. of_one (gives (scene_of g.T.Types.holds g.T.Types.hierarchy c.args.self.now) c.args.context.now (touch_of c.args.candidate)) identity (option_map data_of o) h) c.of_identity.ensures)

pub returns-in-Describe : goal.returns-in-Describe
returns-in-Describe g c = rw c.in-Describe.is refl

pub returns-in-Menu : goal.returns-in-Menu
returns-in-Menu g c = rw c.in-Menu.is refl

pub returns-in-Edit : goal.returns-in-Edit
returns-in-Edit g c = rw c.in-Edit.is refl

pub returns-in-Delete : goal.returns-in-Delete
returns-in-Delete g c = rw c.in-Delete.is refl
