use Rattle.std.proofs.Common.{rules}
use Rattle.cl_medium.specs.Items.{move_item}
use Rattle.cl_record.specs.Marks.{history_marks}
use Rattle.cl_redisplay.proofs.WindowLemmas.{repainted}
use Rattle.cl_redisplay.proofs.painting.paint.Goals as goal

pub returns : goal.returns
returns c =
    repainted c.args.raster.now c.blank.new.raster _ c.new-window.result c.replay_in.new.canvas c.args.area c.own_rect.result (history_marks move_item c.args.history.now)
    c.blank.ensures c.new-window.ensures.raster c.new-window.ensures.area c.own_rect.ensures (search rules) c.replay_in.ensures.paints.kept c.replay_in.ensures.rect
