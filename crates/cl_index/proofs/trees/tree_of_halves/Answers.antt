use Rattle.cl_index.proofs.Joined.{joined_is}
use Rattle.cl_index.proofs.Under.{fork_of}
use Rattle.cl_index.proofs.trees.tree_of_halves.Goals as goal

pub returns-clause-sound : goal.returns-clause-sound
returns-clause-sound c =
    let j = c.join_box-around.ensures in
    let around = joined_is c.around.result.now c.around-2.result.now c.join_box-around.result j.left_empty j.right_empty j.left j.right j.least in
    rw (c.in_ok-new.ensures.ok, c.in_ok-new-2.ensures.ok)
    (fork_of c.join_box-around.result c.args.count c.args.first c.args.second
    (rw (c.around.ensures, c.around-2.ensures) at around)
    c.requires.count c.requires.half c.requires.many c.requires.sound_first c.requires.sound_second)
