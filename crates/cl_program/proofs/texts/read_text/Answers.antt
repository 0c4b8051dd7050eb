use Rattle.cl_program.proofs.TextLemmas.{ReadsText-opened}
use Rattle.cl_program.proofs.texts.read_text.Goals as goal

pub returns-in-Done-clause-text : goal.returns-in-Done-clause-text
returns-in-Done-clause-text g c =
    ReadsText-opened (g.P.Place.file c.args.place.now c.args.name.now) (g.P.Place.left c.open_source.new.self) (g.P.Place.left c.read_opened.new.place)
    c.read_opened.result c.in-Done.ensures.start c.read_opened.ensures.text
