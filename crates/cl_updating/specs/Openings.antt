-- Openings of updates in the program.
use Rattle.cl_value.specs.Value.{data_of}
use Rattle.cl_display.specs.Walks.{OpeningAt}
use Rattle.cl_updating.specs.declared.openings.Opening.{Opening}

-- what is seen of an opening of the program
abbrev pub opening_of : Opening → OpeningAt
opening_of o = record {
  site = o.key.now.site;
  id = data_of o.key.now.id;
  cache = o.key.now.cache;
  ambient = o.ambient;
  budget = o.budget;
  weight = o.weight;
  depth = o.depth;
}
