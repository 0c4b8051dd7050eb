use Rattle.cl_spans.proofs.RunLemmas.{rows_same}
use Rattle.cl_spans.proofs.laws.rows_are_told_by_their_columns.Goals as goal

pub returns : goal.returns
returns c = λ a b r q h. rows_same a b r q (record { held = h })
