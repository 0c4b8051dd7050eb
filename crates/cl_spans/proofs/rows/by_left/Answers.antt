use Rattle.std.proofs.Common.{rules}
use Rattle.std.proofs.lemmas.List.Sorted.{answers_always}
use Rattle.cl_spans.proofs.FillLemmas.{ascending}
use Rattle.cl_spans.proofs.rows.by_left.Goals as goal

pub returns-clause-order : goal.returns-clause-order
returns-clause-order c =
    ascending c.sort_unstable_by_key.new.self.items
    (c.sort_unstable_by_key.ensures.sorted (λ r. r.x1) (answers_always _ _ _ (λ f a r g h. search rules)))
