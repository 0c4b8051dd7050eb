use Rattle.std.proofs.Common.{◌≡◌, ◌-◌, take, drop, ap, arith, ◌∙◌}
use Rattle.std.proofs.lemmas.List.{with_items_is}
use Rattle.cl_gesture.proofs.Buffer.{FillTook-read}
use Rattle.cl_gesture.proofs.ahead.Ahead.fill.Goals as goal

pub returns-in-Bytes-clause-bytes : goal.returns-in-Bytes-clause-bytes
returns-in-Bytes-clause-bytes g c =
    let s = c.self.inside in let after = c.in-Bytes.ensures in
    let from : take (s.end - s.start) (drop s.start c.as_mut_slice.result.now) ≡ c.args.self.now =
    ap (λ l. take (s.end - s.start) (drop s.start l)) c.as_mut_slice.ensures.value ∙ c.self.view_is in
    let items = with_items_is s.bytes c.read_behind-took.new.bytes (c.read_behind-took.auto.bytes ∙ c.as_mut_slice.ensures.len) in
    FillTook-read _ _ c.args.self.now c.read_behind-took.new.bytes _ (s.end - s.start) c.in-Bytes.count _ (after.kept ∙ from) after.bytes items (omega arith)
