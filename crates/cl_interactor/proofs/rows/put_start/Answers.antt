use Rattle.std.proofs.Common.{◌≡◌, ◌+◌, ◌∙◌, append_assoc}
use Rattle.std.specs.Fmt.{decimal}
use Rattle.cl_interactor.proofs.rows.put_start.Goals as goal

pub returns : goal.returns
returns c =
    let number : c.as_bytes.result.now ≡ decimal (c.args.y + 1) = c.as_bytes.ensures.value ∙ c.format.ensures.text in
    simp (c.in_ok-extend_from_slice-3.ensures.items, c.in_ok-extend_from_slice-2.ensures.items, c.in_ok-extend_from_slice.ensures.items, number, append_assoc)
