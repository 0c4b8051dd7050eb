-- The number stands between the two parts.
use Rattle.std.proofs.Common.{◌≡◌, ◌∙◌, append_assoc}
use Rattle.std.specs.Fmt.{decimal}
use Rattle.cl_gen.specs.Workload.{application_text}
use Rattle.cl_gen.proofs.application.application_text.Goals as goal

pub returns : goal.returns
unfolding application_text
returns c =
    let number : c.as_bytes.result.now ≡ decimal c.args.n = c.as_bytes.ensures.value ∙ c.format.ensures.text in
    let before = c.in_ok-text.ensures.items in let with_number = c.in_ok-extend_from_slice.ensures.items in
    simp (c.in_ok-extend_from_slice-2.ensures.items, with_number, before, number, append_assoc)
