-- A byte that is typed and rubbed out.
use Rattle.std.proofs.Common.{◌≡◌, ◌-◌, ℕ, Bool, true, false, List, [], ◌∷◌, ◌++◌, length, length-append, take, ap, ◌∙◌, arith}
use Rattle.std.specs.Prelude.{codes, nat_le, if◌then◌else◌}
use Rattle.std.proofs.Math.Seq.{take-append_seam}
use Rattle.std.proofs.lemmas.Bool.{le-leb}
use Rattle.cl_line.specs.Lines.{without_last}
use Rattle.cl_line.specs.declared.elements.Element.{Element}
use Rattle.cl_line.specs.declared.elements.Element.TheVariants.{Char}
use Rattle.cl_line.specs.declared.lines.TheConstants.{MAX_ELEMENTS}
use Rattle.cl_session.specs.Laws.{IsTakenBack}
use Rattle.cl_session.specs.Runs.{refuse, tell}
use Rattle.cl_session.specs.Step.{rub_out}
use Rattle.cl_session.specs.World.{World}

without_pushed : (line : List Element) (e : Element) → without_last (line ++ e ∷ []) ≡ line
without_pushed line e =
    let fewer : length (line ++ e ∷ []) - 1 ≡ length line = omega (arith, length-append line (e ∷ [])) in
    ap (λ (n : ℕ). take n (line ++ e ∷ [])) fewer ∙ take-append_seam line (e ∷ [])

taken_by : (w : World) (byte : ℕ) (fits : Bool) → fits ≡ true
    → (rub_out (if fits then tell (record w { line = w.line ++ Char byte ∷ [] }) 0 [] else refuse w 0 (codes "! full")).world).world ≡ w
taken_by w byte true h =
    let of : List Element → World = λ line. record { slots = w.slots; line = line; enabled = w.enabled; dialog = w.dialog; panes = w.panes; stale = w.stale } in
    ap of (without_pushed w.line (Char byte))
taken_by w byte false h = absurd (cc)

pub taken_back : IsTakenBack
taken_back g w byte room =
    let longer = length (w.line ++ Char byte ∷ []) in
    taken_by w byte (nat_le longer MAX_ELEMENTS) (le-leb longer MAX_ELEMENTS (omega (arith, room, length-append w.line (Char byte ∷ []))))
