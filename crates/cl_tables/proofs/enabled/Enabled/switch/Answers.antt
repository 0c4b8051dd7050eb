use Rattle.std.proofs.Common.{◌==◌, sym, ap, ◌∙◌}
use Rattle.std.specs.Cmp.Lexicographic.{pointwise}
use Rattle.std.specs.Map.{lookup}
use Rattle.std.specs.Option.{option_copied_mut}
use Rattle.cl_tables.specs.Enabled.{with_switch}
use Rattle.cl_tables.proofs.EnabledLemmas.{set_value-absent}
use Rattle.cl_tables.proofs.enabled.Enabled.switch.Goals.{in-Some, in_default}
use Rattle.cl_tables.proofs.enabled.Enabled.switch.Goals as goal

pub returns : goal.returns
returns c =
    elim c.match-get_mut.branch [
      | in-Some w ↦ let h = c.get_mut.follows.holds c.args.on in rw w.self-inside-is (h.0 ∙ ap (with_switch c.args.command.now c.args.on) c.self.view_is)
      | in_default w ↦
          let absent = sym c.get_mut.ensures.value ∙ ap option_copied_mut w.in_default.is in
          rw w.self-inside-is (ap (λ m. m.entries) c.get_mut.follows.holds-at-none ∙ c.self.view_is
          ∙ sym (set_value-absent (pointwise ◌==◌ c.args.command.now) c.args.self.now c.args.on
          (ap (λ es. lookup (pointwise ◌==◌ c.args.command.now) es) (sym c.self.view_is) ∙ absent)))
    ]
