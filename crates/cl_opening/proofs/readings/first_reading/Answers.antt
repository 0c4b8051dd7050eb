use Rattle.std.proofs.Common.{◌≡◌, ap, subst, ◌∙◌}
use Rattle.std.specs.Prelude.{List}
use Rattle.cl_declare.specs.declared.frames.FrameForm.{FrameForm}
use Rattle.cl_lattice.specs.Firsts.{IsFirst, offset_of}
use Rattle.cl_opening.specs.Readings.{CommandReads, DialogReads, Finds, TypeReads, command_offset, dialog_offset}
use Rattle.cl_phases.specs.Earlier.{earlier}
use Rattle.cl_phases.specs.SlotReads.{Functions}
use Rattle.cl_opening.proofs.readings.first_reading.Goals as goal

pub returns : goal.returns
returns c =
    let s = c.args.declarations.now in
    let start : c.new-search.result ≡ s.functions = c.new-search.ensures in
    let second : c.first_frame.new.search ≡ s.functions = c.first_frame.ensures.same ∙ start in
    let third : c.first_type.new.search ≡ s.functions = c.first_type.ensures.same ∙ second in
    let fourth : c.first_command.new.search ≡ s.functions = c.first_command.ensures.same ∙ third in
    record {
      frame = c.in_ok-frame.frame;
      frame_found =
          subst (λ (fs : List FrameForm). Finds s.functions fs c.in_ok-frame.frame) c.as_slice.ensures
          (subst (λ (f : Functions). Finds f c.as_slice.result.now c.in_ok-frame.frame) start c.in_ok-frame.ensures.found);
      user_type = c.in_ok-user_type.user_type;
      type_found = subst (λ (f : Functions). IsFirst (TypeReads f) offset_of s.types c.in_ok-user_type.user_type) second c.in_ok-user_type.ensures.found;
      command = c.in_ok-command.command;
      command_found = subst (λ (f : Functions). IsFirst (CommandReads f) command_offset s.commands c.in_ok-command.command) third c.in_ok-command.ensures.found;
      dialog = c.in_ok-dialog.dialog;
      dialog_found = subst (λ (f : Functions). IsFirst (DialogReads f) dialog_offset s.dialogs c.in_ok-dialog.dialog) fourth c.in_ok-dialog.ensures;
      first = c.earlier-3.ensures ∙ ap (earlier c.in_ok-frame.frame) (c.earlier-2.ensures ∙ ap (earlier c.in_ok-user_type.user_type) c.earlier.ensures);
    }
