use Rattle.std.proofs.Common.{map}
use Rattle.std.proofs.lemmas.Result.{err_from_is_err_and}
use Rattle.cl_forms.specs.DatumView.{datum_of}
use Rattle.cl_load.proofs.ConcludeLemmas.{refused_forms, refused_types, settled_forms}
use Rattle.cl_load.proofs.loading.conclude.Goals as goal

pub returns-in_err-pass_forms : goal.returns-in_err-pass_forms
returns-in_err-pass_forms g c =
    let refusal = err_from_is_err_and c.from_residual-in_err-pass_forms.result c.from_residual-in_err-pass_forms.ensures.1 in
    rw (refusal.1, refusal.2)
    (refused_forms (Unit {0}) c.in_err-pass_forms.field-0.0 (g.H.Hosts.bounds c.args.hosts.now) c.args.length (map datum_of c.args.forms.now) c.in_ok-declarations.declarations
    c.parse.new.notes (rw c.new-notes.ensures at c.in_ok-declarations.ensures) c.in_err-pass_forms.ensures)

pub returns-in_err-lattice : goal.returns-in_err-lattice
returns-in_err-lattice g c =
    let refusal = err_from_is_err_and c.from_residual-in_err-lattice.result c.from_residual-in_err-lattice.ensures.1 in
    rw (refusal.1, refusal.2)
    (refused_types c.in_err-lattice.field-0.0 (g.H.Hosts.bounds c.args.hosts.now) c.args.length (map datum_of c.args.forms.now) c.in_ok-declarations.declarations c.parse.new.notes
    (rw c.new-notes.ensures at c.in_ok-declarations.ensures) c.in_ok-pass_forms.ensures c.in_err-lattice.ensures)

pub returns : goal.returns
returns g c =
    settled_forms c.settle.result (g.H.Hosts.bounds c.args.hosts.now) c.args.length (map datum_of c.args.forms.now) c.in_ok-declarations.declarations c.parse.new.notes c.in_ok-lattice.lattice
    (rw c.new-notes.ensures at c.in_ok-declarations.ensures) c.in_ok-pass_forms.ensures c.in_ok-lattice.ensures c.settle.ensures
