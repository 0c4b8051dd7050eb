-- What a `TranslatorForm` of the program is.
use Rattle.std.specs.Prelude.{map}
use Rattle.cl_forms.specs.DatumView.{datum_of}
use Rattle.cl_declare.specs.TranslatorForms as form
use Rattle.cl_declare.specs.declared.translator_forms.TranslatorForm.{TranslatorForm}

-- what a `TranslatorForm` of the program is
abbrev pub form_of : TranslatorForm → form.TranslatorForm
form_of f = record {
  name = datum_of f.name.now;
  from = datum_of f.from.now;
  to = datum_of f.to.now;
  keys = map datum_of f.keys.now;
  parameters = datum_of f.parameters.now;
  body = datum_of f.body.now;
}
