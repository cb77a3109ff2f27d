-- What the code's forms stand for.
use Rattle.std.specs.Prelude.{◌≡◌, true, Option, Some, None}
use Rattle.ice_layout.specs.Supers.{is_geometry}
use Rattle.ice_run.specs.Forms as forms
use Rattle.ice_run.specs.declared.words.Form.{Form}
use Rattle.ice_run.specs.declared.words.Form.TheVariants.{Format, Run}

-- the form that a form of the code stands for
abbrev pub formed : Form → forms.Request
formed (Format image sup) = forms.Formats image.now sup
formed (Run image) = forms.Runs image.now

-- a geometry that was read is a proper one
abbrev pub IsProper : Form → Type 0
IsProper (Format image sup) = is_geometry sup ≡ true
IsProper (Run image) = Unit {0}

-- the form that was wanted, or none where none was
abbrev pub FormGives : Option forms.Request → Option Form → Type 0
FormGives wanted None = wanted ≡ None
FormGives wanted (Some f) = (wanted ≡ Some (formed f)) × IsProper f
