-- Directives, as the meanings know them.
use Rattle.value_model.specs.FormatRows as row
use Rattle.lib_string.specs.declared.directive.Field.{Field}
use Rattle.lib_string.specs.declared.directive.Form.{Form}
use Rattle.lib_string.specs.declared.directive.Form.TheVariants as form
use Rattle.lib_string.specs.declared.directive.Piece.{Piece}
use Rattle.lib_string.specs.declared.directive.Piece.TheVariants as piece

abbrev pub form_of : Form → row.Form
form_of form.Text = row.AsText
form_of form.Decimal = row.AsDecimal
form_of (form.Hex capital) = row.AsHex capital
form_of form.Byte = row.AsByte

abbrev pub field_of : Field → row.Field
field_of d = record { left = d.left; zeros = d.zeros; width = d.width; form = form_of d.form }

abbrev pub piece_of : Piece → row.Piece
piece_of (piece.Plain b) = row.Plainly b
piece_of (piece.Directive d) = row.Directive (field_of d)
piece_of piece.Malformed = row.Malformed
