-- The pieces of a format are filled in one by one.
use Rattle.std.proofs.Common.{◌≡◌, ℕ, suc, ◌+◌, List, [], ◌∷◌, ◌++◌, map, Some, None, Ok, Err, sym, ◌∙◌, ap, subst, add-one}
use Rattle.value_model.specs.Answers as model
use Rattle.value_model.specs.FormatRows as row
use Rattle.value_model.specs.Parts.{meant, meant_error}
use Rattle.value_model.specs.Values.{Bytes}
use Rattle.value_model.specs.declared.error.RunErr.TheVariants.{InvalidDirective}
use Rattle.value_model.specs.declared.value.Value.{Value}
use Rattle.luau_tables.specs.Worlds.{store_in}
use Rattle.luau_tables.specs.declared.globals.LibWorld.{LibWorld}
use Rattle.lib_arguments.specs.Checks.{Fails}
use Rattle.lib_arguments.specs.declared.ending.Ending.{Ending}
use Rattle.lib_arguments.specs.declared.ending.Ending.TheVariants.{RunError}
use Rattle.lib_string.specs.Directives.{field_of, form_of}
use Rattle.lib_string.specs.Formats.{asks, Fills, FillsIn}
use Rattle.lib_string.specs.declared.asking.Asking.{Asking}
use Rattle.lib_string.specs.declared.directive.Field.{Field}
use Rattle.lib_string.proofs.PiecesRead.{piece_step, no_pieces}

-- the row of what is left of a format
abbrev pub left_row : LibWorld → List Value → Bytes → (at : ℕ) → (text : Bytes) → model.LibAnswer
left_row w args left at text = row.formats (store_in w) (map (meant w.names) args) (row.pieces_of left) at text

module _ (w : LibWorld) (args : List Value) (whole : model.LibAnswer) (left : Bytes) (at : ℕ) (text : Bytes) (so_far : whole ≡ left_row w args left at text) where
  pub format_ends : left ≡ [] → whole ≡ row.format_done (store_in w) text
  format_ends e = so_far ∙ ap (λ ps. row.formats (store_in w) (map (meant w.names) args) ps at text) (no_pieces left e)

  module _ (b : ℕ) (rest behind : Bytes) (p : row.Piece) (is : left ≡ b ∷ rest) (read : (p, behind) ≡ row.read_piece b rest) where
    first : whole ≡ row.formats (store_in w) (map (meant w.names) args) (p ∷ row.pieces_of behind) at text
    first = so_far ∙ ap (λ ps. row.formats (store_in w) (map (meant w.names) args) ps at text) (piece_step left b rest behind p is read)

    first_is : (q : row.Piece) → p ≡ q → whole ≡ row.formats (store_in w) (map (meant w.names) args) (q ∷ row.pieces_of behind) at text
    first_is q e = first ∙ ap (λ p. row.formats (store_in w) (map (meant w.names) args) (p ∷ row.pieces_of behind) at text) e

    pub plain_step : (c : ℕ) (after : Bytes) → p ≡ row.Plainly c → after ≡ text ++ c ∷ [] → whole ≡ left_row w args behind at after
    plain_step c after e appended = first_is (row.Plainly c) e ∙ ap (λ t. left_row w args behind at t) (sym appended)

    pub malformed : p ≡ row.Malformed → Fails w.names whole (RunError InvalidDirective)
    unfolding meant_error
    malformed e = (first_is row.Malformed e, tt)

    module _ (d : Field) (after : Bytes) (e : p ≡ row.Directive (field_of d)) where
      pub directive_step : Fills w args at text after (field_of d) (form_of d.form) (Ok None) → whole ≡ left_row w args behind (at + 1) after
      directive_step h =
          first_is (row.Directive (field_of d)) e
          ∙ h.goes_on (λ bs. left_row w args behind (suc at) (text ++ bs))
          ∙ ap (λ t. left_row w args behind (suc at) t) (sym h.appended)
          ∙ ap (λ n. left_row w args behind n after) (sym (add-one at))

      pub directive_fails : (ending : Ending) → Fills w args at text after (field_of d) (form_of d.form) (Err ending) → Fails w.names whole ending
      directive_fails ending h = subst (λ r. Fails w.names r ending) (sym (first_is (row.Directive (field_of d)) e)) (h (λ bs. left_row w args behind (suc at) (text ++ bs)))

module _ (w : LibWorld) (args : List Value) (format : Bytes) (start : ℕ) (before : Bytes) (left : Bytes) (at : ℕ) (text : Bytes) (so_far : left_row w args format start before ≡ left_row w args left at text) where
  pub directive_asks : (b : ℕ) (rest behind : Bytes) (p : row.Piece) → left ≡ b ∷ rest → (p, behind) ≡ row.read_piece b rest → (d : Field) (after : Bytes) (a : Asking) → p ≡ row.Directive (field_of d) →
      Fills w args at text after (field_of d) (form_of d.form) (Ok (Some a)) → FillsIn w args format start before after (Ok (at, Some a))
  directive_asks b rest behind p is read d after a e h = (
    h.1,
    so_far
        ∙ ap (λ ps. row.formats (store_in w) (map (meant w.names) args) ps at text) (piece_step left b rest behind p is read)
        ∙ ap (λ p. row.formats (store_in w) (map (meant w.names) args) (p ∷ row.pieces_of behind) at text) e
        ∙ h.2 (λ bs. left_row w args behind (suc at) (text ++ bs))
        ∙ ap (λ t. asks w args at t a) (sym h.0),
  )
