-- A text is among the fixed ones, or among those of the vectors that are stored, or nowhere.
use Rattle.std.proofs.Common.{◌≡◌, ◌+◌, Some, false, MatchOption, slice_get, sym, ap, subst, ◌∙◌}
use Rattle.std.specs.List.{list_any}
use Rattle.std.specs.Str.{bytes_eq}
use Rattle.byte_text.specs.Texts.{fixed_texts}
use Rattle.byte_text.proofs.Numbering.{items_of, text_at_position, stored_text_at_position, slice_get_front, none_passes, absent_text}
use Rattle.byte_text.proofs.interner.Interner.place.Goals as goal

pub returns-in-Some : goal.returns-in-Some
returns-in-Some c =
    ap (λ texts. slice_get texts c.in-Some.place) (sym c.self.view_is)
    ∙ slice_get_front fixed_texts (items_of c.self.inside.others.keys) c.in-Some.place c.args.bytes.now (text_at_position fixed_texts c.args.bytes.now c.in-Some.place (sym c.in-Some.ensures))

pub returns-in_err-index : goal.returns-in_err-index
returns-in_err-index c =
    let fixed : list_any (bytes_eq c.args.bytes.now) fixed_texts ≡ false = none_passes (bytes_eq c.args.bytes.now) fixed_texts (sym c.fixed_place.ensures ∙ c.in_default.is) in
    let absent : list_any (bytes_eq c.args.bytes.now) c.args.self.now ≡ false
    = subst (λ texts. list_any (bytes_eq c.args.bytes.now) texts ≡ false) c.self.view_is (absent_text fixed_texts c.self.inside.others.keys c.args.bytes.now fixed (sym c.in_err-index.ensures.found)) in
    subst (λ r. MatchOption r (list_any (bytes_eq c.args.bytes.now) c.args.self.now ≡ false) (λ i. slice_get c.args.self.now i ≡ Some c.args.bytes.now)) (sym c.from_residual.ensures) absent

pub returns : goal.returns
returns c =
    ap (λ texts. slice_get texts (9 + c.in_ok-index.index)) (sym c.self.view_is)
    ∙ stored_text_at_position fixed_texts c.self.inside.others.keys c.args.bytes.now c.in_ok-index.index (sym c.in_ok-index.ensures.index)
