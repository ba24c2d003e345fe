-- A number past the fixed texts is that of a vector that is stored.
use Rattle.std.proofs.Common.{◌≡◌, ◌+◌, ◌-◌, ◌<◌, length, slice_get, get_or, arith, sym, ap, subst, ◌∙◌, length-append, Some}
use Rattle.std.proofs.lemmas.List.{length-map}
use Rattle.byte_text.specs.Texts.{fixed_texts, with_stored}
use Rattle.byte_text.proofs.Numbering.{items_of, stored_text_read}
use Rattle.byte_text.proofs.interner.Interner.bytes.Goals as goal

pub returns-else-id-lt-FIXED_LEN-clause-text : goal.returns-else-id-lt-FIXED_LEN-clause-text
returns-else-id-lt-FIXED_LEN-clause-text c =
    let stored = c.self.inside.others.keys in
    let len : length (with_stored stored) ≡ 9 + length stored = length-append fixed_texts (items_of stored) ∙ ap (λ n. 9 + n) (length-map stored (λ v. v.items)) in
    let within : c.args.id.0 - 9 < length stored = omega (arith, len, ap length c.self.view_is, c.requires) in
    let read : c.index-as_slice-id.result ≡ get_or stored (c.args.id.0 - 9) c.index-as_slice-id.result = subst (λ l. c.index-as_slice-id.result ≡ get_or l (c.args.id.0 - 9) c.index-as_slice-id.result) c.as_slice.ensures.keys c.index-as_slice-id.is in
    let text : slice_get (with_stored stored) c.args.id.0 ≡ Some c.index-as_slice-id.result.items
    = stored_text_read fixed_texts stored c.args.id.0 (c.args.id.0 - 9) c.index-as_slice-id.result (omega (arith, c.if-id-lt-FIXED_LEN.false)) within read in
    ap (λ texts. slice_get texts c.args.id.0) (sym c.self.view_is) ∙ text ∙ ap Some (sym c.as_slice-else-id-lt-FIXED_LEN.ensures.value)
