-- What the map of a table holds after a write.
use Rattle.std.proofs.Common.{◌≡◌, ℕ, false, cond, [], ◌∷◌, ◌++◌, Some, None, slice_get, refl, sym, ◌∙◌, ap}
use Rattle.std.specs.List.{IsDistinct}
use Rattle.std.specs.Map.{keys_of}
use Rattle.indexmap.specs.IndexMap.{insert_entry, set_value_at}
use Rattle.indexmap.proofs.MapLemmas.{Missing-position, insert_entry-absent}
use Rattle.value_model.specs.declared.value.Value.{Value}
use Rattle.value_model.specs.declared.value.Value.TheVariants.{Nil}
use Rattle.value_arena.specs.Tables.{Entries, same, is_nil, place_of}
use Rattle.value_arena.proofs.Sameness.{is_value}
use Rattle.value_arena.proofs.InOrder.{first_at}
use Rattle.value_arena.proofs.Places.{found_written, absent_written}
use Rattle.value_arena.proofs.Borders.{put}

-- a key that is not there goes last
pub inserted : (es : Entries) (key v : Value) → place_of key es ≡ None → insert_entry same es key v ≡ es ++ (key, v) ∷ []
inserted es key v none = insert_entry-absent same key v es (Missing-position (same key) es none).absent

pub pushed : (es : Entries) (key v : Value) → place_of key es ≡ None → is_nil v ≡ false → insert_entry same es key v ≡ put es key v
pushed es key v none full =
    inserted es key v none
    ∙ sym (absent_written same is_nil Nil key v es (Missing-position (same key) es none).absent ∙ ap (λ b. cond b es (es ++ (key, v) ∷ [])) full)

-- a value is written at the place of its key
pub replaced : (es : Entries) (key old v : Value) (i : ℕ) → IsDistinct same (keys_of es) → slice_get es i ≡ Some (key, old) → set_value_at es i v ≡ put es key v
replaced es key old v i distinct at = found_written same is_nil Nil key v es i (first_at key key es i old distinct at (is_value key key refl))
