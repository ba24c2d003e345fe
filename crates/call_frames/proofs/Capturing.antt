-- What a capture finds and makes.
use Rattle.std.proofs.Common.{◌≡◌, ℕ, List, insert, Option, Some, None, sym, ◌∙◌, ap}
use Rattle.std.specs.Option.{option_map_or}
use Rattle.value_model.specs.declared.ids.CellId.{CellId}
use Rattle.value_model.specs.declared.ids.Owner.{Owner}
use Rattle.value_model.specs.declared.value.Value.{Value}
use Rattle.value_arena.specs.Arenas.{ArenaView, next_cell, new_cell}
use Rattle.call_frames.specs.declared.frame.OpenCell.{OpenCell}
use Rattle.call_frames.specs.Stacks.{StackView, Rises}
use Rattle.call_frames.specs.Cells.{cell_on, opened, lower, on_place, captured, register_at}
use Rattle.call_frames.proofs.Searching.{on_place_is, opened_is}

-- what was found at the place
pub found_on : (r end : ℕ) (cells xs ys : List OpenCell) (at : ℕ) (q : Option CellId) → Rises 0 end cells → xs ≡ cells → ys ≡ cells → at ≡ lower r xs → q ≡ on_place r ys at → q ≡ cell_on r cells
found_on r end cells xs ys at q rises x y i e =
    e ∙ ap (λ at. on_place r ys at) (i ∙ ap (lower r) x) ∙ ap (λ ys. on_place r ys (lower r cells)) y ∙ on_place_is r 0 end cells rises

pub captured_there : (s : StackView) (a : ArenaView) (w : Owner) (r : ℕ) (c : CellId) → cell_on r s.cells ≡ Some c → (c, s, a) ≡ captured s a w r
unfolding captured
captured_there s a w r c e =
    sym (ap (λ q. option_map_or (λ c. (c, s, a)) q (next_cell a w, record s { cells = opened r (next_cell a w) s.cells }, new_cell a w (register_at s r))) e)

captured_fresh : (s : StackView) (a : ArenaView) (w : Owner) (r : ℕ) → cell_on r s.cells ≡ None → (next_cell a w, record s { cells = opened r (next_cell a w) s.cells }, new_cell a w (register_at s r)) ≡ captured s a w r
unfolding captured
captured_fresh s a w r e =
    sym (ap (λ q. option_map_or (λ c. (c, s, a)) q (next_cell a w, record s { cells = opened r (next_cell a w) s.cells }, new_cell a w (register_at s r))) e)

pub cells_made : (r : ℕ) (c : CellId) (cells xs ys cells' : List OpenCell) (at : ℕ) → at ≡ lower r xs → xs ≡ cells → ys ≡ cells → cells' ≡ insert ys at (record { register = r; cell = c }) → cells' ≡ opened r c cells
cells_made r c cells xs ys cells' at i x y e =
    e ∙ ap (λ ys. insert ys at (record { register = r; cell = c })) y
    ∙ ap (λ at. insert cells at (record { register = r; cell = c })) (i ∙ ap (lower r) x) ∙ opened_is r c cells

pub captured_made : (s : StackView) (a a' : ArenaView) (w : Owner) (r : ℕ) (c : CellId) (cells : List OpenCell) (v : Value) → cell_on r s.cells ≡ None → c ≡ next_cell a w → cells ≡ opened r c s.cells → v ≡ register_at s r → a' ≡ new_cell a w v → (c, record s { cells = cells }, a') ≡ captured s a w r
captured_made s a a' w r c cells v none i is read made =
    ap (λ cells. (c, record s { cells = cells }, a')) is
    ∙ ap (λ c. (c, record s { cells = opened r c s.cells }, a')) i
    ∙ ap (λ a'. (next_cell a w, record s { cells = opened r (next_cell a w) s.cells }, a')) (made ∙ ap (new_cell a w) read)
    ∙ captured_fresh s a w r none
