-- Borders.
use Rattle.std.proofs.Common.{◌≡◌, ℕ, ◌≤◌, length, ap, arith}
use Rattle.value_arena.specs.Tables.{TableView, border_of}
use Rattle.value_arena.proofs.Borders.{as_many, border_found}

-- a border is at most as far as there are entries
pub border_few : (t u : TableView) → u ≡ t → (n m : ℕ) → n ≡ length u.entries → m ≡ border_of t.entries → m ≤ n
border_few t u e n m f h =
    let few : border_of t.entries ≤ length t.entries = as_many t.entries (border_of t.entries) (border_found t.entries).0 in
    omega (arith, few, f, h, ap (λ (t : TableView). length t.entries) e)
