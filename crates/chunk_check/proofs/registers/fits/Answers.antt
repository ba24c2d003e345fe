use Rattle.std.proofs.Common.{◌≡◌, ◌≢◌, sym, ap, ◌∙◌, ℕ, ◌+◌, true, false, ◌||◌, nat_eq, nat_le, arith}
use Rattle.std.proofs.lemmas.Bool.Decides.{nat_tests}
use Rattle.machine_meaning.specs.Needs.{fits_range}
use Rattle.chunk_check.proofs.registers.fits.Goals as goal

-- no register fits anywhere
none : (count from many : ℕ) → many ≡ 0 → true ≡ fits_range count (from, many)
none count from many e = sym (ap (λ n. fits_range count (from, n)) e)

some : (count from many : ℕ) → nat_eq many 0 ≡ false → nat_le (from + many) count ≡ fits_range count (from, many)
some count from many e = sym (ap (λ b. b || nat_le (from + many) count) e)

not_zero : (n : ℕ) → n ≢ 0 → nat_eq n 0 ≡ false
not_zero n h = grind (arith, nat_tests)

pub returns-then-many-eq0 : goal.returns-then-many-eq0
returns-then-many-eq0 c = none c.args.count c.args.from c.args.many c.if-many-eq0.true

pub returns : goal.returns
returns c =
    ap (λ n. nat_le (c.args.from + c.args.many) n) c.from.ensures
    ∙ some c.args.count c.args.from c.args.many (not_zero c.args.many c.if-many-eq0.false)
