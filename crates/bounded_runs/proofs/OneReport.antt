-- A run has one report.
use Rattle.std.proofs.Common.{◌≡◌, ℕ, zero, suc, [], List, Some}
use Rattle.bounded_runs.specs.Runs.{Stamped, Report, Move, Goes, Shows, Charges, Ends, Rest, after, run, Reports}

module _ (E N S : Type 0) (step : S → Move E N S) where
  -- two ways to go on never give two reports
  AgreeOn : Rest E N S → Rest E N S → Type 0
  AgreeOn f g = (left spent : ℕ) (out : List (Stamped E)) (notes : List N) (s : S) (r q : Report E N) → f left spent out notes s ≡ Some r → g left spent out notes s ≡ Some q → r ≡ q

  agree_after : (f g : Rest E N S) → AgreeOn f g → (m : Move E N S) (left spent : ℕ) (out : List (Stamped E)) (notes : List N) (r q : Report E N) → after m f left spent out notes ≡ Some r → after m g left spent out notes ≡ Some q → r ≡ q
  unfolding AgreeOn
  agree_after f g h (Goes ns s) left spent out notes r q a b = h left spent out _ s r q a b
  agree_after f g h (Shows ns e s) left spent out notes r q a b = h left spent _ _ s r q a b
  agree_after f g h (Charges s) zero spent out notes r q a b = cc
  agree_after f g h (Charges s) (suc left) spent out notes r q a b = h left (suc spent) out notes s r q a b
  agree_after f g h (Ends ns e) left spent out notes r q a b = cc

  agree : (k l : ℕ) → AgreeOn (run step k) (run step l)
  unfolding AgreeOn
  agree zero l left spent out notes s r q a b = cc
  agree (suc k) zero left spent out notes s r q a b = cc
  agree (suc k) (suc l) left spent out notes s r q a b =
      agree_after (run step k) (run step l) (agree k l) (step s) left spent out notes r q a b

  pub one_report : (s : S) (n : ℕ) (r q : Report E N) → Reports step s n r → Reports step s n q → r ≡ q
  unfolding AgreeOn
  one_report s n r q a b = agree a.0 b.0 n 0 [] [] s r q a.1 b.1
