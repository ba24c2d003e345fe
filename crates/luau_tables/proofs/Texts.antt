-- Texts of objects, by their places.
use Rattle.std.proofs.Common.{◌≡◌, ◌≢◌, ℕ, zero, suc, ◌-◌, ◌++◌, codes, decimal, refl, sym, ◌∙◌, ap, arith}
use Rattle.std.proofs.lemmas.Fmt.{decimal_digit}
use Rattle.std.specs.Prelude.{Bool, true, false, if◌then◌else◌}
use Rattle.value_model.specs.Names.{GlobalTable, StringMetatable, Path, shared_name, path_among, text_of, own_name, closure_name, library_name}
use Rattle.value_model.specs.Paths.{path_of}
use Rattle.value_model.specs.Store.{Globals, same_table}
use Rattle.value_model.specs.Values.{Bytes, TableRef}
use Rattle.value_model.specs.declared.kind.Kind.TheVariants as kind
use Rattle.value_model.specs.declared.builtin.Builtin.{Builtin}
use Rattle.value_model.specs.declared.builtin.Builtin.TheVariants as builtin

pub own_text : (place : ℕ) → place ≢ 0 → place ≢ 1 → text_of (own_name place) ≡ codes "table: " ++ decimal (place - 1)
unfolding text_of
own_text zero a b = absurd (a refl)
own_text (suc zero) a b = absurd (b refl)
own_text (suc (suc n)) a b = let less : suc n ≡ suc (suc n) - 1 = omega arith in ap (λ m. codes "table: " ++ decimal m) less

pub function_text : (place : ℕ) → text_of (closure_name place) ≡ codes "function: " ++ decimal place
unfolding text_of
function_text zero = ap (λ d. codes "function: " ++ d) (sym (decimal_digit 0 (omega arith)))
function_text (suc n) = refl

pub library_text : (b : Builtin) → text_of (library_name b) ≡ codes "function: " ++ path_of b
unfolding text_of
library_text builtin.IpairsIterator = refl
library_text _ = refl

-- a table that no script owns
abbrev shared_by : Bool → Bool → Bytes → Bytes
shared_by global strings path = text_of (if global then GlobalTable else if strings then StringMetatable else Path kind.Table path)

pub global_text : (g : Globals) (t : TableRef) → true ≡ same_table t g.table → codes "table: global" ≡ text_of (shared_name g t)
unfolding text_of
global_text g t e = ap (λ b. shared_by b (same_table t g.string_meta) (path_among g.paths t)) e

pub strings_text : (g : Globals) (t : TableRef) → false ≡ same_table t g.table → true ≡ same_table t g.string_meta → codes "table: string metatable" ≡ text_of (shared_name g t)
unfolding text_of
strings_text g t e f = ap (λ b. shared_by false b (path_among g.paths t)) f ∙ ap (λ b. shared_by b (same_table t g.string_meta) (path_among g.paths t)) e

pub path_text : (g : Globals) (t : TableRef) → false ≡ same_table t g.table → false ≡ same_table t g.string_meta → codes "table: " ++ path_among g.paths t ≡ text_of (shared_name g t)
unfolding text_of
path_text g t e f = ap (λ b. shared_by false b (path_among g.paths t)) f ∙ ap (λ b. shared_by b (same_table t g.string_meta) (path_among g.paths t)) e
