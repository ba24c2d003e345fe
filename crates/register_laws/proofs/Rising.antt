-- The functions of a numbered tree are noted by numbers that rise: so each is found.
use Rattle.std.proofs.Common.{◌≡◌, ℕ, ◌+◌, ◌≤◌, ◌<◌, true, false, List, [], ◌∷◌, ◌++◌, nat_eq, refl, sym, ap, subst, arith}
use Rattle.std.proofs.lemmas.Bool.Decides.{nat_tests}
use Rattle.syntax_tree.specs.declared.tree.FuncBody.{FuncBody, out-FuncBody}
use Rattle.syntax_tree.specs.declared.tree.Tree.{Tree}
use Rattle.scope_laws.specs.Sight.{Sight, Part, expr, stat, function, arm, expr_arm, field, block, in_part, Within, itself, next, enter, Sees}
use Rattle.scope_laws.specs.Sight as sight
use Rattle.scope_laws.proofs.Walks.{Walk, HasNumber, inner, done, passed}
use Rattle.scope_laws.proofs.Numbering.{script_walk}
use Rattle.function_registers.specs.declared.walk.FuncRegisters.{FuncRegisters}
use Rattle.function_registers.specs.Registers.{registers_for, registers_in, registers_of, all_entries, own_entry}
use Rattle.register_laws.specs.Laws.{RegistersFound}
use Rattle.register_laws.proofs.Noted.{own, noted, all_noted, part_noted}

-- the numbers rise from n on, below m
abbrev pub Rise : (n : ℕ) → List FuncRegisters → (m : ℕ) → Type 0
Rise n [] m = n ≤ m
Rise n (e ∷ es) m = (n ≤ e.func) × Rise (e.func + 1) es m

rise_later : (n k : ℕ) (es : List FuncRegisters) (m : ℕ) → n ≤ k → Rise k es m → Rise n es m
rise_later n k [] m le h = omega (arith, le, h)
rise_later n k (e ∷ es) m le h = let a = h.0 in (omega (arith, le, a), h.1)

rise_both : (n k : ℕ) (xs ys : List FuncRegisters) (m : ℕ) → Rise n xs k → Rise k ys m → Rise n (xs ++ ys) m
rise_both n k [] ys m a b = rise_later n k ys m a b
rise_both n k (x ∷ xs) ys m a b = (a.0, rise_both (x.func + 1) k xs ys m a.1 b)

own_rise : (p : Part) (n : ℕ) → HasNumber p n → Rise n (own p) (inner p n)
own_rise (expr e) n h = omega arith
own_rise (stat s) n h = omega arith
own_rise (function f) n h = (omega (arith, h), omega (arith, h))
own_rise (arm a) n h = omega arith
own_rise (expr_arm a) n h = omega arith
own_rise (field f) n h = omega arith
own_rise (block names body) n h = omega arith

walk_rise : {n m : ℕ} {ps : List Part} → Walk n ps m → Rise n (all_noted ps) m
walk_rise (done n) = omega arith
walk_rise (passed n k m p ps number inside rest) =
    let within = walk_rise (inside sight.nothing) in
    let here : Rise n (noted p) k = subst (λ l. Rise n l k) (sym (part_noted p sight.nothing)) (rise_both n (inner p n) (own p) (all_noted (in_part p sight.nothing).parts) k (own_rise p n number) within) in
    rise_both n k (noted p) (all_noted ps) m here (walk_rise rest)

-- each entry of some is found in a list
abbrev Finds : List FuncRegisters → List FuncRegisters → Type 0
Finds all [] = Unit {0}
Finds all (e ∷ es) = (registers_in e.func all ≡ e.registers) × Finds all es

finds_front : (all xs ys : List FuncRegisters) → Finds all (xs ++ ys) → Finds all xs
finds_front all [] ys h = tt
finds_front all (x ∷ xs) ys h = (h.0, finds_front all xs ys h.1)

finds_behind : (all xs ys : List FuncRegisters) → Finds all (xs ++ ys) → Finds all ys
finds_behind all [] ys h = h
finds_behind all (x ∷ xs) ys h = finds_behind all xs ys h.1

-- an entry before all others of a list changes nothing for these
finds_more : (e : FuncRegisters) (all es : List FuncRegisters) (n m : ℕ) → e.func < n → Rise n es m → Finds all es → Finds (e ∷ all) es
finds_more e all [] n m lt r h = tt
finds_more e all (x ∷ es) n m lt r h =
    let a = r.0 in
    let differ : nat_eq e.func x.func ≡ false = apart e.func x.func (omega (arith, lt, a)) in
    (rw differ h.0, finds_more e all es (x.func + 1) m (omega (arith, lt, a)) r.1 h.1)
  where
    apart : (a b : ℕ) → a < b → nat_eq a b ≡ false
    apart a b q = grind (arith, nat_tests, q)

finds_itself : (es : List FuncRegisters) (n m : ℕ) → Rise n es m → Finds es es
finds_itself [] n m r = tt
finds_itself (e ∷ es) n m r =
    let same : nat_eq e.func e.func ≡ true = alike e.func in
    (rw same refl, finds_more e es es (e.func + 1) m (omega arith) r.1 (finds_itself es (e.func + 1) m r.1))
  where
    alike : (a : ℕ) → nat_eq a a ≡ true
    alike a = grind (arith, nat_tests)

-- what stands in a script is noted there
within_found : {from : Sight} {whole : Part} {s : Sight} {ps : List Part} (all : List FuncRegisters) → Finds all (noted whole) → Within from whole s ps → Finds all (all_noted ps)
within_found {whole = whole} all h itself = subst (Finds all) (nil_behind (noted whole)) h
  where
    nil_behind : (xs : List FuncRegisters) → xs ≡ xs ++ []
    nil_behind [] = refl
    nil_behind (x ∷ xs) = ap (λ l. x ∷ l) (nil_behind xs)
within_found all h (next s p ps w) = finds_behind all (noted p) (all_noted ps) (within_found all h w)
within_found all h (enter s p ps w) =
    let here = finds_front all (noted p) (all_noted ps) (within_found all h w) in
    finds_behind all (own p) (all_noted (in_part p s).parts) (subst (Finds all) (part_noted p s) here)

found_in : (main : FuncBody) (s : Sight) (f : FuncBody) (after : List Part) (n m : ℕ) → Rise n (all_entries main) m → Sees main s (function f ∷ after) → registers_of main (out-FuncBody f).id ≡ registers_for f
found_in main s f after n m r w =
    let all = all_entries main in
    let here = within_found all (finds_itself all n m r) w in
    (finds_front all (own_entry f) _ here).0

first_rise : (main : FuncBody) (n m : ℕ) → Walk n (function main ∷ []) m → Rise n (all_entries main) m
first_rise main n m w = subst (λ l. Rise n l m) (nil_behind (all_entries main)) (walk_rise w)
  where
    nil_behind : (xs : List FuncRegisters) → xs ++ [] ≡ xs
    nil_behind [] = refl
    nil_behind (x ∷ xs) = ap (λ l. x ∷ l) (nil_behind xs)

pub registers_found : RegistersFound
registers_found main tree s f after is w =
    let walk : Walk 0 (function tree.main ∷ []) tree.nodes = subst (λ (t : Tree). Walk 0 (function t.main ∷ []) t.nodes) (sym is) (script_walk main) in
    found_in tree.main s f after 0 tree.nodes (first_rise tree.main 0 tree.nodes walk) w
