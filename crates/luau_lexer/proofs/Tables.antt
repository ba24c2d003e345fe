-- The first entry of a table whose spelling passes a test.
use Rattle.std.proofs.Common.{◌≡◌, ℕ, ◌+◌, ◌<◌, ◌≤◌, suc, nat_eq, Bool, true, false, cond, List, [], ◌∷◌, length, map, Option, Some, None, option_map, slice_get, position, refl, sym, ap, subst, ◌∙◌, arith, true≢false, ◌&&◌, nat_lt, length-append}
use Rattle.std.specs.List.{position_from, starts_with}
use Rattle.std.proofs.lemmas.Iterator.Adapters.{position_from-zero}
use Rattle.std.proofs.lemmas.Bool.{ltb-true}
use Rattle.std.proofs.lemmas.Bool.Decides.{Decides-eqb}
use Rattle.std.proofs.lemmas.Slice.Eq.{starts_is}
use Rattle.std.proofs.lemmas.Option.{same_Some, none-some, slice_get-map}
use Rattle.syntax_tree.specs.declared.token.TokenKind.{TokenKind}
use Rattle.luau_lexer.specs.declared.plain.Symbol.{Symbol}
use Rattle.syntax_tree.specs.Plain.{symbols, first_entry, symbol_at}

abbrev pub Entry : Type 0
Entry = List ℕ × TokenKind

-- an entry stands at a place of a table, and is the first that passes
pub record IsFirst (p : List ℕ → Bool) (table : List Entry) (place : ℕ) : Type 0 where
  pub entry : Entry
  pub there : slice_get table place ≡ Some entry
  pub first : first_entry p table ≡ Some entry

first_from : (p : List ℕ → Bool) (table : List Entry) (k i : ℕ) → position_from p k (map (λ e. e.0) table) ≡ Some i → (j : ℕ) × (i ≡ j + k) × IsFirst p table j
first_from p [] k i h = absurd (none-some i h)
first_from p (e ∷ es) k i h = by (p e.0) refl h (first_from p es (k + 1) i)
  where
    by : (t : Bool) → p e.0 ≡ t → cond t (Some k) (position_from p (k + 1) (map (λ e. e.0) es)) ≡ Some i → (position_from p (k + 1) (map (λ e. e.0) es) ≡ Some i → (j : ℕ) × (i ≡ j + (k + 1)) × IsFirst p es j) → (j : ℕ) × (i ≡ j + k) × IsFirst p (e ∷ es) j
    by true is h rest = (0, omega (arith, same_Some k i h), record { entry = e; there = refl; first = ap (λ v. cond v (Some e) (first_entry p es)) is })
    by false is h rest =
        let more = rest h in
        (suc more.0, omega (arith, more.1), record { entry = more.2.entry; there = more.2.there; first = ap (λ v. cond v (Some e) (first_entry p es)) is ∙ more.2.first })

none_from : (p : List ℕ → Bool) (table : List Entry) (k : ℕ) → position_from p k (map (λ e. e.0) table) ≡ None → first_entry p table ≡ None
none_from p [] k h = refl
none_from p (e ∷ es) k h = by (p e.0) refl h (none_from p es (k + 1))
  where
    by : (t : Bool) → p e.0 ≡ t → cond t (Some k) (position_from p (k + 1) (map (λ e. e.0) es)) ≡ None → (position_from p (k + 1) (map (λ e. e.0) es) ≡ None → first_entry p es ≡ None) → first_entry p (e ∷ es) ≡ None
    by true is h rest = absurd (none-some k (sym h))
    by false is h rest = ap (λ v. cond v (Some e) (first_entry p es)) is ∙ rest h

pub first_at : (p : List ℕ → Bool) (table : List Entry) (i : ℕ) → position p (map (λ e. e.0) table) ≡ Some i → IsFirst p table i
first_at p table i h =
    let found = first_from p table 0 i (sym (position_from-zero p (map (λ e. e.0) table)) ∙ h) in
    subst (λ (n : ℕ). IsFirst p table n) (omega (arith, found.1)) found.2

pub none_at : (p : List ℕ → Bool) (table : List Entry) → position p (map (λ e. e.0) table) ≡ None → first_entry p table ≡ None
none_at p table h = none_from p table 0 (sym (position_from-zero p (map (λ e. e.0) table)) ∙ h)

-- the kind and the length that the symbol tables have at a place
pub symbol_there : (bytes : List ℕ) (i len : ℕ) (kind : TokenKind) → position (starts_with nat_eq bytes) (map (λ e. e.0) symbols) ≡ Some i → slice_get (map (λ e. e.1) symbols) i ≡ Some kind → slice_get (map (λ e. length e.0) symbols) i ≡ Some len → (e : Entry) × (symbol_at bytes ≡ Some e) × (kind ≡ e.1) × (len ≡ length e.0)
symbol_there bytes i len kind found kind_is len_is =
    let here = first_at (starts_with nat_eq bytes) symbols i found in
    let there : slice_get symbols i ≡ Some here.entry = here.there in (
      here.entry,
      here.first,
      same_Some kind here.entry.1 (sym kind_is ∙ slice_get-map (λ (e : Entry). e.1) symbols i ∙ ap (option_map (λ (e : Entry). e.1)) there),
      same_Some len (length here.entry.0) (sym len_is ∙ slice_get-map (λ (e : Entry). length e.0) symbols i ∙ ap (option_map (λ (e : Entry). length e.0)) there),
    )

abbrev pub read_symbol : Entry → Symbol
read_symbol e = record { kind = e.1; len = length e.0 }

-- what the tables have at the first symbol's place is the symbol
pub symbol_read : (bytes : List ℕ) (i len : ℕ) (kind : TokenKind) → position (starts_with nat_eq bytes) (map (λ e. e.0) symbols) ≡ Some i → slice_get (map (λ e. e.1) symbols) i ≡ Some kind → slice_get (map (λ e. length e.0) symbols) i ≡ Some len → Some (record { kind = kind; len = len }) ≡ option_map read_symbol (symbol_at bytes)
symbol_read bytes i len kind found kind_is len_is =
    let s = symbol_there bytes i len kind found kind_is len_is in
    let by_kind : Some (record { kind = kind; len = len }) ≡ Some (record { kind = s.0.1; len = len }) = ap (λ k. Some (record { kind = k; len = len })) s.2 in
    by_kind ∙ ap (λ n. Some (record { kind = s.0.1; len = n })) s.3 ∙ sym (ap (option_map read_symbol) s.1)

-- where no symbol's place is found, none stands there
pub symbol_none : (bytes : List ℕ) → position (starts_with nat_eq bytes) (map (λ e. e.0) symbols) ≡ None → None ≡ option_map read_symbol (symbol_at bytes)
symbol_none bytes h = sym (ap (option_map read_symbol) (none_at (starts_with nat_eq bytes) symbols h))

-- ---- what a symbol is, from what was read

-- the entry that was read
pub record IsEntry (s : Symbol) (o : Option Entry) : Type 0 where
  pub entry : Entry
  pub there : o ≡ Some entry
  pub kind : s.kind ≡ entry.1
  pub len : s.len ≡ length entry.0

pub entry_read : (s : Symbol) (o : Option Entry) → Some s ≡ option_map read_symbol o → IsEntry s o
entry_read s None h = absurd (none-some s (sym h))
entry_read s (Some e) h =
    let same = same_Some s (read_symbol e) h in
    record { entry = e; there = refl; kind = ap (λ t. t.kind) same; len = ap (λ t. t.len) same }

pub no_entry_read : (o : Option Entry) → None ≡ option_map read_symbol o → o ≡ None
no_entry_read None h = refl
no_entry_read (Some e) h = absurd (none-some (read_symbol e) h)

all_have_bytes : List Entry → Bool
all_have_bytes [] = true
all_have_bytes (e ∷ es) = nat_lt 0 (length e.0) && all_have_bytes es

-- an entry passes the test, and has bytes where all have
pub record Passes (p : List ℕ → Bool) (e : Entry) : Type 0 where
  pub test : p e.0 ≡ true
  pub some : 0 < length e.0

first_passes : (p : List ℕ → Bool) (table : List Entry) (e : Entry) → all_have_bytes table ≡ true → first_entry p table ≡ Some e → Passes p e
unfolding all_have_bytes
first_passes p [] e all h = absurd (none-some e h)
first_passes p (x ∷ es) e all h = by (nat_lt 0 (length x.0)) refl (p x.0) refl all h (first_passes p es e)
  where
    by : (s : Bool) → nat_lt 0 (length x.0) ≡ s → (t : Bool) → p x.0 ≡ t → (s && all_have_bytes es) ≡ true → cond t (Some x) (first_entry p es) ≡ Some e → (all_have_bytes es ≡ true → first_entry p es ≡ Some e → Passes p e) → Passes p e
    by false some t is all h rest = absurd (true≢false (sym all))
    by true some false is all h rest = rest all h
    by true some true is all h rest =
        subst (Passes p) (same_Some x e h) (record { test = is; some = ltb-true 0 (length x.0) some })

-- a symbol at the front has bytes, and no more than there are
pub symbol_fits : (bytes : List ℕ) (e : Entry) → symbol_at bytes ≡ Some e → (0 < length e.0) × (length e.0 ≤ length bytes)
unfolding all_have_bytes
symbol_fits bytes e h =
    let passed = first_passes (starts_with nat_eq bytes) symbols e refl h in
    let front = (starts_is Decides-eqb bytes e.0 true (sym passed.test)).0 refl in
    (passed.some, omega (arith, ap length front, length-append {A = ℕ}))
