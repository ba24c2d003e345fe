-- What a call's answer says of the part around.
use Rattle.std.proofs.Common.{◌≡◌, ◌+◌, ℕ, suc, List, Result, Ok, Err, MatchResult, subst, arith}
use Rattle.syntax_tree.specs.declared.token.Token.{Token}
use Rattle.syntax_tree.specs.declared.token.TokenKind.{TokenKind}
use Rattle.syntax_tree.specs.Places.{Has, Lacks}
use Rattle.type_skip.specs.declared.fault.Fault.{Fault}
use Rattle.type_skip.specs.declared.fault.Fault.TheVariants.{Unexpected}
use Rattle.type_skip.specs.Reading.{IsStuck, Fails, Reads}
use Rattle.type_skip.specs.Inner.{ReadsAs}
use Rattle.type_skip.proofs.Leading.{Exactly, LeadsIn, exactly_fails, leads_in_fails, same_self}

-- a part is read as another is
pub reads_through : {Q P : List Token → (n i j : ℕ) → Type 0} {ts : List Token} {n m i at : ℕ} (r : Result ℕ Fault) → ((j : ℕ) → P ts n at j → Q ts m i j) → ((f : Fault) → Fails P ts n at f → Fails Q ts m i f) → Reads P ts n at r → Reads Q ts m i r
reads_through (Ok j) good bad h = good j h
reads_through (Err f) good bad h = bad f h

pub reads_exactly : {Q P : List Token → (n i j : ℕ) → Type 0} {ts : List Token} {n i at : ℕ} (r : Result ℕ Fault) → Exactly Q P ts n i at → Reads P ts n at r → Reads Q ts n i r
reads_exactly {ts = ts} {n = n} (Ok j) lead h = lead.forth ts n j (omega arith) (same_self ts) h
reads_exactly (Err f) lead h = exactly_fails lead f h

-- a symbol is to stand at a place
pub reads_closed : {P : List Token → (n i j : ℕ) → Type 0} {ts : List Token} {n i : ℕ} (kind : TokenKind) (k : ℕ) (r : Result ℕ Fault) → (Has ts k kind → P ts n i (k + 1)) → (Lacks ts k kind → IsStuck P ts n i k) → MatchResult r (λ b. Has ts k kind × (b ≡ k + 1)) (λ e. Lacks ts k kind × (e ≡ Unexpected k)) → Reads P ts n i r
reads_closed {P = P} {ts = ts} {n = n} {i = i} kind k (Ok j) good bad h = rw h.1 (good h.0)
reads_closed {P = P} {ts = ts} {n = n} {i = i} kind k (Err f) good bad h = rw h.1 (bad h.0)

-- a part in one more bracket
pub fails_in : {Q P : List Token → (n i j : ℕ) → Type 0} {tail : List TokenKind} {ts : List Token} {n i at : ℕ} (m : ℕ) → n + 1 ≡ m → LeadsIn Q P tail ts n i at → (f : Fault) → Fails P ts n at f → Fails Q ts m i f
fails_in {Q = Q} {ts = ts} {n = n} {i = i} m e lead f h =
    let room : suc n ≡ m = omega (arith, e) in
    subst (λ (x : ℕ). Fails Q ts x i f) room (leads_in_fails lead f h)

pub reads_in : {Q P : List Token → (n i j : ℕ) → Type 0} {tail : List TokenKind} {ts : List Token} {n i at : ℕ} (m : ℕ) (r : Result ℕ Fault) → n + 1 ≡ m → LeadsIn Q P tail ts n i at → ((j : ℕ) → P ts n at j → Q ts (suc n) i j) → Reads P ts n at r → Reads Q ts m i r
reads_in {Q = Q} {ts = ts} {n = n} {i = i} m (Ok j) e lead good h =
    let room : suc n ≡ m = omega (arith, e) in
    subst (λ (x : ℕ). Q ts x i j) room (good j h)
reads_in m (Err f) e lead good h = fails_in m e lead f h

pub room_fails : (P : List Token → (n i j : ℕ) → Type 0) (ts : List Token) (n i m : ℕ) → n + 1 ≡ m → (f : Fault) → Fails P ts (suc n) i f → Fails P ts m i f
room_fails P ts n i m e f h =
    let room : suc n ≡ m = omega (arith, e) in
    subst (λ (x : ℕ). Fails P ts x i f) room h

pub reads_as : {Good : ℕ → Type 0} {Q P : List Token → (n i j : ℕ) → Type 0} {ts : List Token} {n m i at : ℕ} (r : Result ℕ Fault) → ((j : ℕ) → P ts n at j → Good j) → ((f : Fault) → Fails P ts n at f → Fails Q ts m i f) → Reads P ts n at r → ReadsAs Good Q ts m i r
reads_as (Ok j) good bad h = good j h
reads_as (Err f) good bad h = bad f h
