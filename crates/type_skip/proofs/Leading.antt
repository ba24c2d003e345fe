-- One part leads to another: the reading of the one fails where that of the other does.
use Rattle.std.proofs.Common.{◌≡◌, ◌≤◌, ◌+◌, ℕ, suc, true, List, [], ◌∷◌, ◌++◌, length, Some, None, IsTrue, refl, ap, subst, ◌∙◌, arith}
use Rattle.syntax_tree.specs.declared.token.Token.{Token}
use Rattle.syntax_tree.specs.declared.token.TokenKind.{TokenKind}
use Rattle.syntax_tree.specs.Places.{kind_at}
use Rattle.type_skip.specs.declared.fault.Fault.{Fault}
use Rattle.type_skip.specs.declared.fault.Fault.TheVariants.{Unexpected, TooDeep}
use Rattle.type_skip.specs.Brackets.{brackets}
use Rattle.type_skip.specs.Reading.{SameBelow, ends_type, Writes, Fails}
use Rattle.type_skip.proofs.Counting.{brackets_grow}

pub same_below : (ts us : List Token) (i j : ℕ) → i ≤ j → SameBelow j ts us → SameBelow i ts us
same_below ts us i j le same = λ q less. same q (omega arith)

pub same_self : {k : ℕ} (ts : List Token) → SameBelow k ts ts
same_self ts = λ q less. refl

-- what the list begins with goes on with no type
abbrev pub ends_first : List TokenKind → Type 0
ends_first [] = ends_type None ≡ true
ends_first (kind ∷ kinds) = IsTrue (ends_type (Some kind))

stops : (us : List Token) (k : ℕ) (tail : List TokenKind) (e : ℕ) → ends_first tail → Writes us k tail e → IsTrue (ends_type (kind_at us k))
stops us k [] e h w = w.1
stops us k (kind ∷ kinds) e h w = ap ends_type w.0 ∙ h

pub split : (us : List Token) (k : ℕ) (kinds tail : List TokenKind) (e : ℕ) → ends_first tail → Writes us k (kinds ++ tail) e → (j : ℕ) × Writes us k kinds j × Writes us j tail e
split us k [] tail e h w = (k, (refl, stops us k tail e h w), w)
split us k (kind ∷ kinds) tail e h w = let rest = split us (k + 1) kinds tail e h w.1 in (rest.0, (w.0, rest.1), rest.2)

-- Q from place i on begins with what was read up to place `at`, then has P, and may end with the tail
pub record Leads (Q P : List Token → (n i j : ℕ) → Type 0) (tail : List TokenKind) (ts : List Token) (n i at : ℕ) : Type 0 where
  pub from : i ≤ at
  pub reached : i ≤ length ts → at ≤ length ts
  pub ends : ends_first tail
  pub forth : (us : List Token) (m j e : ℕ) → n ≤ m → SameBelow at ts us → P us m at j → Writes us j tail e → Q us m i e
  pub back : (us : List Token) (m j : ℕ) → SameBelow (at + 1) ts us → Q us m i j → (k : ℕ) × P us m at k

-- the same, where P stands in one more bracket
pub record LeadsIn (Q P : List Token → (n i j : ℕ) → Type 0) (tail : List TokenKind) (ts : List Token) (n i at : ℕ) : Type 0 where
  pub from : i ≤ at
  pub opened : brackets ts i + 1 ≤ brackets ts at
  pub reached : i ≤ length ts → at ≤ length ts
  pub ends : ends_first tail
  pub forth : (us : List Token) (m j e : ℕ) → n ≤ m → SameBelow at ts us → P us m at j → Writes us j tail e → Q us (suc m) i e
  pub back : (us : List Token) (m j : ℕ) → SameBelow (at + 1) ts us → Q us m i j → (l k : ℕ) × (m ≡ suc l) × P us l at k

-- the same, where Q ends where P does
pub record Exactly (Q P : List Token → (n i j : ℕ) → Type 0) (ts : List Token) (n i at : ℕ) : Type 0 where
  pub from : i ≤ at
  pub reached : i ≤ length ts → at ≤ length ts
  pub forth : (us : List Token) (m j : ℕ) → n ≤ m → SameBelow at ts us → P us m at j → Q us m i j
  pub back : (us : List Token) (m j : ℕ) → SameBelow (at + 1) ts us → Q us m i j → P us m at j

pub leads_fails : {Q P : List Token → (n i j : ℕ) → Type 0} {tail : List TokenKind} {ts : List Token} {n i at : ℕ} → Leads Q P tail ts n i at → (f : Fault) → Fails P ts n at f → Fails Q ts n i f
leads_fails {tail = tail} {ts = ts} {at = at} lead (Unexpected k) f = record {
  from = omega (arith, lead.from, f.from);
  reached = λ le. f.reached (lead.reached le);
  none = λ us m j same q. let p = lead.back us m j (same_below ts us (at + 1) (k + 1) (omega (arith, f.from)) same) q in f.none us m p.0 same p.1;
  before = record {
    kinds = f.before.kinds ++ tail;
    whole = λ us e same w. let s = split us k f.before.kinds tail e lead.ends w in lead.forth us _ s.0 e (omega arith) (same_below ts us at k f.from same) (f.before.whole us s.0 same s.1) s.2;
  };
}
leads_fails {tail = tail} {ts = ts} {n = n} {i = i} {at = at} lead (TooDeep k) f = record {
  from = omega (arith, lead.from, f.from);
  there = f.there;
  many = omega (arith, brackets_grow ts i at lead.from, f.many);
  none = λ us j same q. let p = lead.back us n j (same_below ts us (at + 1) (k + 1) (omega (arith, f.from)) same) q in f.none us p.0 same p.1;
  before = record {
    kinds = f.before.kinds ++ tail;
    whole = λ us e same w. let s = split us k f.before.kinds tail e lead.ends w in lead.forth us _ s.0 e (omega arith) (same_below ts us at k f.from same) (f.before.whole us s.0 same s.1) s.2;
  };
  deeper = record {
    kinds = f.deeper.kinds ++ tail;
    whole = λ us e same w. let s = split us (k + 1) f.deeper.kinds tail e lead.ends w in lead.forth us (suc n) s.0 e (omega arith) (same_below ts us at (k + 1) (omega (arith, f.from)) same) (f.deeper.whole us s.0 same s.1) s.2;
  };
}

pub leads_in_fails : {Q P : List Token → (n i j : ℕ) → Type 0} {tail : List TokenKind} {ts : List Token} {n i at : ℕ} → LeadsIn Q P tail ts n i at → (f : Fault) → Fails P ts n at f → Fails Q ts (suc n) i f
leads_in_fails {tail = tail} {ts = ts} {n = n} {at = at} lead (Unexpected k) f = record {
  from = omega (arith, lead.from, f.from);
  reached = λ le. f.reached (lead.reached le);
  none = λ us m j same q. let p = lead.back us m j (same_below ts us (at + 1) (k + 1) (omega (arith, f.from)) same) q in f.none us p.0 p.1 same p.3;
  before = record {
    kinds = f.before.kinds ++ tail;
    whole = λ us e same w. let s = split us k f.before.kinds tail e lead.ends w in lead.forth us n s.0 e (omega arith) (same_below ts us at k f.from same) (f.before.whole us s.0 same s.1) s.2;
  };
}
leads_in_fails {P = P} {tail = tail} {ts = ts} {n = n} {i = i} {at = at} lead (TooDeep k) f = record {
  from = omega (arith, lead.from, f.from);
  there = f.there;
  many = omega (arith, lead.opened, f.many);
  none = λ us j same q.
      let p = lead.back us (suc n) j (same_below ts us (at + 1) (k + 1) (omega (arith, f.from)) same) q in
      let room : p.0 ≡ n = omega (arith, p.2) in
      f.none us p.1 same (subst (λ (l : ℕ). P us l at p.1) room p.3);
  before = record {
    kinds = f.before.kinds ++ tail;
    whole = λ us e same w. let s = split us k f.before.kinds tail e lead.ends w in lead.forth us n s.0 e (omega arith) (same_below ts us at k f.from same) (f.before.whole us s.0 same s.1) s.2;
  };
  deeper = record {
    kinds = f.deeper.kinds ++ tail;
    whole = λ us e same w. let s = split us (k + 1) f.deeper.kinds tail e lead.ends w in lead.forth us (suc n) s.0 e (omega arith) (same_below ts us at (k + 1) (omega (arith, f.from)) same) (f.deeper.whole us s.0 same s.1) s.2;
  };
}

pub exactly_fails : {Q P : List Token → (n i j : ℕ) → Type 0} {ts : List Token} {n i at : ℕ} → Exactly Q P ts n i at → (f : Fault) → Fails P ts n at f → Fails Q ts n i f
exactly_fails {ts = ts} {n = n} {at = at} lead (Unexpected k) f = record {
  from = omega (arith, lead.from, f.from);
  reached = λ le. f.reached (lead.reached le);
  none = λ us m j same q. f.none us m j same (lead.back us m j (same_below ts us (at + 1) (k + 1) (omega (arith, f.from)) same) q);
  before = record {
    kinds = f.before.kinds;
    whole = λ us e same w. lead.forth us n e (omega arith) (same_below ts us at k f.from same) (f.before.whole us e same w);
  };
}
exactly_fails {ts = ts} {n = n} {i = i} {at = at} lead (TooDeep k) f = record {
  from = omega (arith, lead.from, f.from);
  there = f.there;
  many = omega (arith, brackets_grow ts i at lead.from, f.many);
  none = λ us j same q. f.none us j same (lead.back us n j (same_below ts us (at + 1) (k + 1) (omega (arith, f.from)) same) q);
  before = record {
    kinds = f.before.kinds;
    whole = λ us e same w. lead.forth us n e (omega arith) (same_below ts us at k f.from same) (f.before.whole us e same w);
  };
  deeper = record {
    kinds = f.deeper.kinds;
    whole = λ us e same w. lead.forth us (suc n) e (omega arith) (same_below ts us at (k + 1) (omega (arith, f.from)) same) (f.deeper.whole us e same w);
  };
}

pub exactly_self : (P : List Token → (n i j : ℕ) → Type 0) (ts : List Token) (n i : ℕ) → Exactly P P ts n i i
exactly_self P ts n i = record { from = omega arith; reached = λ le. le; forth = λ us m j le same p. p; back = λ us m j same p. p }

pub exactly_then : {Q P R : List Token → (n i j : ℕ) → Type 0} {ts : List Token} {n i j k : ℕ} → Exactly Q P ts n i j → Exactly P R ts n j k → Exactly Q R ts n i k
exactly_then {ts = ts} {j = j} {k = k} a b = record {
  from = omega (arith, a.from, b.from);
  reached = λ le. b.reached (a.reached le);
  forth = λ us m e le same r. a.forth us m e le (same_below ts us j k b.from same) (b.forth us m e le same r);
  back = λ us m e same q. b.back us m e same (a.back us m e (same_below ts us (j + 1) (k + 1) (omega (arith, b.from)) same) q);
}
