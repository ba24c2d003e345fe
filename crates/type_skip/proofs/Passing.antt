-- What the reading of a type says of the tokens that begin as these.
use Rattle.std.proofs.Common.{◌≡◌, ◌≤◌, ◌<◌, ◌+◌, ℕ, zero, suc, List, [], ◌∷◌, ◌++◌, length, take, Some, None, Result, Ok, Err, option_map, ◌⊎◌, inl, inr, refl, sym, ap, subst, ◌∙◌, arith}
use Rattle.std.specs.Prelude.{unwrap_or}
use Rattle.std.proofs.Math.Seq.{take-length}
use Rattle.std.proofs.lemmas.Bool.{cases_lt}
use Rattle.std.proofs.lemmas.Option.{slice_get_past}
use Rattle.syntax_tree.specs.declared.token.Token.{Token}
use Rattle.syntax_tree.specs.Places.{kind_at}
use Rattle.syntax_tree.specs.Types.{IsType}
use Rattle.type_skip.specs.declared.fault.Fault.{Fault}
use Rattle.type_skip.specs.declared.fault.Fault.TheVariants as fault
use Rattle.type_skip.specs.declared.skipping.TypeErr.{TypeErr}
use Rattle.type_skip.specs.declared.skipping.TypeErr.TheVariants.{Unexpected, TooDeep}
use Rattle.type_skip.specs.Reading.{SameBelow, Completes, IsStuck, Reads}
use Rattle.type_skip.specs.Refusals.{most, IsFirstWrong, EndsEarly, OpensTooMany, IsUnexpected, IsTooDeep, Passes}
use Rattle.syntax_tree.specs.Places.{offset_at, end_of, BeginsAs}
use Rattle.type_skip.proofs.OneType.{one_type}
use Rattle.type_skip.proofs.Leading.{same_self}
use Rattle.type_skip.proofs.GoingOn.{of_kinds, going_on}

-- ---- the tokens before a place

pub kind_taken : (k : ℕ) (ts : List Token) (q : ℕ) → q < k → kind_at (take k ts) q ≡ kind_at ts q
kind_taken zero ts q less = absurd (omega (arith, less))
kind_taken (suc k) [] q less = refl
kind_taken (suc k) (t ∷ ts) zero less = refl
kind_taken (suc k) (t ∷ ts) (suc q) less = kind_taken k ts q (omega (arith, less))

pub same_kinds : (ts us : List Token) (k : ℕ) → BeginsAs ts k us → SameBelow k ts us
same_kinds ts us k e = λ q less. sym (kind_taken k us q less) ∙ ap (λ vs. kind_at vs q) e ∙ kind_taken k ts q less

pub taken_front : (k : ℕ) (ts vs : List Token) → k ≤ length ts → take k (take k ts ++ vs) ≡ take k ts
taken_front zero ts vs le = refl
taken_front (suc k) [] vs le = absurd (omega (arith, le))
taken_front (suc k) (t ∷ ts) vs le = ap (λ xs. t ∷ xs) (taken_front k ts vs (omega (arith, le)))

shorter : (j k : ℕ) (ts us : List Token) → j ≤ k → BeginsAs ts k us → BeginsAs ts j us
shorter zero k ts us le e = refl
shorter (suc j) zero ts us le e = absurd (omega (arith, le))
shorter (suc j) (suc k) [] [] le e = refl
shorter (suc j) (suc k) [] (u ∷ us) le e = absurd cc
shorter (suc j) (suc k) (t ∷ ts) [] le e = absurd cc
shorter (suc j) (suc k) (t ∷ ts) (u ∷ us) le e =
    let heads : u ≡ t = ap (head_or t) e in
    let tails : take k us ≡ take k ts = ap tail_of e in
    ap (λ x. x ∷ take j us) heads ∙ ap (λ xs. t ∷ xs) (shorter j k ts us (omega (arith, le)) tails)
  where
    head_or : Token → List Token → Token
    head_or d [] = d
    head_or d (x ∷ xs) = x

    tail_of : List Token → List Token
    tail_of [] = []
    tail_of (x ∷ xs) = xs

-- ---- tokens that go on

goes_on : (ts : List Token) (n i k : ℕ) → k ≤ length ts → Completes IsType ts n i k → (us : List Token) × (to : ℕ) × BeginsAs ts k us × IsType us n i to
goes_on ts n i k le c =
    let us : List Token = take k ts ++ of_kinds c.kinds in
    let on = going_on ts k c.kinds le in
    (us, k + length c.kinds, taken_front k ts (of_kinds c.kinds) le, c.whole us (k + length c.kinds) on.0 on.1)

-- ---- the answers

abbrev pub shown : List Token → Result ℕ Fault → Result ℕ TypeErr
shown ts (Ok j) = Ok j
shown ts (Err (fault.Unexpected k)) = Err (Unexpected (unwrap_or (offset_at ts k) (end_of ts)))
shown ts (Err (fault.TooDeep k)) = Err (TooDeep (unwrap_or (offset_at ts k) (end_of ts)))

pub there_or_past : (ts : List Token) (k : ℕ) → (k < length ts) ⊎ (length ts ≤ k) → ((x : ℕ) × (offset_at ts k ≡ Some x)) ⊎ ((length ts ≤ k) × (offset_at ts k ≡ None))
there_or_past ts k (inl less) = inl (within ts k less)
  where
    within : (ts : List Token) (k : ℕ) → k < length ts → (x : ℕ) × (offset_at ts k ≡ Some x)
    within [] k less = absurd (omega (arith, less))
    within (t ∷ ts) zero less = (t.at, refl)
    within (t ∷ ts) (suc k) less = within ts k (omega (arith, less))
there_or_past ts k (inr more) = inr (more, ap (option_map (λ (t : Token). t.at)) (slice_get_past ts k more))

pub offset_within : (ts : List Token) (k x : ℕ) → offset_at ts k ≡ Some x → k < length ts
offset_within ts k x h = by_cases (cases_lt k (length ts))
  where
    by_cases : (k < length ts) ⊎ (length ts ≤ k) → k < length ts
    by_cases (inl less) = less
    by_cases (inr more) = let both : None ≡ Some x = sym (ap (option_map (λ (t : Token). t.at)) (slice_get_past ts k more)) ∙ h in absurd cc

pub first_wrong : (ts : List Token) (i k : ℕ) → IsStuck IsType ts most i k → k < length ts → IsFirstWrong ts i k
first_wrong ts i k s less = record {
  behind = s.from;
  none = λ us n to e type. s.none us n to (same_kinds ts us (k + 1) e) type;
  before = goes_on ts most i k (omega (arith, less)) s.before;
}

pub ends_early : (ts : List Token) (i k : ℕ) → IsStuck IsType ts most i k → length ts ≤ k → EndsEarly ts i
unfolding goes_on
ends_early ts i k s past = record {
  none = λ n to type. s.none ts n to (same_self ts) type;
  before = λ le.
      let e : k ≡ length ts = omega (arith, past, s.reached le) in
      let g = goes_on ts most i k (s.reached le) s.before in
      let whole : take k ts ≡ ts = ap (λ x. take x ts) e ∙ take-length ts in
      (of_kinds s.before.kinds, g.1, subst (λ (xs : List Token). IsType (xs ++ of_kinds s.before.kinds) most i g.1) whole g.3);
}

unexpected_at : (ts : List Token) (i k : ℕ) → Reads IsType ts most i (Err (fault.Unexpected k)) → ((x : ℕ) × (offset_at ts k ≡ Some x)) ⊎ ((length ts ≤ k) × (offset_at ts k ≡ None)) → IsUnexpected ts i (unwrap_or (offset_at ts k) (end_of ts))
unexpected_at ts i k s (inl there) =
    inl (k, there.1 ∙ ap (λ o. Some (unwrap_or o (end_of ts))) (sym there.1), first_wrong ts i k s (offset_within ts k there.0 there.1))
unexpected_at ts i k s (inr past) = inr (ends_early ts i k s past.0, ap (λ o. unwrap_or o (end_of ts)) past.1)

deep_at : (ts : List Token) (i k : ℕ) → Reads IsType ts most i (Err (fault.TooDeep k)) → ((x : ℕ) × (offset_at ts k ≡ Some x)) ⊎ ((length ts ≤ k) × (offset_at ts k ≡ None)) → IsTooDeep ts i (unwrap_or (offset_at ts k) (end_of ts))
deep_at ts i k d (inr past) = absurd (omega (arith, past.0, d.there))
deep_at ts i k d (inl there) =
    let g = goes_on ts (suc most) i (k + 1) (omega (arith, d.there)) d.deeper in (
      k,
      there.1 ∙ ap (λ o. Some (unwrap_or o (end_of ts))) (sym there.1),
      record {
        behind = d.from;
        many = d.many;
        none = λ us to e type. d.none us to (same_kinds ts us (k + 1) e) type;
        before = goes_on ts most i k (omega (arith, d.there)) d.before;
        deeper = (g.0, suc most, g.1, g.2, g.3);
      },
    )

pub passes : (ts : List Token) (i : ℕ) (r : Result ℕ Fault) → Reads IsType ts most i r → Passes ts i (shown ts r)
passes ts i (Ok j) h = h
passes ts i (Err (fault.Unexpected k)) h = unexpected_at ts i k h (there_or_past ts k (cases_lt k (length ts)))
passes ts i (Err (fault.TooDeep k)) h = deep_at ts i k h (there_or_past ts k (cases_lt k (length ts)))

pub finds : (ts : List Token) (i to : ℕ) (r : Result ℕ Fault) → Reads IsType ts most i r → IsType ts most i to → shown ts r ≡ Ok to
finds ts i to (Ok j) h type = ap Ok (one_type h type refl)
finds ts i to (Err (fault.Unexpected k)) h type = absurd (h.none ts most to (same_self ts) type)
finds ts i to (Err (fault.TooDeep k)) h type = absurd (h.none ts to (same_self ts) type)

-- ---- the bracket that is one too many

too_early : (ts : List Token) (i j k : ℕ) → OpensTooMany ts i k → j ≤ k → ((us : List Token) (n to : ℕ) → SameBelow (j + 1) ts us → IsType us n i to → ⊥) → ⊥
too_early ts i j k d le none = none d.deeper.0 d.deeper.1 d.deeper.2 (same_kinds ts d.deeper.0 (j + 1) (shorter (j + 1) (k + 1) ts d.deeper.0 (omega (arith, le)) d.deeper.3)) d.deeper.4

too_late : (ts : List Token) (i j k : ℕ) → OpensTooMany ts i k → k < j → j ≤ length ts → Completes IsType ts most i j → ⊥
too_late ts i j k d less le c =
    let g = goes_on ts most i j le c in
    d.none g.0 g.1 (shorter (k + 1) j ts g.0 (omega (arith, less)) g.2) g.3

pub refuses : (ts : List Token) (i offset : ℕ) (r : Result ℕ Fault) → Reads IsType ts most i r → IsTooDeep ts i offset → shown ts r ≡ Err (TooDeep offset)
refuses ts i offset (Ok j) h d = absurd (d.2.none ts j refl h)
refuses ts i offset (Err (fault.Unexpected j)) h d = absurd (by_cases (cases_lt d.0 j))
  where
    by_cases : (d.0 < j) ⊎ (j ≤ d.0) → ⊥
    by_cases (inl less) =
        let there = offset_within ts d.0 offset d.1 in
        too_late ts i j d.0 d.2 less (h.reached (omega (arith, d.2.behind, there))) h.before
    by_cases (inr le) = too_early ts i j d.0 d.2 le h.none
refuses ts i offset (Err (fault.TooDeep j)) h d = by_cases (cases_lt d.0 j) (cases_lt j d.0)
  where
    by_cases : (d.0 < j) ⊎ (j ≤ d.0) → (j < d.0) ⊎ (d.0 ≤ j) → shown ts (Err (fault.TooDeep j)) ≡ Err (TooDeep offset)
    by_cases (inl less) more = absurd (too_late ts i j d.0 d.2 less (omega (arith, h.there)) h.before)
    by_cases (inr le) (inl less) =
        let b = d.2.before in
        absurd (h.none b.0 b.1 (same_kinds ts b.0 (j + 1) (shorter (j + 1) d.0 ts b.0 (omega (arith, less)) b.2)) b.3)
    by_cases (inr le) (inr ge) =
        let e : j ≡ d.0 = omega (arith, le, ge) in
        ap (λ x. Err (TooDeep (unwrap_or (offset_at ts x) (end_of ts)))) e ∙ ap (λ o. Err (TooDeep (unwrap_or o (end_of ts)))) d.1
