-- How an answer was delivered, from what the two writes left.
use Rattle.std.proofs.Common.{◌≡◌, ◌∙◌, ℕ, ◌≤◌, ◌⊎◌, inl, inr, ⊎_elim, List, [], length, take, Option, Some, None, refl, sym, ap, subst, arith, rules}
use Rattle.std.proofs.Common.{append-nil}
use Rattle.resource.specs.Faults.{Rose}
use Rattle.outside_io.specs.Sinks.{appended}
use Rattle.luau_cli.specs.Answer.{Answer, IsDone, HasRefused, IsProper}
use Rattle.luau_cli.specs.Delivery.{Change, IsUntouched, Gains, GainsFront, Delivers, whole, no_output, no_report, refused}

-- a sink that gained nothing tells what it told before
pub appended_nothing : (old : Option (List ℕ)) → appended old [] ≡ old
appended_nothing None = search rules
appended_nothing (Some bytes) = ap Some (append-nil bytes)

-- the bytes that were put are those of the answer
pub gains : (c : Change) (put bytes : List ℕ) → put ≡ bytes → c.new ≡ appended c.old put → c.now ≡ c.before → Gains c bytes
gains c put bytes e all quiet = (subst (λ b. c.new ≡ appended c.old b) e all, quiet)

pub gains_front : (c : Change) (put bytes : List ℕ) → put ≡ bytes
    → ((count : ℕ) × (count ≤ length put) × (c.new ≡ appended c.old (take count put))) → Rose c.before c.now → GainsFront c bytes
gains_front c put bytes e front rose =
    (rose, subst (λ b. (count : ℕ) × (count ≤ length b) × (c.new ≡ appended c.old (take count b))) e front)

-- a sink that gained no bytes is as it was
pub untouched : (c : Change) (bytes : List ℕ) → bytes ≡ [] → Gains c bytes → IsUntouched c
untouched c bytes e g = (g.0 ∙ (ap (λ b. appended c.old b) e ∙ appended_nothing c.old), g.1)

-- ---- the statuses

-- what was done was not refused
pub apart : (status : ℕ) → IsDone status → HasRefused status → ⊥
apart status (inl few) r = let no : (status ≡ 2) ⊎ (status ≡ 3) ⊎ (status ≡ 4) ⊎ (status ≡ 8) ⊎ (status ≡ 10) = r in omega (arith, few, no)
apart status (inr spent) r = let no : (status ≡ 2) ⊎ (status ≡ 3) ⊎ (status ≡ 4) ⊎ (status ≡ 8) ⊎ (status ≡ 10) = r in omega (arith, spent, no)

-- its file was read
pub not_unread : (status : ℕ) → IsDone status → status ≡ 4 → ⊥
not_unread status (inl few) e = omega (arith, few, e)
not_unread status (inr spent) e = omega (arith, spent, e)

fault_not_ran : IsDone 5 → ⊥
fault_not_ran (inl few) = omega (arith, few)
fault_not_ran (inr spent) = omega (arith, spent)

fault_not_refused : HasRefused 5 → ⊥
fault_not_refused r = let no : (5 ≡ 2) ⊎ (5 ≡ 3) ⊎ (5 ≡ 4) ⊎ (5 ≡ 8) ⊎ (5 ≡ 10) = r in omega (arith, no)

-- the status is that of the answer, or a write failed
pub delivered : (a : Answer) (out report : Change) (status : ℕ) → Delivers a out report status
    → (status ≡ a.status) ⊎ ((status ≡ 5) × IsDone a.status × (Rose out.before out.now ⊎ Rose report.before report.now))
delivered a out report _ (whole x y) = inl refl
delivered a out report _ (no_output r x y) = inr (refl, r, inl x.0)
delivered a out report _ (no_report r x y) = inr (refl, r, inr y.0)
delivered a out report _ (refused r x y) = inl refl

-- the statuses of an answer for a file
abbrev pub IsOfFile : ℕ → Type 0
IsOfFile status = IsDone status ⊎ ((status ≡ 3) ⊎ (status ≡ 4) ⊎ (status ≡ 8) ⊎ (status ≡ 10))

of_file : (a : Answer) → IsProper a → IsOfFile a.status
of_file a (inl ran) = inl ran
of_file a (inr q) = inr q.0

of_file_within : (status : ℕ) → IsOfFile status → (status ≤ 8) ⊎ (status ≡ 10)
of_file_within status (inl (inl few)) = inl (omega (arith, few))
of_file_within status (inl (inr e)) = inl (omega (arith, e))
of_file_within status (inr (inl e)) = inl (omega (arith, e))
of_file_within status (inr (inr (inl e))) = inl (omega (arith, e))
of_file_within status (inr (inr (inr (inl e)))) = inl (omega (arith, e))
of_file_within status (inr (inr (inr (inr e)))) = inr e

not_of_words : (status : ℕ) → IsOfFile status → status ≡ 2 → ⊥
not_of_words status (inl (inl few)) e = omega (arith, few, e)
not_of_words status (inl (inr h)) e = omega (arith, h, e)
not_of_words status (inr (inl h)) e = omega (arith, h, e)
not_of_words status (inr (inr (inl h))) e = omega (arith, h, e)
not_of_words status (inr (inr (inr (inl h)))) e = omega (arith, h, e)
not_of_words status (inr (inr (inr (inr h)))) e = omega (arith, h, e)

not_of_write : (status : ℕ) → IsOfFile status → status ≡ 5 → ⊥
not_of_write status (inl (inl few)) e = omega (arith, few, e)
not_of_write status (inl (inr h)) e = omega (arith, h, e)
not_of_write status (inr (inl h)) e = omega (arith, h, e)
not_of_write status (inr (inr (inl h))) e = omega (arith, h, e)
not_of_write status (inr (inr (inr (inl h)))) e = omega (arith, h, e)
not_of_write status (inr (inr (inr (inr h)))) e = omega (arith, h, e)

module _ (a : Answer) (out report : Change) (status : ℕ) (proper : IsProper a) (d : Delivers a out report status) where
  pub file_status : (status ≤ 8) ⊎ (status ≡ 10)
  file_status = by (delivered a out report status d)
    where
      by : (status ≡ a.status) ⊎ ((status ≡ 5) × IsDone a.status × (Rose out.before out.now ⊎ Rose report.before report.now))
          → (status ≤ 8) ⊎ (status ≡ 10)
      by (inl e) = subst (λ s. (s ≤ 8) ⊎ (s ≡ 10)) (sym e) (of_file_within a.status (of_file a proper))
      by (inr q) = inl (omega (arith, q.0))

  pub file_not_words : status ≡ 2 → ⊥
  file_not_words two = by (delivered a out report status d)
    where
      by : (status ≡ a.status) ⊎ ((status ≡ 5) × IsDone a.status × (Rose out.before out.now ⊎ Rose report.before report.now)) → ⊥
      by (inl e) = not_of_words a.status (of_file a proper) (sym e ∙ two)
      by (inr q) = omega (arith, q.0, two)

  pub file_unread : a.status ≡ 4 → status ≡ 4
  file_unread four = by (delivered a out report status d)
    where
      by : (status ≡ a.status) ⊎ ((status ≡ 5) × IsDone a.status × (Rose out.before out.now ⊎ Rose report.before report.now)) → status ≡ 4
      by (inl e) = e ∙ four
      by (inr q) = absurd (not_unread a.status q.1 four)

  pub file_write_fault : status ≡ 5 → Rose out.before out.now ⊎ Rose report.before report.now
  file_write_fault five = by (delivered a out report status d)
    where
      by : (status ≡ a.status) ⊎ ((status ≡ 5) × IsDone a.status × (Rose out.before out.now ⊎ Rose report.before report.now))
          → Rose out.before out.now ⊎ Rose report.before report.now
      by (inl e) = absurd (not_of_write a.status (of_file a proper) (sym e ∙ five))
      by (inr q) = q.2

-- with the status of work that was done no write failed, and the answer has that status
pub done_quiet : (a : Answer) (out report : Change) (status : ℕ) → Delivers a out report status → IsDone status
    → IsDone a.status × (out.now ≡ out.before) × (report.now ≡ report.before)
done_quiet a out report _ (whole x y) ran = (ran, x.1, y.1)
done_quiet a out report _ (no_output r x y) ran = absurd (fault_not_ran ran)
done_quiet a out report _ (no_report r x y) ran = absurd (fault_not_ran ran)
done_quiet a out report _ (refused r x y) ran = absurd (apart a.status ran r)

-- with the status of a refusal nothing was written to the output
pub refused_untouched : (a : Answer) (out report : Change) (status : ℕ) → IsProper a → Delivers a out report status → HasRefused status
    → IsUntouched out
refused_untouched a out report _ proper (whole x y) r =
    ⊎_elim (λ ran. absurd (apart a.status ran r)) (λ q. untouched out a.output q.1 x) proper
refused_untouched a out report _ proper (no_output q x y) r = absurd (fault_not_refused r)
refused_untouched a out report _ proper (no_report q x y) r = absurd (fault_not_refused r)
refused_untouched a out report _ proper (refused q x y) r = x
