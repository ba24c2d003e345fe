-- What the two sinks hold after an answer was written to them, where writes may fail.
use Rattle.std.specs.Prelude.{◌≡◌, ℕ, ◌≤◌, List, Option, length, take}
use Rattle.resource.specs.Faults.{Rose}
use Rattle.outside_io.specs.Sinks.{appended}
use Rattle.luau_cli.specs.Answer.{Answer, IsDone, HasRefused}

-- a sink before and after: the bytes that it tells, and its count of faults
pub record Change : Type 0 where
  pub old : Option (List ℕ)
  pub new : Option (List ℕ)
  pub before : ℕ
  pub now : ℕ

abbrev pub change : (old new : Option (List ℕ)) → (before now : ℕ) → Change
change old new before now = record { old = old; new = new; before = before; now = now }

-- nothing was written, and no write failed
abbrev pub IsUntouched : Change → Type 0
IsUntouched c = (c.new ≡ c.old) × (c.now ≡ c.before)

-- all of the bytes were written, and no write failed
abbrev pub Gains : Change → List ℕ → Type 0
Gains c bytes = (c.new ≡ appended c.old bytes) × (c.now ≡ c.before)

-- a write failed, and a front of the bytes was written
abbrev pub GainsFront : Change → List ℕ → Type 0
GainsFront c bytes = Rose c.before c.now × ((count : ℕ) × (count ≤ length bytes) × (c.new ≡ appended c.old (take count bytes)))

-- How an answer was written: the output first, then the report; behind a failed write nothing more.
-- Where the work was done and a write failed, the status is 5; a refusal keeps its status.
pub data Delivers (a : Answer) (out report : Change) : (status : ℕ) → Type 0 where
  whole : Gains out a.output → Gains report a.report → Delivers a out report a.status
  no_output : IsDone a.status → GainsFront out a.output → IsUntouched report → Delivers a out report 5
  no_report : IsDone a.status → Gains out a.output → GainsFront report a.report → Delivers a out report 5
  refused : HasRefused a.status → IsUntouched out → GainsFront report a.report → Delivers a out report a.status
