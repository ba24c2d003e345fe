-- What an outcome means, and of which values it tells.
use Rattle.std.specs.Prelude.{◌≡◌, ℕ, List, map, take}
use Rattle.std.specs.List.{AllByRecursion}
use Rattle.value_model.specs.Choices as choice
use Rattle.value_model.specs.Metamethods.{bounded_text, choose, chosen}
use Rattle.value_model.specs.Parts.{meant, meant_error, IsKnown}
use Rattle.value_model.specs.Values.{Bytes}
use Rattle.value_model.specs.declared.ids.Owner.{Owner}
use Rattle.value_model.specs.declared.value.Value.{Value}
use Rattle.value_arena.specs.Arenas.{ArenaView}
use Rattle.luau_tables.specs.Own.{IsOwn, MayUse}
use Rattle.luau_tables.specs.Part.{store_of}
use Rattle.luau_tables.specs.Worlds.{ChangesTables}
use Rattle.luau_tables.specs.declared.globals.Globals.{Globals}
use Rattle.meta_ops.specs.declared.outcome.Outcome.{Outcome}
use Rattle.meta_ops.specs.declared.outcome.Outcome.TheVariants.{Done, CallThis, RunError, Stop}

-- the outcome that is meant, by the texts of the interner
unfoldable pub meant_outcome : (texts : List Bytes) → Outcome → choice.Outcome
meant_outcome texts (Done v) = choice.Done (meant texts v)
meant_outcome texts (CallThis callee args count) = choice.CallThis (meant texts callee) (map (meant texts) (take count args))
meant_outcome texts (RunError e) = choice.Errs (meant_error texts e)
meant_outcome texts (Stop s) = choice.Halts s

-- each value in an outcome, and the texts that a run error shows
abbrev pub OfOutcome : (texts : List Bytes) → (Value → Type 0) → Outcome → Type 0
OfOutcome texts P (Done v) = P v
OfOutcome texts P (CallThis callee args count) = P callee × AllByRecursion P args
OfOutcome texts P (RunError e) = IsKnown texts e
OfOutcome texts P (Stop s) = Unit {0}

-- The outcome, and the number of tables asked, are what the definition chooses for the operation in the script's part of the arena,
-- where nothing is written; and the script may use each value in the outcome.
pub record IsChosen (texts : List Bytes) (g : Globals) (a : ArenaView) (w : Owner) (operation : choice.Operation) (outcome : Outcome) (asked : ℕ) : Type 0 where
  pub meant : chosen (store_of texts g a w) asked (meant_outcome texts outcome) ≡ choose operation (store_of texts g a w)
  pub usable : OfOutcome texts (MayUse texts a w) outcome

-- So it is for each script that may use the operands, by the texts of an interner,
abbrev pub ChoosesIn : (texts : List Bytes) → Globals → ArenaView → (MayUseOperands : Owner → Type 0) → choice.Operation → Outcome → ℕ → Type 0
ChoosesIn texts g a MayUseOperands operation outcome asked =
    (w : Owner) → IsOwn texts g a w → MayUseOperands w → IsChosen texts g a w operation outcome asked

-- or by the texts of any.
abbrev pub Chooses : Globals → ArenaView → (MayUseOperands : List Bytes → Owner → Type 0) → (List Bytes → choice.Operation) → Outcome → ℕ → Type 0
Chooses g a MayUseOperands operation outcome asked =
    (texts : List Bytes) → ChoosesIn texts g a (MayUseOperands texts) (operation texts) outcome asked

-- ---- where a value is written

-- The outcome, the number of tables asked and the store behind are those of the definition; the script may use each value in the
-- outcome, and of all objects only its tables may have changed.
pub record IsStored (texts : List Bytes) (g : Globals) (before after : ArenaView) (w : Owner) (base key v : Value) (outcome : Outcome) (asked : ℕ) : Type 0 where
  pub meant : record { outcome = meant_outcome texts outcome; asked = asked; store = store_of texts g after w } ≡ choose (choice.Newindex (meant texts base) (meant texts key) (meant texts v)) (store_of texts g before w)
  pub usable : OfOutcome texts (MayUse texts after w) outcome
  pub own : IsOwn texts g after w
  pub changes : ChangesTables w before after

-- So it is for each script that may use the operands.
abbrev pub Stores : Globals → (before after : ArenaView) → (base key v : Value) → Outcome → ℕ → Type 0
Stores g before after base key v outcome asked =
    (texts : List Bytes) (w : Owner) → IsOwn texts g before w → MayUse texts before w base → MayUse texts before w key → MayUse texts before w v → IsStored texts g before after w base key v outcome asked

-- ---- where a text may come

-- the outcome is a text, which each script may use, or the run error of one that is too long
pub record MeansText (texts : List Bytes) (outcome : Outcome) (bytes : Bytes) : Type 0 where
  pub meant : meant_outcome texts outcome ≡ bounded_text bytes
  pub usable : (a : ArenaView) (w : Owner) → OfOutcome texts (MayUse texts a w) outcome

-- The outcome is what the definition chooses, by the texts after; the script's part is as before, and the script may use each value
-- in the outcome.
pub record IsJoined (before after : List Bytes) (g : Globals) (a : ArenaView) (w : Owner) (v u : Value) (outcome : Outcome) : Type 0 where
  pub meant : chosen (store_of after g a w) 0 (meant_outcome after outcome) ≡ choose (choice.Concat (meant before v) (meant before u)) (store_of before g a w)
  pub usable : OfOutcome after (MayUse after a w) outcome
  pub own : IsOwn after g a w

-- So it is for each script that may use the operands.
abbrev pub JoinsIn : (before after : List Bytes) → Globals → ArenaView → Value → Value → Outcome → Type 0
JoinsIn before after g a v u outcome =
    (w : Owner) → IsOwn before g a w → MayUse before a w v → MayUse before a w u → IsJoined before after g a w v u outcome
