-- What the import constants of a function lead to, on values as they are kept.
use Rattle.std.specs.Prelude.{ℕ, zero, suc, List, [], ◌∷◌, true, false, Option, Some, None, slice_get, ◌/◌, ◌%◌, ◌^◌}
use Rattle.byte_text.specs.declared.fixed.StrId.{StrId}
use Rattle.op_words.specs.declared.chunk.Const.{Const}
use Rattle.op_words.specs.declared.chunk.Const.TheVariants as constant
use Rattle.value_model.specs.declared.value.Value.{Value}
use Rattle.value_model.specs.declared.value.Value.TheVariants.{Nil, Str, Table}
use Rattle.value_arena.specs.Arenas.{table_at}
use Rattle.luau_tables.specs.Rules as rule
use Rattle.luau_tables.specs.declared.globals.LibWorld.{LibWorld}

-- names lead on from a value through frozen tables; nil is nowhere
abbrev pub led : LibWorld → Value → List StrId → Option Value
led w Nil xs = None
led w v [] = Some v
led w (Table t) (x ∷ xs) =
    elim (table_at w.arena t).is_frozen [ true ↦ led w (rule.get (table_at w.arena t) (Str x)) xs | false ↦ None ]
led w v (x ∷ xs) = None

-- from the global table on
abbrev pub from_globals : LibWorld → (name : StrId) → List StrId → Option Value
from_globals w x xs = led w (rule.get (table_at w.arena w.globals.table) (Str x)) xs

-- the text that a constant is
abbrev pub text_in : Option Value → Option StrId
text_in (Some (Str x)) = Some x
text_in _ = None

abbrev pub name_at : List Value → ℕ → Option StrId
name_at vs k = text_in (slice_get vs k)

-- all of them, where each is there
abbrev pub one_name : LibWorld → Option StrId → Option Value
one_name w (Some x) = from_globals w x []
one_name w None = None

abbrev pub two_names : LibWorld → (first second : Option StrId) → Option Value
two_names w (Some x) (Some y) = from_globals w x (y ∷ [])
two_names w _ _ = None

abbrev pub three_names : LibWorld → (first second third : Option StrId) → Option Value
three_names w (Some x) (Some y) (Some z) = from_globals w x (y ∷ z ∷ [])
three_names w _ _ _ = None

abbrev pub by_count : LibWorld → (count : ℕ) → (first second third : Option StrId) → Option Value
by_count w zero x y z = None
by_count w (suc zero) x y z = one_name w x
by_count w (suc (suc zero)) x y z = two_names w x y
by_count w (suc (suc (suc n))) x y z = three_names w x y z

-- what the import of a word holds, by the constants of its function
abbrev pub held : LibWorld → List Value → (word : ℕ) → Option Value
held w vs word =
    by_count w (word / 2 ^ 30) (name_at vs (word / 2 ^ 20 % 2 ^ 10)) (name_at vs (word / 2 ^ 10 % 2 ^ 10)) (name_at vs (word % 2 ^ 10))

-- a constant that is no import holds nothing
abbrev pub import_of : LibWorld → List Value → Const → Option Value
import_of w vs (constant.Import word) = held w vs word
import_of w vs _ = None
