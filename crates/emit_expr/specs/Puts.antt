-- What is put into the code of the function that is being emitted.
use Rattle.std.specs.Prelude.{◌≡◌, Bool, false, ℕ, ◌+◌, ◌*◌, ◌-◌, ◌^◌, ℤ, pos, min, nat_eq, if◌then◌else◌, List, [], ◌∷◌, ◌++◌, length, take}
use Rattle.byte_text.specs.declared.fixed.StrId.{StrId}
use Rattle.op_words.specs.declared.chunk.Const.{Const}
use Rattle.op_words.specs.declared.chunk.Const.TheVariants as constant
use Rattle.op_words.specs.contracts.chunk.ConstPartialEq.TheImpl.{ghosts}
use Rattle.op_words.specs.declared.insn.Insn.{Insn}
use Rattle.code_link.specs.declared.item.Item.{Item}
use Rattle.code_link.specs.declared.item.Item.TheVariants as item
use Rattle.emit_expr.specs.declared.draft.Draft.{Draft}
use Rattle.emit_expr.specs.declared.draft.Mark.{Mark}
use Rattle.emit_expr.specs.declared.draft.Prototype.{Prototype}
use Rattle.emit_expr.specs.declared.draft.Emitter.{Emitter}

-- what a part of the tree makes of what was emitted before it
abbrev pub Step : Type 0
Step = Emitter → Emitter

-- if nothing is lost, then nothing was, and the new state is the one that is wanted
abbrev pub Went : (old new wanted : Emitter) → Type 0
Went old new wanted = new.lost ≡ false → (old.lost ≡ false) × (new ≡ wanted)

-- a number as one of 8 bits, of 15 and of 32: the greatest where it is greater
abbrev pub narrow : ℕ → ℕ
narrow n = min n 255

abbrev pub short : ℕ → ℤ
short n = pos (min n 32767)

abbrev pub long : ℕ → ℕ
long n = min n 4294967295

-- ---- items

unfoldable pub put : Item → Step
put i d = record d { draft = record d.draft { items = d.draft.items ++ i ∷ [] } }

abbrev pub insn : Insn → Step
insn i d = put (item.Insn i) d

-- A label is named by a node of the tree and one of four spots at it
abbrev pub label : (node spot : ℕ) → ℕ
label node spot = min (node * 4 + spot) (2 ^ 64 - 1)

abbrev pub place : (label : ℕ) → Step
place l d = put (item.Label l) d

abbrev pub branch : Insn → (label : ℕ) → Step
branch i l d = put (item.Branch i l) d

-- ---- constants

-- where a constant first stands among those of the function; their number where it does not
abbrev pub place_of : Const → List Const → ℕ
place_of k [] = 0
place_of k (x ∷ xs) = if ghosts.eq x k then 0 else 1 + place_of k xs

abbrev pub place_of_text : StrId → List StrId → ℕ
place_of_text t [] = 0
place_of_text t (x ∷ xs) = if nat_eq x.0 t.0 then 0 else 1 + place_of_text t xs

-- what is found at no place is added
abbrev pub added : {A : Type 0} → A → (place : ℕ) → List A → List A
added k place xs = if nat_eq place (length xs) then xs ++ k ∷ [] else xs

abbrev pub constant_place : Const → Emitter → ℕ
constant_place k d = place_of k d.draft.constants

unfoldable pub with_constant : Const → Step
with_constant k d = record d { draft = record d.draft { constants = added k (constant_place k d) d.draft.constants } }

-- a text is a string of the chunk, which its constant names by its number
abbrev pub text_constant : StrId → Emitter → Const
text_constant t d = constant.Str (long (place_of_text t d.strings))

unfoldable pub with_string : StrId → Step
with_string t d = record d { strings = added t (place_of_text t d.strings) d.strings }

abbrev pub text_place : StrId → Emitter → ℕ
text_place t d = constant_place (text_constant t d) d

abbrev pub with_text : StrId → Step
with_text t d = with_constant (text_constant t d) (with_string t d)

-- ---- variables

-- a local comes in scope, in a register
unfoldable pub declare : (number register : ℕ) → Step
declare number register d =
    record d { draft = record d.draft { variables = d.draft.variables ++ record { number = number; register = register } ∷ [] } }

-- only so many variables stay in scope, those that came first
unfoldable pub forget : ℕ → Step
forget left d = record d { draft = record d.draft { variables = take left d.draft.variables } }

-- where a scope begins: how many variables are in scope, and the first register that is free
abbrev pub mark_at : (free : ℕ) → Emitter → Mark
mark_at free d = record { variables = length d.draft.variables; free = free }

-- ---- functions

-- a function of which nothing is emitted
abbrev pub blank : (func : ℕ) → Draft
blank func = record { func = func; items = []; constants = []; variables = []; children = [] }

-- before a script nothing is emitted
abbrev pub start : Emitter
start = record { draft = blank 0; protos = []; strings = []; lost = false }

unfoldable pub with_draft : Draft → Step
with_draft f d = record d { draft = f }

-- the function is done
abbrev pub done : (params : ℕ) → Bool → Draft → Prototype
done params vararg f =
    record { func = f.func; params = params; vararg = vararg; items = f.items; constants = f.constants; children = f.children }

unfoldable pub with_prototype : Prototype → Step
with_prototype p d = record d { protos = d.protos ++ p ∷ [] }

-- a prototype is a child of the function, by its number
unfoldable pub with_child : (number : ℕ) → Step
with_child number d = record d { draft = record d.draft { children = d.draft.children ++ long number ∷ [] } }
