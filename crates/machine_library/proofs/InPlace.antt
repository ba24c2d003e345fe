-- Calls that are done in place.
use Rattle.std.proofs.Common.{◌≡◌, ℕ, ◌+◌, pos, Bool, true, false, List, [], ◌∷◌, map, Option, Some, None, refl, sym, ◌∙◌, ap}
use Rattle.value_model.specs.Answers as model
use Rattle.value_model.specs.Library.{lib}
use Rattle.value_model.specs.Parts.{meant}
use Rattle.value_model.specs.Values as m
use Rattle.value_model.specs.Waits.{Origin}
use Rattle.value_model.specs.declared.builtin.Builtin.{Builtin}
use Rattle.value_model.specs.declared.event.Reply.{Reply}
use Rattle.value_model.specs.declared.ids.TableId.{TableId}
use Rattle.value_model.specs.declared.value.Value.{Value}
use Rattle.value_model.specs.declared.value.Value.TheVariants as value
use Rattle.value_arena.specs.Arenas.{table_at}
use Rattle.luau_tables.specs.Answers.{Answered, Stays, meant_answer}
use Rattle.luau_tables.specs.Worlds.{Keeps, MayUseIn, store_in}
use Rattle.luau_tables.specs.declared.answer.LibAnswer.{LibAnswer}
use Rattle.luau_tables.specs.declared.answer.LibAnswer.TheVariants as answer
use Rattle.luau_tables.specs.declared.globals.LibWorld.{LibWorld}
use Rattle.call_frames.specs.Stacks.{StackView}
use Rattle.op_words.specs.Decoding.{insn_at}
use Rattle.op_words.specs.declared.insn.Insn.{Insn}
use Rattle.op_words.specs.declared.insn.Insn.TheVariants.{FastCall, FastCall1, FastCall2, FastCall2K}
use Rattle.op_words.specs.Chunks.{ChunkOf}
use Rattle.machine_meaning.specs.Constants.{known}
use Rattle.machine_meaning.specs.Instructions.{row}
use Rattle.machine_meaning.specs.States as machine
use Rattle.machine_meaning.specs.States.{Run, State, value_in}
use Rattle.machine_meaning.specs.Moves.{Row, go, is_safe, store_of, with_store}
use Rattle.machine_meaning.specs.Effects.{numbered, under, fast, answered, call_over, arguments_of, list_from}
use Rattle.machine_code.specs.declared.code.Code.{Code}
use Rattle.machine_world.specs.Parts.{part, read_of}
use Rattle.machine_world.specs.Rows.{row_in, Makes, place_here, proto_here}
use Rattle.machine_world.specs.Sound.{IsMachine, GoesOn}
use Rattle.machine_world.proofs.Going.{runs_on}
use Rattle.machine_world.proofs.Here.{Here, here, row_here, row_like, read_here, with_known}
use Rattle.machine_rows.specs.Operations.{environment_value}
use Rattle.machine_rows.proofs.Safety.{safe_here}
use Rattle.machine_rows.proofs.Steps.{store_here}
use Rattle.machine_library.specs.Fast.{call_of, done_or_on, has_values, in_place, Led, Tried}
use Rattle.machine_library.specs.declared.fast.Replaced.{Replaced}
use Rattle.machine_library.specs.Leads.{KnowsImports, stored}
use Rattle.machine_library.proofs.Kept.{part_kept, knows}

-- ---- what the library answers

module _ (w w' : LibWorld) (origin : Origin) (vs : List m.Value) (given : List Value) (b : Builtin) (call : Insn × ℕ) (next : ℕ) (f : machine.Frame) (fs : List machine.Frame) (u : machine.World) (at : store_of u ≡ store_in w) where
  -- no values, and the store as it was
  goes_on : (row : model.LibAnswer) → store_in w' ≡ store_in w → lib b vs (store_in w) ≡ row → answered row (Some call) next f fs u ≡ go next f fs u →
      fast true (Some b) vs (Some call) next f fs u ≡ go next f fs (with_store (store_in w') u)
  goes_on row stays is same =
      ap (λ s. answered (lib b vs s) (Some call) next f fs u) at
      ∙ ap (λ r. answered r (Some call) next f fs u) is
      ∙ same
      ∙ sym (ap (λ s. go next f fs (with_store s u)) (stays ∙ sym at))

  pub tried_by : (a : LibAnswer) → meant_answer w'.names origin a given (store_in w') ≡ lib b vs (store_in w) → Stays a given (store_in w) (store_in w') →
      fast true (Some b) vs (Some call) next f fs u ≡ done_or_on (has_values a) call (map (meant w'.names) given) next f fs (with_store (store_in w') u)
  unfolding meant_answer
  tried_by answer.Values is stays =
      ap (λ s. answered (lib b vs s) (Some call) next f fs u) at ∙ sym (ap (λ r. answered r (Some call) next f fs u) is)
  tried_by (answer.Print line) is stays = goes_on _ stays.1 (sym is) refl
  tried_by (answer.RunError r) is stays = goes_on _ stays.1 (sym is) refl
  tried_by (answer.Raise v) is stays = goes_on _ stays.1 (sym is) refl
  tried_by (answer.Stop stop) is stays = goes_on _ stays.1 (sym is) refl
  tried_by (answer.CallBack g us rest) is stays = goes_on _ stays.1 (sym is) refl

pub tried : (w w' : LibWorld) (rs' : List Value) (origin : Origin) (vs : List m.Value) (b : Builtin) (q : Option Builtin) (a : LibAnswer) → q ≡ Some b →
    Answered w w' [] rs' a origin (lib b vs (store_in w)) → Tried w w' q vs rs' (has_values a)
tried w w' rs' origin vs b q a e h = λ call next f fs u at.
    ap (λ q. fast true q vs (Some call) next f fs u) e
    ∙ tried_by w w' origin vs h.given b call next f fs u at a h.meant h.stays
    ∙ ap (λ l. done_or_on (has_values a) call (map (meant w'.names) l) next f fs (with_store (store_in w') u)) (sym h.appended)

-- no function has the number
pub untried : (w : LibWorld) (vs : List m.Value) (q : Option Builtin) → q ≡ None → Tried w w q vs [] false
untried w vs q e = λ call next f fs u at.
    ap (λ q. fast true q vs (Some call) next f fs u) e ∙ sym (ap (λ s. go next f fs (with_store s u)) (sym at))

-- ---- what is done

-- the environment and its mark
pub record Marked (w : LibWorld) (code : Code) (s : StackView) (t : TableId) (safe : Bool) : Type 0 where
  pub same : (replies : List Reply) → meant w.names (value.Table t) ≡ read_of m.Nil environment_value (part w code s Run replies)
  pub usable : MayUseIn w (value.Table t)
  pub mark : safe ≡ (table_at w.arena t).is_marked

module _ (w : LibWorld) (code : Code) (s : StackView) (t : TableId) (is : IsMachine w s) (goes : GoesOn s) (n : ℕ) (vs : List m.Value) where
  fast_at : (call : Insn × ℕ) (next : ℕ) (safe : Bool) → Marked w code s t safe → (replies : List Reply) (h : Here w code s replies) →
      in_place n vs call next h.frame h.others h.world ≡ fast safe (under numbered n) vs (Some call) next h.frame h.others h.world
  fast_at call next safe at replies h =
      ap (λ b. fast b (under numbered n) vs (Some call) next h.frame h.others h.world)
      (safe_here w s is h t safe at.usable (read_here h m.Nil environment_value Run (meant w.names (value.Table t)) (at.same replies)) at.mark)

  pub led_past : (given : List Value) → Marked w code s t false → Led w w code s n vs given false
  led_past given at = λ call next s' makes.
      row_like w w code s s' (in_place n vs call next) (go next) Run (runs_on s goes) makes (fast_at call next false at)

  pub led_tried : (w' : LibWorld) (given : List Value) (done : Bool) → Marked w code s t true → Keeps w w' → KnowsImports w.names code →
      Tried w w' (under numbered n) vs given done → Led w w' code s n vs given done
  led_tried w' given done at keeps known try = λ call next s' makes replies.
      let h = here w code s replies (runs_on s goes) in
      let q = done_or_on done call (map (meant w'.names) given) next in
      row_here h (in_place n vs call next)
      ∙ fast_at call next true at replies h
      ∙ try call next h.frame h.others h.world (sym (store_here h))
      ∙ sym (ap (λ (x : State). row_in q x.functions x.world) (part_kept w w' code s Run replies keeps is (knows w code s is known) ∙ ap (stored (store_in w')) (h.is Run)))
      ∙ makes replies

-- ---- the instructions

-- a row whose call is read, and which tries these arguments
pub row_tries : (w w' : LibWorld) (code : Code) (s s' : StackView) (n : ℕ) (vs : List m.Value) (given : List Value) (done : Bool) (call : Insn × ℕ) (next : ℕ) (r : Row) → GoesOn s →
    Led w w' code s n vs given done → Makes (done_or_on done call (map (meant w'.names) given) next) w' code s w' s' →
    ((replies : List Reply) (h : Here w code s replies) → r h.frame h.others h.world ≡ in_place n vs call next h.frame h.others h.world) → Makes r w code s w' s'
row_tries w w' code s s' n vs given done call next r goes led makes same =
    row_like w w' code s s' r (in_place n vs call next) Run (runs_on s goes) (led call next s' makes) same

-- the call that a row reads
pub call_read : {w : LibWorld} {code : Code} {s : StackView} {replies : List Reply} (h : Here w code s replies) (words : List ℕ) (over : ℕ) (call : Insn × ℕ) →
    insn_at words (place_here s + 1 + over) ≡ Some call → call_over words h.frame over ≡ Some call
call_read h words over call e = ap (λ p. insn_at words (p + 1 + over)) h.place ∙ e

module _ {w : LibWorld} {code : Code} {s : StackView} {replies : List Reply} (h : Here w code s replies) (chunk : ChunkOf) (words : List ℕ) (n over : ℕ) (call : Insn × ℕ) (next : ℕ) (read : insn_at words (place_here s + 1 + over) ≡ Some call) where
  -- with arguments that are read
  tries : (us vs : List m.Value) → us ≡ vs →
      fast (is_safe h.frame h.world) (under numbered n) us (call_over words h.frame over) next h.frame h.others h.world ≡ in_place n vs call next h.frame h.others h.world
  tries us vs e =
      ap (λ q. fast (is_safe h.frame h.world) (under numbered n) us q next h.frame h.others h.world) (call_read h words over call read)
      ∙ ap (λ l. in_place n l call next h.frame h.others h.world) e

  pub tries_one : (a : ℕ) (v : m.Value) → v ≡ value_in h.frame h.world a →
      row chunk words (FastCall1 n a over) next h.frame h.others h.world ≡ in_place n (v ∷ []) call next h.frame h.others h.world
  tries_one a v e = tries (value_in h.frame h.world a ∷ []) (v ∷ []) (ap (λ v. v ∷ []) (sym e))

  pub tries_two : (a b : ℕ) (v u : m.Value) → v ≡ value_in h.frame h.world a → u ≡ value_in h.frame h.world b →
      row chunk words (FastCall2 n a over b) next h.frame h.others h.world ≡ in_place n (v ∷ u ∷ []) call next h.frame h.others h.world
  tries_two a b v u e g =
      tries (value_in h.frame h.world a ∷ value_in h.frame h.world b ∷ []) (v ∷ u ∷ [])
      (ap (λ v. v ∷ value_in h.frame h.world b ∷ []) (sym e) ∙ ap (λ u. v ∷ u ∷ []) (sym g))

  pub tries_constant : (a k : ℕ) (v u : m.Value) → v ≡ value_in h.frame h.world a → known chunk (proto_here w code s) (pos k) ≡ Some u →
      row chunk words (FastCall2K n a over k) next h.frame h.others h.world ≡ in_place n (v ∷ u ∷ []) call next h.frame h.others h.world
  tries_constant a k v u e is =
      with_known chunk h (pos k) u (λ u. fast (is_safe h.frame h.world) (under numbered n) (value_in h.frame h.world a ∷ u ∷ []) (call_over words h.frame over) next) is
      ∙ tries (value_in h.frame h.world a ∷ u ∷ []) (v ∷ u ∷ []) (ap (λ v. v ∷ u ∷ []) (sym e))

-- with those of the call
pub tries_all : {w : LibWorld} {code : Code} {s : StackView} {replies : List Reply} (h : Here w code s replies) (chunk : ChunkOf) (words : List ℕ) (n over : ℕ) (r : Replaced) (next : ℕ) (vs : List m.Value) →
    insn_at words (place_here s + 1 + over) ≡ Some (call_of r) → vs ≡ list_from r.arguments (r.base + 1) h.frame h.world →
    row chunk words (FastCall n over) next h.frame h.others h.world ≡ in_place n vs (call_of r) next h.frame h.others h.world
tries_all h chunk words n over r next vs read e =
    tries h chunk words n over (call_of r) next read (arguments_of (call_over words h.frame over) h.frame h.world) vs
    (ap (λ q. arguments_of q h.frame h.world) (call_read h words over (call_of r) read) ∙ sym e)
