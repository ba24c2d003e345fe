-- Which environments are safe, and what an import gives.
use Rattle.std.proofs.Common.{◌≡◌, ◌||◌, ℕ, zero, suc, pos, Bool, true, false, cond, List, [], ◌∷◌, Option, Some, None, refl, sym, ◌∙◌, ap, subst, arith, inl, inr}
use Rattle.std.proofs.lemmas.Bool.{ne_eqb}
use Rattle.std.specs.Prelude.{option_map}
use Rattle.std.specs.List.{list_any}
use Rattle.value_model.specs.Owners.{wide}
use Rattle.value_model.specs.Parts.{meant, table_ref}
use Rattle.value_model.specs.Store.{same_table}
use Rattle.value_model.specs.Values as m
use Rattle.value_model.specs.declared.event.Reply.{Reply}
use Rattle.value_model.specs.declared.ids.Owner.{Owner}
use Rattle.value_model.specs.declared.ids.ShortOwner.{ShortOwner}
use Rattle.value_model.specs.declared.ids.ShortOwner.TheVariants.{Frozen, Script}
use Rattle.value_model.specs.declared.ids.TableId.{TableId}
use Rattle.value_model.specs.declared.value.Value.{Value}
use Rattle.value_model.specs.declared.value.Value.TheVariants as value
use Rattle.value_arena.specs.Arenas.{table_at}
use Rattle.value_arena.specs.Owning.{MaySee}
use Rattle.luau_tables.specs.Part.{IsScript}
use Rattle.luau_tables.specs.Worlds.{MayUseIn}
use Rattle.luau_tables.specs.declared.globals.LibWorld.{LibWorld}
use Rattle.call_frames.specs.Stacks.{StackView}
use Rattle.machine_meaning.specs.States as machine
use Rattle.machine_meaning.specs.States.{Run, State}
use Rattle.machine_meaning.specs.Moves.{environment_here, is_safe, give}
use Rattle.machine_meaning.specs.Effects.{import_at, import_of, follow}
use Rattle.machine_code.specs.declared.code.Code.{Code}
use Rattle.machine_world.specs.Parts.{environment_id, marked_in, imports_in, part}
use Rattle.machine_world.specs.Rows.{proto_here}
use Rattle.machine_world.specs.Sound.{IsMachine}
use Rattle.machine_world.proofs.Here.{Here}

-- the environment of a script, and no other table, has that place in its part
is_environment : (w : Owner) (s : ShortOwner) (p : ℕ) → wide s ≡ w → p ≡ 0 → record { owner = s; place = p } ≡ environment_id w
is_environment w Frozen p e z = ap (λ p. record { owner = Frozen; place = p }) z ∙ ap (λ u. environment_id u) e
is_environment w (Script n) p e z = ap (λ p. record { owner = Script n; place = p }) z ∙ ap (λ u. environment_id u) e

module _ (w : LibWorld) (s : StackView) (is : IsMachine w s) where
  marked_first : (t : TableId) → (table_at w.arena t).is_marked ≡ true → list_any (same_table (table_ref t)) (marked_in w) ≡ true
  marked_first t e =
      let k = is.marks t e in
      let same : t ≡ environment_id w.owner = is_environment w.owner t.owner t.place k.0 k.1 in
      let mark : (table_at w.arena (environment_id w.owner)).is_marked ≡ true = ap (λ t. (table_at w.arena t).is_marked) (sym same) ∙ e in
      ap (λ b. list_any (same_table (table_ref t)) (cond b (m.Own 0 ∷ []) [])) mark ∙ by w.owner is.world.own.script t.owner t.place k.0 k.1
    where
      by : (u : Owner) → IsScript u → (o : ShortOwner) (p : ℕ) → wide o ≡ u → p ≡ 0 → list_any (same_table (table_ref (record { owner = o; place = p }))) (m.Own 0 ∷ []) ≡ true
      by u script (Script n) p e z = ap (λ p. list_any (same_table (m.Own p)) (m.Own 0 ∷ [])) z
      by u script Frozen p e z = absurd (subst IsScript (sym e) script)

  unmarked : (t : TableId) → MaySee w.owner (wide t.owner) → (table_at w.arena t).is_marked ≡ false →
      list_any (same_table (table_ref t)) (marked_in w) ≡ false
  unmarked t see e = by (table_at w.arena (environment_id w.owner)).is_marked refl
    where
      other : (o : ShortOwner) (p : ℕ) → MaySee w.owner (wide o) → (table_at w.arena (record { owner = o; place = p })).is_marked ≡ false → (table_at w.arena (environment_id w.owner)).is_marked ≡ true → same_table (table_ref (record { owner = o; place = p })) (m.Own 0) ≡ false
      other Frozen p see e mark = refl
      other (Script n) (suc p) see e mark = ne_eqb (suc p) 0 (λ z. omega (arith, z))
      other (Script n) zero (inr x) e mark = absurd (cc)
      other (Script n) zero (inl x) e mark =
          let same : (table_at w.arena (environment_id w.owner)).is_marked ≡ false = ap (λ t. (table_at w.arena t).is_marked) (sym (is_environment w.owner (Script n) 0 x refl)) ∙ e in
          absurd (cc)

      by : (b : Bool) → (table_at w.arena (environment_id w.owner)).is_marked ≡ b → list_any (same_table (table_ref t)) (cond b (m.Own 0 ∷ []) []) ≡ false
      by false k = refl
      by true k = ap (λ b. b || false) (other t.owner t.place see e k)

  -- an environment is safe where it has its mark
  pub safe_marked : (t : TableId) (b : Bool) → MayUseIn w (value.Table t) → (table_at w.arena t).is_marked ≡ b →
      list_any (same_table (table_ref t)) (marked_in w) ≡ b
  safe_marked t true may e = marked_first t e
  safe_marked t false may e = unmarked t may.0.0 e

  pub safe_here : {code : Code} {replies : List Reply} (h : Here w code s replies) (t : TableId) (b : Bool) → MayUseIn w (value.Table t) →
      meant w.names (value.Table t) ≡ m.Table (environment_here h.frame h.world) → b ≡ (table_at w.arena t).is_marked → is_safe h.frame h.world ≡ b
  unfolding part meant
  safe_here h t b may e is_marked =
      let marks : marked_in w ≡ h.world.marked = ap (λ (x : State). x.world.marked) (h.is Run) in
      let env : table_ref t ≡ environment_here h.frame h.world = cc in
      ap (λ ts. list_any (same_table (environment_here h.frame h.world)) ts) (sym marks)
      ∙ ap (λ r. list_any (same_table r) (marked_in w)) (sym env)
      ∙ safe_marked t b may (sym is_marked)

-- ---- what an import gives

imports_here : {w : LibWorld} {code : Code} {s : StackView} {replies : List Reply} (h : Here w code s replies) → imports_in w.names code ≡ h.world.imports
unfolding part
imports_here h = ap (λ (x : State). x.world.imports) (h.is Run)

pub import_here : {w : LibWorld} {code : Code} {s : StackView} {replies : List Reply} (h : Here w code s replies) (b : Bool) (q : Option Value) (k : ℕ) (names : Option (List m.Bytes)) (to next : ℕ) → is_safe h.frame h.world ≡ b → imports_in w.names code (proto_here w code s) k ≡ option_map (meant w.names) q → import_of (is_safe h.frame h.world) (import_at h.frame h.world (pos k)) names to next h.frame h.others h.world ≡ import_of b (option_map (meant w.names) q) names to next h.frame h.others h.world
import_here {w} {code} {s} h b q k names to next safe is =
    let value : h.world.imports h.frame.proto k ≡ option_map (meant w.names) q =
    ap (λ (i : ℕ → ℕ → Option m.Value). i h.frame.proto k) (sym (imports_here h)) ∙ ap (λ p. imports_in w.names code p k) h.proto ∙ is in
    ap (λ b. import_of b (import_at h.frame h.world (pos k)) names to next h.frame h.others h.world) safe
    ∙ ap (λ v. import_of b v names to next h.frame h.others h.world) value

-- what it holds, where that is safe
pub import_held : (texts : List m.Bytes) (b : Bool) (q : Option Value) (v : Value) (names : Option (List m.Bytes)) (to next : ℕ) (f : machine.Frame) (fs : List machine.Frame) (u : machine.World) → cond b q None ≡ Some v → import_of b (option_map (meant texts) q) names to next f fs u ≡ give to (meant texts v) next f fs u
import_held texts true (Some x) v names to next f fs u e =
    let same : x ≡ v = cc in ap (λ x. give to (meant texts x) next f fs u) same
import_held texts true None v names to next f fs u e = absurd (cc)
import_held texts false q v names to next f fs u e = absurd (cc)

-- and else what its names lead to
pub import_led : (texts : List m.Bytes) (b : Bool) (q : Option Value) (names : Option (List m.Bytes)) (to next : ℕ) (f : machine.Frame) (fs : List machine.Frame) (u : machine.World) → cond b q None ≡ None → import_of b (option_map (meant texts) q) names to next f fs u ≡ follow (m.Table (environment_here f u)) names to next f fs u
import_led texts true (Some x) names to next f fs u e = absurd (cc)
import_led texts true None names to next f fs u e = refl
import_led texts false q names to next f fs u e = refl
