-- What changes leave of a world of tests.
use Rattle.std.proofs.Common.{◌≡◌, Bool, true, false, ℕ, zero, suc, ◌+◌, ◌<◌, ◌≤◌, inl, List, [], ◌∷◌, ◌++◌, length, Option, Some, None, Result, Ok, Err, OnOk, OnErr, slice_get, refl, sym, ◌∙◌, ap, subst, arith}
use Rattle.std.specs.List.{AllByRecursion}
use Rattle.byte_text.specs.Texts.{AreDistinct, fixed_texts}
use Rattle.value_model.specs.Owners.{wide}
use Rattle.value_model.specs.Values.{Bytes}
use Rattle.value_model.specs.declared.ids.Owner.{Owner}
use Rattle.value_model.specs.declared.ids.Owner.TheVariants.{Frozen}
use Rattle.value_model.specs.declared.ids.ShortOwner.TheVariants as short
use Rattle.value_model.specs.declared.ids.TableId.{TableId}
use Rattle.value_model.specs.declared.value.Value.{Value}
use Rattle.value_model.specs.declared.value.Value.TheVariants as value
use Rattle.value_arena.specs.Tables.{TableView}
use Rattle.value_arena.specs.Arenas.{ArenaView, HasTable, no_arena, objects_of, table_at, with_table, new_table, next_table}
use Rattle.value_arena.specs.Growing.{Grows}
use Rattle.value_arena.specs.Owning.{IsOwned, MayBeTable, MayHold}
use Rattle.value_arena.proofs.Growing.{table_stays, with_table_grows, new_table_grows}
use Rattle.value_arena.proofs.Keeping.{empty_owned, entry_keeps}
use Rattle.value_arena.proofs.Owning.{owned_with_table, owned_new_table}
use Rattle.luau_tables.specs.Own.{AreTexts, longest_text}
use Rattle.luau_tables.specs.Rules as rule
use Rattle.meta_ops_tests.specs.Ready.{IsReady, MayStore, IsNobodys}
use Rattle.meta_ops_tests.specs.declared.world.World.{World}

-- other texts
pub with_names : (w : World) (names : List Bytes) → IsReady w → (AreTexts w.names → AreTexts names) → IsReady (record w { names = names })
with_names w names r f = record { owned = r.owned; some = r.some; there = r.there; strings = r.strings; texts = f r.texts }

-- an arena that grew
pub with_arena : (w : World) (a : ArenaView) → IsReady w → Grows w.arena a → IsOwned a → IsReady (record w { arena = a })
with_arena w a r g o =
    record {
      owned = o;
      some = r.some;
      there = omega (arith, r.there, g.tables Frozen);
      strings = table_stays w.arena a w.globals.string_meta g r.strings;
      texts = r.texts;
    }

-- the table of a number
pub table_there : (w : World) (n : ℕ) → IsReady w → n < w.tables → HasTable w.arena (record { owner = short.Frozen; place = n })
unfolding HasTable
table_there w n r h = omega (arith, h, r.there)

pub table_held : (a : ArenaView) (t : TableId) → IsNobodys t → HasTable a t → MayStore a (value.Table t)
table_held a t e h = (inl (ap wide e), h)

-- a table of nobody changes
changed : (a : ArenaView) (t : TableId) (v : TableView) → IsNobodys t → IsOwned a → MayBeTable a Frozen v → IsOwned (with_table a t v)
changed a t v e o h = owned_with_table a t v o (subst (λ (w : Owner). MayBeTable a w v) (sym (ap wide e)) h)

of_nobody : (a : ArenaView) (t : TableId) → IsNobodys t → IsOwned a → MayBeTable a Frozen (table_at a t)
of_nobody a t e o = subst (λ (w : Owner). MayBeTable a w (table_at a t)) (ap wide e) (o.tables t)

-- ---- each change

pub put_ready : {E : Type 0} (w : World) (t : TableId) (key v : Value) (a : ArenaView) (r : Result (Unit {0}) E) → IsReady w → IsNobodys t → MayStore w.arena key → MayStore w.arena v → OnOk r (a ≡ with_table w.arena t (rule.put (table_at w.arena t) key v)) → OnErr r (a ≡ w.arena) → Grows w.arena a → IsReady (record w { arena = a })
unfolding rule.put
put_ready w t key v a (Ok done) r e k l ok err g =
    with_arena w a r g (subst IsOwned (sym ok) (changed w.arena t (rule.put (table_at w.arena t) key v) e r.owned (entry_keeps w.arena Frozen (table_at w.arena t) key v (of_nobody w.arena t e r.owned) k l)))
put_ready w t key v a (Err error) r e k l ok err g = with_arena w a r g (subst IsOwned (sym err) r.owned)

pub meta_ready : {E : Type 0} (w : World) (t m : TableId) (a : ArenaView) (r : Result (Unit {0}) E) → IsReady w → IsNobodys t → MayStore w.arena (value.Table m) → OnOk r (((table_at w.arena t).is_frozen ≡ false) × (a ≡ with_table w.arena t (record (table_at w.arena t) { meta = Some m }))) → OnErr r (a ≡ w.arena) → Grows w.arena a → IsReady (record w { arena = a })
meta_ready w t m a (Ok done) r e k ok err g =
    with_arena w a r g (subst IsOwned (sym ok.1) (changed w.arena t (record (table_at w.arena t) { meta = Some m }) e r.owned ((of_nobody w.arena t e r.owned).0, k)))
meta_ready w t m a (Err error) r e k ok err g = with_arena w a r g (subst IsOwned (sym err) r.owned)

pub freeze_ready : (w : World) (t : TableId) (a : ArenaView) → IsReady w → IsNobodys t → a ≡ with_table w.arena t (record (table_at w.arena t) { is_frozen = true }) → IsReady (record w { arena = a })
freeze_ready w t a r e f =
    with_arena w a r (subst (λ (a : ArenaView). Grows w.arena a) (sym f) (with_table_grows w.arena t (record (table_at w.arena t) { is_frozen = true })))
    (subst IsOwned (sym f) (changed w.arena t (record (table_at w.arena t) { is_frozen = true }) e r.owned (of_nobody w.arena t e r.owned)))

new_owned : (a b : ArenaView) → IsOwned a → b ≡ new_table a Frozen → IsOwned b
new_owned a b o e = subst IsOwned (sym e) (owned_new_table a Frozen o (tt, tt))

new_grows : (a b : ArenaView) → b ≡ new_table a Frozen → Grows a b
new_grows a b e = subst (λ (b : ArenaView). Grows a b) (sym e) (new_table_grows a Frozen)

-- one table more, which is counted
pub table_ready : (w : World) (a : ArenaView) (t : TableId) → IsReady w → a ≡ new_table w.arena Frozen → t ≡ next_table w.arena Frozen → HasTable a t → IsReady (record w { arena = a; tables = t.place + 1 })
unfolding HasTable next_table
table_ready w a t r e f h =
    let s = with_arena w a r (new_grows w.arena a e) (new_owned w.arena a r.owned e) in
    let less : t.place < length (objects_of a Frozen).tables = subst (λ (u : Owner). t.place < length (objects_of a u).tables) (ap (λ (t : TableId). wide t.owner) f) h in
    record { owned = s.owned; some = omega arith; there = omega (arith, less); strings = s.strings; texts = s.texts }

-- or not
pub table_more : (w : World) (a : ArenaView) → IsReady w → a ≡ new_table w.arena Frozen → IsReady (record w { arena = a })
table_more w a r e = with_arena w a r (new_grows w.arena a e) (new_owned w.arena a r.owned e)

-- ---- a new world

-- texts of a list are short, where each is
short_at : (ts : List Bytes) → AllByRecursion (λ t. length t < longest_text) ts → (i : ℕ) (t : Bytes) → slice_get ts i ≡ Some t → length t < longest_text
short_at [] h i t e = absurd (cc)
short_at (x ∷ xs) h zero t e = let s : x ≡ t = cc in subst (λ (t : Bytes). length t < longest_text) s h.0
short_at (x ∷ xs) h (suc i) t e = short_at xs h.1 i t e

pub fixed_are_texts : AreDistinct fixed_texts → AreTexts fixed_texts
fixed_are_texts d =
    record {
      distinct = d;
      short = short_at fixed_texts (omega arith, (omega arith, (omega arith, (omega arith, (omega arith, (omega arith, (omega arith, (omega arith, (omega arith, tt)))))))));
    }

pub new_ready : (w : World) → w.arena ≡ new_table no_arena Frozen → w.globals.string_meta ≡ next_table no_arena Frozen → HasTable w.arena w.globals.string_meta → w.tables ≡ 1 → AreTexts w.names → IsReady w
unfolding HasTable next_table
new_ready w e f h n t =
    let less : w.globals.string_meta.place < length (objects_of w.arena Frozen).tables = subst (λ (u : Owner). w.globals.string_meta.place < length (objects_of w.arena u).tables) (ap (λ (t : TableId). wide t.owner) f) h in
    record { owned = new_owned no_arena w.arena empty_owned e; some = omega (arith, n); there = omega (arith, n, less); strings = h; texts = t }
