-- Lists of values are stored in tables.
use Rattle.std.proofs.Common.{◌≡◌, ℕ, suc, ◌+◌, ℤ, pos, ◌+ℤ◌, Bool, true, false, cond, List, [], ◌∷◌, map, length, Some, None, Ok, Err, refl, sym, ◌∙◌, ap, subst, arith}
use Rattle.std.specs.Bool.{◌==◌}
use Rattle.std.proofs.lemmas.Bool.Decides.{nat_tests}
use Rattle.std.specs.List.{AllByRecursion}
use Rattle.value_model.specs.Errors.{ReadonlyTable, IndexWith}
use Rattle.value_model.specs.Parts.{meant, meant_error, table_ref}
use Rattle.value_model.specs.Store as store
use Rattle.value_model.specs.Tables as tables
use Rattle.value_model.specs.Values as m
use Rattle.value_model.specs.declared.error.RunErr.{RunErr}
use Rattle.value_model.specs.declared.error.RunErr.TheVariants as err
use Rattle.value_model.specs.declared.event.Reply.{Reply}
use Rattle.value_model.specs.declared.ids.TableId.{TableId}
use Rattle.value_model.specs.declared.kind.Kind.{Kind}
use Rattle.value_model.specs.declared.kind.Kind.TheVariants as kind
use Rattle.value_model.specs.declared.value.Value.{Value}
use Rattle.value_model.specs.declared.value.Value.TheVariants as value
use Rattle.value_arena.specs.Arenas.{ArenaView, table_at, with_table}
use Rattle.bounded_runs.specs.Runs.{Goes}
use Rattle.luau_tables.specs.Part.{IsOfScript, IsSeen}
use Rattle.luau_tables.specs.Worlds.{IsWorld, MayUseIn, Keeps, store_in}
use Rattle.luau_tables.specs.declared.globals.LibWorld.{LibWorld}
use Rattle.luau_tables.proofs.OwnKept.{changed_part}
use Rattle.luau_tables.proofs.OwnTables as reads
use Rattle.luau_tables.proofs.StoreTables.{written_same}
use Rattle.luau_tables.proofs.WorldsKept.{table_keeps}
use Rattle.table_lists.specs.Lists.{put_all}
use Rattle.table_lists.proofs.Kept.{put_all_holds, put_all_kept}
use Rattle.meta_ops.specs.OnIds.{as_table}
use Rattle.call_frames.specs.Stacks.{StackView}
use Rattle.op_words.specs.Chunks.{ChunkOf}
use Rattle.machine_meaning.specs.States as machine
use Rattle.machine_meaning.specs.States.{Run, Fault, Focus}
use Rattle.machine_meaning.specs.Moves.{Row, with_store, go, fault}
use Rattle.machine_meaning.specs.Effects.{set_list, stored, store_list}
use Rattle.machine_code.specs.declared.code.Code.{Code}
use Rattle.machine_world.specs.Parts.{part, read_of, list_of}
use Rattle.machine_world.specs.Rows.{Makes}
use Rattle.machine_world.specs.Sound.{Runs, IsMachine}
use Rattle.machine_world.proofs.Here.{Here, here, row_here, read_here, row_like}
use Rattle.machine_rows.specs.Leading.{goes, Does}
use Rattle.machine_rows.specs.declared.next.Next.TheVariants.{Continues, Fails}
use Rattle.machine_rows.proofs.NamesFollowed.{does_made}
use Rattle.machine_rows.proofs.Steps.{store_here}
use Rattle.machine_rows.proofs.Stored.{part_stored, machine_stored}
use Rattle.machine_tables.specs.Stored.{list_stored}
use Rattle.machine_tables.proofs.Made.{makes_stored}

-- ---- whether there are values

length_none : (n : ℕ) → true ≡ (n == 0) → n ≡ 0
length_none n e = grind (arith, nat_tests)

pub empty_list : (vs : List Value) → true ≡ (length vs == 0) → vs ≡ []
empty_list [] e = refl
empty_list (v ∷ vs) e = absurd (omega (arith, length_none (length (v ∷ vs)) e))

pub some_list : (vs : List Value) → false ≡ (length vs == 0) → vs ≡ [] → ⊥
some_list vs e none = let same : length vs ≡ 0 = ap length none in cc

-- ---- the table that is meant

-- a frozen table is refused with the first value
frozen_list : (t : store.TableOf) (key : ℕ) (v : m.Value) (vs : List m.Value) → t.frozen ≡ true → set_list (Ok t) key (v ∷ vs) ≡ Err ReadonlyTable
unfolding tables.set
frozen_list t key v vs e = by t.frozen e
  where
    by : (b : Bool) → b ≡ true → set_list (cond b (Err ReadonlyTable) (Ok (tables.put t (m.Number (pos key)) v))) (suc key) vs ≡ Err ReadonlyTable
    by true e = refl
    by false e = absurd (cc)

next_number : (k : ℕ) → (pos k +ℤ pos 1) ≡ pos (suc k)
next_number k = let e : k + 1 ≡ suc k = omega arith in ap pos e

-- else all are stored
thawed_list : (t : store.TableOf) (key : ℕ) (vs : List m.Value) → t.frozen ≡ false → set_list (Ok t) key vs ≡ Ok (tables.put_all t (pos key) vs)
unfolding tables.set tables.put
thawed_list t key [] e = refl
thawed_list t key (v ∷ vs) e =
    let u : store.TableOf = tables.put t (m.Number (pos key)) v in
    ap (λ b. set_list (cond b (Err ReadonlyTable) (Ok u)) (suc key) vs) e
    ∙ thawed_list u (suc key) vs e
    ∙ ap (λ z. Ok (tables.put_all u z vs)) (sym (next_number key))

-- ---- the world

module _ (w : LibWorld) (is : IsWorld w) (t : TableId) (may : MayUseIn w (value.Table t)) (k : ℤ) (vs : List Value) (used : AllByRecursion (MayUseIn w) vs) where
  all_own : (vs : List Value) → AllByRecursion (MayUseIn w) vs → AllByRecursion (IsOfScript w.names w.owner) vs
  all_own [] h = tt
  all_own (v ∷ vs) h = (reads.own_value w.names w.globals w.arena w.owner is.own v h.0, all_own vs h.1)

  seen : IsSeen w.owner t.owner
  seen = reads.seen_table w.names w.globals w.arena w.owner is.own t may

  pub list_store : store_in (record w { arena = with_table w.arena t (put_all (table_at w.arena t) k vs) }) ≡ store.with_table (store_in w) (table_ref t) (tables.put_all (store.table_at (store_in w) (table_ref t)) k (map (meant w.names) vs))
  list_store =
      changed_part w.names w.globals w.arena w.owner is.own t (put_all (table_at w.arena t) k vs) may
      ∙ ap (λ x. store.with_table (store_in w) (table_ref t) x)
      (sym (ap (λ x. tables.put_all x k (map (meant w.names) vs)) (reads.table_part w.names w.globals w.arena w.owner is.own t may)
      ∙ put_all_kept w.names w.owner is.own.interned.distinct (table_at w.arena t) k vs (reads.own_table w.names w.globals w.arena w.owner is.own t seen) (all_own vs used)))

  pub list_keeps : (table_at w.arena t).is_frozen ≡ false → Keeps w (record w { arena = with_table w.arena t (put_all (table_at w.arena t) k vs) })
  unfolding put_all
  list_keeps thawed =
      table_keeps w is t (put_all (table_at w.arena t) k vs) may thawed refl
      (put_all_holds (MayUseIn w) (tt, tt) (λ z. (tt, tt)) (table_at w.arena t) k vs (reads.usable_table w.names w.globals w.arena w.owner is.own t seen) used)

module _ (w : LibWorld) (s : StackView) (is : IsMachine w s) (t : TableId) (may : MayUseIn w (value.Table t)) (k : ℤ) (vs : List Value) (b : ArenaView) (e : b ≡ with_table w.arena t (put_all (table_at w.arena t) k vs)) (thawed : (table_at w.arena t).is_frozen ≡ false) (used : AllByRecursion (MayUseIn w) vs) where
  pub stored_keeps : Keeps w (record w { arena = b })
  stored_keeps = subst (λ b. Keeps w (record w { arena = b })) (sym e) (list_keeps w is.world t may k vs used thawed)

  pub stored_sound : IsMachine (record w { arena = b }) s
  stored_sound = machine_stored w b s stored_keeps.world.own stored_keeps.arena is

-- ---- rows

-- a run error
pub does_fault : (chunk : ChunkOf) (w : LibWorld) (code : Code) (s : StackView) (r : Row) (e : RunErr) → Runs s →
    ((replies : List Reply) (h : Here w code s replies) → r h.frame h.others h.world ≡ fault (meant_error w.names e) h.frame h.others h.world) →
    Does chunk r w code s 0 (Fails e) w s
unfolding Does
does_fault chunk w code s r e runs same = λ replies.
    let h = here w code s replies runs in
    goes 0 (row_here h r ∙ same replies h ∙ sym (ap (λ t. Goes [] t) (h.is (Fault (meant_error w.names e)))))

no_list : (texts : List m.Bytes) (v : Value) (key : ℕ) (vs : List m.Value) (next : ℕ) (f : machine.Frame) (fs : List machine.Frame) (u : machine.World) →
    as_table v ≡ None → store_list (meant texts v) key vs next f fs u ≡ fault (IndexWith (m.kind_of (meant texts v)) kind.Number) f fs u
unfolding meant
no_list texts (value.Table t) key vs next f fs u e = absurd (cc)
no_list texts value.Nil key vs next f fs u e = refl
no_list texts (value.Bool b) key vs next f fs u e = refl
no_list texts (value.Num z) key vs next f fs u e = refl
no_list texts (value.Str x) key vs next f fs u e = refl
no_list texts (value.Closure c) key vs next f fs u e = refl
no_list texts (value.Native b) key vs next f fs u e = refl
no_list texts (value.Host x) key vs next f fs u e = refl
no_list texts (value.Wrap t) key vs next f fs u e = refl
no_list texts (value.Thread t) key vs next f fs u e = refl

-- what is no table refuses the list
pub does_no_list : (chunk : ChunkOf) (w : LibWorld) (code : Code) (s : StackView) (r : Row) (v : Value) (e : RunErr) (count from key next : ℕ) → Runs s → as_table v ≡ None → meant_error w.names e ≡ IndexWith (m.kind_of (meant w.names v)) kind.Number → ((replies : List Reply) (h : Here w code s replies) → r h.frame h.others h.world ≡ list_stored (meant w.names v) count from key next h.frame h.others h.world) → Does chunk r w code s 0 (Fails e) w s
does_no_list chunk w code s r v e count from key next runs none means same =
    does_fault chunk w code s r e runs
    (λ replies h. same replies h ∙ no_list w.names v key _ next h.frame h.others h.world none ∙ ap (λ e. fault e h.frame h.others h.world) (sym means))

module _ (chunk : ChunkOf) (w : LibWorld) (code : Code) (s : StackView) (is : IsMachine w s) (t : TableId) (may : MayUseIn w (value.Table t)) (count from key next : ℕ) (vs : List Value) (runs : Runs s) (read : (x : Focus) (replies : List Reply) → map (meant w.names) vs ≡ read_of [] (list_of count from) (part w code s x replies)) where
  abbrev pub row : Row
  row = list_stored (m.Table (table_ref t)) count from key next

  -- with the values that were read
  pub as_read : (replies : List Reply) (h : Here w code s replies) → row h.frame h.others h.world ≡ stored (set_list (Ok (store.table_at (store_in w) (table_ref t))) key (map (meant w.names) vs)) (table_ref t) next h.frame h.others h.world
  as_read replies h =
      ap (λ l. store_list (m.Table (table_ref t)) key l next h.frame h.others h.world) (sym (read_here h [] (list_of count from) Run (map (meant w.names) vs) (read Run replies)))
      ∙ ap (λ st. stored (set_list (Ok (store.table_at st (table_ref t))) key (map (meant w.names) vs)) (table_ref t) next h.frame h.others h.world) (sym (store_here h))

  pub does_empty_list : (s' : StackView) → vs ≡ [] → Makes (go next) w code s w s' → Does chunk row w code s 0 Continues w s'
  does_empty_list s' none makes =
      does_made chunk w w code s s' row
      (row_like w w code s s' row (go next) Run runs makes
      (λ replies h. as_read replies h
      ∙ ap (λ l. stored (set_list (Ok (store.table_at (store_in w) (table_ref t))) key (map (meant w.names) l)) (table_ref t) next h.frame h.others h.world) none
      ∙ ap (λ st. go next h.frame h.others (with_store (store.with_table st (table_ref t) (store.table_at (store_in w) (table_ref t))) h.world)) (sym (store_here h))
      ∙ ap (λ st. go next h.frame h.others (with_store st h.world)) (written_same (store_in w) (table_ref t))
      ∙ ap (λ st. go next h.frame h.others (with_store st h.world)) (store_here h)))

  pub does_frozen_list : (vs ≡ [] → ⊥) → (table_at w.arena t).is_frozen ≡ true → Does chunk row w code s 0 (Fails err.ReadonlyTable) w s
  unfolding meant_error
  does_frozen_list some frozen =
      does_fault chunk w code s row err.ReadonlyTable runs
      (λ replies h. as_read replies h
      ∙ ap (λ q. stored q (table_ref t) next h.frame h.others h.world) (by vs some))
    where
      by : (vs : List Value) → (vs ≡ [] → ⊥) → set_list (Ok (store.table_at (store_in w) (table_ref t))) key (map (meant w.names) vs) ≡ Err ReadonlyTable
      by [] some = absurd (some refl)
      by (v ∷ vs) some =
          frozen_list (store.table_at (store_in w) (table_ref t)) key (meant w.names v) (map (meant w.names) vs) (reads.frozen_part w.names w.globals w.arena w.owner is.world.own t may ∙ frozen)

  module _ (b : ArenaView) (e : b ≡ with_table w.arena t (put_all (table_at w.arena t) (pos key) vs)) (thawed : (table_at w.arena t).is_frozen ≡ false) (used : AllByRecursion (MayUseIn w) vs) where
    pub does_list : (s' : StackView) → Makes (go next) (record w { arena = b }) code s (record w { arena = b }) s' → Does chunk row w code s 0 Continues (record w { arena = b }) s'
    does_list s' makes =
        let w' : LibWorld = record w { arena = b } in
        let old : store.TableOf = store.table_at (store_in w) (table_ref t) in
        let put : set_list (Ok old) key (map (meant w.names) vs) ≡ Ok (tables.put_all old (pos key) (map (meant w.names) vs)) =
        thawed_list old key (map (meant w.names) vs) (reads.frozen_part w.names w.globals w.arena w.owner is.world.own t may ∙ thawed) in
        let new : store_in w' ≡ store.with_table (store_in w) (table_ref t) (tables.put_all old (pos key) (map (meant w.names) vs)) =
        ap (λ b. store_in (record w { arena = b })) e ∙ list_store w is.world t may (pos key) vs used in
        does_made chunk w w' code s s' row
        (makes_stored w w' code s s' row (go next) runs (λ x replies. part_stored w b code s x replies (stored_keeps w s is t may (pos key) vs b e thawed used).arena)
        (λ replies h. as_read replies h
        ∙ ap (λ q. stored q (table_ref t) next h.frame h.others h.world) put
        ∙ ap (λ st. go next h.frame h.others (with_store (store.with_table st (table_ref t) (tables.put_all old (pos key) (map (meant w.names) vs))) h.world)) (sym (store_here h))
        ∙ ap (λ st. go next h.frame h.others (with_store st h.world)) (sym new))
        makes)

pub index_means : (texts : List m.Bytes) (v : Value) (k : Kind) → m.kind_of (meant texts v) ≡ k → meant_error texts (err.IndexWith k kind.Number) ≡ IndexWith (m.kind_of (meant texts v)) kind.Number
unfolding meant_error
index_means texts v k e = ap (λ k. IndexWith k kind.Number) (sym e)

-- ---- what is a table

pub table_means : (texts : List m.Bytes) (v : Value) (t : TableId) → as_table v ≡ Some t → meant texts v ≡ m.Table (table_ref t)
unfolding meant
table_means texts (value.Table u) t e = let same : u ≡ t = cc in ap (λ t. m.Table (table_ref t)) same
table_means texts value.Nil t e = absurd (cc)
table_means texts (value.Bool b) t e = absurd (cc)
table_means texts (value.Num z) t e = absurd (cc)
table_means texts (value.Str x) t e = absurd (cc)
table_means texts (value.Closure c) t e = absurd (cc)
table_means texts (value.Native b) t e = absurd (cc)
table_means texts (value.Host x) t e = absurd (cc)
table_means texts (value.Wrap t') t e = absurd (cc)
table_means texts (value.Thread t') t e = absurd (cc)

pub table_use : (w : LibWorld) (v : Value) (t : TableId) → as_table v ≡ Some t → MayUseIn w v → MayUseIn w (value.Table t)
table_use w (value.Table u) t e h = let same : u ≡ t = cc in subst (λ t. MayUseIn w (value.Table t)) same h
table_use w value.Nil t e h = absurd (cc)
table_use w (value.Bool b) t e h = absurd (cc)
table_use w (value.Num z) t e h = absurd (cc)
table_use w (value.Str x) t e h = absurd (cc)
table_use w (value.Closure c) t e h = absurd (cc)
table_use w (value.Native b) t e h = absurd (cc)
table_use w (value.Host x) t e h = absurd (cc)
table_use w (value.Wrap t') t e h = absurd (cc)
table_use w (value.Thread t') t e h = absurd (cc)
