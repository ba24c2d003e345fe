-- Reading under a key, of values that a script may use, means reading of those that they mean.
use Rattle.std.proofs.Common.{◌≡◌, ℕ, zero, suc, Bool, true, false, cond, List, Option, Some, None, codes, refl, sym, ◌∙◌, ap, subst}
use Rattle.std.specs.Prelude.{option_map}
use Rattle.value_model.specs.Choices as choice
use Rattle.value_model.specs.Errors as error
use Rattle.value_model.specs.Metamethods as model
use Rattle.value_model.specs.Parts.{meant, meant_error, bytes_at, table_ref, IsKnown}
use Rattle.value_model.specs.Store.{Store}
use Rattle.value_model.specs.Values as m
use Rattle.value_model.specs.Values.{Bytes, kind_of}
use Rattle.value_model.specs.declared.ids.Owner.{Owner}
use Rattle.value_model.specs.declared.ids.TableId.{TableId}
use Rattle.value_model.specs.declared.value.Value.{Value}
use Rattle.value_model.specs.declared.value.Value.TheVariants as value
use Rattle.value_arena.specs.Arenas.{ArenaView, table_at}
use Rattle.luau_tables.specs.Own.{HasText, IsOwn, MayUse}
use Rattle.luau_tables.specs.Part.{OfSome, store_of}
use Rattle.luau_tables.specs.Rules as rule
use Rattle.luau_tables.specs.declared.globals.Globals.{Globals}
use Rattle.luau_tables.proofs.OwnTables.{get_part, got_usable}
use Rattle.meta_ops.specs.OnIds as kept
use Rattle.meta_ops.specs.OnIds.{Found}
use Rattle.meta_ops.specs.Outcomes.{meant_outcome, IsChosen, OfOutcome}
use Rattle.meta_ops.proofs.MetamethodsKept.{kind_kept, metamethod_part, metamethod_usable}
use Rattle.meta_ops.specs.declared.outcome.Outcome.TheVariants.{Done}
use Rattle.meta_ops.specs.declared.outcome.Link.TheVariants.{Ends, To}

pub index_error_kept : (texts : List Bytes) (base key : Value) →
    model.index_error (meant texts base) (meant texts key) ≡ meant_error texts (kept.index_error base key)
unfolding meant meant_error
index_error_kept texts base (value.Str x) = ap (λ k. error.IndexWithName k (bytes_at texts x.0)) (kind_kept texts base)
index_error_kept texts base key = both key (kind_kept texts base) (kind_kept texts key)
  where
    both : (key : Value) → kind_of (meant texts base) ≡ kept.kind_of base → kind_of (meant texts key) ≡ kept.kind_of key →
        error.IndexWith (kind_of (meant texts base)) (kind_of (meant texts key)) ≡ error.IndexWith (kept.kind_of base) (kept.kind_of key)
    both key e f = ap (λ k. error.IndexWith k (kind_of (meant texts key))) e ∙ ap (λ k. error.IndexWith (kept.kind_of base) k) f

pub index_error_known : (texts : List Bytes) (base key : Value) → HasText texts key → IsKnown texts (kept.index_error base key)
index_error_known texts base (value.Str x) h = h
index_error_known texts base _ h = tt

-- what was found, and the store as it was
abbrev pub found_in : (texts : List Bytes) → Store → Found → choice.Choice
found_in texts s f = model.chosen s f.1 (meant_outcome texts f.0)

module _ (texts : List Bytes) (g : Globals) (a : ArenaView) (w : Owner) (own : IsOwn texts g a w) where
  abbrev part : Store
  part = store_of texts g a w

  abbrev May : Value → Type 0
  May v = MayUse texts a w v

  abbrev MaySome : Option TableId → Type 0
  MaySome t = OfSome (λ t. May (value.Table t)) t

  pub as_table_part : (v : Value) → model.as_table (meant texts v) ≡ option_map table_ref (kept.as_table v)
  unfolding meant
  as_table_part (value.Table t) = refl
  as_table_part _ = refl

  pub as_table_usable : (v : Value) → MayUse texts a w v → OfSome (λ t. MayUse texts a w (value.Table t)) (kept.as_table v)
  as_table_usable (value.Table t) h = h
  as_table_usable _ h = tt

  indexed_table_part : (base : Value) → May base → model.indexed_table part (meant texts base) ≡ option_map table_ref (kept.indexed_table a g base)
  unfolding meant kept.metamethod
  indexed_table_part (value.Table t) h = refl
  indexed_table_part (value.Str x) h =
      ap model.as_table (metamethod_part texts g a w own g.meta.index (codes "__index") own.globals.names.index (value.Str x) h)
      ∙ as_table_part (kept.metamethod a g (value.Str x) g.meta.index)
  indexed_table_part _ h = refl

  indexed_table_usable : (base : Value) → May base → MaySome (kept.indexed_table a g base)
  unfolding kept.metamethod
  indexed_table_usable (value.Table t) h = h
  indexed_table_usable (value.Str x) h =
      as_table_usable (kept.metamethod a g (value.Str x) g.meta.index) (metamethod_usable texts g a w own (value.Str x) g.meta.index h)
  indexed_table_usable _ h = tt

  -- ---- one table

  -- what follows a link is the same in both
  abbrev Follows : (ℕ → m.Value → choice.Choice) → (ℕ → Value → Found) → Type 0
  Follows link along = (n : ℕ) (v : Value) → May v → link n (meant texts v) ≡ found_in texts part (along n v)

  by_index_kept : (link : ℕ → m.Value → choice.Choice) (along : ℕ → Value → Found) → Follows link along → (asked : ℕ) (t : TableId) (key h : Value) →
      May h →
      model.by_index part link asked (table_ref t) (meant texts key) (meant texts h) ≡ found_in texts part (kept.after_link along asked (kept.by_index t key h))
  unfolding meant meant_outcome model.is_function
  by_index_kept link along f asked t key value.Nil may = refl
  by_index_kept link along f asked t key (value.Bool b) may = f asked (value.Bool b) may
  by_index_kept link along f asked t key (value.Num z) may = f asked (value.Num z) may
  by_index_kept link along f asked t key (value.Str x) may = f asked (value.Str x) may
  by_index_kept link along f asked t key (value.Table u) may = f asked (value.Table u) may
  by_index_kept link along f asked t key (value.Thread u) may = f asked (value.Thread u) may
  by_index_kept link along f asked t key (value.Closure u) may = refl
  by_index_kept link along f asked t key (value.Native u) may = refl
  by_index_kept link along f asked t key (value.Host u) may = refl
  by_index_kept link along f asked t key (value.Wrap u) may = refl

  index_found_kept : (link : ℕ → m.Value → choice.Choice) (along : ℕ → Value → Found) → Follows link along →
      (asked : ℕ) (t : TableId) (key v : Value) → May (value.Table t) →
      model.index_found part link asked (table_ref t) (meant texts key) (meant texts v) ≡ found_in texts part
      (kept.after_link along asked (kept.index_found a g t key v))
  unfolding meant meant_outcome kept.metamethod
  index_found_kept link along f asked t key value.Nil h =
      ap (λ h. model.by_index part link asked (table_ref t) (meant texts key) h)
      (metamethod_part texts g a w own g.meta.index (codes "__index") own.globals.names.index (value.Table t) h)
      ∙ by_index_kept link along f asked t key (kept.metamethod a g (value.Table t) g.meta.index)
      (metamethod_usable texts g a w own (value.Table t) g.meta.index h)
  index_found_kept link along f asked t key _ h = refl

  index_asked_kept : (link : ℕ → m.Value → choice.Choice) (along : ℕ → Value → Found) → Follows link along →
      (asked : ℕ) (base key : Value) (t : Option TableId) → MaySome t → May key →
      model.index_asked part link asked (meant texts base) (meant texts key) (option_map table_ref t) ≡ found_in texts part
      (kept.index_of along a g key asked base t)
  unfolding meant_outcome
  index_asked_kept link along f asked base key None h k = ap (λ e. model.chosen part asked (choice.Errs e)) (index_error_kept texts base key)
  index_asked_kept link along f asked base key (Some t) h k =
      ap (λ v. model.index_found part link (suc asked) (table_ref t) (meant texts key) v) (get_part texts g a w own t key h k)
      ∙ index_found_kept link along f (suc asked) t key (rule.get (table_at a t) key) h

  one_more : (link : ℕ → m.Value → choice.Choice) (along : ℕ → Value → Found) → Follows link along → (asked : ℕ) (base key : Value) → May base →
      May key →
      model.index_asked part link asked (meant texts base) (meant texts key) (model.indexed_table part (meant texts base)) ≡ found_in texts part
      (kept.index_of along a g key asked base (kept.indexed_table a g base))
  one_more link along f asked base key h k =
      ap (λ t. model.index_asked part link asked (meant texts base) (meant texts key) t) (indexed_table_part base h)
      ∙ index_asked_kept link along f asked base key (kept.indexed_table a g base) (indexed_table_usable base h) k

  -- ---- along the links

  along_kept : (links : ℕ) (key : Value) → May key → Follows (model.index_along links part (meant texts key)) (kept.index_along (suc links) a g key)
  unfolding kept.index_along meant_outcome meant_error
  along_kept zero key k n v h = one_more (λ n v. model.chosen part n (choice.Errs error.IndexChain)) (kept.index_along zero a g key) (λ n v h. refl) n v key h k
  along_kept (suc links) key k n v h =
      one_more (model.index_along links part (meant texts key)) (kept.index_along (suc links) a g key) (along_kept links key k) n v key h k

  -- ---- and what comes of it may be used

  abbrev OfFound : Found → Type 0
  OfFound f = OfOutcome texts (MayUse texts a w) f.0

  abbrev Usable : (ℕ → Value → Found) → Type 0
  Usable along = (n : ℕ) (v : Value) → May v → OfFound (along n v)

  by_index_usable : (along : ℕ → Value → Found) → Usable along → (asked : ℕ) (t : TableId) (key h : Value) → May (value.Table t) → May key → May h →
      OfFound (kept.after_link along asked (kept.by_index t key h))
  by_index_usable along f asked t key h mt mk mh = by (kept.is_nil h) (kept.is_function h)
    where
      by : (b c : Bool) →
          OfFound (kept.after_link along asked (cond b (Ends (Done value.Nil)) (cond c (Ends (kept.call_two h (value.Table t) key)) (To h))))
      by true c = (tt, tt)
      by false true = (mh, (mt, (mk, ((tt, tt), tt))))
      by false false = f asked h mh

  index_found_usable : (along : ℕ → Value → Found) → Usable along → (asked : ℕ) (t : TableId) (key v : Value) → May (value.Table t) → May key →
      May v → OfFound (kept.after_link along asked (kept.index_found a g t key v))
  unfolding kept.metamethod
  index_found_usable along f asked t key v mt mk mv = by (kept.is_nil v)
    where
      by : (b : Bool) →
          OfFound (kept.after_link along asked (cond b (kept.by_index t key (kept.said_by a (table_at a t).meta g.meta.index)) (Ends (Done v))))
      by true = by_index_usable along f asked t key (kept.metamethod a g (value.Table t) g.meta.index) mt mk
          (metamethod_usable texts g a w own (value.Table t) g.meta.index mt)
      by false = mv

  index_of_usable : (along : ℕ → Value → Found) → Usable along → (asked : ℕ) (base key : Value) (t : Option TableId) → MaySome t → May key →
      OfFound (kept.index_of along a g key asked base t)
  index_of_usable along f asked base key None h k = index_error_known texts base key k.1
  index_of_usable along f asked base key (Some t) h k =
      index_found_usable along f (suc asked) t key (rule.get (table_at a t) key) h k (got_usable texts g a w own t key h)

  along_usable : (tables : ℕ) (key : Value) → May key → Usable (kept.index_along tables a g key)
  unfolding kept.index_along
  along_usable zero key k n v h = tt
  along_usable (suc tables) key k n v h =
      index_of_usable (kept.index_along tables a g key) (along_usable tables key k) n v key (kept.indexed_table a g v) (indexed_table_usable v h) k

  pub index_chosen : (base key : Value) → MayUse texts a w base → MayUse texts a w key → (found : Found) →
      found ≡ kept.index_along 101 a g key 0 base → IsChosen texts g a w (choice.Index (meant texts base) (meant texts key)) found.0 found.1
  unfolding model.choose model.index
  index_chosen base key h k found e =
      record {
        meant = ap (found_in texts part) e ∙ sym (along_kept 100 key k 0 base h);
        usable = subst OfFound (sym e) (along_usable 101 key k 0 base h);
      }
