-- What a script may come to: its own objects and those of nobody, and texts that the interner holds.
use Rattle.std.specs.Prelude.{◌≡◌, ℕ, ◌<◌, ◌^◌, true, List, [], length, Some, slice_get, codes, IfSome}
use Rattle.std.specs.List.{AllByRecursion}
use Rattle.byte_text.specs.Texts.{AreDistinct}
use Rattle.value_model.specs.Values.{Bytes}
use Rattle.value_model.specs.declared.ids.Owner.{Owner}
use Rattle.value_model.specs.declared.ids.Owner.TheVariants as owner
use Rattle.value_model.specs.declared.ids.ShortOwner.TheVariants.{Frozen}
use Rattle.value_model.specs.declared.ids.TableId.{TableId}
use Rattle.value_model.specs.declared.ids.CellId.{CellId}
use Rattle.value_model.specs.declared.ids.ThreadId.{ThreadId}
use Rattle.value_model.specs.declared.value.Value.{Value}
use Rattle.value_model.specs.declared.value.Value.TheVariants as value
use Rattle.value_arena.specs.Tables.{TableView}
use Rattle.value_arena.specs.Arenas.{ArenaView, HasTable, HasClosure, HasThread, objects_of, table_at, cell_at, thread_at}
use Rattle.value_arena.specs.Owning.{MayHold, IsOwned}
use Rattle.luau_tables.specs.Part.{IsScript}
use Rattle.luau_tables.specs.declared.globals.Globals.{Globals}
use Rattle.luau_tables.specs.declared.globals.MetaNames.{MetaNames}

-- ---- texts

-- a text has fewer bytes than there are whole numbers that are not negative
abbrev pub longest_text : ℕ
longest_text = 2 ^ 53

-- no text has two numbers, and none is too long for its length to be a whole number
pub record AreTexts (texts : List Bytes) : Type 0 where
  pub distinct : AreDistinct texts
  pub short : (i : ℕ) (t : Bytes) → slice_get texts i ≡ Some t → length t < longest_text

-- a value that is a text has the number of one of the texts
abbrev pub HasText : (texts : List Bytes) → Value → Type 0
HasText texts (value.Str x) = x.0 < length texts
HasText texts v = Unit {0}

-- and each key and value in a table is such a one
abbrev pub HasTextsInTable : (texts : List Bytes) → TableView → Type 0
HasTextsInTable texts t = AllByRecursion (λ e. HasText texts e.0 × HasText texts e.1) t.entries

-- so is each value in an arena
pub record HasTexts (texts : List Bytes) (a : ArenaView) : Type 0 where
  pub tables : (t : TableId) → HasTextsInTable texts (table_at a t)
  pub cells : (c : CellId) → HasText texts (cell_at a c)
  pub bodies : (t : ThreadId) → HasText texts (thread_at a t).body
  pub failures : (t : ThreadId) → IfSome (thread_at a t).failure (λ v. HasText texts v)

-- the names of metamethods have their numbers
pub record AreNames (texts : List Bytes) (m : MetaNames) : Type 0 where
  pub index : slice_get texts m.index.0 ≡ Some (codes "__index")
  pub newindex : slice_get texts m.newindex.0 ≡ Some (codes "__newindex")
  pub call : slice_get texts m.call.0 ≡ Some (codes "__call")
  pub eq : slice_get texts m.eq.0 ≡ Some (codes "__eq")
  pub lt : slice_get texts m.lt.0 ≡ Some (codes "__lt")
  pub le : slice_get texts m.le.0 ≡ Some (codes "__le")
  pub add : slice_get texts m.add.0 ≡ Some (codes "__add")
  pub sub : slice_get texts m.sub.0 ≡ Some (codes "__sub")
  pub mul : slice_get texts m.mul.0 ≡ Some (codes "__mul")
  pub div : slice_get texts m.div.0 ≡ Some (codes "__div")
  pub idiv : slice_get texts m.idiv.0 ≡ Some (codes "__idiv")
  pub mod_ : slice_get texts m.mod_.0 ≡ Some (codes "__mod")
  pub pow : slice_get texts m.pow.0 ≡ Some (codes "__pow")
  pub unm : slice_get texts m.unm.0 ≡ Some (codes "__unm")
  pub concat : slice_get texts m.concat.0 ≡ Some (codes "__concat")
  pub len : slice_get texts m.len.0 ≡ Some (codes "__len")
  pub iter : slice_get texts m.iter.0 ≡ Some (codes "__iter")
  pub tostring : slice_get texts m.tostring.0 ≡ Some (codes "__tostring")
  pub metatable : slice_get texts m.metatable.0 ≡ Some (codes "__metatable")

-- ---- objects

-- the object of a value is there
abbrev pub IsThere : ArenaView → Value → Type 0
IsThere a (value.Table t) = HasTable a t
IsThere a (value.Closure f) = HasClosure a f
IsThere a (value.Wrap t) = HasThread a t
IsThere a (value.Thread t) = HasThread a t
IsThere a v = Unit {0}

-- The tables that all scripts start from are there, and are nobody's; and each path has its text.
pub record HasGlobals (texts : List Bytes) (g : Globals) (a : ArenaView) : Type 0 where
  pub table : HasTable a g.table
  pub table_owner : g.table.owner ≡ Frozen
  pub string_meta : HasTable a g.string_meta
  pub string_meta_owner : g.string_meta.owner ≡ Frozen
  pub names : AreNames texts g.meta
  pub paths : AllByRecursion (λ p. p.1.0 < length texts) g.paths.items
  pub hosts : AllByRecursion (λ x. x.0 < length texts) g.hosts.items

-- What nobody owns is a table that cannot be written.
pub record SharesTables (a : ArenaView) : Type 0 where
  pub frozen : (t : TableId) → t.owner ≡ Frozen → HasTable a t → (table_at a t).is_frozen ≡ true
  pub closures : (objects_of a owner.Frozen).closures ≡ []
  pub threads : (objects_of a owner.Frozen).threads ≡ []

-- What a script of an owner can come to is its own or nobody's.
pub record IsOwn (texts : List Bytes) (g : Globals) (a : ArenaView) (w : Owner) : Type 0 where
  pub script : IsScript w
  pub interned : AreTexts texts
  pub owned : IsOwned a
  pub numbered : HasTexts texts a
  pub globals : HasGlobals texts g a
  pub shared : SharesTables a
  pub running : IfSome a.running (λ t. MayHold a w (value.Thread t))

-- a value that the script may use
abbrev pub MayUse : (texts : List Bytes) → ArenaView → Owner → Value → Type 0
MayUse texts a w v = MayHold a w v × HasText texts v
