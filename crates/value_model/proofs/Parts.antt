-- Two values of code are one where the plain ones are.
use Rattle.std.proofs.lemmas.Option.{slice_get-get_or}
use Rattle.std.proofs.Common.{◌≡◌, ℕ, ℤ, Bool, List, [], Some, slice_index_or, ◌<◌, length, refl, ap, ◌∙◌, sym}
use Rattle.byte_text.specs.Texts.{AreDistinct}
use Rattle.byte_text.specs.declared.fixed.StrId.{StrId}
use Rattle.value_model.specs.declared.ids.ShortOwner.{ShortOwner}
use Rattle.value_model.specs.declared.ids.ShortOwner.TheVariants.{Frozen, Script}
use Rattle.value_model.specs.declared.ids.TableId.{TableId}
use Rattle.value_model.specs.declared.ids.ClosureId.{ClosureId}
use Rattle.value_model.specs.declared.ids.ThreadId.{ThreadId}
use Rattle.value_model.specs.declared.ids.HostId.{HostId}
use Rattle.value_model.specs.declared.value.Value.{Value as KeptValue}
use Rattle.value_model.specs.declared.value.Value.TheVariants as kept
use Rattle.value_model.specs.Values.{Bytes, TableRef, Boolean, Number, Text, Table, Closure, Host, Wrap, Thread}
use Rattle.value_model.specs.Parts.{by_owner, table_ref, meant}

-- an owner that a script may refer to
pub data IsSeen (script : ℕ) : ShortOwner → Type 0 where
  frozen : IsSeen script Frozen
  own : IsSeen script (Script script)

-- a value that a script may hold: its texts are known, and its objects are the script's or nobody's
abbrev pub MayHold : (texts : List Bytes) → (script : ℕ) → KeptValue → Type 0
MayHold texts n (kept.Str x) = x.0 < length texts
MayHold texts n (kept.Table t) = IsSeen n t.owner
MayHold texts n (kept.Closure f) = f.owner ≡ Script n
MayHold texts n (kept.Wrap co) = co.owner ≡ Script n
MayHold texts n (kept.Thread co) = co.owner ≡ Script n
MayHold texts n v = Unit {0}

owners_are : (n i j : ℕ) (o p : ShortOwner) → IsSeen n o → IsSeen n p → by_owner o i ≡ by_owner p j → (o ≡ p) × (i ≡ j)
owners_are n i j Frozen Frozen frozen frozen e = (refl, cc)
owners_are n i j (Script m) (Script k) own own e = (refl, cc)
owners_are n i j Frozen (Script k) frozen own e = cc
owners_are n i j (Script m) Frozen own frozen e = cc

tables_are : (n : ℕ) (t u : TableId) → IsSeen n t.owner → IsSeen n u.owner → table_ref t ≡ table_ref u → t ≡ u
tables_are n t u h k e = let r = owners_are n t.place u.place t.owner u.owner h k e in λ i. record { owner = r.0 i; place = r.1 i }

texts_are : (texts : List Bytes) (x y : StrId) → AreDistinct texts → x.0 < length texts → y.0 < length texts → slice_index_or texts x.0 [] ≡ slice_index_or texts y.0 [] → x ≡ y
texts_are texts x y d h k e = λ i. record { 0 = same i }
  where
    same : x.0 ≡ y.0
    same = d.same x.0 y.0 (slice_index_or texts y.0 []) (slice_get-get_or texts x.0 [] h ∙ ap (λ t. Some t) e) (slice_get-get_or texts y.0 [] k)

closures_are : (n : ℕ) (f g : ClosureId) → f.owner ≡ Script n → g.owner ≡ Script n → f.place ≡ g.place → f ≡ g
closures_are n f g h k e = λ i. record { owner = (h ∙ sym k) i; place = e i }

threads_are : (n : ℕ) (f g : ThreadId) → f.owner ≡ Script n → g.owner ≡ Script n → f.place ≡ g.place → f ≡ g
threads_are n f g h k e = λ i. record { owner = (h ∙ sym k) i; place = e i }

hosts_are : (f g : HostId) → f.0 ≡ g.0 → f ≡ g
hosts_are f g e = λ i. record { 0 = e i }

-- of values that one script may hold no two look alike
pub plain_apart : (texts : List Bytes) (n : ℕ) → AreDistinct texts → (a b : KeptValue) → MayHold texts n a → MayHold texts n b → meant texts a ≡ meant texts b → a ≡ b
unfolding meant
plain_apart texts n d kept.Nil kept.Nil h k e = refl
plain_apart texts n d (kept.Bool a) (kept.Bool b) h k e = ap kept.Bool (of_boolean a b e)
  where
    of_boolean : (a b : Bool) → Boolean a ≡ Boolean b → a ≡ b
    of_boolean a b e = cc
plain_apart texts n d (kept.Num a) (kept.Num b) h k e = ap kept.Num (of_number a b e)
  where
    of_number : (a b : ℤ) → Number a ≡ Number b → a ≡ b
    of_number a b e = cc
plain_apart texts n d (kept.Str x) (kept.Str y) h k e = ap kept.Str (texts_are texts x y d h k (of_text _ _ e))
  where
    of_text : (a b : Bytes) → Text a ≡ Text b → a ≡ b
    of_text a b e = cc
plain_apart texts n d (kept.Table t) (kept.Table u) h k e = ap kept.Table (tables_are n t u h k (of_table _ _ e))
  where
    of_table : (a b : TableRef) → Table a ≡ Table b → a ≡ b
    of_table a b e = cc
plain_apart texts n d (kept.Closure f) (kept.Closure g) h k e = ap kept.Closure (closures_are n f g h k (of_place _ _ e))
  where
    of_place : (a b : ℕ) → Closure a ≡ Closure b → a ≡ b
    of_place a b e = cc
plain_apart texts n d (kept.Native f) (kept.Native g) h k e = cc
plain_apart texts n d (kept.Host f) (kept.Host g) h k e = ap kept.Host (hosts_are f g (of_place _ _ e))
  where
    of_place : (a b : ℕ) → Host a ≡ Host b → a ≡ b
    of_place a b e = cc
plain_apart texts n d (kept.Wrap f) (kept.Wrap g) h k e = ap kept.Wrap (threads_are n f g h k (of_place _ _ e))
  where
    of_place : (a b : ℕ) → Wrap a ≡ Wrap b → a ≡ b
    of_place a b e = cc
plain_apart texts n d (kept.Thread f) (kept.Thread g) h k e = ap kept.Thread (threads_are n f g h k (of_place _ _ e))
  where
    of_place : (a b : ℕ) → Thread a ≡ Thread b → a ≡ b
    of_place a b e = cc
plain_apart texts n d _ _ h k e = cc
