-- `==` of two values says whether they are one.
use Rattle.std.proofs.Common.{◌≡◌, true, refl, ap, arith, rules}
use Rattle.std.specs.Bool.{Decides}
use Rattle.std.proofs.lemmas.Grind.{common_steps}
use denote.Enum.Bare.{same_true, true_same}
use Rattle.byte_text.specs.declared.fixed.StrId.{StrId}
use Rattle.whole_num.specs.declared.whole.Whole.{Whole}
use Rattle.byte_text.specs.contracts.fixed.StrIdPartialEq.TheImpl as text_eq
use Rattle.whole_num.specs.contracts.whole.WholePartialEq.TheImpl as whole_eq
use Rattle.value_model.specs.declared.value.Value.{Value}
use Rattle.value_model.specs.declared.value.Value.TheVariants as value
use Rattle.value_model.specs.declared.ids.TableId.{TableId}
use Rattle.value_model.specs.declared.ids.ClosureId.{ClosureId}
use Rattle.value_model.specs.declared.ids.HostId.{HostId}
use Rattle.value_model.specs.declared.ids.ThreadId.{ThreadId}
use Rattle.value_model.specs.declared.ids.ShortOwner.{ShortOwner}
use Rattle.value_model.specs.declared.ids.ShortOwner.TheVariants as owner
use Rattle.value_model.specs.declared.builtin.Builtin.{Builtin}
use Rattle.value_model.specs.contracts.builtin.Builtin as builtin
use Rattle.value_model.specs.contracts.value.ValueEq.TheImpl.Laws.{laws-law}
use Rattle.value_model.specs.contracts.value.ValuePartialEq.TheImpl as value_eq
use Rattle.value_model.specs.contracts.ids.TableIdPartialEq.TheImpl as table_eq
use Rattle.value_model.specs.contracts.ids.ClosureIdPartialEq.TheImpl as closure_eq
use Rattle.value_model.specs.contracts.ids.ThreadIdPartialEq.TheImpl as thread_eq
use Rattle.value_model.specs.contracts.ids.HostIdPartialEq.TheImpl as host_eq
use Rattle.value_model.specs.contracts.ids.ShortOwnerPartialEq.TheImpl as owner_eq
use Rattle.value_model.specs.contracts.builtin.BuiltinPartialEq.TheImpl as builtin_eq

text_is : (a b : StrId) → text_eq.ghosts.eq a b ≡ true → a ≡ b
text_is a b h = first_of (search rules, grind (arith, common_steps))

whole_is : (a b : Whole) → whole_eq.ghosts.eq a b ≡ true → a ≡ b
whole_is a b h = first_of (search rules, grind (arith, common_steps))

owner_is : (a b : ShortOwner) → owner_eq.ghosts.eq a b ≡ true → a ≡ b
owner_is owner.Frozen owner.Frozen h = refl
owner_is (owner.Script m) (owner.Script n) h = ap owner.Script (first_of (search rules, grind (arith, common_steps)))
owner_is _ _ h = cc

table_is : (a b : TableId) → table_eq.ghosts.eq a b ≡ true → a ≡ b
table_is a b h = first_of (search (rules, owner_is), grind (arith, common_steps, owner_is))

closure_is : (a b : ClosureId) → closure_eq.ghosts.eq a b ≡ true → a ≡ b
closure_is a b h = first_of (search (rules, owner_is), grind (arith, common_steps, owner_is))

thread_is : (a b : ThreadId) → thread_eq.ghosts.eq a b ≡ true → a ≡ b
thread_is a b h = first_of (search (rules, owner_is), grind (arith, common_steps, owner_is))

host_is : (a b : HostId) → host_eq.ghosts.eq a b ≡ true → a ≡ b
host_is a b h = first_of (search rules, grind (arith, common_steps))

pub builtin_is : (a b : Builtin) → builtin_eq.ghosts.eq a b ≡ true → a ≡ b
builtin_is a b h = same_true builtin.the_type tt a b h

pub value_is : (a b : Value) → value_eq.ghosts.eq a b ≡ true → a ≡ b
value_is value.Nil value.Nil h = refl
value_is (value.Bool a) (value.Bool b) h = ap value.Bool (first_of (search rules, grind (arith, common_steps)))
value_is (value.Num a) (value.Num b) h = ap value.Num (whole_is a b h)
value_is (value.Str a) (value.Str b) h = ap value.Str (text_is a b h)
value_is (value.Table a) (value.Table b) h = ap value.Table (table_is a b h)
value_is (value.Closure a) (value.Closure b) h = ap value.Closure (closure_is a b h)
value_is (value.Native a) (value.Native b) h = ap value.Native (builtin_is a b h)
value_is (value.Host a) (value.Host b) h = ap value.Host (host_is a b h)
value_is (value.Wrap a) (value.Wrap b) h = ap value.Wrap (thread_is a b h)
value_is (value.Thread a) (value.Thread b) h = ap value.Thread (thread_is a b h)
value_is _ _ h = cc

pub is_value : (a b : Value) → a ≡ b → value_eq.ghosts.eq a b ≡ true
is_value a b e = rw e (laws-law.refl b)

pub value_decides : (a b : Value) → Decides (value_eq.ghosts.eq a b) (a ≡ b)
value_decides a b = (value_is a b, is_value a b)

pub is_builtin : (a b : Builtin) → a ≡ b → builtin_eq.ghosts.eq a b ≡ true
is_builtin a b e = true_same builtin.the_type a b e
