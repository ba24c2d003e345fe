-- `same` says whether two values are one.
use Rattle.std.proofs.Common.{◌≡◌, ℕ, Bool, true, false, nat_eq, List, Decides, refl, ap, rules, arith}
use Rattle.std.specs.Str.{bytes_eq}
use Rattle.std.proofs.lemmas.Grind.{common_steps}
use Rattle.std.proofs.lemmas.Bool.Decides.{Decides-int_eq}
use denote.Enum.Bare.{same_true, true_same}
use Rattle.value_model.specs.declared.builtin.Builtin.{Builtin}
use Rattle.value_model.specs.contracts.builtin.Builtin as builtin
use Rattle.value_model.specs.contracts.builtin.BuiltinPartialEq.TheImpl.{ghosts}
use Rattle.value_model.specs.Values.{TableRef, Shared, Own, Value, Nil, Boolean, Number, Text, Table, Closure, Native, Host, Wrap, Thread}
use Rattle.value_model.specs.Store.{same_table}
use Rattle.value_model.specs.Tables.{same, same_boolean}

number_is : (a b : ℕ) → nat_eq a b ≡ true → a ≡ b
number_is a b h = first_of (search rules, grind (arith, common_steps))

boolean_is : (a b : Bool) → same_boolean a b ≡ true → a ≡ b
boolean_is true true h = refl
boolean_is false false h = refl
boolean_is true false h = cc
boolean_is false true h = cc

bytes_are : (a b : List ℕ) → bytes_eq a b ≡ true → a ≡ b
bytes_are a b h = first_of (search rules, grind (arith, common_steps))

table_is : (a b : TableRef) → same_table a b ≡ true → a ≡ b
table_is (Shared i) (Shared j) h = ap (λ x. Shared x) (number_is i j h)
table_is (Own i) (Own j) h = ap (λ x. Own x) (number_is i j h)
table_is (Shared i) (Own j) h = cc
table_is (Own i) (Shared j) h = cc

builtin_is : (a b : Builtin) → ghosts.eq a b ≡ true → a ≡ b
builtin_is a b h = same_true builtin.the_type tt a b h

pub same_is : (a b : Value) → same a b ≡ true → a ≡ b
unfolding same
same_is Nil Nil h = refl
same_is (Boolean a) (Boolean b) h = ap (λ x. Boolean x) (boolean_is a b h)
same_is (Number a) (Number b) h = ap (λ x. Number x) ((Decides-int_eq a b).0 h)
same_is (Text a) (Text b) h = ap (λ x. Text x) (bytes_are a b h)
same_is (Table a) (Table b) h = ap (λ x. Table x) (table_is a b h)
same_is (Closure a) (Closure b) h = ap (λ x. Closure x) (number_is a b h)
same_is (Native a) (Native b) h = ap (λ x. Native x) (builtin_is a b h)
same_is (Host a) (Host b) h = ap (λ x. Host x) (number_is a b h)
same_is (Wrap a) (Wrap b) h = ap (λ x. Wrap x) (number_is a b h)
same_is (Thread a) (Thread b) h = ap (λ x. Thread x) (number_is a b h)
same_is _ _ h = cc

number_same : (a : ℕ) → nat_eq a a ≡ true
number_same a = search rules

-- a value is itself
pub same_refl : (a : Value) → same a a ≡ true
unfolding same
same_refl Nil = refl
same_refl (Boolean true) = refl
same_refl (Boolean false) = refl
same_refl (Number a) = (Decides-int_eq a a).1 refl
same_refl (Text a) = search rules
same_refl (Table (Shared i)) = number_same i
same_refl (Table (Own i)) = number_same i
same_refl (Closure a) = number_same a
same_refl (Native a) = true_same builtin.the_type a a refl
same_refl (Host a) = number_same a
same_refl (Wrap a) = number_same a
same_refl (Thread a) = number_same a

pub same_decides : (a b : Value) → Decides (same a b) (a ≡ b)
same_decides a b = (same_is a b, λ e. rw e (same_refl b))
