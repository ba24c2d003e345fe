-- A function is one of those that are named.
use Rattle.std.proofs.Common.{◌≡◌, ◌⊎◌, inl, inr, List, refl}
use Rattle.luau_tables.specs.Answers.{raised_by}
use Rattle.value_model.specs.Values as m
use Rattle.value_model.specs.Waits.{Elsewise}
use Rattle.value_model.specs.declared.builtin.Builtin.{Builtin}
use Rattle.value_model.specs.declared.builtin.Builtin.TheVariants as builtin
use Rattle.lib_math_table.specs.Builtins.{IsMath, IsTable}

pub no_math : (f : Builtin) → IsMath f → (f ≡ builtin.MathAbs → ⊥) → (f ≡ builtin.MathCeil → ⊥) → (f ≡ builtin.MathFloor → ⊥) → (f ≡ builtin.MathRound → ⊥) → (f ≡ builtin.MathSign → ⊥) → (f ≡ builtin.MathMax → ⊥) → (f ≡ builtin.MathMin → ⊥) → (f ≡ builtin.MathClamp → ⊥) → ⊥
no_math builtin.MathAbs h n0 n1 n2 n3 n4 n5 n6 n7 = n0 refl
no_math builtin.MathCeil h n0 n1 n2 n3 n4 n5 n6 n7 = n1 refl
no_math builtin.MathFloor h n0 n1 n2 n3 n4 n5 n6 n7 = n2 refl
no_math builtin.MathRound h n0 n1 n2 n3 n4 n5 n6 n7 = n3 refl
no_math builtin.MathSign h n0 n1 n2 n3 n4 n5 n6 n7 = n4 refl
no_math builtin.MathMax h n0 n1 n2 n3 n4 n5 n6 n7 = n5 refl
no_math builtin.MathMin h n0 n1 n2 n3 n4 n5 n6 n7 = n6 refl
no_math builtin.MathClamp h n0 n1 n2 n3 n4 n5 n6 n7 = n7 refl
no_math _ h n0 n1 n2 n3 n4 n5 n6 n7 = h

pub no_table : (f : Builtin) → IsTable f → (f ≡ builtin.TableInsert → ⊥) → (f ≡ builtin.TableRemove → ⊥) → (f ≡ builtin.TableConcat → ⊥) → (f ≡ builtin.TableUnpack → ⊥) → (f ≡ builtin.TablePack → ⊥) → (f ≡ builtin.TableCreate → ⊥) → (f ≡ builtin.TableFind → ⊥) → (f ≡ builtin.TableClear → ⊥) → (f ≡ builtin.TableClone → ⊥) → (f ≡ builtin.TableFreeze → ⊥) → (f ≡ builtin.TableIsfrozen → ⊥) → (f ≡ builtin.TableMove → ⊥) → (f ≡ builtin.TableSort → ⊥) → ⊥
no_table builtin.TableInsert h n0 n1 n2 n3 n4 n5 n6 n7 n8 n9 n10 n11 n12 = n0 refl
no_table builtin.TableRemove h n0 n1 n2 n3 n4 n5 n6 n7 n8 n9 n10 n11 n12 = n1 refl
no_table builtin.TableConcat h n0 n1 n2 n3 n4 n5 n6 n7 n8 n9 n10 n11 n12 = n2 refl
no_table builtin.TableUnpack h n0 n1 n2 n3 n4 n5 n6 n7 n8 n9 n10 n11 n12 = n3 refl
no_table builtin.TablePack h n0 n1 n2 n3 n4 n5 n6 n7 n8 n9 n10 n11 n12 = n4 refl
no_table builtin.TableCreate h n0 n1 n2 n3 n4 n5 n6 n7 n8 n9 n10 n11 n12 = n5 refl
no_table builtin.TableFind h n0 n1 n2 n3 n4 n5 n6 n7 n8 n9 n10 n11 n12 = n6 refl
no_table builtin.TableClear h n0 n1 n2 n3 n4 n5 n6 n7 n8 n9 n10 n11 n12 = n7 refl
no_table builtin.TableClone h n0 n1 n2 n3 n4 n5 n6 n7 n8 n9 n10 n11 n12 = n8 refl
no_table builtin.TableFreeze h n0 n1 n2 n3 n4 n5 n6 n7 n8 n9 n10 n11 n12 = n9 refl
no_table builtin.TableIsfrozen h n0 n1 n2 n3 n4 n5 n6 n7 n8 n9 n10 n11 n12 = n10 refl
no_table builtin.TableMove h n0 n1 n2 n3 n4 n5 n6 n7 n8 n9 n10 n11 n12 = n11 refl
no_table builtin.TableSort h n0 n1 n2 n3 n4 n5 n6 n7 n8 n9 n10 n11 n12 = n12 refl
no_table _ h n0 n1 n2 n3 n4 n5 n6 n7 n8 n9 n10 n11 n12 = h

-- none of them says how a value was raised
pub raised_elsewise : (args : List m.Value) (f : Builtin) → IsMath f ⊎ IsTable f → Elsewise ≡ raised_by f args
raised_elsewise args builtin.Error (inl is) = absurd is
raised_elsewise args builtin.Error (inr is) = absurd is
raised_elsewise args _ is = refl
