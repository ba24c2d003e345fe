-- A function is one of those that are named.
use Rattle.std.proofs.Common.{◌≡◌, refl}
use Rattle.value_model.specs.declared.builtin.Builtin.{Builtin}
use Rattle.value_model.specs.declared.builtin.Builtin.TheVariants as builtin
use Rattle.lib_core.specs.Builtins.{IsCore, IsReader}

pub no_reader : (f : Builtin) → IsReader f → (f ≡ builtin.Tonumber → ⊥) → (f ≡ builtin.Select → ⊥) → (f ≡ builtin.Next → ⊥) → (f ≡ builtin.Pairs → ⊥) → (f ≡ builtin.Ipairs → ⊥) → (f ≡ builtin.IpairsIterator → ⊥) → (f ≡ builtin.Rawget → ⊥) → (f ≡ builtin.Rawequal → ⊥) → (f ≡ builtin.Rawlen → ⊥) → (f ≡ builtin.Getmetatable → ⊥) → ⊥
no_reader builtin.Tonumber h n0 n1 n2 n3 n4 n5 n6 n7 n8 n9 = n0 refl
no_reader builtin.Select h n0 n1 n2 n3 n4 n5 n6 n7 n8 n9 = n1 refl
no_reader builtin.Next h n0 n1 n2 n3 n4 n5 n6 n7 n8 n9 = n2 refl
no_reader builtin.Pairs h n0 n1 n2 n3 n4 n5 n6 n7 n8 n9 = n3 refl
no_reader builtin.Ipairs h n0 n1 n2 n3 n4 n5 n6 n7 n8 n9 = n4 refl
no_reader builtin.IpairsIterator h n0 n1 n2 n3 n4 n5 n6 n7 n8 n9 = n5 refl
no_reader builtin.Rawget h n0 n1 n2 n3 n4 n5 n6 n7 n8 n9 = n6 refl
no_reader builtin.Rawequal h n0 n1 n2 n3 n4 n5 n6 n7 n8 n9 = n7 refl
no_reader builtin.Rawlen h n0 n1 n2 n3 n4 n5 n6 n7 n8 n9 = n8 refl
no_reader builtin.Getmetatable h n0 n1 n2 n3 n4 n5 n6 n7 n8 n9 = n9 refl
no_reader _ h n0 n1 n2 n3 n4 n5 n6 n7 n8 n9 = h

pub reads : (f : Builtin) → IsCore f → (f ≡ builtin.Print → ⊥) → (f ≡ builtin.Tostring → ⊥) → (f ≡ builtin.Assert → ⊥) → (f ≡ builtin.Error → ⊥) → (f ≡ builtin.Rawset → ⊥) → (f ≡ builtin.Setmetatable → ⊥) → (f ≡ builtin.Type → ⊥) → (f ≡ builtin.Typeof → ⊥) → IsReader f
reads builtin.Print h n0 n1 n2 n3 n4 n5 n6 n7 = absurd (n0 refl)
reads builtin.Tostring h n0 n1 n2 n3 n4 n5 n6 n7 = absurd (n1 refl)
reads builtin.Assert h n0 n1 n2 n3 n4 n5 n6 n7 = absurd (n2 refl)
reads builtin.Error h n0 n1 n2 n3 n4 n5 n6 n7 = absurd (n3 refl)
reads builtin.Rawset h n0 n1 n2 n3 n4 n5 n6 n7 = absurd (n4 refl)
reads builtin.Setmetatable h n0 n1 n2 n3 n4 n5 n6 n7 = absurd (n5 refl)
reads builtin.Type h n0 n1 n2 n3 n4 n5 n6 n7 = absurd (n6 refl)
reads builtin.Typeof h n0 n1 n2 n3 n4 n5 n6 n7 = absurd (n7 refl)
reads _ h n0 n1 n2 n3 n4 n5 n6 n7 = h
