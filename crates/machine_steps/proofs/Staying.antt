-- A script's world stays the script's.
use Rattle.std.proofs.Common.{◌≡◌, List, [], refl, sym, ◌∙◌, ap, append-nil}
use Rattle.value_model.specs.Values.{Bytes}
use Rattle.luau_tables.specs.Worlds.{Keeps, Extends}
use Rattle.luau_tables.proofs.WorldsKept.{may_use_on}
use Rattle.luau_tables.specs.declared.globals.LibWorld.{LibWorld}
use Rattle.machine_world.specs.Sound.{UsesStay}
use Rattle.machine_steps.specs.Courses.{Stays}

extends_same : (texts after : List Bytes) → after ≡ texts → Extends texts after
extends_same texts after e = record { more = []; appended = e ∙ sym (append-nil texts) }

pub stays_same : (w : LibWorld) → Stays w w
stays_same w = record { owner = refl; globals = refl; names = extends_same w.names w.names refl; uses = λ v h. h }

pub stays_beside : (w w' : LibWorld) → w' ≡ record w { arena = w'.arena } → UsesStay w w' → Stays w w'
stays_beside w w' e uses =
    record {
      owner = ap (λ (v : LibWorld). v.owner) e;
      globals = ap (λ (v : LibWorld). v.globals) e;
      names = extends_same w.names w'.names (ap (λ (v : LibWorld). v.names) e);
      uses = uses;
    }

pub stays_kept : (w w' : LibWorld) → Keeps w w' → Stays w w'
stays_kept w w' keeps = record { owner = keeps.owner; globals = keeps.globals; names = keeps.names; uses = may_use_on w w' keeps }
