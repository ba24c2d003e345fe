-- The global table and what leads from it, as the meanings know it.
use Rattle.std.specs.Prelude.{List, map}
use Rattle.value_model.specs.Values.{Bytes}
use Rattle.value_model.specs.Names.{text_of, name_of}
use Rattle.value_model.specs.Parts.{meant, table_ref, bytes_at}
use Rattle.value_model.specs.Store as store
use Rattle.value_model.specs.declared.value.Value.{Value}
use Rattle.luau_tables.specs.declared.globals.Globals.{Globals}

-- by the texts of the interner
abbrev pub globals_of : (texts : List Bytes) → Globals → store.Globals
globals_of texts g =
    record {
      table = table_ref g.table;
      string_meta = table_ref g.string_meta;
      paths = map (λ p. (table_ref p.0, bytes_at texts p.1.0)) g.paths.items;
      hosts = map (λ x. bytes_at texts x.0) g.hosts.items;
    }

-- the text of a value where no `__tostring` is asked
unfoldable pub plain_text : (texts : List Bytes) → Globals → Value → Bytes
plain_text texts g v = text_of (name_of (globals_of texts g) (meant texts v))
