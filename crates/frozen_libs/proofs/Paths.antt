-- Paths of tables and names of host functions, as they come and as texts come.
use Rattle.std.proofs.Common.{◌≡◌, ◌<◌, List, [], ◌∷◌, ◌++◌, map, length, Some, slice_get, refl, sym, ◌∙◌, ap, subst}
use Rattle.std.proofs.lemmas.List.{map-append}
use Rattle.std.proofs.lemmas.Option.{get_or_from_slice_get, slice_get_within}
use Rattle.std.specs.List.{AllByRecursion}
use Rattle.byte_text.specs.declared.fixed.StrId.{StrId}
use Rattle.value_model.specs.Parts.{bytes_at, table_ref}
use Rattle.value_model.specs.Values.{Bytes, TableRef}
use Rattle.value_model.specs.declared.ids.TableId.{TableId}
use Rattle.luau_tables.specs.Worlds.{Extends}
use Rattle.luau_tables.proofs.MoreTexts.{number_on, bytes_more}
use Rattle.frozen_libs.specs.Made.{ArePaths, AreHosts}

all_behind : {X : Type 0} (P : X → Type 0) (xs : List X) (x : X) → AllByRecursion P xs → P x → AllByRecursion P (xs ++ x ∷ [])
all_behind P [] x h k = (k, tt)
all_behind P (y ∷ xs) x h k = (h.0, all_behind P xs x h.1 k)

all_on : {X : Type 0} (P Q : X → Type 0) → ((x : X) → P x → Q x) → (xs : List X) → AllByRecursion P xs → AllByRecursion Q xs
all_on P Q f [] h = tt
all_on P Q f (x ∷ xs) h = (f x h.0, all_on P Q f xs h.1)

map_all : {X Y : Type 0} (f g : X → Y) (P : X → Type 0) → ((x : X) → P x → f x ≡ g x) → (xs : List X) → AllByRecursion P xs → map f xs ≡ map g xs
map_all f g P same [] h = refl
map_all f g P same (x ∷ xs) h = ap (λ y. y ∷ map f xs) (same x h.0) ∙ ap (λ ys. g x ∷ ys) (map_all f g P same xs h.1)

-- ---- paths

pub no_paths : (texts : List Bytes) (ps : List (TableId × StrId)) → ps ≡ [] → ArePaths texts ps []
no_paths texts ps e = subst (λ ps. ArePaths texts ps []) (sym e) (record { meaning = refl; numbers = tt })

pub paths_more : (texts more : List Bytes) (ps : List (TableId × StrId)) (qs : List (TableRef × Bytes)) → Extends texts more → ArePaths texts ps qs →
    ArePaths more ps qs
paths_more texts more ps qs e h =
    record {
      meaning = map_all (λ (p : TableId × StrId). (table_ref p.0, bytes_at more p.1.0)) (λ (p : TableId × StrId). (table_ref p.0, bytes_at texts p.1.0))
          (λ p. p.1.0 < length texts) (λ p k. ap (λ b. (table_ref p.0, b)) (bytes_more texts more e p.1.0 k)) ps h.numbers ∙ h.meaning;
      numbers = all_on (λ p. p.1.0 < length texts) (λ p. p.1.0 < length more) (λ p k. number_on texts more e p.1.0 k) ps h.numbers;
    }

pub path_behind : (texts : List Bytes) (ps : List (TableId × StrId)) (qs : List (TableRef × Bytes)) (t : TableId) (x : StrId) (path : Bytes) →
    ArePaths texts ps qs → slice_get texts x.0 ≡ Some path → ArePaths texts (ps ++ (t, x) ∷ []) (qs ++ (table_ref t, path) ∷ [])
path_behind texts ps qs t x path h k =
    record {
      meaning = map-append (λ (p : TableId × StrId). (table_ref p.0, bytes_at texts p.1.0)) ps ((t, x) ∷ [])
          ∙ ap (λ l. l ++ (table_ref t, bytes_at texts x.0) ∷ []) h.meaning
          ∙ ap (λ b. qs ++ (table_ref t, b) ∷ []) (get_or_from_slice_get texts x.0 path [] k);
      numbers = all_behind (λ p. p.1.0 < length texts) ps (t, x) h.numbers (slice_get_within texts x.0 path k);
    }

-- ---- names of host functions

pub no_hosts : (texts : List Bytes) (xs : List StrId) → xs ≡ [] → AreHosts texts xs []
no_hosts texts xs e = subst (λ xs. AreHosts texts xs []) (sym e) (record { meaning = refl; numbers = tt })

pub hosts_more : (texts more : List Bytes) (xs : List StrId) (names : List Bytes) → Extends texts more → AreHosts texts xs names → AreHosts more xs names
hosts_more texts more xs names e h =
    record {
      meaning = map_all (λ (x : StrId). bytes_at more x.0) (λ (x : StrId). bytes_at texts x.0) (λ x. x.0 < length texts)
          (λ x k. bytes_more texts more e x.0 k) xs h.numbers ∙ h.meaning;
      numbers = all_on (λ x. x.0 < length texts) (λ x. x.0 < length more) (λ x k. number_on texts more e x.0 k) xs h.numbers;
    }
