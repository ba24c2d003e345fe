-- A new table that is filled place by place.
use Rattle.std.proofs.Common.{◌≡◌, ℕ, ◌+◌, ◌<◌, List, [], ◌∷◌, ◌++◌, length, take, get_or, pos, sym, ◌∙◌, ap, arith, add-zero}
use Rattle.std.proofs.lemmas.List.{length-map, length-take-le, map-append, take_more}
use Rattle.byte_text.specs.declared.fixed.StrId.{StrId}
use Rattle.value_model.specs.Pairs as pairs
use Rattle.value_model.specs.Parts.{bytes_at}
use Rattle.value_model.specs.Store.{Store, TableOf, empty_table, next_table, table_at, with_new_table, with_table}
use Rattle.value_model.specs.Tables.{same, is_nil, put, put_all}
use Rattle.value_model.specs.Values as m
use Rattle.value_model.specs.Values.{Bytes, TableRef}
use Rattle.luau_tables.proofs.NewTables.{new_table_read, new_table_written}
use Rattle.lib_string.specs.Pieces.{texts_at}

-- the new table of a part is written
table_step : (s s₀ : Store) (r : TableRef) (t : TableOf) (k v : m.Value) → s ≡ with_new_table s₀ t → r ≡ next_table s₀ → with_table s r (put (table_at s r) k v) ≡ with_new_table s₀ (put t k v)
table_step s s₀ r t k v e f =
    ap (λ s. with_table s r (put (table_at s r) k v)) e
    ∙ ap (λ r. with_table (with_new_table s₀ t) r (put (table_at (with_new_table s₀ t) r) k v)) f
    ∙ ap (λ x. with_table (with_new_table s₀ t) (next_table s₀) (put x k v)) (new_table_read s₀ t)
    ∙ new_table_written s₀ t (put t k v)

all_written_more : (es : List (m.Value × m.Value)) (j : ℕ) (vs : List m.Value) (v : m.Value) →
    pairs.written same is_nil m.Nil (pairs.all_written same is_nil m.Nil (λ z. m.Number z) es (pos j) vs) (m.Number (pos (j + length vs))) v
    ≡ pairs.all_written same is_nil m.Nil (λ z. m.Number z) es (pos j) (vs ++ v ∷ [])
all_written_more es j [] v = ap (λ n. pairs.written same is_nil m.Nil es (m.Number (pos n)) v) (add-zero j)
all_written_more es j (x ∷ vs) v =
    ap (λ n. pairs.written same is_nil m.Nil (pairs.all_written same is_nil m.Nil (λ z. m.Number z) (pairs.written same is_nil m.Nil es (m.Number (pos j)) x) (pos (j + 1)) vs) (m.Number (pos n)) v) (omega arith)
    ∙ all_written_more (pairs.written same is_nil m.Nil es (m.Number (pos j)) x) (j + 1) vs v

-- one value more
put_all_more : (t : TableOf) (i : ℕ) (vs : List m.Value) (v : m.Value) → length vs ≡ i → put (put_all t (pos 1) vs) (m.Number (pos (i + 1))) v ≡ put_all t (pos 1) (vs ++ v ∷ [])
unfolding put
put_all_more t i vs v e =
    ap (λ n. put (put_all t (pos 1) vs) (m.Number (pos n)) v) (omega arith)
    ∙ ap (λ es. record t { entries = es }) (all_written_more t.entries 1 vs v)

pub text_put : (texts : List Bytes) (ids : List StrId) (i : ℕ) (x : StrId) (s s₀ : Store) (r : TableRef) → i < length ids → get_or ids i x ≡ x →
    s ≡ with_new_table s₀ (put_all empty_table (pos 1) (texts_at texts (take i ids))) → r ≡ next_table s₀ →
    with_table s r (put (table_at s r) (m.Number (pos (i + 1))) (m.Text (bytes_at texts x.0)))
    ≡ with_new_table s₀ (put_all empty_table (pos 1) (texts_at texts (take (i + 1) ids)))
text_put texts ids i x s s₀ r within is e f =
    let vs = texts_at texts (take i ids) in
    let v = m.Text (bytes_at texts x.0) in
    let count : length vs ≡ i = length-map (take i ids) (λ (id : StrId). m.Text (bytes_at texts id.0)) ∙ length-take-le i ids (omega arith) in
    table_step s s₀ r (put_all empty_table (pos 1) vs) (m.Number (pos (i + 1))) v e f
    ∙ ap (λ t. with_new_table s₀ t) (put_all_more empty_table i vs v count ∙ ap (λ l. put_all empty_table (pos 1) l) (sym (one_more)))
  where
    one_more : texts_at texts (take (i + 1) ids) ≡ texts_at texts (take i ids) ++ m.Text (bytes_at texts x.0) ∷ []
    one_more =
        ap (λ l. texts_at texts l) (take_more ids i x within ∙ ap (λ y. take i ids ++ y ∷ []) is)
        ∙ map-append (λ (id : StrId). m.Text (bytes_at texts id.0)) (take i ids) (x ∷ [])
