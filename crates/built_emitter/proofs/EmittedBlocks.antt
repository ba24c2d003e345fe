-- The code of a block, as far as it was emitted.
use Rattle.std.proofs.Common.{◌≡◌, ℕ, ◌+◌, ◌^◌, ◌<◌, ◌≤◌, List, [], ◌++◌, length, get_or, drop, refl, sym, ap, ◌∙◌, subst, arith, append_assoc}
use Rattle.std.proofs.lemmas.List.{append-nil, drop_all}
use Rattle.byte_text.specs.declared.fixed.StrId.{StrId}
use Rattle.syntax_tree.specs.declared.bindings.Bindings.{Bindings}
use Rattle.syntax_tree.specs.declared.tree.Stat.{Stat}
use Rattle.built_machine.specs.declared.code.Constant.TheVariants as constant
use Rattle.code_link.specs.declared.item.Item.{Item}
use Rattle.built_values.specs.Globals.{print_name}
use Rattle.built_emitter.specs.declared.draft.Draft.{Draft}
use Rattle.built_emitter.specs.Names.{names_after}
use Rattle.built_emitter.specs.Form.{IsBlock}
use Rattle.built_emitter.specs.Size.{stat_words, block_words}
use Rattle.built_emitter.specs.Code.{IsBlockCode}
use Rattle.built_emitter.specs.Emitted.{NamesPrint, Emits, EmitsStatement, EmitsBlock}
use Rattle.built_emitter.proofs.BuiltBlocks.{next_is}
use Rattle.built_emitter.proofs.TreeForms.{other_statements, names_grow}
use Rattle.built_emitter.proofs.ItemLists.{extends_on, length_extended, constant_stays, appends_none, appends_on, appends_most}
use Rattle.built_emitter.proofs.LabelRanges.{labels_none, labels_on}

-- the code of the first i statements is there, with room for that of the others, which are of the form
pub record HasFirst (b : Bindings) (block : List Stat) (i : ℕ) (outer names : List StrId) (first code : Draft) : Type 0 where
  pub form : IsBlock b names (drop i block)
  pub inner : List StrId
  pub nested : names ≡ inner ++ outer
  pub room : length code.constants.items + block_words (drop i block) ≤ 2 ^ 15
  pub label_room : code.labels + block_words (drop i block) ≤ 2 ^ 15
  pub print : NamesPrint code
  pub done : ℕ
  pub words : done + block_words (drop i block) ≡ block_words block
  pub emitted : Emits first code done done (λ ks is. (js : List Item) → IsBlockCode ks names (drop i block) js → IsBlockCode ks outer block (is ++ js))

pub first_none : (b : Bindings) (block : List Stat) (outer : List StrId) (first : Draft) → IsBlock b outer block →
    length first.constants.items + block_words block ≤ 2 ^ 15 → first.labels + block_words block ≤ 2 ^ 15 → NamesPrint first →
    HasFirst b block 0 outer outer first first
first_none b block outer first form room labels print = record {
  form = form;
  inner = [];
  nested = refl;
  room = room;
  label_room = labels;
  print = print;
  done = 0;
  words = omega arith;
  emitted = record {
    items = [];
    appends = appends_none first;
    labels = labels_none first.labels;
    few = omega arith;
    code = λ ks more e js a. a;
  };
}

pub first_more : (b : Bindings) (block : List Stat) (i : ℕ) (outer names after : List StrId) (first code new : Draft) (s : Stat) →
    HasFirst b block i outer names first code → i < length block → s ≡ get_or block i s → EmitsStatement names s code new →
    after ≡ names_after names s → HasFirst b block (i + 1) outer after first new
first_more b block i outer names after first code new s p lt h q k =
    let rest = next_is block i s lt h in
    let words = ap block_words rest in
    let form = subst (λ l. IsBlock b names l) rest p.form in
    let grown = names_grow names s in
    let e = p.emitted in
    subst (λ n. HasFirst b block (i + 1) outer n first new) (sym k) (record {
      form = other_statements b names s (drop (i + 1) block) form;
      inner = grown.0 ++ p.inner;
      nested = grown.1 ∙ ap (λ l. grown.0 ++ l) p.nested ∙ sym (append_assoc grown.0 p.inner outer);
      room = omega (arith, p.room, words, length_extended code.constants.items new.constants.items (stat_words s) q.appends.constants);
      label_room = omega (arith, p.label_room, words, q.few);
      print = constant_stays code.constants.items new.constants.items (stat_words s) 0 (constant.Text print_name) q.appends.constants p.print;
      done = p.done + stat_words s;
      words = omega (arith, p.words, words);
      emitted = record {
        items = e.items ++ q.items;
        appends = appends_on first code new p.done (stat_words s) e.items q.items e.appends q.appends;
        labels = labels_on first.labels code.labels new.labels e.items q.items e.labels q.labels;
        few = omega (arith, e.few, q.few);
        code = λ ks more x js a.
            subst (λ l. IsBlockCode ks outer block l) (sym (append_assoc e.items q.items js))
            (e.code ks _ (extends_on _ _ _ _ _ q.appends.constants x) (q.items ++ js)
            (subst (λ l. IsBlockCode ks names l (q.items ++ js)) (sym rest) (IsBlockCode.more names s (drop (i + 1) block) q.items js (q.code ks more
            x) a)));
      };
    })

-- all statements are emitted
pub first_all : (b : Bindings) (block : List Stat) (i : ℕ) (outer names : List StrId) (first code : Draft) →
    HasFirst b block i outer names first code → length block ≤ i → EmitsBlock outer block first code
first_all b block i outer names first code p le =
    let none = drop_all i block le in
    let e = p.emitted in
    let words : p.done ≡ block_words block = omega (arith, p.words, ap block_words none) in
    record {
      items = e.items;
      appends = appends_most first code p.done (block_words block) e.items (omega arith) e.appends;
      labels = e.labels;
      few = omega (arith, e.few);
      code = λ ks more x.
          subst (λ l. IsBlockCode ks outer block l) (append-nil e.items)
          (e.code ks more x [] (subst (λ l. IsBlockCode ks names l []) (sym none) (IsBlockCode.nothing names)));
    }
