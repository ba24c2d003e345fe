-- The whole code of a script.
use Rattle.std.proofs.Common.{◌≡◌, ◌+◌, ◌≤◌, List, [], ◌∷◌, ◌++◌, sym, ap, ◌∙◌, subst, arith}
use Rattle.byte_text.specs.declared.fixed.StrId.{StrId}
use Rattle.syntax_tree.specs.declared.tree.Stat.{Stat}
use Rattle.op_words.specs.declared.insn.Insn.TheVariants as insn
use Rattle.code_link.specs.declared.item.Item.TheVariants as item
use Rattle.code_link.specs.Labels.{IsLinkable}
use Rattle.built_emitter.specs.declared.draft.Draft.{Draft}
use Rattle.built_emitter.specs.Size.{most_words, block_words}
use Rattle.built_emitter.specs.Code.{IsScriptCode}
use Rattle.built_emitter.specs.Fits.{AllFit}
use Rattle.built_emitter.specs.Emitted.{HasLabels, Appends, EmitsBlock, IsEmitted}
use Rattle.built_emitter.proofs.ItemLists.{extends_same, appends_on}
use Rattle.built_emitter.proofs.LabelRanges.{labels_on, labels_insns, linkable}

emitted : (empty c1 c2 c3 : Draft) (stats : List Stat) → empty.items.items ≡ [] →
    Appends empty c1 1 (item.Insn (insn.PrepVarargs 0) ∷ []) → c1.labels ≡ 0 → EmitsBlock [] stats c1 c2 →
    Appends c2 c3 1 (item.Insn (insn.Return 0 1) ∷ []) → c3.constants ≡ c2.constants → block_words stats ≤ most_words → IsEmitted stats c3
emitted empty c1 c2 c3 stats none w l1 b r last small =
    let begin = item.Insn (insn.PrepVarargs 0) ∷ [] in
    let end = item.Insn (insn.Return 0 1) ∷ [] in
    let whole = begin ++ (b.items ++ end) in
    let constants = extends_same c2.constants.items c3.constants.items 0 (ap (λ c. c.items) last) in
    let all = appends_on empty c1 c3 1 (block_words stats + 1) begin (b.items ++ end) w (appends_on c1 c2 c3 (block_words stats) 1 b.items end b.appends r) in
    let same : c3.items.items ≡ whole = all.appended ∙ ap (λ l. l ++ whole) none in
    let inner : HasLabels 0 c2.labels b.items = subst (λ n. HasLabels n c2.labels b.items) l1 b.labels in
    let labels = labels_on 0 0 c2.labels begin (b.items ++ end) (labels_insns 0 (insn.PrepVarargs 0 ∷ []))
    (labels_on 0 c2.labels c2.labels b.items end inner (labels_insns c2.labels (insn.Return 0 1 ∷ []))) in
    record {
      script = subst (λ is. IsScriptCode c3.constants.items stats is) (sym same) (IsScriptCode.script b.items (b.code c3.constants.items 0 constants));
      fit = subst AllFit (sym same) all.fit;
      linkable = subst IsLinkable (sym same) (linkable c2.labels whole labels (omega (arith, all.words)));
    }

pub script_emitted : (empty c1 c2 c3 : Draft) (names : List StrId) (stats : List Stat) → empty.items.items ≡ [] → empty.labels ≡ 0 →
    names ≡ [] → Appends empty c1 1 (item.Insn (insn.PrepVarargs 0) ∷ []) → c1.labels ≡ empty.labels → EmitsBlock names stats c1 c2 →
    Appends c2 c3 1 (item.Insn (insn.Return 0 1) ∷ []) → c3.constants ≡ c2.constants → block_words stats ≤ most_words → IsEmitted stats c3
script_emitted empty c1 c2 c3 names stats none l0 scope w l1 b r last small =
    emitted empty c1 c2 c3 stats none w (l1 ∙ l0) (subst (λ n. EmitsBlock n stats c1 c2) scope b) r last small
