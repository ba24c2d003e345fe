-- A function behind its word and its name, part by part.
use Rattle.std.proofs.Common.{◌≡◌, ◌+◌, ℕ, max, Bool, List, ◌∷◌, refl, sym, subst, arith, Ok, Err}
use Rattle.byte_text.specs.declared.StrId.{StrId}
use Rattle.syntax_tree.specs.declared.token.Token.{Token}
use Rattle.syntax_tree.specs.declared.token.TokenKind.TheVariants as token
use Rattle.syntax_tree.specs.declared.tree.Stat.{Stat}
use Rattle.syntax_tree.specs.Grammar.{IsParamList, IsTyping, IsBlock, IsBody, body}
use Rattle.syntax_tree.specs.Places.{Has}
use Rattle.syntax_tree.specs.Types.{IsGenerics}
use Rattle.type_skip.specs.declared.words.Word.TheVariants as words
use Rattle.parse_steps.specs.Items as item
use Rattle.parse_steps.specs.Items.{Item, depth}
use Rattle.parse_steps.specs.Steps.{most, Leads}
use Rattle.expression_parser.specs.declared.fault.Fault.{Fault}
use Rattle.expression_parser.specs.declared.parts.Block.{Block}
use Rattle.expression_parser.specs.declared.parts.Parameters.{Parameters}
use Rattle.expression_parser.specs.Reading.{Fails, FindsGenerics, FindsWord, FindsBlock, FindsBody}
use Rattle.expression_parser.specs.Inner.{FindsParameters, FindsTyping}
use Rattle.expression_parser.proofs.Leading.{then_leads, then_fails, staying}

-- ---- what is still to be read behind each part

abbrev pub behind_block : List Item → List Item
behind_block k = item.expects words.End ∷ k

abbrev pub behind_result : List Item → List Item
behind_result k = item.block ∷ item.expects words.End ∷ k

abbrev pub behind_parameters : List Item → List Item
behind_parameters k = item.typing ∷ item.block ∷ item.expects words.End ∷ k

abbrev pub behind_paren : List Item → List Item
behind_paren k = item.parameters ∷ item.typing ∷ item.block ∷ item.expects words.End ∷ k

abbrev pub behind_generics : List Item → List Item
behind_generics k = item.expects words.OpenParen ∷ item.parameters ∷ item.typing ∷ item.block ∷ item.expects words.End ∷ k

-- from the function's beginning turns lead there
abbrev pub Goes : List Token → (i : ℕ) → (rest : List Item → List Item) → (j : ℕ) → Type 0
Goes ts i rest j = (v : ℕ) (k : List Item) → Leads ts i v (item.body ∷ k) j v (rest k)

pub generics_read : (ts : List Token) (i j : ℕ) → FindsGenerics ts i (Ok j) → Goes ts i behind_generics j
generics_read ts i j found = λ v k. then_leads (staying refl) (found.1 v (behind_generics k))

pub paren_read : (ts : List Token) (i j h : ℕ) → Goes ts i behind_generics j → FindsWord ts j words.OpenParen (Ok h)
    → Goes ts i behind_paren h
paren_read ts i j h goes found = λ v k. then_leads (goes v k) (found.1 v (behind_paren k))

pub parameters_read : (ts : List Token) (i j : ℕ) (added : List StrId) (p : Parameters) → Goes ts i behind_paren j
    → FindsParameters ts j added (Ok p) → Goes ts i behind_parameters p.end
parameters_read ts i j added p goes found = λ v k. then_leads (goes v k) (found.1 v (behind_parameters k))

pub result_read : (ts : List Token) (i j h : ℕ) → Goes ts i behind_parameters j → FindsTyping ts j (Ok h) → Goes ts i behind_result h
result_read ts i j h goes found = λ v k. then_leads (goes v k) (found.1 v (behind_result k))

-- ---- where a part is missing

pub generics_fault : (ts : List Token) (room i : ℕ) (added : List StrId) (f : Fault) → FindsGenerics ts i (Err f)
    → FindsBody ts room i added (Err f)
generics_fault ts room i added f found = λ v k deep. then_fails (staying refl) f (found v (behind_generics k))

pub fault_behind : (ts : List Token) (room i : ℕ) (added : List StrId) (rest : List Item → List Item) (j : ℕ) (f : Fault)
    → Goes ts i rest j → ((v : ℕ) (k : List Item) → Fails ts j v (rest k) f) → FindsBody ts room i added (Err f)
fault_behind ts room i added rest j f goes fails = λ v k deep. then_fails (goes v k) f (fails v k)

pub block_fault : (ts : List Token) (room i : ℕ) (added : List StrId) (j : ℕ) (f : Fault) → Goes ts i behind_result j
    → FindsBlock ts room j (Err f) → FindsBody ts room i added (Err f)
block_fault ts room i added j f goes found = λ v k deep. then_fails (goes v k) f (found v (behind_block k) deep)

pub not_ended : (ts : List Token) (room i : ℕ) (added : List StrId) (j : ℕ) (b : Block) (f : Fault) → Goes ts i behind_result j
    → FindsBlock ts room j (Ok b) → FindsWord ts b.end words.End (Err f) → FindsBody ts room i added (Err f)
not_ended ts room i added j b f goes found ends = λ v k deep. then_fails (then_leads (goes v k) (found.1 v (behind_block k) deep)) f
    (ends (max v b.nest) k)

-- ---- a whole function

whole : (ts : List Token) (i j inside k behind l m end : ℕ) (xs : List StrId) (v : Bool) (b : List Stat) → inside ≡ j + 1 → behind ≡ k + 1
    → end ≡ m + 1 → IsGenerics ts most i j → Has ts j token.OpenParen → IsParamList ts most inside xs v k → Has ts k token.CloseParen
    → IsTyping ts most behind l → IsBlock ts most l b m → Has ts m token.End → IsBody ts most i xs v b end
whole ts i j inside k behind l m end xs v b e f g types paren list close result block ends =
    let list_there : IsParamList ts most (j + 1) xs v k = subst (λ (x : ℕ). IsParamList ts most x xs v k) e list in
    let result_there : IsTyping ts most (k + 1) l = subst (λ (x : ℕ). IsTyping ts most x l) f result in
    subst (λ (x : ℕ). IsBody ts most i xs v b x) (sym g) (body i j k l m xs v b types paren list_there close result_there block ends)

pub body_found : (ts : List Token) (room i : ℕ) (added : List StrId) (j inside : ℕ) (p : Parameters) (l : ℕ) (b : Block) (end : ℕ)
    → FindsGenerics ts i (Ok j) → FindsWord ts j words.OpenParen (Ok inside) → FindsParameters ts inside added (Ok p)
    → FindsTyping ts p.end (Ok l)
    → FindsBlock ts room l (Ok b) → FindsWord ts b.end words.End (Ok end)
    → FindsBody ts room i added (Ok (record { params = p.names; vararg = p.vararg; stats = b.stats; nest = b.nest; end = end }))
body_found ts room i added j inside p l b end types paren list result block ends =
    let xs : List StrId = list.0.0.0 in
    let close : ℕ = list.0.0.1 in
    let good = list.0.0 in
    let goes = result_read ts i p.end l (parameters_read ts i inside added p (paren_read ts i j inside (generics_read ts i j types) paren)
    list) result in (
      (
        (
          xs,
          whole ts i j inside close p.end l b.end end xs p.vararg b.stats paren.0.1 good.4 ends.0.1 types.0.0 paren.0.0 good.2 good.3
              result.0.0 block.0.0 ends.0.0,
          good.5,
        ),
        (block.0.1, omega (arith, types.0.1, paren.0.1, list.0.1, result.0.1, block.0.2, ends.0.1)),
      ),
      λ v k deep. then_leads (then_leads (goes v k) (block.1 v (behind_block k) deep)) (ends.1 (max v b.nest) k),
    )
