-- Of two values that a script may hold, those that they mean are one exactly where they are.
use Rattle.std.proofs.Common.{◌≡◌, ℕ, ◌<◌, Bool, true, false, nat_eq, List, [], length, get_or, Some, refl, sym, ◌∙◌, ap}
use Rattle.std.specs.Bool.{one_answer}
use Rattle.std.proofs.lemmas.Bool.Decides.{Decides-eqb, Decides-int_eq}
use Rattle.std.proofs.lemmas.Slice.Eq.{bytes_eq-Decides}
use Rattle.std.proofs.lemmas.Option.{slice_get-get_or}
use denote.Enum.Bare.{same_true}
use Rattle.byte_text.specs.Texts.{AreDistinct}
use Rattle.value_model.specs.Owners.{wide}
use Rattle.value_model.specs.Parts.{by_owner, meant}
use Rattle.value_model.specs.Store.{same_table}
use Rattle.value_model.specs.Tables as model
use Rattle.value_model.specs.Values.{Bytes}
use Rattle.value_model.specs.Values as m
use Rattle.value_model.proofs.Same.{same_refl}
use Rattle.value_model.specs.declared.ids.Owner.{Owner}
use Rattle.value_model.specs.declared.ids.ShortOwner.{ShortOwner}
use Rattle.value_model.specs.declared.ids.ShortOwner.TheVariants.{Frozen, Script}
use Rattle.value_model.specs.declared.ids.ClosureId.{ClosureId}
use Rattle.value_model.specs.declared.ids.ThreadId.{ThreadId}
use Rattle.value_model.specs.declared.value.Value.{Value}
use Rattle.value_model.specs.declared.value.Value.TheVariants as value
use Rattle.value_model.specs.contracts.builtin.Builtin as builtin
use Rattle.value_arena.specs.Tables.{same, is_nil}
use Rattle.value_arena.proofs.Laws.{short_is}
use Rattle.value_arena.proofs.Sameness.{value_decides}
use Rattle.luau_tables.specs.Part.{IsSeen, IsOfScript}

place_is : (p q : ℕ) → nat_eq p q ≡ true → p ≡ q
place_is p q e = (Decides-eqb p q).0 e

ref_is : (w : Owner) (s r : ShortOwner) (p q : ℕ) → IsSeen w s → IsSeen w r → same_table (by_owner s p) (by_owner r q) ≡ true → (s ≡ r) × (p ≡ q)
ref_is w Frozen Frozen p q h k e = (refl, place_is p q e)
ref_is w (Script a) (Script b) p q h k e = (short_is (Script a) (Script b) (h ∙ sym k), place_is p q e)
ref_is w Frozen (Script b) p q h k e = absurd (cc)
ref_is w (Script a) Frozen p q h k e = absurd (cc)

closure_is : (w : Owner) (f g : ClosureId) → wide f.owner ≡ w → wide g.owner ≡ w → nat_eq f.place g.place ≡ true → f ≡ g
closure_is w f g h k e = let o = short_is f.owner g.owner (h ∙ sym k) in let p = place_is f.place g.place e in λ i. record { owner = o i; place = p i }

thread_is : (w : Owner) (f g : ThreadId) → wide f.owner ≡ w → wide g.owner ≡ w → nat_eq f.place g.place ≡ true → f ≡ g
thread_is w f g h k e = let o = short_is f.owner g.owner (h ∙ sym k) in let p = place_is f.place g.place e in λ i. record { owner = o i; place = p i }

text_is : (texts : List Bytes) (i j : ℕ) → AreDistinct texts → i < length texts → j < length texts → get_or texts i [] ≡ get_or texts j [] → i ≡ j
text_is texts i j d h k e = d.same i j (get_or texts j []) (slice_get-get_or texts i [] h ∙ ap (λ t. Some t) e) (slice_get-get_or texts j [] k)

boolean_is : (a b : Bool) → model.same_boolean a b ≡ true → a ≡ b
boolean_is true true h = refl
boolean_is false false h = refl
boolean_is true false h = absurd (cc)
boolean_is false true h = absurd (cc)

same_is : (texts : List Bytes) (w : Owner) (a b : Value) → AreDistinct texts → IsOfScript texts w a → IsOfScript texts w b → model.same (meant texts a) (meant texts b) ≡ true → a ≡ b
unfolding meant model.same
same_is texts w value.Nil value.Nil d h k e = refl
same_is texts w (value.Bool a) (value.Bool b) d h k e = ap value.Bool (boolean_is a b e)
same_is texts w (value.Num a) (value.Num b) d h k e = ap value.Num ((Decides-int_eq a b).0 e)
same_is texts w (value.Str a) (value.Str b) d h k e =
    ap (λ n. value.Str (record { 0 = n })) (text_is texts a.0 b.0 d h k ((bytes_eq-Decides (get_or texts a.0 []) (get_or texts b.0 [])).0 e))
same_is texts w (value.Table a) (value.Table b) d h k e =
    let t = ref_is w a.owner b.owner a.place b.place h k e in
    ap value.Table (λ i. record { owner = t.0 i; place = t.1 i })
same_is texts w (value.Closure a) (value.Closure b) d h k e = ap value.Closure (closure_is w a b h k e)
same_is texts w (value.Native a) (value.Native b) d h k e = ap value.Native (same_true builtin.the_type tt a b e)
same_is texts w (value.Host a) (value.Host b) d h k e = ap (λ n. value.Host (record { 0 = n })) (place_is a.0 b.0 e)
same_is texts w (value.Wrap a) (value.Wrap b) d h k e = ap value.Wrap (thread_is w a b h k e)
same_is texts w (value.Thread a) (value.Thread b) d h k e = ap value.Thread (thread_is w a b h k e)
same_is texts w _ _ d h k e = absurd (cc)

-- what says whether two values are one says so of what they mean
pub same_kept : (texts : List Bytes) (w : Owner) → AreDistinct texts → (a b : Value) → IsOfScript texts w a → IsOfScript texts w b → model.same (meant texts a) (meant texts b) ≡ same a b
same_kept texts w d a b h k =
    one_answer (model.same (meant texts a) (meant texts b)) (same a b)
    (same_is texts w a b d h k, λ e. ap (λ a. model.same (meant texts a) (meant texts b)) e ∙ same_refl (meant texts b))
    (value_decides a b)

-- of values that one script may hold no two mean one
pub meant_apart : (texts : List Bytes) (w : Owner) → AreDistinct texts → (a b : Value) → IsOfScript texts w a → IsOfScript texts w b → meant texts a ≡ meant texts b → a ≡ b
meant_apart texts w d a b h k e = same_is texts w a b d h k (ap (λ v. model.same v (meant texts b)) e ∙ same_refl (meant texts b))

pub nil_kept : (texts : List Bytes) (a : Value) → model.is_nil (meant texts a) ≡ is_nil a
unfolding meant
nil_kept texts value.Nil = refl
nil_kept texts _ = refl

pub nil_is : (texts : List Bytes) → meant texts value.Nil ≡ m.Nil
unfolding meant
nil_is texts = refl
