use Rattle.std.proofs.Common.{◌≡◌, ◌∙◌, ℕ, nat_eq, arith, rules}
use Rattle.std.specs.HashMap as hash
use Rattle.code_link.specs.Labels.{place_in}
use Rattle.code_link.specs.Making.{linked}
use Rattle.code_link.proofs.Standing.{jumps_same, place_in-le, linked_stands}
use Rattle.code_link.proofs.linking.link.Goals as goal

pub resolve-requires-clause-jumps : goal.resolve-requires-clause-jumps
resolve-requires-clause-jumps c =
    let items = c.args.code.items.items in
    let same : (q : ℕ) → place_in items 0 q ≡ hash.get nat_eq c.in_ok-places.places q = λ q. search rules in
    rw c.deref-2.ensures.value (jumps_same (place_in items 0) (hash.get nat_eq c.in_ok-places.places) same items c.requires.jumps)

pub resolve-requires-clause-near : goal.resolve-requires-clause-near
resolve-requires-clause-near c = λ label place there.
    let items = c.args.code.items.items in
    let same : place_in items 0 label ≡ hash.get nat_eq c.in_ok-places.places label = search rules in
    let within = place_in-le items 0 label place (same ∙ there) in
    omega (arith, within, c.requires.short)

pub returns : goal.returns
returns c =
    let items = c.args.code.items.items in
    let same : (q : ℕ) → hash.get nat_eq c.in_ok-places.places q ≡ place_in items 0 q = λ q. search rules in
    let made : c.in_ok-code.code.items ≡ linked (hash.get nat_eq c.in_ok-places.places) 0 items = search rules in
    linked_stands items (hash.get nat_eq c.in_ok-places.places) c.in_ok-code.code.items c.requires same made
