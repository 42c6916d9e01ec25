use Rattle.std.proofs.Common.{◌≡◌, length, get_or, pos, not, eqb, find, w64, of_z, sym, ap, ◌∙◌, rules, arith}
use borrow.Author.Tests.{tests}
use native.Mathlib.Nat.{sub-zero}
use Rattle.std.proofs.iter.Serving.{serving}
use Rattle.std.proofs.lemmas.Iterator.{YieldsList-from_range, YieldsList-from_map}
use Rattle.std.proofs.lemmas.Iterator.Adapters.{option_map_id}
use Rattle.std.proofs.lemmas.Iterator.Search.{find_from_yields_List}
use Rattle.ring.proofs.Places.{self_table}
use Rattle.scheme.specs.Pairs.{is_zero}
use Rattle.signing.specs.Rows.{apart}
use Rattle.signing.proofs.Aparts.{length_apart, apart_fits}
use Rattle.signing.proofs.Leaders.{find_words}
use Rattle.signing.proofs.rows.Row.leader.Goals as goal

pub find-requires-clause-can : goal.find-requires-clause-can
find-requires-clause-can c =
    let r = c.self.inside in
    let long : length c.args.self.now ≡ length r.a.now = ap length (sym c.self.view_is) ∙ length_apart r.a.now r.b.now r.x.now r.y.now c.self.invariant.same in
    grind (arith, serving)

pub returns : goal.returns
returns c =
    let r = c.self.inside in
    let v = apart r.a.now r.b.now r.x.now r.y.now in
    let n = length r.a.now in
    let found = find_from_yields_List (λ z. not (eqb (of_z w64 z) 0)) _ _ c.find.result c.find.ensures.ran
    (YieldsList-from_map _ (λ k. get_or v k (pos 0)) (YieldsList-from_range 0 n n (cc) (sub-zero n)) c.map.ensures.closure (λ x r q k. rw c.self.view_is (search rules)))
    (λ x b q k. search (rules, tests)) in
    sym (option_map_id c.find.result) ∙ found ∙ find_words (λ k. get_or v k (pos 0)) (apart_fits _ _ _ _ c.self.invariant) _
    ∙ ap (find (λ z. not (is_zero z))) (self_table v n (length_apart r.a.now r.b.now r.x.now r.y.now c.self.invariant.same) ∙ c.self.view_is)
