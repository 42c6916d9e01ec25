use Rattle.std.proofs.Common.{◌≡◌, vec_items, ap, sym, ◌∙◌, Some, rules, tests}
use Rattle.std.specs.Slice.Iter.{chunks_exact_rest, chunks_exact_size, chunks_exact_steps}
use Rattle.std.proofs.lemmas.Iterator.{YieldsList-from_map, items_from_collect}
use Rattle.std.proofs.lemmas.Result.{IfOk-at_ok}
use Rattle.cases.specs.Packed.{unpacked}
use Rattle.cases.proofs.Chunks.{YieldsList-from_chunks}
use Rattle.cases.proofs.packed.numbers.Goals as goal

pub returns : goal.returns
returns g c =
    let e = items_from_collect _ c.collect.ensures.ran (YieldsList-from_map _ g.T.Packed.read
    (YieldsList-from_chunks chunks_exact_steps chunks_exact_rest chunks_exact_size (λ s t p. p.1.0) (λ s x t p. (p.0, p.1.0, p.1.1)) _ g.T.Packed.WIDTH c.args.bytes.now g.met.T.Packed.some
    (ap chunks_exact_rest c.map.ensures.source ∙ c.chunks_exact-chunks.ensures.rest) (ap chunks_exact_size c.map.ensures.source ∙ c.chunks_exact-chunks.ensures.size ∙ c.WIDTH.ensures))
    c.map.ensures.closure (λ x r q h. search (rules, tests))) in
    ap Some (sym (IfOk-at_ok (λ w. vec_items w ≡ unpacked g.T.Packed.WIDTH g.T.Packed.read c.args.bytes.now) c.in_ok-collect.was e))
