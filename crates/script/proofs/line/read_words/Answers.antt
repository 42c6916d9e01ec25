use Rattle.std.proofs.Common.{ℕ, List, ◌∷◌, Some, None, sym, ap, ◌∙◌, lit<}
use Rattle.std.proofs.lemmas.Str.Pattern.{contains_char}
use Rattle.std.proofs.lemmas.Bool.{both_ways}
use Rattle.script.specs.Meanings.{of_words}
use Rattle.script.proofs.Words.{words_free, words_split, four_bad}
use Rattle.script.proofs.line.read_words.Goals as goal

pub returns-in_default : goal.returns-in_default
returns-in_default c = c.bare.ensures ∙ ap of_words (sym (words_split c.args.line.now None c.in_default.ensures.cases))

pub returns-in_default-split_once : goal.returns-in_default-split_once
returns-in_default-split_once c =
    let p = words_split c.args.line.now (Some (c.in-Some.verb, c.in-Some.rest)) c.in-Some.ensures.cases in
    let q = words_split c.in-Some.rest.now None c.in_default-split_once.ensures.cases in
    rw (p, q) c.with_one.ensures

pub returns-then-contains : goal.returns-then-contains
returns-then-contains c =
    let p = words_split c.args.line.now (Some (c.in-Some.verb, c.in-Some.rest)) c.in-Some.ensures.cases in
    let q = words_split c.in-Some.rest.now (Some (c.in-Some-split_once.first, c.in-Some-split_once.second)) c.in-Some-split_once.ensures.cases in
    let s = (contains_char 32 c.in-Some-split_once.second.now c.contains.result c.contains.ensures.cases (lit< tt)).0 c.if-contains.true in
    sym (four_bad c.args.line.now c.in-Some.verb.now c.in-Some-split_once.first.now c.in-Some-split_once.second.now s.0 (p ∙ ap (λ (ws : List (List ℕ)). c.in-Some.verb.now ∷ ws) q) s.1 s.2)

pub returns : goal.returns
returns c =
    let p = words_split c.args.line.now (Some (c.in-Some.verb, c.in-Some.rest)) c.in-Some.ensures.cases in
    let q = words_split c.in-Some.rest.now (Some (c.in-Some-split_once.first, c.in-Some-split_once.second)) c.in-Some-split_once.ensures.cases in
    let s = (contains_char 32 c.in-Some-split_once.second.now c.contains.result c.contains.ensures.cases (lit< tt)).1 in
    let w = words_free c.in-Some-split_once.second.now (λ i h e. both_ways c.contains.result c.if-contains.false (s i h e)) in
    rw (p, q, w) c.with_two.ensures
