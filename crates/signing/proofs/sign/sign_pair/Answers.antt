use Rattle.std.proofs.Common.{◌≡◌, not, find, length, pos, sym, ap, ◌∙◌, rules, w64, SFits, to_z, of_z}
use lib.Signed.{lt_z}
use Rattle.std.proofs.lemmas.Int.{to_z-of_z}
use Rattle.ring.specs.Classes.{size_of}
use Rattle.scheme.specs.Pairs.{pair, is_zero}
use Rattle.scheme.specs.Signing.{changes, source_of}
use Rattle.key.specs.Held.{basis_of}
use Rattle.signing.specs.Rows.{half_from}
use Rattle.signing.proofs.Leaders.{leader_none, leader_some}
use Rattle.signing.proofs.Outcomes.{zero_fails, zero_passes}
use Rattle.signing.proofs.Sources.{first_is, second_is, changed_is, signature_is}
use Rattle.signing.proofs.sign.sign_pair.Goals as goal

pub returns-in_default-clause-answer : goal.returns-in_default-clause-answer
returns-in_default-clause-answer c =
    let b = basis_of c.args.key.now in
    let x = pair c.args.x0.now c.args.x1.now in
    let v1 : c.new-v1.result ≡ (source_of b x).second = c.new-v1.ensures.value ∙ rw (c.f-f.ensures.value, c.g-g.ensures.value) (sym (second_is b c.args.x0.now c.args.x1.now)) in
    zero_fails b x (leader_none (source_of b x).second (sym (c.leader.ensures ∙ ap (find (λ z. not (is_zero z))) v1) ∙ c.in_default.is))

pub returns-clause-answer : goal.returns-clause-answer
returns-clause-answer c =
    let key = c.args.key.now in
    let hash = c.args.hash.now in
    let b = basis_of key in
    let n = size_of key.class in
    let x0 = c.args.x0.now in
    let x1 = c.args.x1.now in
    let x = pair x0 x1 in
    let size : c.size-n.result ≡ n = c.size-n.ensures ∙ ap size_of c.class.ensures.class in
    let v0 : c.new-v0.result ≡ (source_of b x).first = c.new-v0.ensures.value ∙ rw (c.cap_g-cap_g.ensures.value, c.cap_f-cap_f.ensures.value) (sym (first_is b x0 x1)) in
    let v1 : c.new-v1.result ≡ (source_of b x).second = c.new-v1.ensures.value ∙ rw (c.f-f.ensures.value, c.g-g.ensures.value) (sym (second_is b x0 x1)) in
    let l0 : length (source_of b x).first ≡ n = ap length (sym v0) ∙ c.new-v0.ensures.long ∙ c.cap_g-cap_g.ensures.len in
    let l1 : length (source_of b x).second ≡ n = ap length (sym v1) ∙ c.new-v1.ensures.long ∙ c.f-f.ensures.len in
    let lead = leader_some (source_of b x).second c.in-Some.leader (sym (c.leader.ensures ∙ ap (find (λ z. not (is_zero z))) v1) ∙ c.in-Some.is) in
    let fits : SFits w64 c.in-Some.leader = search rules in
    let changed = lt_z (to_z w64 (of_z w64 c.in-Some.leader)) (pos 0) in
    let rule : changed ≡ changes (source_of b x) = ap (λ z. lt_z z (pos 0)) (to_z-of_z w64 c.in-Some.leader fits) ∙ changed_is (source_of b x) c.in-Some.leader lead.0 in
    let first : c.write-2.new.area ≡ half_from hash 0 changed (source_of b x).first = c.write-2.ensures ∙ ap (half_from hash 0 changed) v0 in
    let second : c.write.new.area ≡ half_from hash n changed (source_of b x).second = c.write.ensures ∙ ap (λ k. half_from hash k changed c.new-v1.result) size ∙ ap (half_from hash n changed) v1 in
    (zero_passes b x lead.1, record { changed_is = rule; area_is = rw (first, second) (signature_is n hash b x changed l0 l1 rule) })
