use Rattle.std.proofs.Common.{length, refl, ap, ◌∙◌}
use Rattle.ring.specs.Classes.{size_of}
use Rattle.scheme.specs.Pairs.{pair_from, numbers_of}
use Rattle.scheme.specs.Signing.{target_of, signature_of}
use Rattle.scheme.specs.Steps.{work}
use Rattle.session.specs.Held.{state_of}
use Rattle.session.proofs.Outcomes.{unfit, announce_standing, target_tests_lem, target_idle, sign_idle, sign_other, sign_serves, withdraw_tests_lem, withdraw_idle}
use Rattle.session.proofs.Sizes.{sample_tests_lem}
use Rattle.session.proofs.Transitions.{class_in, basis_in, same_step, none_stands, one_stands, kept_pair, asking, suited, unsuited, refusing, breaking, lent_target, lent_signature, working}
use Rattle.session.proofs.session.Session.transition.Goals as goal

pub returns-then-not-suits-clause-step : goal.returns-then-not-suits-clause-step
returns-then-not-suits-clause-step c =
    let s = c.args.self.now in
    let e = unfit (class_in s) (basis_in s) (state_of s) _ (unsuited s refl c.suits.ensures c.if-not-suits.true) in
    refusing s refl c.requires.target c.requires.signature e

pub returns-in-Standing-Announce-clause-step : goal.returns-in-Standing-Announce-clause-step
returns-in-Standing-Announce-clause-step c =
    let s = c.args.self.now in
    let asks = asking s c.args.target.now c.args.signature.now (length c.args.scratch.now) c.in-Standing-Announce.is-1 in
    let e = announce_standing (class_in s) (basis_in s) (state_of s) _ (suited s asks c.suits.ensures c.if-not-suits.false) _ (one_stands s c.in-Standing-Announce.is-0) in
    refusing s asks c.requires.target c.requires.signature e

pub returns-in-Idle-Target-clause-step : goal.returns-in-Idle-Target-clause-step
returns-in-Idle-Target-clause-step c =
    let s = c.args.self.now in
    let asks = asking s c.args.target.now c.args.signature.now (length c.args.scratch.now) c.in-Idle-Target.is-1 in
    let e = target_idle (class_in s) (basis_in s) (state_of s) _ _ _ (suited s asks c.suits.ensures c.if-not-suits.false) (none_stands s c.in-Idle-Target.is-0) in
    refusing s asks c.requires.target c.requires.signature e

pub returns-in_err-serves-in-Standing-Target-clause-step : goal.returns-in_err-serves-in-Standing-Target-clause-step
returns-in_err-serves-in-Standing-Target-clause-step c =
    let s = c.args.self.now in
    let asks = asking s c.args.target.now c.args.signature.now (length c.args.scratch.now) c.in-Standing-Target.is-1 in
    let e = target_tests_lem (class_in s) (basis_in s) (state_of s) _ _ _ (suited s asks c.suits.ensures c.if-not-suits.false) ∙ c.in_err-serves-in-Standing-Target.ensures in
    breaking s asks c.from_residual.result _ c.from_residual.ensures.1 c.requires.target c.requires.signature e

pub returns-in_ok-write_target-in-Standing-Target-clause-step : goal.returns-in_ok-write_target-in-Standing-Target-clause-step
unfolding work
returns-in_ok-write_target-in-Standing-Target-clause-step c =
    let s = c.args.self.now in
    let asks = asking s c.args.target.now c.args.signature.now (length c.args.scratch.now) c.in-Standing-Target.is-1 in
    let e = target_tests_lem (class_in s) (basis_in s) (state_of s) _ _ _ (suited s asks c.suits.ensures c.if-not-suits.false) ∙ c.in_ok-serves-in-Standing-Target.ensures.0 in
    let t = c.in_ok-write_target-in-Standing-Target.ensures.answer.1 ∙ ap (target_of (basis_in s)) (kept_pair s c.in-Standing-Target.is-0 c.kept.ensures.value) in
    working s asks e (same_step refl t (lent_signature s asks c.requires.signature) refl)

pub returns-in-Idle-Sign-clause-step : goal.returns-in-Idle-Sign-clause-step
returns-in-Idle-Sign-clause-step c =
    let s = c.args.self.now in
    let asks = asking s c.args.target.now c.args.signature.now (length c.args.scratch.now) c.in-Idle-Sign.is-1 in
    let e = sign_idle (class_in s) (basis_in s) (state_of s) _ _ _ _ (suited s asks c.suits.ensures c.if-not-suits.false) (none_stands s c.in-Idle-Sign.is-0) in
    refusing s asks c.requires.target c.requires.signature e

pub returns-in_err-serves-in-Standing-Sign-clause-step : goal.returns-in_err-serves-in-Standing-Sign-clause-step
returns-in_err-serves-in-Standing-Sign-clause-step c =
    let s = c.args.self.now in
    let asks = asking s c.args.target.now c.args.signature.now (length c.args.scratch.now) c.in-Standing-Sign.is-1 in
    let e = sign_other (class_in s) (basis_in s) (state_of s) _ _ _ _ (suited s asks c.suits.ensures c.if-not-suits.false) _ c.in_err-serves-in-Standing-Sign.ensures in
    breaking s asks c.from_residual-in_err-serves-in-Standing-Sign.result _ c.from_residual-in_err-serves-in-Standing-Sign.ensures.1 c.requires.target c.requires.signature e

pub returns-in_err-length-in-Standing-Sign-clause-step : goal.returns-in_err-length-in-Standing-Sign-clause-step
returns-in_err-length-in-Standing-Sign-clause-step c =
    let s = c.args.self.now in
    let asks = asking s c.args.target.now c.args.signature.now (length c.args.scratch.now) c.in-Standing-Sign.is-1 in
    let suits = suited s asks c.suits.ensures c.if-not-suits.false in
    let e = sign_serves (class_in s) (basis_in s) (state_of s) _ _ _ _ suits c.in_ok-serves-in-Standing-Sign.ensures.0
    ∙ sample_tests_lem s c.kept-in-Standing-Sign.result.now c.in-Standing-Sign.order.now.number _ _ _ c.in-Standing-Sign.is-0 c.kept-in-Standing-Sign.ensures.value c.kept-in-Standing-Sign.ensures.len suits
    ∙ c.in_err-length-in-Standing-Sign.ensures.answer in
    breaking s asks c.from_residual-in_err-length-in-Standing-Sign.result _ c.from_residual-in_err-length-in-Standing-Sign.ensures.1 c.requires.target (c.in_err-length-in-Standing-Sign.ensures.kept ∙ c.requires.signature) e

pub returns-in_ok-length-in-Standing-Sign-clause-step : goal.returns-in_ok-length-in-Standing-Sign-clause-step
unfolding work
returns-in_ok-length-in-Standing-Sign-clause-step c =
    let s = c.args.self.now in
    let asks = asking s c.args.target.now c.args.signature.now (length c.args.scratch.now) c.in-Standing-Sign.is-1 in
    let suits = suited s asks c.suits.ensures c.if-not-suits.false in
    let a = c.in_ok-length-in-Standing-Sign.ensures.answer in
    let e = sign_serves (class_in s) (basis_in s) (state_of s) _ _ _ _ suits c.in_ok-serves-in-Standing-Sign.ensures.0
    ∙ sample_tests_lem s c.kept-in-Standing-Sign.result.now c.in-Standing-Sign.order.now.number _ _ _ c.in-Standing-Sign.is-0 c.kept-in-Standing-Sign.ensures.value c.kept-in-Standing-Sign.ensures.len suits
    ∙ a.0 in
    let l = a.1.0 in
    let g = a.1.1.changed_is in
    let t = a.1.1.area_is ∙ ap (λ h. numbers_of (signature_of (basis_in s) h (pair_from (size_of (class_in s)) c.in-Standing-Sign.sample.now))) (kept_pair s c.in-Standing-Sign.is-0 c.kept-in-Standing-Sign.ensures.value) in
    working s asks e (same_step (cc) (lent_target s asks c.requires.target) t c.append.ensures.state)

pub returns-in-Idle-Withdraw-clause-step : goal.returns-in-Idle-Withdraw-clause-step
returns-in-Idle-Withdraw-clause-step c =
    let s = c.args.self.now in
    let asks = asking s c.args.target.now c.args.signature.now (length c.args.scratch.now) c.in-Idle-Withdraw.is-1 in
    let e = withdraw_idle (class_in s) (basis_in s) (state_of s) _ (none_stands s c.in-Idle-Withdraw.is-0) in
    refusing s asks c.requires.target c.requires.signature e

pub returns-in_err-serves-in-Standing-Withdraw-clause-step : goal.returns-in_err-serves-in-Standing-Withdraw-clause-step
returns-in_err-serves-in-Standing-Withdraw-clause-step c =
    let s = c.args.self.now in
    let asks = asking s c.args.target.now c.args.signature.now (length c.args.scratch.now) c.in-Standing-Withdraw.is-1 in
    let e = withdraw_tests_lem (class_in s) (basis_in s) (state_of s) _ ∙ c.in_err-serves-in-Standing-Withdraw.ensures in
    breaking s asks c.from_residual-in_err-serves-in-Standing-Withdraw.result _ c.from_residual-in_err-serves-in-Standing-Withdraw.ensures.1 c.requires.target c.requires.signature e

pub returns-in_ok-serves-in-Standing-Withdraw-clause-step : goal.returns-in_ok-serves-in-Standing-Withdraw-clause-step
unfolding work
returns-in_ok-serves-in-Standing-Withdraw-clause-step c =
    let s = c.args.self.now in
    let asks = asking s c.args.target.now c.args.signature.now (length c.args.scratch.now) c.in-Standing-Withdraw.is-1 in
    let e = withdraw_tests_lem (class_in s) (basis_in s) (state_of s) _ ∙ c.in_ok-serves-in-Standing-Withdraw.ensures.0 in
    working s asks e (same_step refl (lent_target s asks c.requires.target) (lent_signature s asks c.requires.signature) refl)
