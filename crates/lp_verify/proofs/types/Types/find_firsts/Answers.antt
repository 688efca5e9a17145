use Rattle.std.proofs.Common.{◌≡◌, ◌∙◌, ◌<◌, ◌+◌, suc, length, ap, refl, sym, subst, arith}
use Rattle.lp_verify.specs.inner.FirstNumbers.{AreFound}
use Rattle.lp_verify.proofs.FirstTypes.{bank_then}
use Rattle.lp_verify.proofs.types.Types.find_firsts.Goals as goal

pub loop-number-init : goal.loop-number-init
loop-number-init c =
    let x = c.args.self.now in
    let count : c.len-number.result ≡ length x.firsts.items = c.len-number.ensures ∙ x.firsts.ok.0 in
    (omega (arith, count), (refl, refl, refl, refl, refl), λ a. (subst (λ n. AreFound n x) (sym count) a, λ i l. refl))

pub loop-number-preserved : goal.loop-number-preserved
loop-number-preserved c =
    let x = c.args.self.now in
    let y = c.loop-number.self in
    let z = c.find_first.new.self in
    let n = c.loop-number.number in
    let inv = c.loop-number.invariant in
    let low = inv.0 in
    let test = c.loop-number-test.true in
    let count = c.type_count-number-end.ensures.count in
    let room : n < length y.bank.types = subst (λ b. n < length b.types) (sym inv.1.0) (omega (arith, test, count)) in
    let next : suc n ≡ n + 1 = omega arith in (
      omega (arith, low),
      bank_then x y z inv.1 c.in_ok-find_first.ensures.kept,
      λ a.
          let f = inv.2 a in
          let g = c.in_ok-find_first.ensures.found f.0 room in
          (subst (λ m. AreFound m z) next g.0, λ i l. g.1 i (omega (arith, l, low)) ∙ f.1 i l),
    )

pub returns-clause-found : goal.returns-clause-found
returns-clause-found c = λ h.
    let y = c.loop-number.self in
    let n = c.loop-number.number in
    let inv = c.loop-number.invariant in
    let f = inv.2 (h c.type_count-number-end.ensures.sound) in
    let test = c.loop-number-test.false in
    let count = c.type_count-number-end.ensures.count in
    let same = ap (λ b. length b.types) inv.1.0 in
    let within = f.0.within in
    let all : n ≡ length y.bank.types = omega (arith, test, count, same, within) in
    (subst (λ m. AreFound m y) all f.0, f.1)
