use Rattle.std.proofs.Common.{◌≡◌, arith, length, drop, subst, ap, ◌∙◌}
use Rattle.lp_unify.specs.Waits.{first_of, pairs_of}
use Rattle.lp_unify.proofs.Entries.{first_is, first_drops, past_drops}
use Rattle.lp_unify.proofs.delayed.Delayed.first.Goals as goal

pub returns-then-first-count-clause-pairs : goal.returns-then-first-count-clause-pairs
returns-then-first-count-clause-pairs c =
    let es = c.self.inside.entries.items in
    let n : c.len-count.result ≡ length es = omega (arith, c.len-count.ensures, c.self.inside.entries.ok) in
    let f : first_of es ≡ c.index.result.now.first = first_is es c.len-count.result c.index.result.now n (omega (arith, c.if-count-eq0.false)) c.index.ensures in
    subst (λ l. drop c.len-count.result l ≡ pairs_of l) c.self.view_is (ap (λ k. drop k es) n ∙ past_drops es c.index.result.now.first f (omega (arith, n, c.if-first-count.true)))

pub returns-clause-pairs : goal.returns-clause-pairs
returns-clause-pairs c =
    let es = c.self.inside.entries.items in
    let n : c.len-count.result ≡ length es = omega (arith, c.len-count.ensures, c.self.inside.entries.ok) in
    let f : first_of es ≡ c.index.result.now.first = first_is es c.len-count.result c.index.result.now n (omega (arith, c.if-count-eq0.false)) c.index.ensures in
    subst (λ l. drop c.index.result.now.first l ≡ pairs_of l) c.self.view_is (first_drops es c.index.result.now.first f)
