use Rattle.std.proofs.Common.{◌++◌, sym, subst, get_or}
use Rattle.std.proofs.lemmas.List.{append-nil, take_all, get_or_default}
use Rattle.lp_build.specs.Meant.{AreSignaturesOf}
use Rattle.lp_build.proofs.Growing.{signature_next}
use Rattle.lp_build.proofs.signatures.Signatures.copy_into.Goals as goal

pub loop-at-init : goal.loop-at-init
loop-at-init c = λ g ns h so. subst (λ l. AreSignaturesOf g l c.args.copies.now.items) (sym (append-nil ns)) so

pub loop-at-preserved : goal.loop-at-preserved
loop-at-preserved c = λ g ns h so.
    let one = c.in_ok-copy_one.ensures g h in
    let numbers = c.args.numbers.now in
    signature_next g ns numbers c.loop-at.at (get_or numbers c.loop-at.at 0) one.0 c.loop-at.copies.items c.copy_one.new.copies.items
    c.loop-at-test.true (get_or_default numbers c.loop-at.at 0 (get_or numbers c.loop-at.at 0) c.loop-at-test.true)
    (c.loop-at.invariant g ns h so) one.1 one.2

pub returns : goal.returns
returns c = λ g ns h so. subst (λ l. AreSignaturesOf g (ns ++ l) c.loop-at.copies.items) (take_all c.loop-at.at c.args.numbers.now c.loop-at-test.false) (c.loop-at.invariant g ns h so)
