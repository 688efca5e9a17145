use Rattle.std.proofs.Common.{[], ◌++◌, sym, subst}
use Rattle.lp_build.specs.Meant.{AreSignaturesOf, no_signature}
use Rattle.lp_build.specs.Sights.{accum_sig_at}
use Rattle.lp_build.proofs.meanings.used_by.Goals as goal

pub returns : goal.returns
returns c = λ files g links declared.
    let none = subst (λ l. AreSignaturesOf g [] l) (sym c.new-used.ensures.items) no_signature in
    let named = subst (λ l. AreSignaturesOf g l c.copy_into.new.copies.items) (c.named.ensures files links) (c.in_ok-copy_into.ensures g [] declared none) in
    subst (λ l. AreSignaturesOf g (accum_sig_at files c.args.number ++ l) c.copy_into-2.new.copies.items) (c.accumulated.ensures files links)
    (c.in_ok-copy_into-2.ensures g (accum_sig_at files c.args.number) declared named)
