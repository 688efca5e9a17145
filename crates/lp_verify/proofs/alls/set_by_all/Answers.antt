use Rattle.std.proofs.Common.{◌≡◌, ◌∷◌, ◌+◌, drop, ◌∙◌, ap, sym}
use Rattle.std.specs.Prelude.{◌||◌}
use Rattle.std.specs.Ordering.{nat_cmp}
use Rattle.std.specs.BTreeSet.{contains}
use Rattle.lp_lemmas.proofs.Lists.{drop_read}
use Rattle.lp_code.specs.Denote.{is_set_by_all}
use Rattle.lp_verify.proofs.AllsKept.{one_set}
use Rattle.lp_verify.proofs.alls.set_by_all.Goals as goal

pub loop-instr-preserved : goal.loop-instr-preserved
loop-instr-preserved c =
    let code = c.args.code.now in
    let n = c.loop-instr.instr-index in
    let i = c.instr-item.result in
    let at : drop n code ≡ i ∷ drop (n + 1) code = drop_read code n i c.loop-instr-test.true c.instr-item.is in
    λ r. one_set i (drop (n + 1) code) r (contains nat_cmp c.loop-instr.set r) (contains nat_cmp c.note.new.set r) (is_set_by_all code r) (c.in_ok-note.ensures r) (ap (λ l. is_set_by_all l r || contains nat_cmp c.loop-instr.set r) (sym at) ∙ c.loop-instr.invariant r)
