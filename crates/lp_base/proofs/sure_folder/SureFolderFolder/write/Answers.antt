use Rattle.std.proofs.Common.{rules, arith}
use Rattle.lp_base.proofs.Found.{found_set, found_push, name_at_read}
use Rattle.lp_base.proofs.sure_folder.SureFolderFolder.write.Goals as goal

pub returns-in-Some-clause-told : goal.returns-in-Some-clause-told
returns-in-Some-clause-told c = λ other.
    let first = c.in-Some.ensures.first in
    let named = name_at_read c.deref.result.now c.in-Some.i c.index_mut.result.now (search rules) in
    let step = found_set c.deref.result.now c.args.name.now c.in-Some.i (c.index_mut.result.now.0, c.in_ok-content.content) other (search rules) (grind (arith, named, first.at, c.index_mut.ensures.value, c.deref.ensures.value)) first.at first.before in
    grind (arith, step, c.deref.ensures.value, c.in_ok-content.ensures.ok)

pub returns-in_ok-push-in-None-clause-told : goal.returns-in_ok-push-in-None-clause-told
returns-in_ok-push-in-None-clause-told c = λ other.
    let step = found_push c.deref.result.now c.args.name.now (c.in_ok-key-in-None.key, c.in_ok-content.content) other (search rules) (search rules) in
    grind (arith, step, c.deref.ensures.value, c.in_ok-content.ensures.ok, c.in_ok-push-in-None.ensures.items)
