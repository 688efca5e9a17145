use Rattle.std.proofs.Common.{◌∙◌, ◌<◌, length, sym, ap, subst}
use Rattle.std.specs.Prelude.{All}
use Rattle.lp_calculus.specs.Term.{atom, constant}
use Rattle.lp_calculus.specs.Convert.{leftmost_step}
use Rattle.lp_store.specs.declared.cell.Cell.TheVariants.{Const}
use Rattle.lp_store.proofs.Changes.{parts_read}
use Rattle.lp_susp.proofs.TypeWorks.{numbers_all, constant_trees}
use Rattle.lp_susp.proofs.reading.put_leaf.Goals as goal

pub put_term-requires : goal.put_term-requires
put_term-requires c =
    let n = length c.read_types.new.bank.types in
    numbers_all n c.as_slice.result.now (subst (λ l. All (λ t. t.0 < n) l) (sym c.as_slice.ensures.value) c.in_ok-types-in-Const.ensures.within)

pub returns-in_ok-id-in-Const-clause-tree : goal.returns-in_ok-id-in-Const-clause-tree
returns-in_ok-id-in-Const-clause-tree c = λ x r.
    let k = parts_read c.args.store.now c.args.leaf.0 (Const c.in-Const.name c.in-Const.list) (sym c.in-Const.ensures.cell) r in
    let e = constant_trees c.read_types.new.bank c.as_slice.result.now c.in_ok-types-in-Const.types.items k.0 c.as_slice.ensures.value (c.in_ok-types-in-Const.ensures.types k.0 k.2) in
    (c.in_ok-id-in-Const.ensures.tree ∙ ap (λ l. atom (constant c.in-Const.name l)) e ∙ sym k.4, ap leftmost_step k.4)
