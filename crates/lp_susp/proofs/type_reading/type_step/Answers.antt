use Rattle.std.proofs.Common.{◌∙◌, ◌++◌, ◌∷◌, [], length, map, reverse, refl, sym, ap, subst, append_assoc}
use Rattle.std.specs.Prelude.{All}
use Rattle.std.proofs.lemmas.List.Elements.{All-push, All-append}
use Rattle.lp_calculus.specs.Types.{var}
use Rattle.lp_term.specs.Nodes.{type_tree}
use Rattle.lp_susp.specs.declared.type_reading.TypeTask.TheVariants.{Read, MakeCon, MakeArrow}
use Rattle.lp_susp.specs.TypeWork.{Ran, IsThere, reads_of}
use Rattle.lp_susp.proofs.TypeWorks.{replaced, done_task, ref_task, var_task, con_task, arrow_task, there_all, trees_push}
use Rattle.lp_susp.proofs.type_reading.type_step.Goals.{In_ok-put_reads-in-TypeCon}
use Rattle.lp_susp.proofs.type_reading.type_step.Goals as goal

pub returns-in_ok-push-in-Ref-clause-ran : goal.returns-in_ok-push-in-Ref-clause-ran
returns-in_ok-push-in-Ref-clause-ran c = λ res r.
    let s = c.args.store.now in
    let outs = map (λ t. type_tree c.args.bank.now t.0) c.args.out.now.items in
    subst (λ l. Ran s l outs res) (sym c.in_ok-push-in-Ref.ensures.items)
    (replaced s c.args.work.now.items (Read c.in-Ref.to ∷ []) (Read c.in-Read.cell) outs res (ref_task s c.in-Read.cell c.in-Ref.to (sym c.in-Ref.ensures.cell) outs) (subst (λ t. Ran s (c.args.work.now.items ++ t ∷ []) outs res) c.in-Read.is r))

pub returns-in_ok-push-in-TypeVar-clause-ran : goal.returns-in_ok-push-in-TypeVar-clause-ran
returns-in_ok-push-in-TypeVar-clause-ran c = λ res r.
    let s = c.args.store.now in
    let b = c.args.bank.now in
    let d = c.put_type.new.self in
    let outs = map (λ t. type_tree b t.0) c.args.out.now.items in
    let news = map (λ t. type_tree d t.0) c.push-in-TypeVar.new.self.items in
    let e = trees_push b d c.in_ok-id-in-TypeVar.ensures.kept c.args.out.now.items c.push-in-TypeVar.new.self.items c.in_ok-id-in-TypeVar.id (var c.in-Read.cell.0) c.requires.outs c.in_ok-push-in-TypeVar.ensures.items c.in_ok-id-in-TypeVar.ensures.tree in
    done_task s c.args.work.now.items (Read c.in-Read.cell) outs news res (λ m a. var_task s c.in-Read.cell (sym c.in-TypeVar.ensures.cell) outs m a ∙ sym e) (subst (λ t. Ran s (c.args.work.now.items ++ t ∷ []) outs res) c.in-Read.is r)

pub returns-in_ok-put_reads-in-TypeCon-clause-tasks : goal.returns-in_ok-put_reads-in-TypeCon-clause-tasks
returns-in_ok-put_reads-in-TypeCon-clause-tasks c =
    let s = c.args.store.now in
    let a : All (IsThere s) c.push-in-TypeCon.new.self.items = subst (λ l. All (IsThere s) l) (sym c.in_ok-push-in-TypeCon.ensures.items) (All-push (IsThere s) c.args.work.now.items _ c.requires.tasks tt) in
    subst (λ l. All (IsThere s) l) (sym c.in_ok-put_reads-in-TypeCon.ensures) (All-append (IsThere s) c.push-in-TypeCon.new.self.items (reverse (reads_of c.items-cells.result.now)) a (there_all s c.items-cells.result.now c.items-cells.ensures.within))

pub returns-in_ok-put_reads-in-TypeCon-clause-ran : goal.returns-in_ok-put_reads-in-TypeCon-clause-ran
returns-in_ok-put_reads-in-TypeCon-clause-ran c = λ res r.
    let s = c.args.store.now in
    let n = length c.items-cells.result.now in
    let outs = map (λ t. type_tree c.args.bank.now t.0) c.args.out.now.items in
    let w = c.args.work.now.items in
    let reads = reverse (reads_of c.items-cells.result.now) in
    let q = c.in_ok-put_reads-in-TypeCon.ensures ∙ ap (λ l. l ++ reads) c.in_ok-push-in-TypeCon.ensures.items ∙ append_assoc w (MakeCon c.in-TypeCon.name n ∷ []) reads in
    subst (λ l. Ran s l outs res) (sym q)
    (replaced s w (MakeCon c.in-TypeCon.name n ∷ reads) (Read c.in-Read.cell) outs res
    (con_task s c.in-Read.cell c.in-TypeCon.name c.in-TypeCon.list n c.items-cells.result.now (sym c.in-TypeCon.ensures.cell)
    c.items-cells.ensures.items refl outs) (subst (λ t. Ran s (w ++ t ∷ []) outs res) c.in-Read.is r))

pub returns-in_ok-push-in-TypeArrow-3-clause-ran : goal.returns-in_ok-push-in-TypeArrow-3-clause-ran
returns-in_ok-push-in-TypeArrow-3-clause-ran c = λ res r.
    let s = c.args.store.now in
    let outs = map (λ t. type_tree c.args.bank.now t.0) c.args.out.now.items in
    let w = c.args.work.now.items in
    let f = c.in-TypeArrow.from in
    let t = c.in-TypeArrow.to in
    let q = c.in_ok-push-in-TypeArrow-3.ensures.items ∙ ap (λ l. l ++ Read f ∷ []) (c.in_ok-push-in-TypeArrow-2.ensures.items ∙ ap
    (λ l. l ++ Read t ∷ []) c.in_ok-push-in-TypeArrow.ensures.items ∙ append_assoc w (MakeArrow ∷ []) (Read t ∷ [])) ∙ append_assoc w
    (MakeArrow ∷ Read t ∷ []) (Read f ∷ []) in
    subst (λ l. Ran s l outs res) (sym q)
    (replaced s w (MakeArrow ∷ Read t ∷ Read f ∷ []) (Read c.in-Read.cell) outs res (arrow_task s c.in-Read.cell f t (sym c.in-TypeArrow.ensures.cell) outs) (subst (λ y. Ran s (w ++ y ∷ []) outs res) c.in-Read.is r))

pub returns-in_ok-make_con-in-MakeCon-clause-ran : goal.returns-in_ok-make_con-in-MakeCon-clause-ran
returns-in_ok-make_con-in-MakeCon-clause-ran c = λ res r.
    let s = c.args.store.now in
    let outs = map (λ t. type_tree c.args.bank.now t.0) c.args.out.now.items in
    let news = map (λ t. type_tree c.make_con.new.bank t.0) c.make_con.new.out.items in
    done_task s c.args.work.now.items (MakeCon c.in-MakeCon.name c.in-MakeCon.count) outs news res (λ m a. a.4 ∙ sym (c.in_ok-make_con-in-MakeCon.ensures.made a.0 a.1 a.2 a.3))
    (subst (λ t. Ran s (c.args.work.now.items ++ t ∷ []) outs res) c.in-MakeCon.is r)

pub returns-in_ok-make_arrow-in-MakeArrow-clause-ran : goal.returns-in_ok-make_arrow-in-MakeArrow-clause-ran
returns-in_ok-make_arrow-in-MakeArrow-clause-ran c = λ res r.
    let s = c.args.store.now in
    let outs = map (λ t. type_tree c.args.bank.now t.0) c.args.out.now.items in
    let news = map (λ t. type_tree c.make_arrow.new.bank t.0) c.make_arrow.new.out.items in
    done_task s c.args.work.now.items MakeArrow outs news res (λ m a. a.4 ∙ sym (c.in_ok-make_arrow-in-MakeArrow.ensures.made a.0 a.1 a.2 a.3))
    (subst (λ t. Ran s (c.args.work.now.items ++ t ∷ []) outs res) c.in-MakeArrow.is r)
