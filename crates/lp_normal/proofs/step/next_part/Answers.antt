use Rattle.std.proofs.Common.{◌∙◌, ap, sym, reverse, arith, ◌≡◌, ◌+◌, inl, inr, subst}
use Rattle.lp_term.specs.Nodes.{tree, type_tree}
use Rattle.lp_standard.specs.Connectives.{body_of, connective_of}
use Rattle.lp_standard.specs.Connectives as connective
use Rattle.lp_normal.specs.Within.{IsFrameIn}
use Rattle.lp_normal.specs.declared.clauses.Link.{Link}
use Rattle.lp_normal.proofs.Bounds.{All-reverse, join_parts, enter_part, grown_clause_list}
use Rattle.lp_normal.proofs.ClauseSteps.{both_parts, guard_comes, variable_comes}
use Rattle.lp_normal.proofs.Comings.{part_later, all_turn_later}
use Rattle.lp_lemmas.proofs.Results.{passed_up}
use Rattle.lp_normal.proofs.Counts.{same_clauses_met, head_passes, over_then}
use Rattle.lp_normal.specs.inner.Met.{flat_count, clause_list_met, frames_met}
use Rattle.lp_normal.specs.Counted.{PassesLimit, IsOver}
use Rattle.lp_normal.specs.Making.{Flat, PartComesTo, AllTurn}
use Rattle.lp_term.proofs.Trees.{extends-trans}
use Rattle.lp_normal.specs.inner.Work.{weight}
use Rattle.lp_normal.specs.declared.clauses.Part.{Part}
use Rattle.lp_normal.proofs.Works.{two_parts_work, lighter}
use Rattle.lp_normal.specs.inner.Kinds.{is_assumed, IsNested}
use Rattle.lp_normal.proofs.step.next_part.Goals as goal

pub returns-in_ok-made-in-And-clause-within : goal.returns-in_ok-made-in-And-clause-within
returns-in_ok-made-in-And-clause-within c =
    let e = c.in_ok-made-in-And.ensures in
    let i = c.in-And.ensures.within in
    join_parts c.args.bank.now c.args.list c.in_ok-made-in-And.made c.in-And.left c.in-And.right e.assumed e.done e.waiting e.around c.requires.list i.0 i.1

pub returns-in_ok-made-in-And-clause-comes : goal.returns-in_ok-made-in-And-clause-comes
returns-in_ok-made-in-And-clause-comes c = λ out whole h t.
    let e = c.in_ok-made-in-And.ensures in
    (out, both_parts c.args.bank.now c.args.list c.args.part.0 out c.in_ok-made-in-And.made c.in-And.left c.in-And.right e.type_vars e.assumed e.done e.waiting e.around c.in-And.ensures.tree h, t)

pub returns-in_ok-made-in-Implies-clause-within : goal.returns-in_ok-made-in-Implies-clause-within
returns-in_ok-made-in-Implies-clause-within c =
    let e = c.in_ok-made-in-Implies.ensures in
    let i = c.in-Implies.ensures.within in
    enter_part c.args.bank.now c.args.list c.in_ok-made-in-Implies.made (Link.Guard c.in-Implies.goal) c.in-Implies.clause e.assumed e.done e.waiting e.around c.requires.list i.0 i.1

pub returns-in_ok-made-in-Implies-clause-comes : goal.returns-in_ok-made-in-Implies-clause-comes
returns-in_ok-made-in-Implies-clause-comes c = λ out whole h t.
    let e = c.in_ok-made-in-Implies.ensures in
    (out, guard_comes c.args.bank.now c.args.list c.args.part.0 out c.in_ok-made-in-Implies.made c.in-Implies.goal c.in-Implies.clause e.type_vars e.assumed e.done e.waiting e.around c.in-Implies.ensures.tree h, t)

pub returns-in_ok-made-in-ForAll-clause-within : goal.returns-in_ok-made-in-ForAll-clause-within
returns-in_ok-made-in-ForAll-clause-within c =
    let b = c.args.bank.now in
    let n = c.body.new.bank in
    let x = c.in_ok-inside-in-ForAll.ensures.kept in
    let e = c.in_ok-made-in-ForAll.ensures in
    let i = c.in-ForAll.ensures.within in
    enter_part n c.args.list c.in_ok-made-in-ForAll.made (Link.Variable c.in-ForAll.bound) c.in_ok-inside-in-ForAll.inside e.assumed e.done e.waiting e.around (grown_clause_list b n x c.args.list c.requires.list) (omega (arith, i.0, x.more_types)) c.in_ok-inside-in-ForAll.ensures.within

pub returns-in_ok-made-in-ForAll-clause-comes : goal.returns-in_ok-made-in-ForAll-clause-comes
returns-in_ok-made-in-ForAll-clause-comes c = λ out whole h t.
    let b = c.args.bank.now in
    let n = c.body.new.bank in
    let x = c.in_ok-inside-in-ForAll.ensures.kept in
    let e = c.in_ok-made-in-ForAll.ensures in
    let i = c.in-ForAll.ensures.within in
    let fs = c.args.frames.now.items in
    let u = body_of (tree b c.in-ForAll.on.0) in (
      out,
      variable_comes n c.args.list c.args.part.0 out c.in_ok-made-in-ForAll.made c.in-ForAll.bound c.in_ok-inside-in-ForAll.inside u e.type_vars e.assumed e.done e.waiting e.around
          (ap connective_of (x.same_terms c.args.part.0 c.requires.part) ∙ c.in-ForAll.ensures.tree ∙ ap (λ T. connective.ForAll T u) (sym (x.same_types c.in-ForAll.bound.0 i.0))) c.in_ok-inside-in-ForAll.ensures.tree
          (part_later b n x c.args.list c.args.part.0 out c.requires.list c.requires.part h),
      all_turn_later b n x (reverse fs) out whole (All-reverse (IsFrameIn b) fs c.requires.frames) t,
    )

pub returns-in_ok-made-in-Atomic-clause-comes : goal.returns-in_ok-made-in-Atomic-clause-comes
returns-in_ok-made-in-Atomic-clause-comes c = λ out whole h t. c.in_ok-made-in-Atomic.ensures.comes out whole h t

pub returns-in_ok-made-in-And-clause-met : goal.returns-in_ok-made-in-And-clause-met
returns-in_ok-made-in-And-clause-met c = λ b h.
    let e = c.in_ok-made-in-And.ensures in
    omega (arith, h, same_clauses_met b c.in_ok-made-in-And.made c.args.list e.assumed e.done)

pub returns-in_ok-made-in-Implies-clause-met : goal.returns-in_ok-made-in-Implies-clause-met
returns-in_ok-made-in-Implies-clause-met c = λ b h.
    let e = c.in_ok-made-in-Implies.ensures in
    omega (arith, h, same_clauses_met b c.in_ok-made-in-Implies.made c.args.list e.assumed e.done)

pub returns-in_ok-made-in-ForAll-clause-met : goal.returns-in_ok-made-in-ForAll-clause-met
returns-in_ok-made-in-ForAll-clause-met c = λ b h.
    let e = c.in_ok-made-in-ForAll.ensures in
    omega (arith, h, same_clauses_met b c.in_ok-made-in-ForAll.made c.args.list e.assumed e.done)

pub returns-in_ok-made-in-Atomic-clause-met : goal.returns-in_ok-made-in-Atomic-clause-met
returns-in_ok-made-in-Atomic-clause-met c = λ b h.
    let e = c.in_ok-made-in-Atomic.ensures in
    omega (arith, h, e.met b, e.count)

pub returns-in_err-made-in-Atomic-clause-over : goal.returns-in_err-made-in-Atomic-clause-over
returns-in_err-made-in-Atomic-clause-over c =
    let b = c.args.bank.now in
    let l = c.args.list in
    let t = c.args.part.0 in
    let fs = c.args.frames.now.items in
    passed_up c.from_residual-in_err-made-in-Atomic.result c.in_err-made-in-Atomic.field-0.0
    (IsOver ((out whole : Flat) → clause_list_met b l + frames_met b fs ≡ c.args.count.now → PartComesTo b l t out → AllTurn b (reverse fs) out whole → PassesLimit (flat_count whole)))
    c.from_residual-in_err-made-in-Atomic.ensures.1
    (over_then c.in_err-made-in-Atomic.field-0.0 (λ full out whole m h u. omega (arith, full, m, head_passes b l t fs out whole c.in-Atomic.ensures.tree h u)) c.in_err-made-in-Atomic.ensures.over)

pub returns-in_ok-made-in-And-clause-less : goal.returns-in_ok-made-in-And-clause-less
returns-in_ok-made-in-And-clause-less c = inr (λ d x.
    let b = c.args.bank.now in
    let e = c.in_ok-made-in-And.ensures in
    let i = c.in-And.ensures.within in
    let form = ap connective_of (x.same_terms c.args.part.0 c.requires.part) ∙ c.in-And.ensures.tree in
    omega (
      arith,
      two_parts_work d c.in_ok-made-in-And.made c.args.list (Part.Visit c.in-And.right) (Part.Visit c.in-And.left) e.assumed e.waiting,
      lighter (tree d c.args.part.0) (connective.And (tree b c.in-And.left.0) (tree b c.in-And.right.0)) form,
      ap weight (x.same_terms c.in-And.left.0 i.0),
      ap weight (x.same_terms c.in-And.right.0 i.1),
    ))

pub returns-in_ok-made-in-Implies-clause-less : goal.returns-in_ok-made-in-Implies-clause-less
returns-in_ok-made-in-Implies-clause-less c = inr (λ d x.
    let b = c.args.bank.now in
    let e = c.in_ok-made-in-Implies.ensures in
    let i = c.in-Implies.ensures.within in
    let form = ap connective_of (x.same_terms c.args.part.0 c.requires.part) ∙ c.in-Implies.ensures.tree in
    omega (
      arith,
      two_parts_work d c.in_ok-made-in-Implies.made c.args.list Part.Leave (Part.Visit c.in-Implies.clause) e.assumed e.waiting,
      lighter (tree d c.args.part.0) (connective.Implies (tree b c.in-Implies.goal.0) (tree b c.in-Implies.clause.0)) form,
      ap weight (x.same_terms c.in-Implies.clause.0 i.1),
    ))

pub returns-in_ok-made-in-ForAll-clause-less : goal.returns-in_ok-made-in-ForAll-clause-less
returns-in_ok-made-in-ForAll-clause-less c = inr (λ d x.
    let b = c.args.bank.now in
    let e = c.in_ok-made-in-ForAll.ensures in
    let k = c.in_ok-inside-in-ForAll.ensures in
    let y = extends-trans b c.body.new.bank d k.kept x in
    let u = body_of (tree b c.in-ForAll.on.0) in
    let form = ap connective_of (y.same_terms c.args.part.0 c.requires.part) ∙ c.in-ForAll.ensures.tree in
    omega (
      arith,
      two_parts_work d c.in_ok-made-in-ForAll.made c.args.list Part.Leave (Part.Visit c.in_ok-inside-in-ForAll.inside) e.assumed e.waiting,
      lighter (tree d c.args.part.0) (connective.ForAll (type_tree b c.in-ForAll.bound.0) u) form,
      ap weight (x.same_terms c.in_ok-inside-in-ForAll.inside.0 k.within ∙ k.tree),
    ))

pub returns-in_ok-made-in-Atomic-clause-less : goal.returns-in_ok-made-in-Atomic-clause-less
returns-in_ok-made-in-Atomic-clause-less c = let e = c.in_ok-made-in-Atomic.ensures in inl (omega (arith, e.count))

pub returns-in_ok-made-in-And-clause-kind : goal.returns-in_ok-made-in-And-clause-kind
returns-in_ok-made-in-And-clause-kind c = λ k h. subst (λ o. IsNested k (is_assumed o) (reverse c.args.frames.now.items)) (sym c.in_ok-made-in-And.ensures.assumed) h

pub returns-in_ok-made-in-Implies-clause-kind : goal.returns-in_ok-made-in-Implies-clause-kind
returns-in_ok-made-in-Implies-clause-kind c = λ k h. subst (λ o. IsNested k (is_assumed o) (reverse c.args.frames.now.items)) (sym c.in_ok-made-in-Implies.ensures.assumed) h

pub returns-in_ok-made-in-ForAll-clause-kind : goal.returns-in_ok-made-in-ForAll-clause-kind
returns-in_ok-made-in-ForAll-clause-kind c = λ k h. subst (λ o. IsNested k (is_assumed o) (reverse c.args.frames.now.items)) (sym c.in_ok-made-in-ForAll.ensures.assumed) h
