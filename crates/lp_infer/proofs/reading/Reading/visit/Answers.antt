use Rattle.std.proofs.Common.{◌∙◌, sym, ap, reverse, map}
use Rattle.std.proofs.lemmas.Result.{on_ok_weaker}
use Rattle.lp_lemmas.proofs.Results.{on_ok_both}
use Rattle.lp_calculus.specs.Types.{instance}
use Rattle.lp_term.specs.Nodes.{type_tree}
use Rattle.lp_infer.specs.Numbering.{type_variables}
use Rattle.lp_infer.specs.declared.reading.Task.TheVariants as task
use Rattle.lp_type_unify.specs.Reading.{reads}
use Rattle.lp_infer.specs.ReadingOff.{bound_type}
use Rattle.lp_infer.proofs.Memos.{again, unbound_reads, taken_variable, taken_parameter, taken_parts, taken_arrow, con_variables, parts_pushed, arrow_pushed}
use Rattle.lp_infer.proofs.Waiting.{put_reads, visit_serves, con_serves, arrow_serves}
use Rattle.lp_infer.proofs.Costs.{con_size, visit_cost, parts_cost, arrow_cost}
use Rattle.lp_type_laws.specs.Equations.{size}
use Rattle.lp_infer.proofs.reading.Reading.visit.Goals as goal

pub returns-in-Some-clause-taken : goal.returns-in-Some-clause-taken
returns-in-Some-clause-taken c =
    on_ok_weaker c.keep.result (λ put.
    again (bound_type c.args.from.now c.args.bindings.now.made) c.args.to.now c.args.self.now c.keep.new.self c.args.id c.resolve-top.result c.in-Some.made (reverse c.args.work.now.items) c.resolve-top.ensures.same (sym c.find.ensures ∙ c.in-Some.is) c.keep.ensures.numbers put) c.keep.ensures.made

pub returns-in-Var-clause-taken : goal.returns-in-Var-clause-taken
returns-in-Var-clause-taken c =
    let A = bound_type c.args.from.now c.args.bindings.now.made in
    on_ok_both c.variable.result c.variable.ensures.goes c.variable.ensures.memo (λ keys memo.
    taken_variable A c.args.to.now c.variable.new.to c.args.self.now c.variable.new.self c.args.id c.resolve-top.result c.in-Var.variable (reverse c.args.work.now.items) c.resolve-top.ensures.same
    (unbound_reads c.args.from.now c.args.bindings.now.made c.resolve-top.result.0 c.in-Var.variable c.requires.kept c.resolve-top.ensures.unbound c.in-Var.ensures.tree) keys (memo A (sym c.resolve-top.ensures.same)))

pub returns-in-Param-clause-taken : goal.returns-in-Param-clause-taken
returns-in-Param-clause-taken c =
    let A = bound_type c.args.from.now c.args.bindings.now.made in
    on_ok_weaker c.parameter.result (λ memo.
    taken_parameter A c.args.to.now c.parameter.new.to c.args.self.now c.parameter.new.self c.args.id c.resolve-top.result c.in-Param.number (reverse c.args.work.now.items) c.resolve-top.ensures.same
    (ap (instance (reads c.args.from.now c.args.bindings.now.made)) (sym c.in-Param.ensures.tree)) c.parameter.ensures.numbers (memo A (sym c.resolve-top.ensures.same))) c.parameter.ensures.memo

pub returns-in_ok-push-in-Con-clause-taken : goal.returns-in_ok-push-in-Con-clause-taken
returns-in_ok-push-in-Con-clause-taken c =
    let A = bound_type c.args.from.now c.args.bindings.now.made in
    on_ok_weaker c.push_visits.result (λ pushed.
    taken_parts A c.args.to.now c.args.self.now c.args.id c.resolve-top.result c.in-Con.ids.now (reverse c.args.work.now.items) (reverse c.push_visits.new.work.items) c.resolve-top.ensures.same
    (con_variables (reads c.args.from.now c.args.bindings.now.made) (type_tree c.args.from.now) c.in-Con.field-0 (map (λ t. t.0) c.in-Con.ids.now) (type_tree c.args.from.now c.resolve-top.result.0) c.in-Con.ensures.tree)
    (parts_pushed c.args.work.now.items c.push.new.self.items c.push_visits.new.work.items (task.Build c.args.id c.resolve-top.result) c.in-Con.ids.now c.in_ok-push-in-Con.ensures.items pushed)) c.push_visits.ensures

pub returns-in_ok-push-in-Arrow-3-clause-taken : goal.returns-in_ok-push-in-Arrow-3-clause-taken
returns-in_ok-push-in-Arrow-3-clause-taken c =
    let A = bound_type c.args.from.now c.args.bindings.now.made in
    taken_arrow A c.args.to.now c.args.self.now c.args.id c.resolve-top.result c.in-Arrow.left c.in-Arrow.right (reverse c.args.work.now.items) (reverse c.push-in-Arrow-3.new.self.items) c.resolve-top.ensures.same
    (ap (λ T. type_variables (instance (reads c.args.from.now c.args.bindings.now.made) T)) (sym c.in-Arrow.ensures.tree))
    (arrow_pushed c.args.work.now.items c.push-in-Arrow.new.self.items c.push-in-Arrow-2.new.self.items c.push-in-Arrow-3.new.self.items
    (task.Build c.args.id c.resolve-top.result) (task.Visit c.in-Arrow.right) (task.Visit c.in-Arrow.left) c.in_ok-push-in-Arrow.ensures.items
    c.in_ok-push-in-Arrow-2.ensures.items c.in_ok-push-in-Arrow-3.ensures.items)

pub returns-in-Some-clause-fewer : goal.returns-in-Some-clause-fewer
returns-in-Some-clause-fewer c = on_ok_weaker c.keep.result (λ put. visit_cost (bound_type c.args.from.now c.args.bindings.now.made) c.args.id (reverse c.args.work.now.items)) c.keep.ensures.made

pub returns-in-Var-clause-fewer : goal.returns-in-Var-clause-fewer
returns-in-Var-clause-fewer c = on_ok_weaker c.variable.result (λ goes. visit_cost (bound_type c.args.from.now c.args.bindings.now.made) c.args.id (reverse c.args.work.now.items)) c.variable.ensures.goes

pub returns-in-Param-clause-fewer : goal.returns-in-Param-clause-fewer
returns-in-Param-clause-fewer c = on_ok_weaker c.parameter.result (λ memo. visit_cost (bound_type c.args.from.now c.args.bindings.now.made) c.args.id (reverse c.args.work.now.items)) c.parameter.ensures.memo

pub returns-in_ok-push-in-Con-clause-fewer : goal.returns-in_ok-push-in-Con-clause-fewer
returns-in_ok-push-in-Con-clause-fewer c =
    on_ok_weaker c.push_visits.result (λ pushed.
    parts_cost (bound_type c.args.from.now c.args.bindings.now.made) c.args.id c.resolve-top.result c.in-Con.ids.now (reverse c.args.work.now.items) (reverse c.push_visits.new.work.items) c.resolve-top.ensures.same
    (con_size (reads c.args.from.now c.args.bindings.now.made) (type_tree c.args.from.now) c.in-Con.field-0 (map (λ t. t.0) c.in-Con.ids.now) (type_tree c.args.from.now c.resolve-top.result.0) c.in-Con.ensures.tree)
    (parts_pushed c.args.work.now.items c.push.new.self.items c.push_visits.new.work.items (task.Build c.args.id c.resolve-top.result) c.in-Con.ids.now c.in_ok-push-in-Con.ensures.items pushed)) c.push_visits.ensures

pub returns-in_ok-push-in-Arrow-3-clause-fewer : goal.returns-in_ok-push-in-Arrow-3-clause-fewer
returns-in_ok-push-in-Arrow-3-clause-fewer c =
    arrow_cost (bound_type c.args.from.now c.args.bindings.now.made) c.args.id c.resolve-top.result c.in-Arrow.left c.in-Arrow.right (reverse c.args.work.now.items) (reverse c.push-in-Arrow-3.new.self.items) c.resolve-top.ensures.same
    (ap (λ T. size (instance (reads c.args.from.now c.args.bindings.now.made) T)) (sym c.in-Arrow.ensures.tree))
    (arrow_pushed c.args.work.now.items c.push-in-Arrow.new.self.items c.push-in-Arrow-2.new.self.items c.push-in-Arrow-3.new.self.items
    (task.Build c.args.id c.resolve-top.result) (task.Visit c.in-Arrow.right) (task.Visit c.in-Arrow.left) c.in_ok-push-in-Arrow.ensures.items
    c.in_ok-push-in-Arrow-2.ensures.items c.in_ok-push-in-Arrow-3.ensures.items)

pub returns-in-Some-clause-serves : goal.returns-in-Some-clause-serves
returns-in-Some-clause-serves c =
    on_ok_weaker c.keep.result (λ put root.
    visit_serves (bound_type c.args.from.now c.args.bindings.now.made) c.args.from.now root c.args.self.now c.keep.new.self c.args.id (reverse c.args.work.now.items)
    (put_reads c.args.id.0 c.resolve-top.result.0 c.in-Some.made c.args.self.now c.keep.new.self put)) c.keep.ensures.made

pub returns-in-Var-clause-serves : goal.returns-in-Var-clause-serves
returns-in-Var-clause-serves c =
    on_ok_weaker c.variable.result (λ was root.
    visit_serves (bound_type c.args.from.now c.args.bindings.now.made) c.args.from.now root c.args.self.now c.variable.new.self c.args.id (reverse c.args.work.now.items) was) c.variable.ensures.was

pub returns-in-Param-clause-serves : goal.returns-in-Param-clause-serves
returns-in-Param-clause-serves c =
    on_ok_weaker c.parameter.result (λ was root.
    visit_serves (bound_type c.args.from.now c.args.bindings.now.made) c.args.from.now root c.args.self.now c.parameter.new.self c.args.id (reverse c.args.work.now.items) was) c.parameter.ensures.was

pub returns-in_ok-push-in-Con-clause-serves : goal.returns-in_ok-push-in-Con-clause-serves
returns-in_ok-push-in-Con-clause-serves c =
    on_ok_weaker c.push_visits.result (λ pushed root.
    con_serves (bound_type c.args.from.now c.args.bindings.now.made) c.args.from.now root c.args.self.now c.args.id c.resolve-top.result c.in-Con.field-0 c.in-Con.ids.now (reverse c.args.work.now.items) (reverse c.push_visits.new.work.items) c.resolve-top.ensures.same
    c.in-Con.ensures.within c.in-Con.ensures.node
    (parts_pushed c.args.work.now.items c.push.new.self.items c.push_visits.new.work.items (task.Build c.args.id c.resolve-top.result) c.in-Con.ids.now c.in_ok-push-in-Con.ensures.items pushed)) c.push_visits.ensures

pub returns-in_ok-push-in-Arrow-3-clause-serves : goal.returns-in_ok-push-in-Arrow-3-clause-serves
returns-in_ok-push-in-Arrow-3-clause-serves c = λ root.
    arrow_serves (bound_type c.args.from.now c.args.bindings.now.made) c.args.from.now root c.args.self.now c.args.id c.resolve-top.result c.in-Arrow.left c.in-Arrow.right (reverse c.args.work.now.items) (reverse c.push-in-Arrow-3.new.self.items) c.resolve-top.ensures.same
    c.in-Arrow.ensures.within c.in-Arrow.ensures.node
    (arrow_pushed c.args.work.now.items c.push-in-Arrow.new.self.items c.push-in-Arrow-2.new.self.items c.push-in-Arrow-3.new.self.items
    (task.Build c.args.id c.resolve-top.result) (task.Visit c.in-Arrow.right) (task.Visit c.in-Arrow.left) c.in_ok-push-in-Arrow.ensures.items
    c.in_ok-push-in-Arrow-2.ensures.items c.in_ok-push-in-Arrow-3.ensures.items)
