use Rattle.std.proofs.Common.{◌≡◌, ◌<◌, ◌≤◌, ◌∙◌, ◌∷◌, sym, ap, subst, refl, length, get_or, reverse, Some, inl, inr}
use Rattle.std.proofs.lemmas.Option.{slice_get_read, slice_get_past}
use Rattle.lp_sig.specs.Pieces.{spelled}
use Rattle.lp_infer.specs.Typing.{raw_integer, raw_text}
use Rattle.lp_infer.specs.Texts.{string_bytes}
use Rattle.lp_infer.specs.Visits.{Looked, Opened}
use Rattle.lp_infer.specs.declared.lookup.Step.TheVariants as step
use Rattle.lp_infer.specs.declared.lookup.Task.TheVariants as task
use Rattle.lp_syntax.specs.declared.text.RawNode.TheVariants as node
use Rattle.lp_infer.proofs.Scanning.{reverse_two}
use Rattle.lp_infer.proofs.Leaves.{leaf_as, leaf_pushed}
use Rattle.std.proofs.Common.{arith, w64, to_z, of_z, true≢false}
use Rattle.lp_infer.specs.inner.Turns.{turns}
use Rattle.lp_infer.proofs.Turns.{leaf_left, application_left, abstraction_left}
use Rattle.std.proofs.lemmas.Int.{to_z-of_z}
use Rattle.std.proofs.lemmas.Result.{IfOk-weaker}
use Rattle.lp_lemmas.proofs.Lists.{reverse_pushed}
use Rattle.lp_infer.proofs.Passing.{past_leaf, past_application, past_abstraction}
use Rattle.lp_infer.proofs.LookedUp.{none_there, leaf_done, part_not_older, body_not_older, no_note}
use Rattle.lp_infer.proofs.lookup.Lookup.visit.Goals as goal

pub returns-in_default-clause-looked : goal.returns-in_default-clause-looked
returns-in_default-clause-looked c = λ root S.
    let nodes = c.args.raw.now.nodes.items in
    let past : length nodes ≤ c.args.node = subst (λ l. length l ≤ c.args.node) c.deref.ensures.value c.in_default.ensures.lookup.3 in
    none_there c.args.signature.now c.args.source.now nodes root c.args.self.now c.args.node (reverse c.args.work.now.items) (slice_get_past nodes c.args.node past) S

pub returns-in-Name-clause-looked : goal.returns-in-Name-clause-looked
returns-in-Name-clause-looked c =
    let nodes = c.args.raw.now.nodes.items in
    let h : c.args.node < length nodes = subst (λ l. c.args.node < length l) c.deref.ensures.value c.in-Some.ensures.lookup.3.0 in
    let at : c.in-Some.found.now ≡ get_or nodes c.args.node c.in-Some.found.now = c.in-Some.ensures.lookup.1 ∙ ap (λ l. get_or l c.args.node c.in-Some.found.now) c.deref.ensures.value in
    IfOk-weaker c.name.result _ _ (λ ok k root S.
    leaf_done c.args.signature.now c.args.source.now nodes root c.args.self.now c.name.new.self c.args.node (node.Name c.in-Name.spot) (reverse c.args.work.now.items) ok
    (slice_get_read nodes (length nodes) c.args.node c.in-Some.found.now refl h at ∙ ap Some c.in-Name.is) (λ f x e. absurd (cc)) (λ s o b e. absurd (cc)) S (λ names H. k names H S.variables)) c.name.ensures

pub returns-in-Known-clause-looked : goal.returns-in-Known-clause-looked
returns-in-Known-clause-looked c =
    let nodes = c.args.raw.now.nodes.items in
    let h : c.args.node < length nodes = subst (λ l. c.args.node < length l) c.deref.ensures.value c.in-Some.ensures.lookup.3.0 in
    let at : c.in-Some.found.now ≡ get_or nodes c.args.node c.in-Some.found.now = c.in-Some.ensures.lookup.1 ∙ ap (λ l. get_or l c.args.node c.in-Some.found.now) c.deref.ensures.value in
    IfOk-weaker c.standard.result _ _ (λ ok k root S.
    leaf_done c.args.signature.now c.args.source.now nodes root c.args.self.now c.standard.new.self c.args.node (node.Known c.in-Known.number c.in-Known.field-1) (reverse c.args.work.now.items) ok
    (slice_get_read nodes (length nodes) c.args.node c.in-Some.found.now refl h at ∙ ap Some c.in-Known.is) (λ f x e. absurd (cc)) (λ s o b e. absurd (cc)) S (λ names H. k c.args.signature.now c.args.source.now)) c.standard.ensures

pub returns-in_ok-integer-in-Number-clause-looked : goal.returns-in_ok-integer-in-Number-clause-looked
returns-in_ok-integer-in-Number-clause-looked c = λ root S.
    let same : to_z w64 (of_z w64 c.in-Number.value) ≡ c.in-Number.value = grind (arith, to_z-of_z) in
    let nodes = c.args.raw.now.nodes.items in
    let h : c.args.node < length nodes = subst (λ l. c.args.node < length l) c.deref.ensures.value c.in-Some.ensures.lookup.3.0 in
    let at : c.in-Some.found.now ≡ get_or nodes c.args.node c.in-Some.found.now = c.in-Some.ensures.lookup.1 ∙ ap (λ l. get_or l c.args.node c.in-Some.found.now) c.deref.ensures.value in
    past_leaf c.args.signature.now c.args.source.now nodes root c.args.self.now c.integer.new.self c.args.node
    (node.Number c.in-Number.value c.in-Number.field-1) (reverse c.args.work.now.items) S
    (slice_get_read nodes (length nodes) c.args.node c.in-Some.found.now refl h at ∙ ap Some c.in-Number.is)
    (λ names H.
    leaf_as c.args.signature.now c.args.source.now _ _ c.args.self.now c.integer.new.self (λ count. ap (λ z. Some (raw_integer z, c.args.self.now.variables.places.items)) (sym same))
    (c.in_ok-integer-in-Number.ensures c.args.signature.now c.args.source.now))

pub returns-in_ok-push-in-Text-clause-looked : goal.returns-in_ok-push-in-Text-clause-looked
returns-in_ok-push-in-Text-clause-looked c = λ root S.
    let nodes = c.args.raw.now.nodes.items in
    let h : c.args.node < length nodes = subst (λ l. c.args.node < length l) c.deref.ensures.value c.in-Some.ensures.lookup.3.0 in
    let at : c.in-Some.found.now ≡ get_or nodes c.args.node c.in-Some.found.now = c.in-Some.ensures.lookup.1 ∙ ap (λ l. get_or l c.args.node c.in-Some.found.now) c.deref.ensures.value in
    past_leaf c.args.signature.now c.args.source.now nodes root c.args.self.now _ c.args.node (node.Text c.in-Text.spot) (reverse c.args.work.now.items) S (slice_get_read nodes (length nodes) c.args.node c.in-Some.found.now refl h at ∙ ap Some c.in-Text.is)
    (λ names H. leaf_pushed c.args.signature.now c.args.source.now _ c.args.self.now _ (step.Text c.in-Text.spot) (λ count. raw_text (string_bytes (spelled c.args.source.now c.in-Text.spot))) c.in_ok-push-in-Text.ensures.items (λ count. refl) (λ count τ. refl) (λ n. tt) refl refl refl refl)

pub returns-then-head-node-clause-looked : goal.returns-then-head-node-clause-looked
returns-then-head-node-clause-looked c = λ root S.
    let nodes = c.args.raw.now.nodes.items in
    let h : c.args.node < length nodes = subst (λ l. c.args.node < length l) c.deref.ensures.value c.in-Some.ensures.lookup.3.0 in
    let at : c.in-Some.found.now ≡ get_or nodes c.args.node c.in-Some.found.now = c.in-Some.ensures.lookup.1 ∙ ap (λ l. get_or l c.args.node c.in-Some.found.now) c.deref.ensures.value in
    part_not_older c.args.signature.now c.args.source.now nodes root c.args.self.now c.args.node c.in-App.head c.in-App.argument (reverse c.args.work.now.items) (slice_get_read nodes (length nodes) c.args.node c.in-Some.found.now refl h at ∙ ap Some c.in-App.is) (inl c.if-head-node.true) S

pub returns-then-argument-node-clause-looked : goal.returns-then-argument-node-clause-looked
returns-then-argument-node-clause-looked c = λ root S.
    let nodes = c.args.raw.now.nodes.items in
    let h : c.args.node < length nodes = subst (λ l. c.args.node < length l) c.deref.ensures.value c.in-Some.ensures.lookup.3.0 in
    let at : c.in-Some.found.now ≡ get_or nodes c.args.node c.in-Some.found.now = c.in-Some.ensures.lookup.1 ∙ ap (λ l. get_or l c.args.node c.in-Some.found.now) c.deref.ensures.value in
    part_not_older c.args.signature.now c.args.source.now nodes root c.args.self.now c.args.node c.in-App.head c.in-App.argument (reverse c.args.work.now.items) (slice_get_read nodes (length nodes) c.args.node c.in-Some.found.now refl h at ∙ ap Some c.in-App.is) (inr c.if-argument-node.true) S

pub returns-in_ok-push-in-App-3-clause-looked : goal.returns-in_ok-push-in-App-3-clause-looked
returns-in_ok-push-in-App-3-clause-looked c = λ root S.
    let nodes = c.args.raw.now.nodes.items in
    let h : c.args.node < length nodes = subst (λ l. c.args.node < length l) c.deref.ensures.value c.in-Some.ensures.lookup.3.0 in
    let at : c.in-Some.found.now ≡ get_or nodes c.args.node c.in-Some.found.now = c.in-Some.ensures.lookup.1 ∙ ap (λ l. get_or l c.args.node c.in-Some.found.now) c.deref.ensures.value in
    subst (Looked c.args.signature.now c.args.source.now nodes root c.args.self.now)
    (sym (reverse_two c.push-in-App.new.self.items c.push-in-App-2.new.self.items c.push-in-App-3.new.self.items (task.Visit c.in-App.argument) (task.Visit c.in-App.head) c.in_ok-push-in-App-2.ensures.items c.in_ok-push-in-App-3.ensures.items ∙
    ap (λ l. task.Visit c.in-App.head ∷ task.Visit c.in-App.argument ∷ l) (reverse_pushed c.push-in-App.new.self.items c.args.work.now.items task.Apply c.in_ok-push-in-App.ensures.items)))
    (past_application c.args.signature.now c.args.source.now nodes root c.args.self.now c.args.node c.in-App.head c.in-App.argument
    (reverse c.args.work.now.items) (slice_get_read nodes (length nodes) c.args.node c.in-Some.found.now refl h at ∙ ap Some c.in-App.is)
    c.if-head-node.false c.if-argument-node.false S)

pub returns-then-body-node-clause-looked : goal.returns-then-body-node-clause-looked
returns-then-body-node-clause-looked c = λ root S.
    let nodes = c.args.raw.now.nodes.items in
    let h : c.args.node < length nodes = subst (λ l. c.args.node < length l) c.deref.ensures.value c.in-Some.ensures.lookup.3.0 in
    let at : c.in-Some.found.now ≡ get_or nodes c.args.node c.in-Some.found.now = c.in-Some.ensures.lookup.1 ∙ ap (λ l. get_or l c.args.node c.in-Some.found.now) c.deref.ensures.value in
    body_not_older c.args.signature.now c.args.source.now nodes root c.args.self.now c.args.node c.in-Abs.spot c.in-Abs.note c.in-Abs.body (reverse c.args.work.now.items) (slice_get_read nodes (length nodes) c.args.node c.in-Some.found.now refl h at ∙ ap Some c.in-Abs.is) c.if-body-node.true S

pub returns-in_default-2-clause-looked : goal.returns-in_default-2-clause-looked
returns-in_default-2-clause-looked c = λ root S.
    let nodes = c.args.raw.now.nodes.items in
    let h : c.args.node < length nodes = subst (λ l. c.args.node < length l) c.deref.ensures.value c.in-Some.ensures.lookup.3.0 in
    let at : c.in-Some.found.now ≡ get_or nodes c.args.node c.in-Some.found.now = c.in-Some.ensures.lookup.1 ∙ ap (λ l. get_or l c.args.node c.in-Some.found.now) c.deref.ensures.value in
    no_note c.args.signature.now c.args.source.now nodes root c.args.self.now c.args.node c.in-Abs.spot c.in-Abs.note c.in-Abs.body (reverse c.args.work.now.items) (slice_get_read nodes (length nodes) c.args.node c.in-Some.found.now refl h at ∙ ap Some c.in-Abs.is)
    (subst (Opened c.args.signature.now c.args.source.now (spelled c.args.source.now c.in-Abs.spot) c.in-Abs.note c.args.self.now c.open.new.self) c.in_default-2.is (c.in_ok-outside-in-Abs.ensures S.notes)) S

pub returns-in_ok-push-in-Abs-2-clause-looked : goal.returns-in_ok-push-in-Abs-2-clause-looked
returns-in_ok-push-in-Abs-2-clause-looked c = λ root S.
    let nodes = c.args.raw.now.nodes.items in
    let h : c.args.node < length nodes = subst (λ l. c.args.node < length l) c.deref.ensures.value c.in-Some.ensures.lookup.3.0 in
    let at : c.in-Some.found.now ≡ get_or nodes c.args.node c.in-Some.found.now = c.in-Some.ensures.lookup.1 ∙ ap (λ l. get_or l c.args.node c.in-Some.found.now) c.deref.ensures.value in
    subst (Looked c.args.signature.now c.args.source.now nodes root c.open.new.self)
    (sym (reverse_two c.args.work.now.items c.push-in-Abs.new.self.items c.push-in-Abs-2.new.self.items (task.Leave c.in-Abs.spot c.in-Some-2.outside) (task.Visit c.in-Abs.body) c.in_ok-push-in-Abs.ensures.items c.in_ok-push-in-Abs-2.ensures.items))
    (past_abstraction c.args.signature.now c.args.source.now nodes root c.args.self.now c.open.new.self c.args.node c.in-Abs.spot c.in-Abs.note
    c.in-Abs.body c.in-Some-2.outside (reverse c.args.work.now.items) (slice_get_read nodes (length nodes) c.args.node c.in-Some.found.now refl h
    at ∙ ap Some c.in-Abs.is) c.if-body-node.false
    (subst (Opened c.args.signature.now c.args.source.now (spelled c.args.source.now c.in-Abs.spot) c.in-Abs.note c.args.self.now c.open.new.self) c.in-Some-2.is (c.in_ok-outside-in-Abs.ensures S.notes)) S)

pub returns-in_default-clause-fewer : goal.returns-in_default-clause-fewer
returns-in_default-clause-fewer c = λ e. absurd (true≢false (sym e))

pub returns-in-Name-clause-fewer : goal.returns-in-Name-clause-fewer
returns-in-Name-clause-fewer c = IfOk-weaker c.name.result _ _ (λ ok k e. leaf_left c.args.node (reverse c.args.work.now.items)) c.name.ensures

pub returns-in-Known-clause-fewer : goal.returns-in-Known-clause-fewer
returns-in-Known-clause-fewer c = IfOk-weaker c.standard.result _ _ (λ ok k e. leaf_left c.args.node (reverse c.args.work.now.items)) c.standard.ensures

pub returns-in_ok-integer-in-Number-clause-fewer : goal.returns-in_ok-integer-in-Number-clause-fewer
returns-in_ok-integer-in-Number-clause-fewer c = λ e. leaf_left c.args.node (reverse c.args.work.now.items)

pub returns-in_ok-push-in-Text-clause-fewer : goal.returns-in_ok-push-in-Text-clause-fewer
returns-in_ok-push-in-Text-clause-fewer c = λ e. leaf_left c.args.node (reverse c.args.work.now.items)

pub returns-then-head-node-clause-fewer : goal.returns-then-head-node-clause-fewer
returns-then-head-node-clause-fewer c = λ e. absurd (true≢false (sym e))

pub returns-then-argument-node-clause-fewer : goal.returns-then-argument-node-clause-fewer
returns-then-argument-node-clause-fewer c = λ e. absurd (true≢false (sym e))

pub returns-in_ok-push-in-App-3-clause-fewer : goal.returns-in_ok-push-in-App-3-clause-fewer
returns-in_ok-push-in-App-3-clause-fewer c = λ e.
    subst (λ l. turns l < turns (task.Visit c.args.node ∷ reverse c.args.work.now.items))
    (sym (reverse_two c.push-in-App.new.self.items c.push-in-App-2.new.self.items c.push-in-App-3.new.self.items (task.Visit c.in-App.argument) (task.Visit c.in-App.head) c.in_ok-push-in-App-2.ensures.items c.in_ok-push-in-App-3.ensures.items ∙
    ap (λ l. task.Visit c.in-App.head ∷ task.Visit c.in-App.argument ∷ l) (reverse_pushed c.push-in-App.new.self.items c.args.work.now.items task.Apply c.in_ok-push-in-App.ensures.items)))
    (application_left c.args.node c.in-App.head c.in-App.argument (reverse c.args.work.now.items) c.if-head-node.false c.if-argument-node.false)

pub returns-then-body-node-clause-fewer : goal.returns-then-body-node-clause-fewer
returns-then-body-node-clause-fewer c = λ e. absurd (true≢false (sym e))

pub returns-in_default-2-clause-fewer : goal.returns-in_default-2-clause-fewer
returns-in_default-2-clause-fewer c = λ e. absurd (true≢false (sym e))

pub returns-in_ok-push-in-Abs-2-clause-fewer : goal.returns-in_ok-push-in-Abs-2-clause-fewer
returns-in_ok-push-in-Abs-2-clause-fewer c = λ e.
    subst (λ l. turns l < turns (task.Visit c.args.node ∷ reverse c.args.work.now.items))
    (sym (reverse_two c.args.work.now.items c.push-in-Abs.new.self.items c.push-in-Abs-2.new.self.items (task.Leave c.in-Abs.spot c.in-Some-2.outside) (task.Visit c.in-Abs.body) c.in_ok-push-in-Abs.ensures.items c.in_ok-push-in-Abs-2.ensures.items))
    (abstraction_left c.args.node c.in-Abs.body c.in-Abs.spot c.in-Some-2.outside (reverse c.args.work.now.items) c.if-body-node.false)
