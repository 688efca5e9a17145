use Rattle.std.proofs.Common.{◌≡◌, ◌-◌, ◌∷◌, ◌<◌, ◌≤◌, ◌∙◌, sym, ap, subst, refl, length, get_or, reverse, Some, None}
use Rattle.std.proofs.lemmas.Option.{slice_get_read, slice_get_past}
use Rattle.lp_infer.specs.Scanning.{Scanned}
use Rattle.lp_infer.specs.inner.Rooms.{Within}
use Rattle.lp_infer.specs.declared.names.Task.TheVariants.{Visit, Leave}
use Rattle.lp_infer.proofs.Scanning.{no_names, past_empty, past_name, past_application, past_abstraction, past_nothing, reverse_two}
use Rattle.lp_infer.proofs.NameTurns.{room_left, leaf_left, application_left, abstraction_left}
use Rattle.lp_infer.proofs.names.Names.visit.Goals as goal

pub returns-in_default-clause-scanned : goal.returns-in_default-clause-scanned
returns-in_default-clause-scanned c = λ root S.
    let nodes = c.args.raw.now.nodes.items in
    let past : length nodes ≤ c.args.node = subst (λ l. length l ≤ c.args.node) c.deref.ensures.value c.in_default.ensures.lookup.3 in
    past_empty c.args.signature.now c.args.source.now nodes (c.args.room - 1) root c.args.self.now c.args.self.now c.args.node (reverse c.args.work.now.items) None (slice_get_past nodes c.args.node past) (λ scope t b. b) refl refl (subst (λ r. Scanned c.args.signature.now c.args.source.now nodes root c.args.self.now (Visit c.args.node r ∷ reverse c.args.work.now.items)) (room_left c.args.room c.if-room-eq0.false) S)

pub returns-in-Name-clause-scanned : goal.returns-in-Name-clause-scanned
returns-in-Name-clause-scanned c =
    let nodes = c.args.raw.now.nodes.items in
    let h : c.args.node < length nodes = subst (λ l. c.args.node < length l) c.deref.ensures.value c.in-Some.ensures.lookup.3.0 in
    let at : c.in-Some.found.now ≡ get_or nodes c.args.node c.in-Some.found.now = c.in-Some.ensures.lookup.1 ∙ ap (λ l. get_or l c.args.node c.in-Some.found.now) c.deref.ensures.value in
    λ root S.
    past_name c.args.signature.now c.args.source.now nodes (c.args.room - 1) root c.args.self.now c.name.new.self c.args.node c.in-Name.spot (reverse c.args.work.now.items)
    (slice_get_read nodes (length nodes) c.args.node c.in-Some.found.now refl h at ∙ ap Some c.in-Name.is) c.name.ensures.fault c.name.ensures.bound (subst (λ r. Scanned c.args.signature.now c.args.source.now nodes root c.args.self.now (Visit c.args.node r ∷ reverse c.args.work.now.items)) (room_left c.args.room c.if-room-eq0.false) S)

pub returns-in_ok-push-in-App-2-clause-scanned : goal.returns-in_ok-push-in-App-2-clause-scanned
returns-in_ok-push-in-App-2-clause-scanned c = λ root S.
    let nodes = c.args.raw.now.nodes.items in
    let h : c.args.node < length nodes = subst (λ l. c.args.node < length l) c.deref.ensures.value c.in-Some.ensures.lookup.3.0 in
    let at : c.in-Some.found.now ≡ get_or nodes c.args.node c.in-Some.found.now = c.in-Some.ensures.lookup.1 ∙ ap (λ l. get_or l c.args.node c.in-Some.found.now) c.deref.ensures.value in
    subst (Scanned c.args.signature.now c.args.source.now nodes root c.args.self.now)
    (sym (reverse_two c.args.work.now.items c.push.new.self.items c.push-in-App.new.self.items (Visit c.in-App.argument (c.args.room - 1)) (Visit c.in-App.head (c.args.room - 1)) c.in_ok-push-in-App.ensures.items c.in_ok-push-in-App-2.ensures.items))
    (past_application c.args.signature.now c.args.source.now nodes (c.args.room - 1) root c.args.self.now c.args.node c.in-App.head c.in-App.argument (reverse c.args.work.now.items)
    (slice_get_read nodes (length nodes) c.args.node c.in-Some.found.now refl h at ∙ ap Some c.in-App.is) (subst (λ r. Scanned c.args.signature.now c.args.source.now nodes root c.args.self.now (Visit c.args.node r ∷ reverse c.args.work.now.items)) (room_left c.args.room c.if-room-eq0.false) S))

pub returns-in_ok-push-in-Abs-2-clause-scanned : goal.returns-in_ok-push-in-Abs-2-clause-scanned
returns-in_ok-push-in-Abs-2-clause-scanned c = λ root S.
    let nodes = c.args.raw.now.nodes.items in
    let h : c.args.node < length nodes = subst (λ l. c.args.node < length l) c.deref.ensures.value c.in-Some.ensures.lookup.3.0 in
    let at : c.in-Some.found.now ≡ get_or nodes c.args.node c.in-Some.found.now = c.in-Some.ensures.lookup.1 ∙ ap (λ l. get_or l c.args.node c.in-Some.found.now) c.deref.ensures.value in
    subst (Scanned c.args.signature.now c.args.source.now nodes root c.abstraction.new.self)
    (sym (reverse_two c.args.work.now.items c.push-in-Abs.new.self.items c.push-in-Abs-2.new.self.items (Leave c.in-Abs.spot c.in_ok-outside-in-Abs.outside) (Visit c.in-Abs.body (c.args.room - 1)) c.in_ok-push-in-Abs.ensures.items c.in_ok-push-in-Abs-2.ensures.items))
    (past_abstraction c.args.signature.now c.args.source.now nodes (c.args.room - 1) root c.args.self.now c.abstraction.new.self c.args.node c.in-Abs.spot c.in-Abs.note c.in-Abs.body c.in_ok-outside-in-Abs.outside (reverse c.args.work.now.items)
    (slice_get_read nodes (length nodes) c.args.node c.in-Some.found.now refl h at ∙ ap Some c.in-Abs.is) c.in_ok-outside-in-Abs.ensures.fault c.in_ok-outside-in-Abs.ensures.level (subst (λ r. Scanned c.args.signature.now c.args.source.now nodes root c.args.self.now (Visit c.args.node r ∷ reverse c.args.work.now.items)) (room_left c.args.room c.if-room-eq0.false) S))

pub returns-in_default-found-clause-scanned : goal.returns-in_default-found-clause-scanned
returns-in_default-found-clause-scanned c = λ root S.
    let nodes = c.args.raw.now.nodes.items in
    let h : c.args.node < length nodes = subst (λ l. c.args.node < length l) c.deref.ensures.value c.in-Some.ensures.lookup.3.0 in
    let at : c.in-Some.found.now ≡ get_or nodes c.args.node c.in-Some.found.now = c.in-Some.ensures.lookup.1 ∙ ap (λ l. get_or l c.args.node c.in-Some.found.now) c.deref.ensures.value in
    past_empty c.args.signature.now c.args.source.now nodes (c.args.room - 1) root c.args.self.now c.args.self.now c.args.node (reverse c.args.work.now.items) (Some c.in-Some.found.now)
    (slice_get_read nodes (length nodes) c.args.node c.in-Some.found.now refl h at)
    (no_names c.args.signature.now c.args.source.now nodes c.in-Some.found.now c.in_default-found.not-Name c.in_default-found.not-App c.in_default-found.not-Abs (Within c.args.signature.now c.args.source.now nodes (c.args.room - 1))) refl refl (subst (λ r. Scanned c.args.signature.now c.args.source.now nodes root c.args.self.now (Visit c.args.node r ∷ reverse c.args.work.now.items)) (room_left c.args.room c.if-room-eq0.false) S)

pub returns-then-room-eq0-clause-scanned : goal.returns-then-room-eq0-clause-scanned
returns-then-room-eq0-clause-scanned c = λ root S.
    past_nothing c.args.signature.now c.args.source.now c.args.raw.now.nodes.items root c.args.self.now c.args.node c.args.room (reverse c.args.work.now.items) c.if-room-eq0.true S

pub returns-then-room-eq0-clause-fewer : goal.returns-then-room-eq0-clause-fewer
returns-then-room-eq0-clause-fewer c = leaf_left c.args.node c.args.room (reverse c.args.work.now.items)

pub returns-in_default-clause-fewer : goal.returns-in_default-clause-fewer
returns-in_default-clause-fewer c = leaf_left c.args.node c.args.room (reverse c.args.work.now.items)

pub returns-in-Name-clause-fewer : goal.returns-in-Name-clause-fewer
returns-in-Name-clause-fewer c = leaf_left c.args.node c.args.room (reverse c.args.work.now.items)

pub returns-in_default-found-clause-fewer : goal.returns-in_default-found-clause-fewer
returns-in_default-found-clause-fewer c = leaf_left c.args.node c.args.room (reverse c.args.work.now.items)

pub returns-in_ok-push-in-App-2-clause-fewer : goal.returns-in_ok-push-in-App-2-clause-fewer
returns-in_ok-push-in-App-2-clause-fewer c =
    application_left c.args.node c.in-App.head c.in-App.argument c.args.room (c.args.room - 1) (reverse c.args.work.now.items) (reverse c.push-in-App.new.self.items) (room_left c.args.room c.if-room-eq0.false)
    (reverse_two c.args.work.now.items c.push.new.self.items c.push-in-App.new.self.items (Visit c.in-App.argument (c.args.room - 1)) (Visit c.in-App.head (c.args.room - 1)) c.in_ok-push-in-App.ensures.items c.in_ok-push-in-App-2.ensures.items)

pub returns-in_ok-push-in-Abs-2-clause-fewer : goal.returns-in_ok-push-in-Abs-2-clause-fewer
returns-in_ok-push-in-Abs-2-clause-fewer c =
    abstraction_left c.args.node c.in-Abs.body c.args.room (c.args.room - 1) c.in-Abs.spot c.in_ok-outside-in-Abs.outside (reverse c.args.work.now.items) (reverse c.push-in-Abs-2.new.self.items) (room_left c.args.room c.if-room-eq0.false)
    (reverse_two c.args.work.now.items c.push-in-Abs.new.self.items c.push-in-Abs-2.new.self.items (Leave c.in-Abs.spot c.in_ok-outside-in-Abs.outside) (Visit c.in-Abs.body (c.args.room - 1)) c.in_ok-push-in-Abs.ensures.items c.in_ok-push-in-Abs-2.ensures.items)
