use Rattle.std.proofs.Common.{◌∙◌, sym, ap, subst, Some, None, map, length}
use Rattle.std.specs.Prelude.{Contains}
use Rattle.std.proofs.lemmas.Result.{on_ok_weaker}
use Rattle.lp_sig.specs.Pieces.{begins_variable}
use Rattle.lp_infer.specs.Noted.{known_at, TypesAt, KindNoted}
use Rattle.lp_infer.proofs.Results.{if_ok_late}
use Rattle.lp_infer.proofs.Noting.{word_nothing, word_kind, word_on_parts, word_variable, parts_types, grows_same, some_parts, no_elements}
use Rattle.lp_infer.proofs.lookup.Lookup.note_word.Goals as goal

pub returns-in_default-clause-node : goal.returns-in_default-clause-node
returns-in_default-clause-node c = λ firsts nodes parts e at N κ A m.
    let t : TypesAt c.args.done.now c.args.arguments.now None = subst (TypesAt c.args.done.now c.args.arguments.now) c.in_default.is c.in_ok-parts.ensures in
    word_nothing c.args.signature.now c.args.source.now nodes c.args.self.now c.args.done.now N c.args.spot parts t.0 (subst (λ l. Contains l t.0) (sym e) t.1) t.2 at κ A m

pub returns-then-not-is_variable-clause-grows : goal.returns-then-not-is_variable-clause-grows
returns-then-not-is_variable-clause-grows c = on_ok_weaker c.note_kind.result (λ g firsts. g c.args.source.now) c.note_kind.ensures.grows

pub returns-then-not-is_variable-clause-node : goal.returns-then-not-is_variable-clause-node
returns-then-not-is_variable-clause-node c =
    if_ok_late c.note_kind.result c.note_kind.ensures.kind c.note_kind.ensures.grows (λ o kind grows firsts nodes parts e at N.
    let t : TypesAt c.args.done.now c.args.arguments.now (Some c.in-Some.parts) = subst (TypesAt c.args.done.now c.args.arguments.now) c.in-Some.is c.in_ok-parts.ensures in
    let all = ap (map (known_at c.args.done.now)) e ∙ t ∙ ap (map (λ t. Some t)) (sym c.as_slice.ensures.value) in
    word_kind c.args.signature.now c.args.source.now nodes c.args.self.now c.note_kind.new.self c.args.done.now N (grows c.args.source.now) c.args.spot parts c.as_slice.result.now all at
    (ap begins_variable (sym c.spelled_at.ensures) ∙ sym c.is_variable.ensures ∙ c.if-not-is_variable.true) o
    (subst (λ w. KindNoted c.args.signature.now w c.as_slice.result.now c.note_kind.new.self o) c.spelled_at-then-not-is_variable.ensures (kind (parts_types c.args.signature.now c.args.source.now nodes c.args.self.now c.args.done.now N parts.items c.as_slice.result.now all))))

pub returns-then-not-is_empty-clause-node : goal.returns-then-not-is_empty-clause-node
returns-then-not-is_empty-clause-node c = λ firsts nodes parts e at N κ A m.
    let t : TypesAt c.args.done.now c.args.arguments.now (Some c.in-Some.parts) = subst (TypesAt c.args.done.now c.args.arguments.now) c.in-Some.is c.in_ok-parts.ensures in
    word_on_parts c.args.signature.now c.args.source.now nodes c.args.self.now c.args.self.now c.args.done.now N (grows_same c.args.source.now c.args.self.now) c.args.spot parts c.in-Some.parts.items (ap (map (known_at c.args.done.now)) e ∙ t) at
    (ap begins_variable (sym c.spelled_at.ensures) ∙ sym c.is_variable.ensures ∙ c.if-not-is_variable.false) (some_parts c.in-Some.parts.len (length c.in-Some.parts.items) (c.in-Some.parts.ok.0) (sym c.is_empty.ensures ∙ c.if-not-is_empty.true)) κ A m

pub returns-clause-node : goal.returns-clause-node
returns-clause-node c = λ firsts nodes parts e at N.
    let t : TypesAt c.args.done.now c.args.arguments.now (Some c.in-Some.parts) = subst (TypesAt c.args.done.now c.args.arguments.now) c.in-Some.is c.in_ok-parts.ensures in (
      c.in_ok-id.ensures.known,
      λ κ ρ G.
          word_variable c.args.signature.now c.args.source.now nodes c.args.self.now c.note_variable.new.self c.args.done.now N (c.in_ok-id.ensures.grows firsts) c.args.spot parts c.in-Some.parts.items (ap (map (known_at c.args.done.now)) e ∙ t) at
          (ap begins_variable (sym c.spelled_at.ensures) ∙ sym c.is_variable.ensures ∙ c.if-not-is_variable.false) (no_elements c.in-Some.parts.items c.in-Some.parts.len (sym c.in-Some.parts.ok.0) (sym c.is_empty.ensures ∙ c.if-not-is_empty.false)) κ _ (c.in_ok-id.ensures.variable firsts κ ρ G),
    )
