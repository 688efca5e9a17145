use Rattle.std.proofs.Common.{◌∙◌, ap, refl, reverse, subst}
use Rattle.lp_code.specs.Operands.{term_set}
use Rattle.lp_verify.specs.inner.Stack.{term_heights, IsStacked}
use Rattle.std.proofs.lemmas.Result.{on_ok_weaker}
use Rattle.lp_verify.specs.inner.Indices.{store}
use Rattle.lp_verify.specs.inner.Made.{type_made, built_or}
use Rattle.lp_verify.proofs.KeptRegisters.{acted_on}
use Rattle.lp_verify.proofs.LooseSeen.{grows_same}
use Rattle.lp_verify.proofs.UsedConstants.{types_then}
use Rattle.lp_verify.proofs.TermsMade.{read_types, knows_later, taken_known}
use Rattle.lp_verify.proofs.record.Work.act.Goals as goal

pub returns-clause-acted : goal.returns-clause-acted
returns-clause-acted c =
    let i = c.args.instr.now in
    let old = c.args.self.now in
    let x = c.args.shared.now.types in
    let y = c.built_type.new.types in
    let l = c.args.shared.now.lists in
    on_ok_weaker c.make-2.result
    (λ m. (
      c.in_ok-of.of,
      record {
        home_stays = refl;
        places_stay = refl;
        takings_stay = refl;
        own_stay = refl;
        place_stays = refl;
        number_stays = refl;
        sides_act = c.in_ok-turn.ensures.sides;
        ends_stay = c.in_ok-turn.ensures.ends;
        body_is = c.is_behind_neck-self.ensures;
        types_are = c.in_ok-take.ensures.types;
        arguments_are = c.in_ok-take.ensures.arguments;
        types_act = acted_on i c.type_set.result _ _ _ old.types c.turn.new.types c.make.new.self c.in_ok-of.of c.type_set.ensures c.in_ok-turn.ensures.types c.in_ok-make.ensures;
        terms_act = subst (λ v. IsStacked i (term_set i) v (term_heights (reverse old.blocks.frames.items)) old.terms
            (term_heights (reverse c.turn.new.blocks.frames.items)) c.make-2.new.self)
            (c.built-built.ensures ∙ ap (built_or c.args.typed) c.closed.ensures) (acted_on i c.term_set.result _ _ _ old.terms c.turn.new.terms
            c.make-2.new.self c.built-built.result c.term_set.ensures c.in_ok-turn.ensures.terms m);
      },
      λ h s few k set order own.
          let known = knows_later (store x l) (store y l) old h s (grows_same l, c.in_ok-of.ensures.grow.0) (c.in_ok-of.ensures.grow.1 h.tables k.of_head.constants.uses) k in
          record {
            type = c.in_ok-take.ensures.grow.stay c.in_ok-of.of (type_made h s i) (c.in_ok-of.ensures.made l h s k (read_types old i set) own);
            head = λ t f. c.in_ok-take.ensures.head h s t few known.of_head.constants known.of_head.head (λ T e. taken_known (store y l) old h s i c.taken_type-taken.result T known c.taken_type-taken.ensures e) order f;
          },
    ))
    c.make-2.ensures

pub returns-clause-grow : goal.returns-clause-grow
returns-clause-grow c = on_ok_weaker c.make-2.result (λ m. types_then c.args.shared.now.types c.built_type.new.types c.take.new.types c.in_ok-of.ensures.grow.0 c.in_ok-take.ensures.grow) c.make-2.ensures
