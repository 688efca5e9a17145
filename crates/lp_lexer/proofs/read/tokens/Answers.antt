use Rattle.std.proofs.Common.{arith, ap, is_ok}
use Rattle.std.proofs.ResultArms.{chosen}
use Rattle.lp_lexer.proofs.Texts.{before_skip, place_after, fault_bad, fault_text, fault_comment, fault_number, all_done, front_is, rest_length, pushed_token}
use Rattle.lp_lexer.proofs.read.tokens.Goals as goal

pub over-preserved-in-Skip : goal.over-preserved-in-Skip
over-preserved-in-Skip c =
    let w = c.in-Skip.ensures.within in
    let r = rest_length c.args.text.now c.over.at in
    record {
      done = before_skip c.args.text.now c.over.at c.in-Skip.n c.over.out.items c.over-test.true (front_is c.args.text.now c.over.at _ c.in-Skip.ensures.is) c.over.invariant.done;
      place = place_after c.args.text.now c.over.at c.in-Skip.n _ _ c.over.invariant.place c.moved-place.ensures.place;
      within = omega arith;
      line = omega arith;
      column = omega arith;
    }

pub over-preserved : goal.over-preserved
over-preserved c =
    let w = c.in-Found.ensures.within in
    let r = rest_length c.args.text.now c.over.at in
    record {
      done = pushed_token c.args.text.now c.over.at c.in-Found.n c.in-Found.kind c.over.out.items _ c.over.place c.over.invariant.place
          (chosen _ _ _ _ c.push.ensures.items (ap is_ok c.in_ok-push-in-Found.was)) c.over-test.true
          (front_is c.args.text.now c.over.at _ c.in-Found.ensures.is) c.over.invariant.done;
      place = place_after c.args.text.now c.over.at c.in-Found.n _ _ c.over.invariant.place c.moved-place-in-Found.ensures.place;
      within = omega arith;
      line = omega arith;
      column = omega arith;
    }

pub returns-in-Bad : goal.returns-in-Bad
returns-in-Bad c = fault_bad c.args.text.now c.over.at c.in-Bad.n c.over.out.items _ c.over.invariant.done c.over-test.true (front_is c.args.text.now c.over.at _ c.in-Bad.ensures.is) (place_after c.args.text.now c.over.at c.in-Bad.n _ _ c.over.invariant.place c.moved.ensures.place)

pub returns-in-OpenText : goal.returns-in-OpenText
returns-in-OpenText c = fault_text c.args.text.now c.over.at c.over.out.items _ c.over.invariant.done c.over-test.true (front_is c.args.text.now c.over.at _ c.in-OpenText.ensures.is) c.over.invariant.place

pub returns-in-OpenComment : goal.returns-in-OpenComment
returns-in-OpenComment c = fault_comment c.args.text.now c.over.at c.over.out.items _ c.over.invariant.done c.over-test.true (front_is c.args.text.now c.over.at _ c.in-OpenComment.ensures.is) c.over.invariant.place

pub returns-in-BigNumber : goal.returns-in-BigNumber
returns-in-BigNumber c = fault_number c.args.text.now c.over.at c.over.out.items _ c.over.invariant.done c.over-test.true (front_is c.args.text.now c.over.at _ c.in-BigNumber.ensures.is) c.over.invariant.place

pub returns : goal.returns
returns c = all_done c.args.text.now c.over.at c.over.out.items c.over.invariant.done c.over.invariant.within c.over-test.false
