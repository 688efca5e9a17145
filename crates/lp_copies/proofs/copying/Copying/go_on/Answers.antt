use Rattle.std.proofs.Common.{◌<◌, ◌≤◌, ◌∷◌, ◌∙◌, refl, ap, subst, length, [], get_or, reverse, arith}
use Rattle.lp_copies.specs.Trees.{lists_in}
use Rattle.lp_copies.proofs.Copied.{too_many, turn_entered, turn_left, turn_ended, row_at, rows_within, next_entry, opened_frames, closed_frames}
use Rattle.std.proofs.lemmas.List.{nil_from_length, drop_all}
use Rattle.lp_copies.proofs.copying.Copying.go_on.Goals as goal

pub returns-then-self-ge-MAX_COPIES-clause-refused : goal.returns-then-self-ge-MAX_COPIES-clause-refused
returns-then-self-ge-MAX_COPIES-clause-refused c =
    let w = c.args.self.now in
    let row = row_at c.args.uses.now.items w.root w.left.items w.entered w.at w.next (reverse w.around.items) c.index-out.result.now c.requires.copying c.index-out.ensures in
    too_many (lists_in c.args.uses.now.items) w.root w.left.items w.entered w.at w.next c.index-to.result.now (reverse w.around.items) (omega (arith, c.if-self-ge-MAX_COPIES.true))
    (subst (λ l. w.next < length l) row (omega (arith, c.if-self-len.true, c.len.ensures, c.index-out.result.now.ok))) (c.index-to.ensures ∙ ap (λ l. get_or l w.next c.index-to.result.now) row) c.requires.copying

pub returns-then-self-len-clause-turns : goal.returns-then-self-len-clause-turns
returns-then-self-len-clause-turns c =
    let w = c.args.self.now in
    let v = c.enter.new.self in
    let row = row_at c.args.uses.now.items w.root w.left.items w.entered w.at w.next (reverse w.around.items) c.index-out.result.now c.requires.copying c.index-out.ensures in
    turn_entered (lists_in c.args.uses.now.items) w.root v.root w.left.items v.left.items w.entered v.entered w.around.items v.around.items w.at v.at w.next v.next c.index-to.result.now (rows_within c.args.uses.now.items c.requires.within) (omega (arith, c.if-self-ge-MAX_COPIES.false))
    (subst (λ l. w.next < length l) row (omega (arith, c.if-self-len.true, c.len.ensures, c.index-out.result.now.ok))) (c.index-to.ensures ∙ ap (λ l. get_or l w.next c.index-to.result.now) row) c.requires.copying c.in_ok-enter.ensures

pub returns-in-None-clause-turns : goal.returns-in-None-clause-turns
returns-in-None-clause-turns c =
    let w = c.args.self.now in
    let row = row_at c.args.uses.now.items w.root w.left.items w.entered w.at w.next (reverse w.around.items) c.index-out.result.now c.requires.copying c.index-out.ensures in
    turn_ended (lists_in c.args.uses.now.items) w.root w.left.items c.push.new.self.items w.entered w.around.items w.at w.next (subst (λ l. length l ≤ w.next) row (omega (arith, c.if-self-len.false, c.len.ensures, c.index-out.result.now.ok))) c.in_ok-push.ensures.items
    (nil_from_length w.around.items (omega (arith, c.in-None.ensures.cases.0, w.around.ok))) c.requires.copying

pub returns-in-Some-clause-turns : goal.returns-in-Some-clause-turns
returns-in-Some-clause-turns c =
    let w = c.args.self.now in
    let row = row_at c.args.uses.now.items w.root w.left.items w.entered w.at w.next (reverse w.around.items) c.index-out.result.now c.requires.copying c.index-out.ensures in
    turn_left (lists_in c.args.uses.now.items) w.root w.left.items c.push.new.self.items w.entered w.around.items c.pop.new.self.items w.at w.next
    c.in-Some.outer (subst (λ l. length l ≤ w.next) row (omega (arith, c.if-self-len.false, c.len.ensures, c.index-out.result.now.ok)))
    c.in_ok-push.ensures.items c.in-Some.ensures.items c.requires.copying

pub returns-then-self-len-clause-moves : goal.returns-then-self-len-clause-moves
returns-then-self-len-clause-moves c =
    let w = c.args.self.now in
    let v = c.enter.new.self in
    let row = row_at c.args.uses.now.items w.root w.left.items w.entered w.at w.next (reverse w.around.items) c.index-out.result.now c.requires.copying c.index-out.ensures in
    let (er, el, ee, eo, ea, en) = c.in_ok-enter.ensures in
    record {
      at = w.at;
      next = w.next;
      around = reverse w.around.items;
      before = refl;
      entry = next_entry (lists_in c.args.uses.now.items) w.at w.next c.index-to.result.now (subst (λ l. w.next < length l) row (omega (arith, c.if-self-len.true, c.len.ensures, c.index-out.result.now.ok))) (c.index-to.ensures ∙ ap (λ l. get_or l w.next c.index-to.result.now) row);
      after = opened_frames w.at w.next c.index-to.result.now v.at v.next w.around.items v.around.items ea en eo;
    }

pub returns-in-None-clause-moves : goal.returns-in-None-clause-moves
returns-in-None-clause-moves c =
    let w = c.args.self.now in
    let row = row_at c.args.uses.now.items w.root w.left.items w.entered w.at w.next (reverse w.around.items) c.index-out.result.now c.requires.copying c.index-out.ensures in
    record {
      next = w.next;
      before = ap (λ r. (w.at, w.next) ∷ reverse r) (nil_from_length w.around.items (omega (arith, c.in-None.ensures.cases.0, w.around.ok)));
      entry = drop_all w.next (get_or (lists_in c.args.uses.now.items) w.at []) (subst (λ l. length l ≤ w.next) row (omega (arith, c.if-self-len.false, c.len.ensures, c.index-out.result.now.ok)));
    }

pub returns-in-Some-clause-moves : goal.returns-in-Some-clause-moves
returns-in-Some-clause-moves c =
    let w = c.args.self.now in
    let row = row_at c.args.uses.now.items w.root w.left.items w.entered w.at w.next (reverse w.around.items) c.index-out.result.now c.requires.copying c.index-out.ensures in
    record {
      next = w.next;
      before = closed_frames w.at w.next c.in-Some.outer w.around.items c.pop.new.self.items c.in-Some.ensures.items;
      entry = drop_all w.next (get_or (lists_in c.args.uses.now.items) w.at []) (subst (λ l. length l ≤ w.next) row (omega (arith, c.if-self-len.false, c.len.ensures, c.index-out.result.now.ok)));
    }
