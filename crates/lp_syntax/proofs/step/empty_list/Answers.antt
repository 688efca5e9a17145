use Rattle.std.proofs.Common.{◌≡◌, ◌++◌, [], ◌∷◌, refl, arith}
use Rattle.std.proofs.lemmas.Grind.{common_steps}
use Rattle.lp_syntax.specs.declared.held.Held.TheVariants.{Waits, Under, Inside, Item, Tail}
use Rattle.lp_syntax.specs.declared.symbol.Sym.TheVariants.{ClosesList}
use Rattle.lp_syntax.specs.Machine.{fresh_list}
use Rattle.lp_syntax.proofs.Stepping.{stops_on, empty_closed}
use Rattle.lp_syntax.proofs.step.empty_list.Goals as goal

pub returns-in-Some-Item : goal.returns-in-Some-Item
returns-in-Some-Item c =
    let st : c.args.frames.now.items ≡ c.pop.new.self.items ++ Item c.in-Some-Item.field-0-0 c.in-Some-Item.fun c.in-Some-Item.field-0-2 ∷ [] = grind (arith, common_steps) in
    let l = c.in_ok-nil-in-Some-Item.ensures in
    empty_closed _ _ _ _ c.in-Some-Item.field-0-0 c.in-Some-Item.fun c.in-Some-Item.field-0-2 c.args.end c.in_ok-nil-in-Some-Item.nil st l.grows c.requires.frames l.within l.tree

pub returns-in-Some-Waits : goal.returns-in-Some-Waits
returns-in-Some-Waits c =
    let st : c.args.frames.now.items ≡ c.pop.new.self.items ++ Waits c.in-Some-Waits.field-0-0 c.in-Some-Waits.field-0-1 ∷ [] = grind (arith, common_steps) in
    stops_on (λ fs. fresh_list fs (ClosesList c.args.end)) _ _ _ _ (Waits c.in-Some-Waits.field-0-0 c.in-Some-Waits.field-0-1) _ st refl

pub returns-in-Some-Under : goal.returns-in-Some-Under
returns-in-Some-Under c =
    let st : c.args.frames.now.items ≡ c.pop.new.self.items ++ Under c.in-Some-Under.field-0-0 c.in-Some-Under.field-0-1 c.in-Some-Under.field-0-2 ∷ [] = grind (arith, common_steps) in
    stops_on (λ fs. fresh_list fs (ClosesList c.args.end)) _ _ _ _ (Under c.in-Some-Under.field-0-0 c.in-Some-Under.field-0-1 c.in-Some-Under.field-0-2) _ st refl

pub returns-in-Some-Inside : goal.returns-in-Some-Inside
returns-in-Some-Inside c =
    let st : c.args.frames.now.items ≡ c.pop.new.self.items ++ Inside c.in-Some-Inside.field-0-0 ∷ [] = grind (arith, common_steps) in
    stops_on (λ fs. fresh_list fs (ClosesList c.args.end)) _ _ _ _ (Inside c.in-Some-Inside.field-0-0) _ st refl

pub returns : goal.returns
returns c =
    let st : c.args.frames.now.items ≡ c.pop.new.self.items ++ Tail c.in-Some-Tail.field-0-0 c.in-Some-Tail.field-0-1 ∷ [] = grind (arith, common_steps) in
    stops_on (λ fs. fresh_list fs (ClosesList c.args.end)) _ _ _ _ (Tail c.in-Some-Tail.field-0-0 c.in-Some-Tail.field-0-1) _ st refl
