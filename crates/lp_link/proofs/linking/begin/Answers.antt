use Rattle.std.proofs.Common.{◌∙◌, ◌++◌, ◌∷◌, [], ap, refl}
use Rattle.lp_lemmas.proofs.Elements.{All_pushed, All_empty}
use Rattle.lp_link.specs.inner.Entering.{IsShort, open_copy}
use Rattle.lp_link.proofs.MadeCopies.{root_tabled, begun_open}
use Rattle.lp_link.proofs.linking.begin.Goals as goal

pub returns-clause-begun : goal.returns-clause-begun
returns-clause-begun c =
    begun_open c.push.new.self.items c.args.member.now c.args.firsts (record { member = c.args.member; names = c.in_ok-names.names }) c.add_global.new.self
    (c.in_ok-push.ensures.items ∙ ap (λ l. l ++ (record { member = c.args.member; names = c.in_ok-names.names }) ∷ []) c.new-around.ensures.items)
    refl c.in_ok-names.ensures.kinds c.in_ok-names.ensures.constants
    (root_tabled (open_copy (record { member = c.args.member; names = c.in_ok-names.names })) c.new-making.result c.add_global.new.self
    c.new-making.ensures.kinds c.new-making.ensures.constants c.new-making.ensures.counted c.in_ok-add_global.ensures.tables c.in_ok-add_global.ensures.names)

pub returns-clause-few : goal.returns-clause-few
returns-clause-few c = All_pushed IsShort c.push.new.self.items c.new-around.result.items
    (record { member = c.args.member; names = c.in_ok-names.names }) c.in_ok-push.ensures.items
    (All_empty IsShort c.new-around.result.items c.new-around.ensures.items) c.requires.few
