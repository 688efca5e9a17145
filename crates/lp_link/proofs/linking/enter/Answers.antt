use Rattle.std.proofs.Common.{◌∙◌, ◌-◌, ap, refl, length}
use Rattle.std.specs.Prelude.{option_map, slice_get}
use Rattle.lp_lemmas.proofs.Elements.{All_pushed}
use Rattle.lp_link.specs.inner.Entering.{IsShort, open_copy}
use Rattle.lp_link.proofs.NumberedNames.{option_twice, last_inside}
use Rattle.lp_link.proofs.MadeCopies.{entered_open}
use Rattle.lp_link.proofs.linking.enter.Goals as goal

pub returns-clause-entered : goal.returns-clause-entered
returns-clause-entered c =
    entered_open c.args.around.now.items c.push.new.self.items c.args.member.now c.args.firsts
    (record { member = c.args.member; names = c.in_ok-names.names }) (option_map (λ o. open_copy o.now) c.last.result)
    c.in_ok-push.ensures.items refl
    (option_twice (λ o. o.now) open_copy c.last.result ∙ ap (option_map open_copy) c.last.ensures.value ∙ ap
    (λ l. option_map open_copy (slice_get l (length l - 1))) c.as_slice.ensures.value ∙ last_inside c.args.around.now.items)
    c.in_ok-names.ensures.kinds c.in_ok-names.ensures.constants

pub returns-clause-few : goal.returns-clause-few
returns-clause-few c = λ all. All_pushed IsShort c.push.new.self.items c.args.around.now.items
    (record { member = c.args.member; names = c.in_ok-names.names }) c.in_ok-push.ensures.items all c.requires.few
