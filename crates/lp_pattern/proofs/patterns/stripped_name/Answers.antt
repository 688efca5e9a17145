use Rattle.std.proofs.Common.{arith, ◌∙◌, ap, ◌++◌, subst as transport}
use Rattle.lp_term.specs.Nodes.{tree}
use Rattle.lp_pattern.specs.Stripping.{IsNameOf, wanted_at}
use Rattle.lp_pattern.proofs.ArgumentForms.{stripped_count, stripped_none, stripped_some, more_wanted}
use Rattle.lp_pattern.proofs.Walking.{reading_kept}
use Rattle.lp_pattern.proofs.patterns.stripped_name.Goals as goal

pub returns-then-len-count-clause-stripped : goal.returns-then-len-count-clause-stripped
returns-then-len-count-clause-stripped c = λ r i h m f.
    stripped_count m c.in_ok-looked.count c.args.bank.now c.strip.new.bank c.args.bindings.now r c.args.term c.in_ok-looked.looked c.in_ok-looked.ensures.looked (reading_kept c.args.bank.now c.strip.new.bank c.args.bindings.now r c.in_ok-looked.ensures.kept i)
    c.in_ok-looked.ensures.top (c.in_ok-looked.ensures.strips r i h)
    (λ q. c.if-len-count.true (omega (arith, q, c.len.ensures, c.in_ok-looked.looked.arguments.ok)))

pub returns-in_default-clause-stripped : goal.returns-in_default-clause-stripped
returns-in_default-clause-stripped c = λ r i h m f.
    stripped_none m c.in_ok-looked.count c.args.bank.now c.strip.new.bank c.args.bindings.now r c.args.term c.in_ok-looked.looked c.in_ok-looked.ensures.looked (reading_kept c.args.bank.now c.strip.new.bank c.args.bindings.now r c.in_ok-looked.ensures.kept i)
    c.in_ok-looked.ensures.top (c.in_ok-looked.ensures.strips r i h)
    (transport (λ o. IsNameOf o (tree c.strip.new.bank c.in_ok-looked.looked.top.0)) c.in_default.is c.name_of.ensures)

pub returns-clause-known : goal.returns-clause-known
returns-clause-known c =
    more_wanted c.args.bank.now c.strip.new.bank c.in_ok-looked.count c.in_ok-looked.looked.arguments.items c.args.left.now.items c.push_wanted.new.left.items c.in_ok-looked.ensures.kept c.requires.known
    c.in_ok-looked.ensures.looked.arguments (c.in_ok-push_wanted.ensures ∙ ap (λ l. c.args.left.now.items ++ wanted_at c.in_ok-looked.count l) c.as_slice.ensures.value)

pub returns-clause-stripped : goal.returns-clause-stripped
returns-clause-stripped c = λ r i h m f. (
  wanted_at c.in_ok-looked.count c.in_ok-looked.looked.arguments.items,
  c.in_ok-push_wanted.ensures ∙ ap (λ l. c.args.left.now.items ++ wanted_at c.in_ok-looked.count l) c.as_slice.ensures.value,
  stripped_some m c.in_ok-looked.count c.args.bank.now c.strip.new.bank c.args.bindings.now r c.args.term c.in_ok-looked.looked c.in_ok-looked.ensures.looked (reading_kept c.args.bank.now c.strip.new.bank c.args.bindings.now r c.in_ok-looked.ensures.kept i)
      c.in_ok-looked.ensures.top (c.in_ok-looked.ensures.strips r i h)
      c.in-Some.name (transport (λ o. IsNameOf o (tree c.strip.new.bank c.in_ok-looked.looked.top.0)) c.in-Some.is c.name_of.ensures) f
      (omega (arith, c.if-len-count.false, c.len.ensures, c.in_ok-looked.looked.arguments.ok)),
)
