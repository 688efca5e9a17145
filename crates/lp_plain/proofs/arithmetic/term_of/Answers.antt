use Rattle.std.proofs.Common.{◌≡◌, arith, w64, to_z, of_z}
use Rattle.std.proofs.lemmas.Int.{to_z-of_z}
use Rattle.lp_term.proofs.Trees.{extends_same}
use Rattle.lp_plain.proofs.ValuesGiven.{number_term, text_term}
use Rattle.lp_plain.proofs.arithmetic.term_of.Goals as goal

pub returns-in_ok-id-in-Number-clause-within : goal.returns-in_ok-id-in-Number-clause-within
returns-in_ok-id-in-Number-clause-within c = λ m i. c.in_ok-id-in-Number.ensures.within

pub returns-in_ok-id-in-Number-clause-tree : goal.returns-in_ok-id-in-Number-clause-tree
returns-in_ok-id-in-Number-clause-tree c = λ m i.
    let e : to_z w64 (of_z w64 c.in-Number.number) ≡ c.in-Number.number = grind (arith, to_z-of_z) in
    number_term c.args.bank.now c.put_integer.new.bank c.in_ok-id-in-Number.id c.in-Number.number _ e c.args.value c.in-Number.is c.in_ok-id-in-Number.ensures.tree m i

pub returns-in-Text-clause-kept : goal.returns-in-Text-clause-kept
returns-in-Text-clause-kept c = extends_same c.args.bank.now

pub returns-in-Text-clause-within : goal.returns-in-Text-clause-within
returns-in-Text-clause-within c = λ m i. (text_term c.args.bank.now c.in-Text.text c.args.value c.in-Text.is m i).1

pub returns-in-Text-clause-tree : goal.returns-in-Text-clause-tree
returns-in-Text-clause-tree c = λ m i. (text_term c.args.bank.now c.in-Text.text c.args.value c.in-Text.is m i).0
