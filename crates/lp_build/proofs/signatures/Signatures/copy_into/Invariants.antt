use Rattle.std.proofs.Common.{ℕ, List, ◌++◌, take}
use Rattle.lp_syntax.specs.declared.text.SignatureText.{SignatureText}
use Rattle.lp_build.specs.Meant.{AreSignaturesOf}
use Rattle.lp_build.specs.declared.texts.Group.{Group}
use Rattle.lp_build.specs.inner.Linked.{AreDeclared}
use Rattle.lp_build.proofs.signatures.Signatures.copy_into.Given as goal

abbrev pub invariant-loop-at : goal.invariant-loop-at
invariant-loop-at l = (g : Group SignatureText) (ns : List ℕ) → AreDeclared g l.self → AreSignaturesOf g ns l.fn.copies.items → AreSignaturesOf g (ns ++ take l.at l.numbers) l.copies.items
