use Rattle.std.proofs.Common.{List, take}
use Rattle.lp_syntax.specs.declared.text.SignatureText.{SignatureText}
use Rattle.lp_build.specs.Meant.{AreModulesAt}
use Rattle.lp_build.specs.declared.sources.File.{File}
use Rattle.lp_build.specs.declared.texts.Group.{Group}
use Rattle.lp_build.specs.inner.Linked.{AreDeclared, AreLinks}
use Rattle.lp_build.proofs.meanings.modules_of.Given as goal

abbrev pub invariant-loop-at : goal.invariant-loop-at
invariant-loop-at l = (files : List File) (g : Group SignatureText) → AreLinks files l.links → AreDeclared g l.signatures → AreModulesAt files g l.group (take l.at l.places.items) l.modules.items
