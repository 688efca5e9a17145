-- The copies of an image of modules are those of their program, with the same numbers.
use Rattle.std.proofs.Common.{[], ℕ, List, length, get_or, sym, subst}
use Rattle.std.specs.Prelude.{All}
use Rattle.lp_code.specs.declared.image.Image.{Image}
use Rattle.lp_code.specs.declared.object.Object.{Object}
use Rattle.lp_syntax.specs.declared.text.ModuleText.{ModuleText}
use Rattle.lp_syntax.specs.declared.text.SignatureText.{SignatureText}
use Rattle.lp_link.specs.Edges.{Edges}
use Rattle.lp_link.specs.Refusals.{AreAllSame}
use Rattle.lp_module.specs.Copies as module_copies
use Rattle.lp_module.specs.Program as program
use Rattle.lp_module.specs.declared.module.Module.{Module}
use Rattle.lp_build.specs.Compiled.{ArePaired, HasNamesOf, IsObjectOf}
use Rattle.lp_build.specs.Copied.{HasCopies}
use Rattle.lp_build.specs.Images.{IsImage}
use Rattle.lp_build.specs.Meant.{AreModulesAt}
use Rattle.lp_build.specs.declared.sources.File.{File}
use Rattle.lp_build.specs.declared.sources.Sources.{Sources}
use Rattle.lp_build.specs.declared.texts.Group.{Group}
use Rattle.lp_build.proofs.Compiling.{paired_weaker}
use Rattle.lp_build.proofs.SameCopies.{IsSeenEdge, IsShaped, linked_root, same_uses}
use Rattle.lp_build.proofs.SeenEdges.{edges_seen}
use Rattle.lp_build.proofs.Shapes.{all_find, all_shaped}

-- where the objects of modules differ nowhere
pub image_copies : {files : List File} {g : Group SignatureText} {t : Group ModuleText} {ps : List ℕ} (ms : List Module) (os : List Object) (root : ℕ)
    (all : List program.Copy) → AreModulesAt files g t ps ms
    → ArePaired HasNamesOf ms (length ms) os → AreAllSame os root → program.AreCopies ms root all
    → HasCopies os root all
image_copies ms os root all are paired same copies =
    let shaped = all_shaped ms os are paired in
    linked_root ms os shaped root all copies (seen shaped)
  where
    seen : ArePaired IsShaped ms (length ms) os → (edges : List (ℕ × ℕ)) → Edges (module_copies.uses_of ms) root (get_or (module_copies.uses_of ms) root []) edges → All (IsSeenEdge ms) edges
    seen shaped edges es =
        edges_seen ms os edges shaped (all_find are) (same edges (subst (λ u. Edges u root (get_or u root []) edges) (sym (same_uses ms os paired)) es))

pub copies_are : (sources : Sources) (image : Image) (h : IsImage sources image) (copies : List program.Copy) → program.AreCopies h.modules h.is.root copies → HasCopies h.is.objects h.is.root copies
copies_are sources image h copies are =
    image_copies h.modules h.is.objects h.is.root copies h.are.meanings.meanings
    (paired_weaker IsObjectOf HasNamesOf h.modules (length h.modules) h.is.objects (λ m o p. p.names) h.is.are) h.is.can.same are
