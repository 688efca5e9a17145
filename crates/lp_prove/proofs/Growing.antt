-- What stands in a bank stands in it when it has grown.
use Rattle.std.proofs.Common.{◌≡◌, List, [], ◌∷◌, ◌++◌, sym, subst as transport, arith}
use Rattle.std.specs.Prelude.{All}
use Rattle.std.proofs.lemmas.List.Elements.{All-push, All-weaker}
use Rattle.lp_term.specs.Nodes.{Nodes, Extends}
use Rattle.lp_term.specs.declared.node.TermId.{TermId}
use Rattle.lp_term.specs.declared.node.TypeId.{TypeId}
use Rattle.lp_model.specs.declared.certificate.ProofNode.{ProofNode}
use Rattle.lp_model.specs.declared.certificate.ProofNode.TheVariants as node
use Rattle.lp_prove.specs.Within.{IsTermIn, IsTypeIn, IsNodeIn}

pub term_later : (b d : Nodes) → Extends b d → (t : TermId) → IsTermIn b t → IsTermIn d t
term_later b d e t l = omega (arith, e.more_terms, l)

pub type_later : (b d : Nodes) → Extends b d → (t : TypeId) → IsTypeIn b t → IsTypeIn d t
type_later b d e t l = omega (arith, e.more_types, l)

pub node_later : (b d : Nodes) → Extends b d → (n : ProofNode) → IsNodeIn b n → IsNodeIn d n
node_later b d e (node.Conv t) h = term_later b d e t h
node_later b d e node.True h = tt
node_later b d e node.And h = tt
node_later b d e node.Left h = tt
node_later b d e node.Right h = tt
node_later b d e (node.Some t) h = term_later b d e t h
node_later b d e node.All h = tt
node_later b d e node.Assume h = tt
node_later b d e node.Equal h = tt
node_later b d e node.Arith h = tt
node_later b d e (node.Back i Ts) h = All-weaker (IsTypeIn b) (IsTypeIn d) (type_later b d e) Ts.items h
node_later b d e (node.FocusConv t) h = term_later b d e t h
node_later b d e (node.FocusAll t) h = term_later b d e t h
node_later b d e (node.Take s) h = tt
node_later b d e node.Need h = tt
node_later b d e node.Hit h = tt

-- one more at the end of those of an older bank
pub one_more : {X : Type 0} (P Q : X → Type 0) → ((x : X) → P x → Q x) → (old new : List X) (x : X) → All P old → Q x → new ≡ old ++ x ∷ [] → All Q new
one_more P Q later old new x a q e = transport (All Q) (sym e) (All-push Q old x (All-weaker P Q later old a) q)
