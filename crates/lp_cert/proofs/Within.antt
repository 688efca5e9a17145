-- What stands in a bank as the bank grows, and as stacks do.
use Rattle.std.proofs.Common.{◌≡◌, ℕ, ◌+◌, ◌-◌, ◌<◌, ◌≤◌, List, [], ◌∷◌, ◌++◌, length, map, drop, reverse, get_or, refl, sym, ap, subst, ◌∙◌, arith}
use Rattle.std.specs.Prelude.{All}
use Rattle.std.proofs.lemmas.List.{reverse-reverse, length-append}
use Rattle.std.proofs.lemmas.List.Elements.{All-drop}
use Rattle.lp_lemmas.proofs.Elements.{All_empty, All_reverse, All_pushed, All_popped}
use Rattle.lp_term.specs.declared.node.TypeId.{TypeId}
use Rattle.lp_term.specs.declared.node.TermId.{TermId}
use Rattle.lp_term.specs.Node.{TypeShape}
use Rattle.lp_term.specs.Nodes.{Nodes, Extends}
use Rattle.lp_model.specs.declared.certificate.Certificate.{Certificate}
use Rattle.lp_model.specs.declared.certificate.ProofNode.{ProofNode}
use Rattle.lp_model.specs.declared.certificate.ProofNode.TheVariants as node
use Rattle.lp_cert.specs.Facts.{AreInside}
use Rattle.lp_cert.specs.Inside.{AreTermsInside}
use Rattle.lp_cert.specs.Standing.{IsNodeInside, IsCertificateInside}
use Rattle.lp_cert.specs.declared.terms.Part as part
use Rattle.lp_cert.specs.declared.terms.Part.TheVariants as parts
use Rattle.lp_cert.specs.inner.Parts.{IsPartInside}

-- ---- in a later bank

pub types_on : (a c : Nodes) → Extends a c → (ids : List TypeId) → AreInside (length a.types) ids → AreInside (length c.types) ids
types_on a c x ids h i d lt = let p = h i d lt in omega (arith, p, x.more_types)

pub terms_on : (a c : Nodes) → Extends a c → (ids : List TermId) → AreTermsInside (length a.terms) ids → AreTermsInside (length c.terms) ids
terms_on a c x ids h i d lt = let p = h i d lt in omega (arith, p, x.more_terms)

pub part_on : (a c : Nodes) → Extends a c → (p : part.Part) → IsPartInside a p → IsPartInside c p
part_on a c x (parts.Leaf t) h = omega (arith, h, x.more_terms)
part_on a c x parts.Abs h = tt
part_on a c x parts.App h = tt

node_on : (a c : Nodes) → Extends a c → (n : ProofNode) → IsNodeInside a n → IsNodeInside c n
node_on a c x (node.Conv t) h = omega (arith, h, x.more_terms)
node_on a c x node.True h = tt
node_on a c x node.And h = tt
node_on a c x node.Left h = tt
node_on a c x node.Right h = tt
node_on a c x (node.Some t) h = omega (arith, h, x.more_terms)
node_on a c x node.All h = tt
node_on a c x node.Assume h = tt
node_on a c x node.Equal h = tt
node_on a c x node.Arith h = tt
node_on a c x (node.Back i ts) h = types_on a c x ts.items h
node_on a c x (node.FocusConv t) h = omega (arith, h, x.more_terms)
node_on a c x (node.FocusAll t) h = omega (arith, h, x.more_terms)
node_on a c x (node.Take s) h = tt
node_on a c x node.Need h = tt
node_on a c x node.Hit h = tt

certificate_on : (a c : Nodes) → Extends a c → (k : Certificate) → IsCertificateInside a k → IsCertificateInside c k
certificate_on a c x k h =
    record { types = types_on a c x k.types.items h.types; values = terms_on a c x k.values.items h.values; proof = λ i d lt. node_on a c x _ (h.proof i d lt) }

-- ---- one more

pub type_more : (a c : Nodes) → Extends a c → (old new : List TypeId) (made : TypeId) → new ≡ old ++ made ∷ [] → made.0 < length c.types → AreInside (length a.types) old → AreInside (length c.types) new
type_more a c x old new made e lt h = All_pushed (λ t. t.0 < length c.types) new old made e (types_on a c x old h) lt

pub term_more : (a c : Nodes) → Extends a c → (old new : List TermId) (made : TermId) → new ≡ old ++ made ∷ [] → made.0 < length c.terms → AreTermsInside (length a.terms) old → AreTermsInside (length c.terms) new
term_more a c x old new made e lt h = All_pushed (λ t. t.0 < length c.terms) new old made e (terms_on a c x old h) lt

pub part_more : (a c : Nodes) → Extends a c → (old new : List part.Part) (made : part.Part) → new ≡ old ++ made ∷ [] → IsPartInside c made → All (IsPartInside a) old → All (IsPartInside c) new
part_more a c x old new made e lt h = All_pushed (IsPartInside c) new old made e (λ i d l. part_on a c x _ (h i d l)) lt

pub node_more : (a c : Nodes) → Extends a c → (old new : List ProofNode) (made : ProofNode) → new ≡ old ++ made ∷ [] → IsNodeInside c made → All (IsNodeInside a) old → All (IsNodeInside c) new
node_more a c x old new made e lt h = All_pushed (IsNodeInside c) new old made e (λ i d l. node_on a c x _ (h i d l)) lt

pub certificate_more : (a c : Nodes) → Extends a c → (old new : List Certificate) (made : Certificate) → new ≡ old ++ made ∷ [] → IsCertificateInside c made → All (IsCertificateInside a) old → All (IsCertificateInside c) new
certificate_more a c x old new made e lt h = All_pushed (IsCertificateInside c) new old made e (λ i d l. certificate_on a c x _ (h i d l)) lt

-- ---- on a stack

pub parameter_inside : (a c : Nodes) → Extends a c → (old new : List TypeId) (made : TypeId) (s : TypeShape) → new ≡ old ++ made ∷ [] → made.0 ≡ length a.types → c.types ≡ a.types ++ s ∷ [] → AreInside (length a.types) old → AreInside (length c.types) new
parameter_inside a c x old new made s e is more h =
    let l : length c.types ≡ length a.types + 1 = ap length more ∙ length-append a.types (s ∷ []) in
    type_more a c x old new made e (omega (arith, is, l)) h

pub kind_inside : (a c : Nodes) → Extends a c → (old mid new : List TypeId) (made : TypeId) (n : ℕ) → reverse mid ≡ drop n (reverse old) → new ≡ mid ++ made ∷ [] → made.0 < length c.types → AreInside (length a.types) old → AreInside (length c.types) new
kind_inside a c x old mid new made n d e lt h =
    let P = λ (t : TypeId). t.0 < length a.types in
    let back : mid ≡ reverse (drop n (reverse old)) = sym (reverse-reverse mid) ∙ ap reverse d in
    type_more a c x mid new made e lt (subst (All P) (sym back) (All_reverse P (drop n (reverse old)) (All-drop P n (reverse old) (All_reverse P old h))))

pub arrow_inside : (a c : Nodes) → Extends a c → (old mid rest new : List TypeId) (from to made : TypeId) → old ≡ mid ++ from ∷ [] → mid ≡ rest ++ to ∷ [] → new ≡ rest ++ made ∷ [] → made.0 < length c.types
    → AreInside (length a.types) old → AreInside (length c.types) new
arrow_inside a c x old mid rest new from to made e f g lt h =
    let P = λ (t : TypeId). t.0 < length a.types in
    type_more a c x rest new made g lt (All_popped P mid rest to f (All_popped P old mid from e h).0).0

pub no_types_inside : (n : ℕ) (ids : List TypeId) → ids ≡ [] → AreInside n ids
no_types_inside n ids e = All_empty (λ t. t.0 < n) ids e

pub body_inside : (a c : Nodes) → Extends a c → (old mid new : List TermId) (body made : TermId) → old ≡ mid ++ body ∷ [] → new ≡ mid ++ made ∷ [] → made.0 < length c.terms → AreTermsInside (length a.terms) old → AreTermsInside (length c.terms) new
body_inside a c x old mid new body made e f lt h = term_more a c x mid new made f lt (All_popped (λ t. t.0 < length a.terms) old mid body e h).0

pub application_inside : (a c : Nodes) → Extends a c → (old mid rest new : List TermId) (head argument made : TermId) → old ≡ mid ++ head ∷ [] → mid ≡ rest ++ argument ∷ [] → new ≡ rest ++ made ∷ [] → made.0 < length c.terms
    → AreTermsInside (length a.terms) old → AreTermsInside (length c.terms) new
application_inside a c x old mid rest new head argument made e f g lt h =
    let P = λ (t : TermId). t.0 < length a.terms in
    term_more a c x rest new made g lt (All_popped P mid rest argument f (All_popped P old mid head e h).0).0

pub no_terms_inside : (n : ℕ) (ids : List TermId) → ids ≡ [] → AreTermsInside n ids
no_terms_inside n ids e = All_empty (λ t. t.0 < n) ids e

pub certificate_made : (a m n : Nodes) → Extends a m → Extends m n → (k : Certificate) → AreInside (length a.types) k.types.items → AreTermsInside (length m.terms) k.values.items → All (IsNodeInside n) k.proof.items → IsCertificateInside n k
certificate_made a m n x y k h i j =
    record { types = types_on m n y k.types.items (types_on a m x k.types.items h); values = terms_on m n y k.values.items i; proof = j }
