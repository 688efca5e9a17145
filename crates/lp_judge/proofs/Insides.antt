-- Certificates in a bank that grows.
use Rattle.std.proofs.Common.{◌≡◌, ℕ, ◌<◌, List, length, map, take, sym, ap, ◌∙◌, refl, subst, option_map}
use Rattle.std.specs.Prelude.{All, Result, Ok, Err, IfOk}
use Rattle.lp_base.specs.declared.memory.Memory.{Memory}
use Rattle.std.proofs.lemmas.List.{take-map}
use Rattle.std.proofs.lemmas.List.Elements.{All-map}
use Rattle.std.proofs.lemmas.Option.{slice_get-map}
use Rattle.lp_lemmas.proofs.Lists.{map_agree_on}
use Rattle.lp_term.specs.Nodes.{Nodes, Extends, tree, type_tree}
use Rattle.lp_model.specs.Answers.{Query}
use Rattle.lp_model.specs.declared.certificate.Certificate as code
use Rattle.lp_model.specs.declared.certificate.ProofNode.{ProofNode}
use Rattle.lp_model.specs.declared.certificate.ProofNode.TheVariants as node
use Rattle.lp_cert.specs.Certified.{Ground, Certifies, certificate_of}
use Rattle.lp_cert.specs.Run.{NeedsLargeForm, StopsAt}
use Rattle.lp_cert.specs.Standing.{IsNodeInside, IsCertificateInside}
use Rattle.lp_cert.specs.Written.{node_of, converted, witness, back_to, focus_converted, focus_witness}
use Rattle.lp_cert.specs.declared.judging.CheckVerdict.{CheckVerdict}
use Rattle.lp_cert.specs.declared.judging.CheckVerdict.TheVariants.{Accepted, Rejected, Deep}
use Rattle.lp_judge.specs.Checked.{IsVerdictOn}

module _ (a b : Nodes) (grown : Extends a b) where
  node_stays : (n : ProofNode) → IsNodeInside a n → node_of b n ≡ node_of a n
  node_stays (node.Conv t) h = ap converted (grown.same_terms t.0 h)
  node_stays node.True h = refl
  node_stays node.And h = refl
  node_stays node.Left h = refl
  node_stays node.Right h = refl
  node_stays (node.Some t) h = ap witness (grown.same_terms t.0 h)
  node_stays node.All h = refl
  node_stays node.Assume h = refl
  node_stays node.Equal h = refl
  node_stays node.Arith h = refl
  node_stays (node.Back i ts) h = ap (back_to i) (map_agree_on (λ t. t.0 < length a.types) (λ t. type_tree b t.0) (λ t. type_tree a t.0) (λ t l. grown.same_types t.0 l) ts.items h)
  node_stays (node.FocusConv t) h = ap focus_converted (grown.same_terms t.0 h)
  node_stays (node.FocusAll t) h = ap focus_witness (grown.same_terms t.0 h)
  node_stays (node.Take s) h = refl
  node_stays node.Need h = refl
  node_stays node.Hit h = refl

  certificate_stays : (c : code.Certificate) → IsCertificateInside a c → certificate_of b c ≡ certificate_of a c
  certificate_stays c h =
      let types = map_agree_on (λ t. t.0 < length a.types) (λ t. type_tree b t.0) (λ t. type_tree a t.0) (λ t l. grown.same_types t.0 l) c.types.items h.types in
      let values = map_agree_on (λ t. t.0 < length a.terms) (λ t. tree b t.0) (λ t. tree a t.0) (λ t l. grown.same_terms t.0 l) c.values.items h.values in
      let nodes = map_agree_on (IsNodeInside a) (node_of b) (node_of a) node_stays c.proof.items h.proof in
      ap (λ ts. record { instance = record { types = ts; values = map (λ t. tree b t.0) c.values.items }; nodes = map (node_of b) c.proof.items }) types
      ∙ ap (λ vs. record { instance = record { types = map (λ t. type_tree a t.0) c.types.items; values = vs }; nodes = map (node_of b) c.proof.items }) values
      ∙ ap (λ ns. record { instance = record { types = map (λ t. type_tree a t.0) c.types.items; values = map (λ t. tree a t.0) c.values.items }; nodes = ns }) nodes

  pub certificates_stay : (cs : List code.Certificate) → All (IsCertificateInside a) cs → map (certificate_of b) cs ≡ map (certificate_of a) cs
  certificates_stay cs h = map_agree_on (IsCertificateInside a) (certificate_of b) (certificate_of a) certificate_stays cs h

-- what is said of elements is said of what they stand for
stops_of : {A B : Type 0} (f : A → B) (P Q : B → Type 0) (xs : List A) (i : ℕ) → StopsAt (λ x. P (f x)) (λ x. Q (f x)) xs i → StopsAt P Q (map f xs) i
stops_of f P Q xs i h = record {
  place = h.place;
  counted = h.counted;
  before = subst (All P) (sym (take-map f h.place xs)) (All-map P f (take h.place xs) h.before);
  element = f h.element;
  at = slice_get-map f xs h.place ∙ ap (option_map f) h.at;
  stops = h.stops;
}

pub verdict_right : (g : Ground) (q : Query) (b : Nodes) (cs : List code.Certificate) (v : CheckVerdict)
    → (v ≡ Accepted → All (λ c. Certifies g q (certificate_of b c)) cs)
    → ((i : ℕ) → v ≡ Rejected i → StopsAt (λ c. Certifies g q (certificate_of b c)) (λ c. Certifies g q (certificate_of b c) → ⊥) cs i)
    → ((i : ℕ) → v ≡ Deep i → StopsAt (λ c. Certifies g q (certificate_of b c)) (λ c. NeedsLargeForm g q (certificate_of b c)) cs i)
    → IsVerdictOn g q (map (certificate_of b) cs) v
verdict_right g q b cs Accepted h r d = All-map (Certifies g q) (certificate_of b) cs (h refl)
verdict_right g q b cs (Rejected i) h r d = stops_of (certificate_of b) (Certifies g q) (λ c. Certifies g q c → ⊥) cs i (r i refl)
verdict_right g q b cs (Deep i) h r d = stops_of (certificate_of b) (Certifies g q) (NeedsLargeForm g q) cs i (d i refl)

pub verdicts_right : (X : Type 0) (g : Ground) (q : Query) (b : Nodes) (cs : List code.Certificate) (r : Result CheckVerdict Memory)
    → IfOk r (λ v. v ≡ Accepted → All (λ c. Certifies g q (certificate_of b c)) cs)
    → IfOk r (λ v. (i : ℕ) → v ≡ Rejected i → X → StopsAt (λ c. Certifies g q (certificate_of b c)) (λ c. Certifies g q (certificate_of b c) → ⊥) cs i)
    → IfOk r (λ v. (i : ℕ) → v ≡ Deep i → X → StopsAt (λ c. Certifies g q (certificate_of b c)) (λ c. NeedsLargeForm g q (certificate_of b c)) cs i)
    → X → IfOk r (IsVerdictOn g q (map (certificate_of b) cs))
verdicts_right X g q b cs (Ok v) h r d x = verdict_right g q b cs v h (λ i e. r i e x) (λ i e. d i e x)
verdicts_right X g q b cs (Err e) h r d x = tt
