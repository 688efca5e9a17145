-- A text while its nodes are gone through: each step keeps that the list so far and what the tasks give are what the root gives.
use Rattle.std.proofs.Common.{◌≡◌, ℕ, ◌<◌, ◌≤◌, List, ◌∷◌, length, refl, sym, ap, subst, ◌∙◌, Option, Some, None, arith}
use Rattle.std.specs.Prelude.{slice_get}
use Rattle.lp_lemmas.proofs.Options.{one_value}
use Rattle.lp_base.specs.declared.place.Spot.{Spot}
use Rattle.lp_calculus.specs.Types.{Ty, instance}
use Rattle.lp_term.specs.Nodes.{Nodes, Extends}
use Rattle.lp_term.specs.declared.node.TypeId.{TypeId}
use Rattle.lp_syntax.specs.declared.text.RawNode.{RawNode}
use Rattle.lp_syntax.specs.declared.text.RawNode.TheVariants.{App, Abs}
use Rattle.lp_syntax.specs.declared.text.RawType.{RawType}
use Rattle.lp_sig.specs.declared.signature.Signature.{Signature}
use Rattle.lp_sig.specs.Pieces.{spelled}
use Rattle.lp_infer.specs.Typing.{Raw, raw_app, raw_abs}
use Rattle.lp_infer.specs.Texts.{Notes, Reads, leaf, application, abstraction, IsNoted, read_leaf}
use Rattle.lp_infer.specs.Postfix.{opens, mark, given_type, IsGivenKnown, IsStep}
use Rattle.lp_infer.specs.Visits.{noted_types}
use Rattle.lp_infer.specs.declared.lookup.Step.{Step}
use Rattle.lp_infer.specs.declared.lookup.Step.TheVariants as step

-- the marks of older steps stay

given_same : (b c : Nodes) → Extends b c → (ρ : ℕ → Ty) (given : Option TypeId) → IsGivenKnown (length b.types) given → given_type (noted_types b ρ) given ≡ given_type (noted_types c ρ) given
given_same b c E ρ None k = refl
given_same b c E ρ (Some id) k = ap (λ t. Some (instance ρ t)) (sym (E.same_types id.0 k))

pub mark_same : (sig : Signature) (text : List ℕ) (count : ℕ) (b c : Nodes) → Extends b c → (ρ : ℕ → Ty) (s : Step) → IsStep (length b.types) s →
    mark text sig.bank count (noted_types b ρ) s ≡ mark text sig.bank count (noted_types c ρ) s
mark_same sig text count b c E ρ (step.Bound i) k = refl
mark_same sig text count b c E ρ (step.Variable d i) k = refl
mark_same sig text count b c E ρ (step.Standard i) k = refl
mark_same sig text count b c E ρ (step.Declared i v id) k = refl
mark_same sig text count b c E ρ (step.Integer z) k = refl
mark_same sig text count b c E ρ (step.Text s) k = refl
mark_same sig text count b c E ρ (step.Open given) k = ap opens (given_same b c E ρ given k)
mark_same sig text count b c E ρ step.Close k = refl
mark_same sig text count b c E ρ step.Apply k = refl

pub step_more : (n m : ℕ) → n ≤ m → (s : Step) → IsStep n s → IsStep m s
step_more n m l (step.Bound i) k = tt
step_more n m l (step.Variable d i) k = k
step_more n m l (step.Standard i) k = k
step_more n m l (step.Declared i v id) k = tt
step_more n m l (step.Integer z) k = tt
step_more n m l (step.Text s) k = tt
step_more n m l (step.Open None) k = tt
step_more n m l (step.Open (Some id)) k = omega (arith, l, k)
step_more n m l step.Close k = tt
step_more n m l step.Apply k = tt

-- what a node is

module _ (sig : Signature) (text : List ℕ) (nodes : List RawNode) (κ : Notes) (count : ℕ) where
  pub reads_leaf : (scope : List (List ℕ)) (before : List Spot) (n : ℕ) (node : RawNode) (R : Raw) (after : List Spot) (Q : Raw) (last : List Spot) → slice_get nodes n ≡ Some node →
      read_leaf sig text count scope node before ≡ Some (R, after) → Reads sig text nodes κ count scope before n Q last → (Q ≡ R) × (last ≡ after)
  reads_leaf scope before n node R after Q last at is (leaf scope' before' m other Q' last' at' is') =
      let e : other ≡ node = one_value (slice_get nodes n) other node at' at in
      let f : Some (Q, last) ≡ Some (R, after) = sym is' ∙ ap (λ x. read_leaf sig text count scope x before) e ∙ is in
      (ap (λ o. elim o [ None ↦ Q | Some p ↦ p.0 ]) f, ap (λ o. elim o [ None ↦ last | Some p ↦ p.1 ]) f)
  reads_leaf scope before n node R after Q last at is (application scope' before' m f x F X middle last' at' lf lx rf rx) =
      let e : node ≡ App f x = one_value (slice_get nodes n) node (App f x) at at' in
      let g : Some (R, after) ≡ None = sym is ∙ ap (λ x. read_leaf sig text count scope x before) e in
      absurd (cc)
  reads_leaf scope before n node R after Q last at is (abstraction scope' before' m s note b given B last' at' lb noted rb) =
      let e : node ≡ Abs s note b = one_value (slice_get nodes n) node (Abs s note b) at at' in
      let g : Some (R, after) ≡ None = sym is ∙ ap (λ x. read_leaf sig text count scope x before) e in
      absurd (cc)

  -- the readings of an application and of an abstraction
  pub record OfApplication (scope : List (List ℕ)) (before : List Spot) (f x : ℕ) (Q : Raw) (last : List Spot) : Type 0 where
    pub head : Raw
    pub argument : Raw
    pub middle : List Spot
    pub is : Q ≡ raw_app head argument
    pub reads_head : Reads sig text nodes κ count scope before f head middle
    pub reads_argument : Reads sig text nodes κ count scope middle x argument last

  at_app : (scope : List (List ℕ)) (before middle last : List Spot) (f x g y : ℕ) (F X : Raw) → App g y ≡ App f x → Reads sig text nodes κ count scope before g F middle → Reads sig text nodes κ count scope middle y X last → OfApplication scope before f x (raw_app F X) last
  at_app scope before middle last f x g y F X e rf rx =
      let a : g ≡ f = cc in
      let b : y ≡ x = cc in
      record { head = F; argument = X; middle = middle; is = refl; reads_head = subst (λ n. Reads sig text nodes κ count scope before n F middle) a rf; reads_argument = subst (λ n. Reads sig text nodes κ count scope middle n X last) b rx }

  pub reads_app : (scope : List (List ℕ)) (before : List Spot) (n f x : ℕ) (Q : Raw) (last : List Spot) → slice_get nodes n ≡ Some (App f x) → Reads sig text nodes κ count scope before n Q last → OfApplication scope before f x Q last
  reads_app scope before n f x Q last at (leaf scope' before' m other Q' last' at' is') =
      let e : other ≡ App f x = one_value (slice_get nodes n) other (App f x) at' at in
      let g : Some (Q, last) ≡ None = sym is' ∙ ap (λ x. read_leaf sig text count scope x before) e in
      absurd (cc)
  reads_app scope before n f x Q last at (application scope' before' m g y F X middle last' at' lf lx rf rx) =
      at_app scope before middle last f x g y F X (one_value (slice_get nodes n) (App g y) (App f x) at' at) rf rx
  reads_app scope before n f x Q last at (abstraction scope' before' m s note b given B last' at' lb noted rb) =
      let e : App f x ≡ Abs s note b = one_value (slice_get nodes n) (App f x) (Abs s note b) at at' in
      absurd (cc)

  pub record OfAbstraction (scope : List (List ℕ)) (before : List Spot) (s : Spot) (note : Option RawType) (b : ℕ) (Q : Raw) (last : List Spot) : Type 0 where
    pub given : Option Ty
    pub body : Raw
    pub is : Q ≡ raw_abs given body
    pub noted : IsNoted sig text κ note given
    pub reads_body : Reads sig text nodes κ count (spelled text s ∷ scope) before b body last

  at_abs : (scope : List (List ℕ)) (before last : List Spot) (s t : Spot) (note other : Option RawType) (b d : ℕ) (given : Option Ty) (B : Raw) → Abs
      t other d ≡ Abs s note b → IsNoted sig text κ other given → Reads sig text nodes κ count (spelled text t ∷ scope) before d B last →
      OfAbstraction scope before s note b (raw_abs given B) last
  at_abs scope before last s t note other b d given B e noted r =
      let a : t ≡ s = cc in
      let h : other ≡ note = cc in
      let i : d ≡ b = cc in
      record {
        given = given;
        body = B;
        is = refl;
        noted = subst (λ n. IsNoted sig text κ n given) h noted;
        reads_body = subst (λ n. Reads sig text nodes κ count (spelled text s ∷ scope) before n B last) i (subst (λ u. Reads sig text nodes κ count (spelled text u ∷ scope) before d B last) a r);
      }

  pub reads_abs : (scope : List (List ℕ)) (before : List Spot) (n : ℕ) (s : Spot) (note : Option RawType) (b : ℕ) (Q : Raw) (last : List Spot) → slice_get nodes n ≡ Some (Abs s note b) → Reads sig text nodes κ count scope before n Q last → OfAbstraction scope before s note b Q last
  reads_abs scope before n s note b Q last at (leaf scope' before' m other Q' last' at' is') =
      let e : other ≡ Abs s note b = one_value (slice_get nodes n) other (Abs s note b) at' at in
      let g : Some (Q, last) ≡ None = sym is' ∙ ap (λ x. read_leaf sig text count scope x before) e in
      absurd (cc)
  reads_abs scope before n s note b Q last at (application scope' before' m g y F X middle last' at' lf lx rf rx) =
      let e : Abs s note b ≡ App g y = one_value (slice_get nodes n) (Abs s note b) (App g y) at at' in
      absurd (cc)
  reads_abs scope before n s note b Q last at (abstraction scope' before' m t other d given B last' at' lb noted rb) =
      at_abs scope before last s t note other b d given B (one_value (slice_get nodes n) (Abs t other d) (Abs s note b) at' at) noted rb

  -- nodes that have no reading

  pub reads_nowhere : (scope : List (List ℕ)) (before : List Spot) (n : ℕ) (Q : Raw) (last : List Spot) → slice_get nodes n ≡ None → Reads sig text nodes κ count scope before n Q last → ⊥
  reads_nowhere scope before n Q last none (leaf scope' before' m other Q' last' at is) = let e : None ≡ Some other = sym none ∙ at in absurd (cc)
  reads_nowhere scope before n Q last none (application scope' before' m g y F X middle last' at lf lx rf rx) = let e : None ≡ Some (App g y) = sym none ∙ at in absurd (cc)
  reads_nowhere scope before n Q last none (abstraction scope' before' m t other d given B last' at lb noted rb) = let e : None ≡ Some (Abs t other d) = sym none ∙ at in absurd (cc)

  pub no_leaf : (scope : List (List ℕ)) (before : List Spot) (n : ℕ) (node : RawNode) (Q : Raw) (last : List Spot) → slice_get nodes n ≡ Some node → ((f x : ℕ) → node ≡ App f x → ⊥) → ((s : Spot) (o : Option RawType) (b : ℕ) → node ≡ Abs s o b → ⊥) →
      read_leaf sig text count scope node before ≡ None → Reads sig text nodes κ count scope before n Q last → ⊥
  no_leaf scope before n node Q last at app abs none (leaf scope' before' m other Q' last' at' is) =
      let e : other ≡ node = one_value (slice_get nodes n) other node at' at in
      let g : Some (Q, last) ≡ None = sym is ∙ ap (λ x. read_leaf sig text count scope x before) e ∙ none in
      absurd (cc)
  no_leaf scope before n node Q last at app abs none (application scope' before' m g y F X middle last' at' lf lx rf rx) = app g y (one_value (slice_get nodes n) node (App g y) at at')
  no_leaf scope before n node Q last at app abs none (abstraction scope' before' m t other d given B last' at' lb noted rb) = abs t other d (one_value (slice_get nodes n) node (Abs t other d) at at')

  two_below : (f x g y n : ℕ) → App g y ≡ App f x → g < n → y < n → (f < n) × (x < n)
  two_below f x g y n e l m = let a : g ≡ f = cc in let b : y ≡ x = cc in (subst (λ k. k < n) a l, subst (λ k. k < n) b m)

  one_below : (s t : Spot) (o p : Option RawType) (b d n : ℕ) → Abs t p d ≡ Abs s o b → d < n → b < n
  one_below s t o p b d n e l = let a : d ≡ b = cc in subst (λ k. k < n) a l

  pub parts_older : (scope : List (List ℕ)) (before : List Spot) (n f x : ℕ) (Q : Raw) (last : List Spot) → slice_get nodes n ≡ Some (App f x) → Reads sig text nodes κ count scope before n Q last → (f < n) × (x < n)
  parts_older scope before n f x Q last at (leaf scope' before' m other Q' last' at' is') =
      let e : other ≡ App f x = one_value (slice_get nodes n) other (App f x) at' at in
      let g : Some (Q, last) ≡ None = sym is' ∙ ap (λ x. read_leaf sig text count scope x before) e in
      absurd (cc)
  parts_older scope before n f x Q last at (application scope' before' m g y F X middle last' at' lf lx rf rx) = two_below f x g y n (one_value (slice_get nodes n) (App g y) (App f x) at' at) lf lx
  parts_older scope before n f x Q last at (abstraction scope' before' m t other d given B last' at' lb noted rb) =
      let e : App f x ≡ Abs t other d = one_value (slice_get nodes n) (App f x) (Abs t other d) at at' in absurd (cc)

  pub body_older : (scope : List (List ℕ)) (before : List Spot) (n : ℕ) (s : Spot) (o : Option RawType) (b : ℕ) (Q : Raw) (last : List Spot) → slice_get nodes n ≡ Some (Abs s o b) → Reads sig text nodes κ count scope before n Q last → b < n
  body_older scope before n s o b Q last at (leaf scope' before' m other Q' last' at' is') =
      let e : other ≡ Abs s o b = one_value (slice_get nodes n) other (Abs s o b) at' at in
      let g : Some (Q, last) ≡ None = sym is' ∙ ap (λ x. read_leaf sig text count scope x before) e in
      absurd (cc)
  body_older scope before n s o b Q last at (application scope' before' m g y F X middle last' at' lf lx rf rx) =
      let e : Abs s o b ≡ App g y = one_value (slice_get nodes n) (Abs s o b) (App g y) at at' in absurd (cc)
  body_older scope before n s o b Q last at (abstraction scope' before' m t other d given B last' at' lb noted rb) = one_below s t o other b d n (one_value (slice_get nodes n) (Abs t other d) (Abs s o b) at' at) lb
