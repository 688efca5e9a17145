-- A text under a most general solution of its equations, with its type variables numbered as they are met, is the principal typing.
use Rattle.std.proofs.Common.{◌≡◌, ℕ, suc, ◌+◌, List, [], ◌∷◌, ◌++◌, map, reverse, length, take, drop, refl, sym, ap, subst, ◌∙◌}
use Rattle.std.proofs.lemmas.List.{append-nil, append_assoc, map-append, reverse-reverse, length-map, length-reverse, take_at}
use Rattle.lp_type_laws.proofs.Principal.{map_map}
use Rattle.indexmap.proofs.ReorderLemmas.{map-reverse}
use Rattle.lp_calculus.specs.Types.{Ty, var, instance}
use Rattle.lp_calculus.specs.Term.{Term, Atom, index, atom, abs, app, constant, integer, text, eigen, logic}
use Rattle.lp_calculus.specs.Term as term
use Rattle.lp_type_laws.specs.Equations.{IsMostGeneral}
use Rattle.lp_term.specs.Nodes.{Nodes, type_tree, tree}
use Rattle.lp_model.specs.declared.program.Typed.{Typed}
use Rattle.lp_infer.specs.Typing.{Raw, raw_index, raw_constant, raw_integer, raw_text, raw_abs, raw_app, Typing, IsPrincipal, instance_term, instance_atom, put_typing, atom_arguments, term_arguments}
use Rattle.lp_infer.specs.Generate.{fresh, generate, generated, typing_under, IsScoped}
use Rattle.lp_infer.specs.Numbering.{all_variables, type_variables, typing_variables, typing_of, AreNumbered}
use Rattle.lp_infer.specs.Meeting.{AllMet, renaming, unnaming}
use Rattle.lp_infer.specs.Filling.{fills}
use Rattle.lp_infer.specs.Formulas.{variables_of, in_order}
use Rattle.lp_infer.proofs.Principal.{principal, typing_same, term_twice, fresh_length}
use Rattle.lp_infer.proofs.Renaming.{renamed}
use Rattle.lp_infer.proofs.Meetings.{all_met, all_front, all_back, list_back, lists_renamed, numbered}
use Rattle.lp_infer.proofs.Filling.{filled}

-- lists

pub variables_append : (As Bs : List Ty) → all_variables (As ++ Bs) ≡ all_variables As ++ all_variables Bs
variables_append [] Bs = refl
variables_append (A ∷ As) Bs = ap (λ l. type_variables A ++ l) (variables_append As Bs) ∙ sym (append_assoc (type_variables A) (all_variables As) (all_variables Bs))

-- the type arguments of a formula under types for its type variables

atom_put : (θ : ℕ → Ty) (a : Atom) → atom_arguments (instance_atom θ a) ≡ map (instance θ) (atom_arguments a)
atom_put θ (constant c Ts) = refl
atom_put θ (integer z) = refl
atom_put θ (text s) = refl
atom_put θ (eigen k) = refl
atom_put θ (logic id level) = refl
atom_put θ (term.param k T) = refl

pub arguments_put : (θ : ℕ → Ty) (t : Term) → term_arguments (instance_term θ t) ≡ map (instance θ) (term_arguments t)
arguments_put θ (index i) = refl
arguments_put θ (atom a) = atom_put θ a
arguments_put θ (abs b) = arguments_put θ b
arguments_put θ (app t u) =
    ap (λ l. l ++ term_arguments (instance_term θ u)) (arguments_put θ t) ∙ ap (λ l. map (instance θ) (term_arguments t) ++ l) (arguments_put θ u) ∙ sym (map-append (instance θ) (term_arguments t) (term_arguments u))

-- the formula of a text under numbers for its type variables, and back
term_back : (N : List ℕ) (θ : ℕ → Ty) (R : Raw) (C : List Ty) (n : ℕ) → AllMet N (all_variables (map (instance θ) (term_arguments (generate C R n).term))) →
    instance_term (unnaming N) (instance_term (renaming N) (instance_term θ (generate C R n).term)) ≡ instance_term θ (generate C R n).term
term_back N θ (raw_index i) C n h = refl
term_back N θ (raw_constant c s) C n h = ap (λ Ts. atom (constant c Ts)) (list_back N (map (instance θ) (fresh s.count n)) h)
term_back N θ (raw_integer z) C n h = refl
term_back N θ (raw_text t) C n h = refl
term_back N θ (raw_abs given b) C n h = ap abs (term_back N θ b (var n ∷ C) (suc n) h)
term_back N θ (raw_app f u) C n h =
    let m = generate C f n in
    let k = generate C u m.next in
    let fs = map (instance θ) (term_arguments m.term) in
    let us = map (instance θ) (term_arguments k.term) in
    let both : AllMet N (all_variables fs ++ all_variables us) = subst (AllMet N) (ap all_variables (map-append (instance θ) (term_arguments m.term) (term_arguments k.term)) ∙ variables_append fs us) h in
    two_same _ _ _ _ (term_back N θ f C n (all_front N (all_variables fs) (all_variables us) both)) (term_back N θ u C m.next (all_back N (all_variables fs) (all_variables us) both)) where
      two_same : (t u v w : Term) → t ≡ v → u ≡ w → app t u ≡ app v w
      two_same t u v w e f = cc

module _ (R : Raw) (names k : ℕ) (θ : ℕ → Ty) where
  -- the types of the variables, the first one's first, and the type arguments
  abbrev pub types_under : List Ty
  types_under = map (instance θ) (reverse (fresh names k) ++ term_arguments (generated R names k).term)

  abbrev pub in_numbers : Typing
  in_numbers = put_typing (renaming (variables_of types_under)) (typing_under θ names k (generated R names k))

  abbrev frees : List Ty
  frees = map (instance θ) (fresh names k)

  abbrev arguments : List Ty
  arguments = map (instance θ) (term_arguments (generated R names k).term)

  abbrev π : ℕ → Ty
  π = renaming (variables_of types_under)

  apart : types_under ≡ reverse frees ++ arguments
  apart = map-append (instance θ) (reverse (fresh names k)) (term_arguments (generated R names k).term) ∙ ap (λ l. l ++ arguments) (map-reverse (instance θ) (fresh names k))

  both_met : AllMet (variables_of types_under) (all_variables (reverse frees) ++ all_variables arguments)
  both_met = subst (AllMet (variables_of types_under)) (ap all_variables apart ∙ variables_append (reverse frees) arguments) (all_met (all_variables types_under) [])

  frees_back : map (instance (unnaming (variables_of types_under))) (map (instance π) frees) ≡ frees
  frees_back =
      let N = variables_of types_under in
      let ϖ = unnaming N in
      let back : map (instance ϖ) (map (instance π) (reverse frees)) ≡ reverse frees = list_back N (reverse frees) (all_front N (all_variables (reverse frees)) (all_variables arguments) both_met) in
      let turned : reverse (map (instance ϖ) (map (instance π) frees)) ≡ reverse frees =
      (sym (map-reverse (instance ϖ) (map (instance π) frees)) ∙ ap (map (instance ϖ)) (sym (map-reverse (instance π) frees)) ∙ back) in
      sym (reverse-reverse (map (instance ϖ) (map (instance π) frees))) ∙ ap reverse turned ∙ reverse-reverse frees

  pub is_principal : IsScoped names k R → IsMostGeneral (generated R names k).equations θ → IsPrincipal R names in_numbers
  is_principal s M =
      let N = variables_of types_under in
      renamed R names (typing_under θ names k (generated R names k)) π (unnaming N) frees_back
      (term_back N θ R (fresh names k) (k + names) (all_back N (all_variables (reverse frees)) (all_variables arguments) both_met)) (principal R names k s θ M)

  -- the types in the order in which their type variables are met
  listed : reverse (map (instance π) frees) ++ term_arguments (instance_term π (instance_term θ (generated R names k).term)) ≡ in_order types_under
  listed =
      let t = (generated R names k).term in
      ap (λ l. l ++ term_arguments (instance_term π (instance_term θ t))) (sym (map-reverse (instance π) frees)) ∙
      ap (λ l. map (instance π) (reverse frees) ++ l) (arguments_put π (instance_term θ t) ∙ ap (map (instance π)) (arguments_put θ t)) ∙
      sym (map-append (instance π) (reverse frees) arguments) ∙ ap (map (instance π)) (sym apart)

  pub are_numbered : AreNumbered 0 (typing_variables in_numbers) (length (variables_of types_under))
  are_numbered =
      let N = variables_of types_under in
      subst (λ xs. AreNumbered 0 xs (length N)) (sym (ap all_variables listed ∙ lists_renamed N types_under)) (numbered (all_variables types_under) [] N [] (sym (append-nil N)))

  many : length (map (instance π) (reverse frees)) ≡ names
  many = length-map (reverse frees) (instance π) ∙ length-reverse frees ∙ length-map (fresh names k) (instance θ) ∙ fresh_length names k

  parted : in_order types_under ≡ map (instance π) (reverse frees) ++ map (instance π) arguments
  parted = ap (map (instance π)) apart ∙ map-append (instance π) (reverse frees) arguments

  -- what has these types is the typing
  pub is_typing : (b : Nodes) (t : Typed) → map (λ v. type_tree b v.1.0) t.vars.items ≡ take names (in_order types_under) → tree b t.formula.0 ≡ (fills R (drop names (in_order types_under))).0 → typing_of b t ≡ in_numbers
  is_typing b t vars formula =
      let free : take names (in_order types_under) ≡ map (instance π) (reverse frees) = ap (take names) parted ∙ take_at (map (instance π) (reverse frees)) (map (instance π) arguments) names many in
      typing_same (typing_of b t) in_numbers
      (ap reverse (vars ∙ free ∙ map-reverse (instance π) frees) ∙ reverse-reverse (map (instance π) frees))
      (formula ∙ filled (λ i. instance π (θ i)) R (fresh names k) (k + names) names k (in_order types_under) (map_map π θ (reverse (fresh names k) ++ term_arguments (generated R names k).term)) ∙ sym (term_twice π θ (generated R names k).term))
