-- What maps are in other words: the map that leaves all as it is, types for type variables, terms without loose indices for logic variables.
use Rattle.std.proofs.Common.{◌≡◌, ℕ, List, [], ◌∷◌, map, refl, sym, ap, ◌∙◌}
use Rattle.lp_calculus.specs.Types.{Ty, Tys, var, param, con, arrow, no_types, types, instance, instances}
use Rattle.lp_calculus.specs.Term.{Term, Atom, constant, integer, text, eigen, logic, index, atom, abs, app, shift}
use Rattle.lp_calculus.specs.Term as term
use Rattle.lp_calculus.specs.Instance.{instance_atom, instance_term}
use Rattle.lp_calculus.specs.Fill.{fill, raise, at_variables, close}
use Rattle.lp_term.specs.Nodes.{Nodes}
use Rattle.lp_term.specs.Mapped.{Map, IsMap, mapped_type, mapped_types, mapped_atom, mapped}
use Rattle.lp_term.specs.Same.{same_told, same_map}

-- nothing changes
mutual
  pub same_type : (T : Ty) → mapped_type same_map T ≡ T
  same_type (var i) = refl
  same_type (param k) = refl
  same_type (con c ts) = ap (con c) (same_types ts)
  same_type (arrow a b) = λ j. arrow (same_type a j) (same_type b j)

  same_types : (ts : Tys) → mapped_types same_map ts ≡ ts
  same_types no_types = refl
  same_types (types t ts) = λ j. types (same_type t j) (same_types ts j)

same_list : (ts : List Ty) → map (mapped_type same_map) ts ≡ ts
same_list [] = refl
same_list (t ∷ ts) = λ j. same_type t j ∷ same_list ts j

same_atom : (a : Atom) → mapped_atom same_map a ≡ atom a
same_atom (constant c ts) = ap (λ l. atom (constant c l)) (same_list ts)
same_atom (integer z) = refl
same_atom (text s) = refl
same_atom (eigen k) = refl
same_atom (logic x l) = refl
same_atom (term.param k T) = ap (λ t. atom (term.param k t)) (same_type T)

pub same_term : (t : Term) → mapped same_map t ≡ t
same_term (index i) = refl
same_term (atom a) = same_atom a
same_term (abs b) = ap abs (same_term b)
same_term (app t u) = λ j. app (same_term t j) (same_term u j)

pub same_is_map : (b d : Nodes) → IsMap same_told same_map b d
same_is_map b d = record { kinds = λ k. refl; constants = λ k. refl; types = λ x. refl; terms = λ x l. refl }

-- where kinds and constants keep their numbers
abbrev pub putting : (ℕ → Ty) → (ℕ → ℕ → Term) → Map
putting θ σ = record { kinds = λ k. k; constants = λ k. k; types = θ; terms = σ }

mutual
  pub type_put : (θ : ℕ → Ty) (σ : ℕ → ℕ → Term) (T : Ty) → mapped_type (putting θ σ) T ≡ instance θ T
  type_put θ σ (var i) = refl
  type_put θ σ (param k) = refl
  type_put θ σ (con c ts) = ap (con c) (types_put θ σ ts)
  type_put θ σ (arrow a b) = λ j. arrow (type_put θ σ a j) (type_put θ σ b j)

  types_put : (θ : ℕ → Ty) (σ : ℕ → ℕ → Term) (ts : Tys) → mapped_types (putting θ σ) ts ≡ instances θ ts
  types_put θ σ no_types = refl
  types_put θ σ (types t ts) = λ j. types (type_put θ σ t j) (types_put θ σ ts j)

list_put : (θ : ℕ → Ty) (σ : ℕ → ℕ → Term) (ts : List Ty) → map (mapped_type (putting θ σ)) ts ≡ map (instance θ) ts
list_put θ σ [] = refl
list_put θ σ (t ∷ ts) = λ j. type_put θ σ t j ∷ list_put θ σ ts j

atom_put : (θ : ℕ → Ty) (σ : ℕ → ℕ → Term) (a : Atom) → mapped_atom (putting θ σ) a ≡ at_variables σ (instance_atom θ a)
atom_put θ σ (constant c ts) = ap (λ l. atom (constant c l)) (list_put θ σ ts)
atom_put θ σ (integer z) = refl
atom_put θ σ (text s) = refl
atom_put θ σ (eigen k) = refl
atom_put θ σ (logic x l) = refl
atom_put θ σ (term.param k T) = ap (λ t. atom (term.param k t)) (type_put θ σ T)

raise_atom : (σ : ℕ → ℕ → Term) → ((x l : ℕ) → shift 0 1 (σ x l) ≡ σ x l) → (a : Atom) → raise (at_variables σ) a ≡ at_variables σ a
raise_atom σ h (constant c ts) = refl
raise_atom σ h (integer z) = refl
raise_atom σ h (text s) = refl
raise_atom σ h (eigen k) = refl
raise_atom σ h (logic x l) = h x l
raise_atom σ h (term.param k T) = refl

-- terms without loose indices for logic variables, and types for type variables
pub term_put : (θ : ℕ → Ty) (σ : ℕ → ℕ → Term) → ((x l : ℕ) → shift 0 1 (σ x l) ≡ σ x l) → (t : Term) → mapped (putting θ σ) t ≡ close σ (instance_term θ t)
term_put θ σ h (index i) = refl
term_put θ σ h (atom a) = atom_put θ σ a
term_put θ σ h (abs b) = ap abs (term_put θ σ h b ∙ ap (λ g. fill g (instance_term θ b)) (sym (λ j a. raise_atom σ h a j)))
term_put θ σ h (app t u) = λ j. app (term_put θ σ h t j) (term_put θ σ h u j)

-- types alone
instance_atom_put : (θ : ℕ → Ty) (a : Atom) → mapped_atom (putting θ (λ x l. atom (logic x l))) a ≡ atom (instance_atom θ a)
instance_atom_put θ (constant c ts) = ap (λ l. atom (constant c l)) (list_put θ (λ x l. atom (logic x l)) ts)
instance_atom_put θ (integer z) = refl
instance_atom_put θ (text s) = refl
instance_atom_put θ (eigen k) = refl
instance_atom_put θ (logic x l) = refl
instance_atom_put θ (term.param k T) = ap (λ t. atom (term.param k t)) (type_put θ (λ x l. atom (logic x l)) T)

pub instance_put : (θ : ℕ → Ty) (t : Term) → mapped (putting θ (λ x l. atom (logic x l))) t ≡ instance_term θ t
instance_put θ (index i) = refl
instance_put θ (atom a) = instance_atom_put θ a
instance_put θ (abs b) = ap abs (instance_put θ b)
instance_put θ (app t u) = λ j. app (instance_put θ t j) (instance_put θ u j)
