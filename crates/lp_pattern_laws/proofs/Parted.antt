-- The parts of pattern terms and of pattern text.
use Rattle.std.proofs.Common.{◌≡◌, ℕ, List, [], ◌∷◌, Bool, true, false, refl, sym, ap, subst as transport}
use Rattle.std.specs.Prelude.{nat_eq, if◌then◌else◌}
use Rattle.lp_calculus.specs.Types.{Ty}
use Rattle.lp_calculus.specs.Term.{Term, index, atom, abs, app, substitute, eigen, logic, constant, integer, text, param}
use Rattle.lp_calculus.specs.Normal.{IsHead}
use Rattle.lp_calculus.specs.Spine.{head_of, arguments, arguments_and}
use Rattle.lp_lemmas.specs.Each.{EachOf}
use Rattle.lp_standard.specs.Connectives.{Connective, body_of, connective_of, connective_at, connective_of_constant}
use Rattle.lp_search_laws.proofs.Closed.{body_opens}
use Rattle.lp_pattern_laws.specs.Patterns.{Name, bound, free, under, IsNewToIndex, IsNewTo, Names, an_index, an_eigen, expanded, IsPatternTerm, on_name}
use Rattle.lp_pattern_laws.specs.Binders.{Binder, universal, IsNewAt, IsNewIn, IsUniversal, IsPatternIn, index_in, atom_in, abs_in, rigid_in, name_in, IsPatternText}
use Rattle.lp_pattern_laws.specs.Parts.{IsPatternForm}
use Rattle.lp_pattern_laws.proofs.Naming.{same_under, under_not}
use Rattle.lp_pattern_laws.proofs.Apart.{pattern_apart}
use Rattle.lp_pattern_laws.proofs.Reduced.{pattern_reduces}

-- what goes apart with applications holds of arguments
arguments_each : (P : Term → Type 0) → ((f a : Term) → P (app f a) → P f × P a) → (t : Term) (more : List Term) → P t → EachOf P more → EachOf P (arguments_and t more)
arguments_each P apart (index i) more p h = h
arguments_each P apart (atom a) more p h = h
arguments_each P apart (abs b) more p h = h
arguments_each P apart (app f a) more p h = let q = apart f a p in arguments_each P apart f (a ∷ more) q.0 (q.1, h)

-- and so does what goes apart where there is a head
pub headed_each : (P : Term → Type 0) → ((f a : Term) → IsHead (head_of f) → P (app f a) → P f × P a) → (t : Term) (more : List Term) → IsHead
    (head_of t) → P t → EachOf P more → EachOf P (arguments_and t more)
headed_each P apart (index i) more h p w = w
headed_each P apart (atom a) more h p w = w
headed_each P apart (abs b) more h p w = w
headed_each P apart (app f a) more h p w = let q = apart f a h p in headed_each P apart f (a ∷ more) h q.0 (q.1, w)

pub pattern_arguments : (t : Term) → IsPatternTerm t → EachOf IsPatternTerm (arguments t)
pattern_arguments t p = arguments_each IsPatternTerm (λ f a q. pattern_apart q) t [] p tt

if_form : (k : ℕ) (b : Bool) (x y : Connective) → IsPatternForm k x → IsPatternForm k y → IsPatternForm k (if b then x else y)
if_form k true x y g h = g
if_form k false x y g h = h

opened_form : (k : ℕ) (a : Term) → IsPatternTerm a → IsNewTo (free k) a → IsPatternTerm (substitute (atom (eigen k)) (body_of a))
opened_form k a p n = pattern_reduces (body_opens a (atom (eigen k))) (on_name p (an_eigen k) n)

constant_form : (k c : ℕ) (ts : List Ty) (us : List Term) → EachOf IsPatternTerm us → EachOf (IsNewTo (free k)) us → IsPatternForm k (connective_of_constant c ts us)
constant_form k c ts [] h n = if_form k (nat_eq c 6) _ _ tt (if_form k (nat_eq c 7) _ _ tt tt)
constant_form k c (T ∷ []) (a ∷ []) h n = if_form k (nat_eq c 4) _ _ (opened_form k a h.0 n.0) (if_form k (nat_eq c 5) _ _ tt tt)
constant_form k c [] (a ∷ []) h n = if_form k (nat_eq c 24) _ _ h.0 tt
constant_form k c [] (a ∷ b ∷ []) h n =
    if_form k (nat_eq c 0) _ _ (h.0, h.1.0) (if_form k (nat_eq c 1) _ _ (h.0, h.1.0) (if_form k (nat_eq c 2) _ _ (h.0, h.1.0) (if_form k (nat_eq c 3) _ _ (h.1.0, h.0) tt)))
constant_form k c [] (a ∷ b ∷ x ∷ us) h n = tt
constant_form k c (T ∷ []) (a ∷ b ∷ us) h n = tt
constant_form k c (T ∷ U ∷ ts) (a ∷ []) h n = tt
constant_form k c (T ∷ U ∷ ts) (a ∷ b ∷ us) h n = tt

at_head : (k : ℕ) (x : Term) (us : List Term) → EachOf IsPatternTerm us → EachOf (IsNewTo (free k)) us → IsPatternForm k (connective_at x us)
at_head k (atom (constant c ts)) us h n = constant_form k c ts us h n
at_head k (atom (integer z)) us h n = tt
at_head k (atom (text s)) us h n = tt
at_head k (atom (eigen j)) us h n = tt
at_head k (atom (logic x l)) us h n = tt
at_head k (atom (param j T)) us h n = tt
at_head k (index i) us h n = tt
at_head k (abs b) us h n = tt
at_head k (app f a) us h n = tt

pub pattern_form : (t : Term) (k : ℕ) → IsPatternTerm t → IsNewTo (free k) t → IsPatternForm k (connective_of t)
pattern_form t k p n = at_head k (head_of t) (arguments t) (pattern_arguments t p) (arguments_each (IsNewTo (free k)) (λ f a q. q) t [] n tt)

-- a universal variable is new to another
index_new : (p : Name) (i : ℕ) → (bound i ≡ p → ⊥) → IsNewToIndex p i
index_new (bound j) i h = λ e. h (ap bound e)
index_new (free k) i h = tt

new_name : (Γ : List Binder) {m : Name} {t : Term} → Names m t → IsUniversal Γ m → (p : Name) → (m ≡ p → ⊥) → IsNewIn Γ p t
new_name Γ (an_index i) u p h = transport (λ o. IsNewAt o p i) (sym u) (index_new p i h)
new_name Γ (an_eigen k) u (bound j) h = tt
new_name Γ (an_eigen k) u (free j) h = λ e. h (ap free e)
new_name Γ (expanded {n = n} q r) u p h = (new_name (universal ∷ Γ) q (raised n u) (under p) (λ e. h (same_under n p e)), new_name (universal ∷ Γ) r refl (under p) (λ e. under_not p (sym e)))
  where
    raised : (n : Name) → IsUniversal Γ n → IsUniversal (universal ∷ Γ) (under n)
    raised (bound i) u = u
    raised (free k) u = tt

names_in : (Γ : List Binder) {n : Name} {t : Term} → Names n t → IsUniversal Γ n → IsPatternIn Γ t
names_in Γ (an_index i) u = index_in i u
names_in Γ (an_eigen k) u = atom_in (eigen k)
names_in Γ (expanded {n = n} q r) u =
    abs_in (name_in {n = bound 0} refl (names_in (universal ∷ Γ) q (raised n u)) r (new_name (universal ∷ Γ) q (raised n u) (bound 0) (under_not n)))
  where
    raised : (n : Name) → IsUniversal Γ n → IsUniversal (universal ∷ Γ) (under n)
    raised (bound i) u = u
    raised (free k) u = tt

text_apart : (Γ : List Binder) {t u : Term} → IsPatternIn Γ (app t u) → IsPatternIn Γ t × IsPatternIn Γ u
text_apart Γ (rigid_in r p q) = (p, q)
text_apart Γ (name_in u p q new) = (p, names_in Γ q u)

pub text_arguments : (l : ℕ) (Γ : List Binder) (t : Term) → IsPatternText l Γ t → EachOf (IsPatternText l Γ) (arguments t)
text_arguments l Γ t h = arguments_each (IsPatternText l Γ) (λ f a q. let p = text_apart Γ q.0 in ((p.0, q.1.0), (p.1, q.1.1))) t [] h tt
