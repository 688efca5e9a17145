-- Closings: what stands in what they give, and terms that agree on a new eigenconstant.
use Rattle.std.proofs.Common.{◌≡◌, ℕ, suc, ◌<◌, ◌≤◌, List, [], ◌∷◌, length, refl, ap, arith}
use Rattle.lp_calculus.specs.Term.{Term, atom, app, apply, Atom, constant, integer, text, eigen, logic, param}
use Rattle.lp_calculus.specs.Convert.{Converts}
use Rattle.lp_calculus.specs.Fill.{Within, at_variables, close}
use Rattle.lp_unify_laws.specs.Levels.{IsLevelAtom, IsClosing, IsPairAtom}
use Rattle.lp_calculus.proofs.Fills.{within_fill, within_more}
use Rattle.lp_calculus.proofs.Steps.{converts_on, converts_sym}
use Rattle.lp_unify_laws.proofs.Abstractions.{Not, abstraction_eta, converts_abstraction}

pub closed_more : (l n : ℕ) → l ≤ n → (a : Atom) → IsLevelAtom l a → IsLevelAtom n a
closed_more l n h (eigen k) p = let q : k ≤ l = p in let r : k ≤ n = omega arith in r
closed_more l n h (logic x m) p = p
closed_more l n h (constant c ts) p = p
closed_more l n h (integer z) p = p
closed_more l n h (text s) p = p
closed_more l n h (param k t) p = p

close_atom : (next n : ℕ) (σ : ℕ → ℕ → Term) → IsClosing σ → (a : Atom) → IsPairAtom next n a → Within (IsLevelAtom n) 0 (at_variables σ a)
close_atom next n σ c (eigen k) p = p
close_atom next n σ c (logic x l) p = within_more (IsLevelAtom l) (IsLevelAtom n) 0 0 (closed_more l n p.1) (omega arith) (σ x l) (c.closed x l)
close_atom next n σ c (constant k ts) p = tt
close_atom next n σ c (integer z) p = tt
close_atom next n σ c (text s) p = tt
close_atom next n σ c (param k t) p = tt

pub within_close : (next n : ℕ) (σ : ℕ → ℕ → Term) → IsClosing σ → (t : Term) → Within (IsPairAtom next n) 0 t → Within (IsLevelAtom n) 0 (close σ t)
within_close next n σ c t w = within_fill (IsPairAtom next n) (IsLevelAtom n) (at_variables σ) 0 (close_atom next n σ c) t w

pub closed_not : (l c : ℕ) → l < c → (a : Atom) → IsLevelAtom l a → Not c a
closed_not l c h (eigen k) p = λ e. omega arith
closed_not l c h (logic x m) p = tt
closed_not l c h (constant k ts) p = tt
closed_not l c h (integer z) p = tt
closed_not l c h (text s) p = tt
closed_not l c h (param k t) p = tt

-- terms that agree on an eigenconstant that they do not have
pub agree_on : (c : ℕ) (t u : Term) → Within (Not c) 0 t → Within (Not c) 0 u → Converts (app t (atom (eigen c))) (app u (atom (eigen c))) → Converts t u
agree_on c t u w v h = converts_on (converts_sym (abstraction_eta c t w)) (converts_on (converts_abstraction c h) (abstraction_eta c u v))

pub pair_more : (next n m : ℕ) → n ≤ m → (a : Atom) → IsPairAtom next n a → IsPairAtom next m a
pair_more next n m h (eigen k) p = let q : k ≤ n = p in let r : k ≤ m = omega arith in r
pair_more next n m h (logic x l) p = let q : l ≤ n = p.1 in let r : l ≤ m = omega arith in (p.0, r)
pair_more next n m h (constant k ts) p = tt
pair_more next n m h (integer z) p = tt
pair_more next n m h (text s) p = tt
pair_more next n m h (param k t) p = tt

abbrev pub WithinAll : (Atom → Type 0) → List Term → Type 0
WithinAll P [] = Unit {0}
WithinAll P (t ∷ ts) = Within P 0 t × WithinAll P ts

pub within_apply : (P : Atom → Type 0) (ts : List Term) (h : Term) → Within P 0 (apply h ts) → Within P 0 h × WithinAll P ts
within_apply P [] h w = (w, tt)
within_apply P (t ∷ ts) h w = let r = within_apply P ts (app h t) w in (r.0.0, (r.0.1, r.1))

pub apply_within : (P : Atom → Type 0) (ts : List Term) (h : Term) → Within P 0 h → WithinAll P ts → Within P 0 (apply h ts)
apply_within P [] h w v = w
apply_within P (t ∷ ts) h w v = apply_within P ts (app h t) (w, v.0) v.1

-- closing an application
abbrev pub close_all : (ℕ → ℕ → Term) → List Term → List Term
close_all σ [] = []
close_all σ (t ∷ ts) = close σ t ∷ close_all σ ts

pub close_apply : (σ : ℕ → ℕ → Term) (ts : List Term) (h : Term) → close σ (apply h ts) ≡ apply (close σ h) (close_all σ ts)
close_apply σ [] h = refl
close_apply σ (t ∷ ts) h = close_apply σ ts (app h t)

pub length_close : (σ : ℕ → ℕ → Term) (ts : List Term) → length (close_all σ ts) ≡ length ts
length_close σ [] = refl
length_close σ (t ∷ ts) = ap suc (length_close σ ts)
