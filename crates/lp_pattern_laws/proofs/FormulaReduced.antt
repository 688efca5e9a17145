-- What formulas reduce to has the same connective, and parts that these reduce to.
use Rattle.std.proofs.Common.{◌≡◌, ℕ, List, [], ◌∷◌, Bool, true, false, refl, sym, ap, ◌∙◌, subst as transport}
use Rattle.std.specs.Prelude.{nat_eq, if◌then◌else◌}
use Rattle.lp_calculus.specs.Types.{Ty}
use Rattle.lp_calculus.specs.Term.{Term, Atom, index, atom, abs, app, apply, constant, integer, text, eigen, logic, param}
use Rattle.lp_calculus.specs.Convert.{here, ReducesTo, done, then_step}
use Rattle.lp_calculus.specs.Normal.{IsHead}
use Rattle.lp_calculus.specs.Spine.{head_of, arguments, arguments_and}
use Rattle.lp_calculus.proofs.Steps.{Step}
use Rattle.lp_standard.specs.Connectives.{Connective, two, connective_of, connective_at, connective_of_constant}
use Rattle.lp_standard.specs.Connectives as connective
use Rattle.lp_proof_laws.proofs.Uniform.Forms.{apply_arguments}
use Rattle.lp_proof_laws.proofs.Uniform.Roots.{head_apply}
use Rattle.lp_search_laws.proofs.Reducts.{atom_reduces}
use Rattle.lp_pattern_laws.proofs.Comes.{EachReduces, none_reduce, more_reduce, spine_reduces}

pub record IsTwo (c : ℕ) (ts : List Ty) (a b s : Term) : Type 0 where
  pub left : Term
  pub right : Term
  pub is : s ≡ two c ts left right
  pub left_reduces : ReducesTo a left
  pub right_reduces : ReducesTo b right

pub two_reduces : (c : ℕ) (ts : List Ty) (a b s : Term) → ReducesTo (two c ts a b) s → IsTwo c ts a b s
two_reduces c ts a b s r =
    let x = spine_reduces (a ∷ b ∷ []) (atom (constant c ts)) s tt r in
    go x.arguments x.each (x.is ∙ ap (λ z. apply z x.arguments) (atom_reduces x.leads))
  where
    go : (us : List Term) → EachReduces (a ∷ b ∷ []) us → s ≡ apply (atom (constant c ts)) us → IsTwo c ts a b s
    go _ (more_reduce {u = x} p (more_reduce {u = y} q none_reduce)) e = record { left = x; right = y; is = e; left_reduces = p; right_reduces = q }

pub record IsOne (h : Atom) (a s : Term) : Type 0 where
  pub argument : Term
  pub is : s ≡ app (atom h) argument
  pub reduces : ReducesTo a argument

pub one_reduces : (h : Atom) (a s : Term) → ReducesTo (app (atom h) a) s → IsOne h a s
one_reduces h a s r =
    let x = spine_reduces (a ∷ []) (atom h) s tt r in
    go x.arguments x.each (x.is ∙ ap (λ z. apply z x.arguments) (atom_reduces x.leads))
  where
    go : (us : List Term) → EachReduces (a ∷ []) us → s ≡ apply (atom h) us → IsOne h a s
    go _ (more_reduce {u = x} p none_reduce) e = record { argument = x; is = e; reduces = p }

-- an atom
index_step : {i : ℕ} {s : Term} → Step (index i) s → ⊥
index_step (here x) = elim x [ ]

head_reduces : (h : Term) {s : Term} → IsHead h → ReducesTo h s → s ≡ h
head_reduces (index i) k (done t) = refl
head_reduces (index i) k (then_step p ps) = absurd (index_step p)
head_reduces (atom a) k r = atom_reduces r
head_reduces (abs b) k r = absurd k
head_reduces (app t u) k r = absurd k

own_head : (h : Term) → IsHead h → IsHead (head_of h)
own_head (index i) k = tt
own_head (atom a) k = tt
own_head (abs b) k = k
own_head (app t u) k = absurd k

if_stays : (b : Bool) (x p y q : Connective) → (x ≡ connective.Atomic → ⊥) → (y ≡ connective.Atomic → q ≡ connective.Atomic) → (if b then x else y) ≡
    connective.Atomic → (if b then p else q) ≡ connective.Atomic
if_stays true x p y q n f e = absurd (n e)
if_stays false x p y q n f e = f e

constant_stays : (c : ℕ) (ts : List Ty) {us vs : List Term} → EachReduces us vs → connective_of_constant c ts us ≡ connective.Atomic → connective_of_constant c ts vs ≡ connective.Atomic
constant_stays c ts none_reduce e = e
constant_stays c (T ∷ []) (more_reduce p none_reduce) e = if_stays (nat_eq c 4) _ _ _ _ (λ x. cc) (λ f. if_stays (nat_eq c 5) _ _ _ _ (λ x. cc) (λ g. g) f) e
constant_stays c [] (more_reduce p none_reduce) e = if_stays (nat_eq c 24) _ _ _ _ (λ x. cc) (λ g. g) e
constant_stays c [] (more_reduce p (more_reduce q none_reduce)) e =
    if_stays (nat_eq c 0) _ _ _ _ (λ x. cc) (λ f. if_stays (nat_eq c 1) _ _ _ _ (λ x. cc)
    (λ g. if_stays (nat_eq c 2) _ _ _ _ (λ x. cc) (λ h. if_stays (nat_eq c 3) _ _ _ _ (λ x. cc) (λ k. k) h) g) f) e
constant_stays c [] (more_reduce p (more_reduce q (more_reduce r rs))) e = refl
constant_stays c (T ∷ []) (more_reduce p (more_reduce q rs)) e = refl
constant_stays c (T ∷ U ∷ ts) (more_reduce p none_reduce) e = refl
constant_stays c (T ∷ U ∷ ts) (more_reduce p (more_reduce q rs)) e = refl

at_stays : (h : Term) {us vs : List Term} → EachReduces us vs → connective_at h us ≡ connective.Atomic → connective_at h vs ≡ connective.Atomic
at_stays (atom (constant c ts)) r e = constant_stays c ts r e
at_stays (atom (integer z)) r e = refl
at_stays (atom (text s)) r e = refl
at_stays (atom (eigen k)) r e = refl
at_stays (atom (logic x l)) r e = refl
at_stays (atom (param k T)) r e = refl
at_stays (index i) r e = refl
at_stays (abs b) r e = refl
at_stays (app t u) r e = refl

spine_arguments : (us : List Term) (t : Term) → arguments_and (apply t us) [] ≡ arguments_and t us
spine_arguments [] t = refl
spine_arguments (u ∷ us) t = spine_arguments us (app t u)

head_arguments : (h : Term) (us : List Term) → IsHead h → arguments_and h us ≡ us
head_arguments (index i) us k = refl
head_arguments (atom a) us k = refl
head_arguments (abs b) us k = absurd k
head_arguments (app t u) us k = absurd k

own : (h : Term) → IsHead h → head_of h ≡ h
own (index i) k = refl
own (atom a) k = refl
own (abs b) k = absurd k
own (app t u) k = absurd k

pub atomic_reduces : (t s : Term) → IsHead (head_of t) → ReducesTo t s → connective_of t ≡ connective.Atomic → connective_of s ≡ connective.Atomic
atomic_reduces t s k r e =
    let x = spine_reduces (arguments t) (head_of t) s (own_head (head_of t) k) (transport (λ z. ReducesTo z s) (sym (apply_arguments t [])) r) in
    let is : s ≡ apply (head_of t) x.arguments = x.is ∙ ap (λ z. apply z x.arguments) (head_reduces (head_of t) k x.leads) in
    let h : head_of s ≡ head_of t = ap head_of is ∙ head_apply (head_of t) x.arguments ∙ own (head_of t) k in
    let a : arguments s ≡ x.arguments = ap arguments is ∙ spine_arguments x.arguments (head_of t) ∙ head_arguments (head_of t) x.arguments k in
    ap (λ z. connective_at z (arguments s)) h ∙ ap (connective_at (head_of t)) a ∙ at_stays (head_of t) x.each e
