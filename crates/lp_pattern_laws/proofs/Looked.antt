-- What a look sees of a term that reduces to a pattern term, and the eigenconstants on which a variable stands there.
use Rattle.std.proofs.Common.{◌≡◌, ℕ, suc, ◌<◌, List, [], ◌∷◌, Option, Some, None, Bool, true, false, refl, sym, ap, ◌∙◌, subst as transport, arith}
use Rattle.std.specs.Prelude.{◌&&◌, ◌||◌, not, nat_eq, nat_lt, if◌then◌else◌, option_map, option_and_then}
use Rattle.std.proofs.lemmas.Option.{same_Some}
use Rattle.std.proofs.lemmas.Bool.Decides.{nat_tests}
use Rattle.lp_lemmas.proofs.Booleans.{and_true_left, and_true_right}
use Rattle.lp_calculus.specs.Term.{Term, index, atom, abs, app, apply, Atom, eigen, logic, constant, integer, text, param, shift}
use Rattle.lp_calculus.specs.Convert.{Converts, same, here, by_eta}
use Rattle.lp_calculus.specs.Normal.{IsNormal, eta_normal}
use Rattle.lp_calculus.specs.Fill.{Within}
use Rattle.lp_calculus.proofs.BetaEta.{normal_same, shift_one}
use Rattle.lp_calculus.proofs.Steps.{converts_abs, converts_app, converts_on, converts_step, converts_sym, converts_reduces, within_reduces}
use Rattle.lp_term.proofs.EtaForms.{form_is}
use Rattle.lp_unify_laws.proofs.Sames.{both_on}
use Rattle.lp_unify_laws.proofs.Termination.SemiForms.{normal_of}
use Rattle.lp_model.specs.Patterns.{eigens, member}
use Rattle.lp_model.specs.Eigens.{beta_normal, eigen_of, as_eigen}
use Rattle.lp_model.specs.Look.{as_eigens, are_distinct, are_above, only_if, pattern_of}
use Rattle.lp_search_laws.proofs.Reducts.{atom_reduces}
use Rattle.lp_pattern_laws.specs.Patterns.{Name, bound, free, under, IsNewTo, Names, an_index, an_eigen, expanded, IsRigid, rigid_atom, rigid_name, rigid_on, IsPatternTerm, of_atom, rigid, on_name, IsPattern}
use Rattle.lp_pattern_laws.proofs.Comes.{EachReduces, none_reduce, more_reduce, spine_reduces}
use Rattle.lp_pattern_laws.proofs.Naming.{own_not_new}
use Rattle.lp_pattern_laws.proofs.Reduced.{front_pattern}

-- a name as a term
abbrev name_term : Name → Term
name_term (bound i) = index i
name_term (free k) = atom (eigen k)

-- what is a name converts to it
raised_term : (n : Name) → name_term (under n) ≡ shift 0 1 (name_term n)
raised_term (bound i) = sym (shift_one (index i))
raised_term (free k) = refl

names_convert : {n : Name} {t : Term} → Names n t → Converts t (name_term n)
names_convert (an_index i) = same (index i)
names_convert (an_eigen k) = same (atom (eigen k))
names_convert (expanded {n = n} p q) =
    converts_on (converts_abs (converts_app (names_convert p) (names_convert q)))
    (transport (λ x. Converts (abs (app x (index 0))) (name_term n)) (sym (raised_term n)) (converts_step (here (by_eta (name_term n)))))

-- and what converts to an eigenconstant is seen to be it
eigen_normal : (k : ℕ) → IsNormal (atom (eigen k))
eigen_normal k s (here x) = elim x [ ]

eigen_is : (j k : ℕ) (t : Term) (o : Option ℕ) → Converts t (atom (eigen k)) → as_eigen j t ≡ Some o → o ≡ Some k
eigen_is j k t o h e = elim (beta_normal j t) as (λ x. beta_normal j t ≡ x → option_map (λ s. eigen_of (eta_normal s)) x ≡ Some o → o ≡ Some k) [
  | None ↦ λ p q. absurd (cc)
  | Some s ↦ λ p q.
      let z = normal_of j t s p in
      let f = form_is z.0 t s z.1 in
      let n : eta_normal s ≡ atom (eigen k) = normal_same (eta_normal s) (atom (eigen k)) f.1 (eigen_normal k) (converts_on (converts_sym (converts_reduces f.0)) h) in
      sym (same_Some (eigen_of (eta_normal s)) o q) ∙ ap eigen_of n
] refl e

-- in a term without loose indices a name is an eigenconstant
pub bound_within : (P : Atom → Type 0) {n : Name} {t : Term} → Names n t → (d i : ℕ) → Within P d t → n ≡ bound i → i < d
bound_within P (an_index j) d i h e = let q : j ≡ i = cc in transport (λ x. x < d) q h
bound_within P (an_eigen k) d i h e = absurd (cc)
bound_within P (expanded p q) d i h e = let l = bound_within P p (suc d) (suc i) h.0 (ap under e) in omega (arith, l)

pub names_free : (P : Atom → Type 0) (n : Name) {t : Term} → Names n t → Within P 0 t → (k : ℕ) × (n ≡ free k)
names_free P (bound i) h w = absurd (let l = bound_within P h 0 i w refl in omega (arith, l))
names_free P (free k) h w = (k, refl)

-- the head is a logic variable
abbrev pub IsFlexible : Term → Type 0
IsFlexible (index i) = ⊥
IsFlexible (atom (logic x l)) = Unit {0}
IsFlexible (atom (constant c ts)) = ⊥
IsFlexible (atom (integer z)) = ⊥
IsFlexible (atom (text s)) = ⊥
IsFlexible (atom (eigen k)) = ⊥
IsFlexible (atom (param i T)) = ⊥
IsFlexible (abs b) = ⊥
IsFlexible (app t u) = IsFlexible t

never_rigid : {t : Term} → IsRigid t → IsFlexible t → ⊥
never_rigid (rigid_atom (logic x l) r) h = r
never_rigid (rigid_atom (constant c ts) r) h = h
never_rigid (rigid_atom (integer z) r) h = h
never_rigid (rigid_atom (text s) r) h = h
never_rigid (rigid_atom (eigen k) r) h = h
never_rigid (rigid_atom (param i T) r) h = h
never_rigid (rigid_name (an_index i)) h = h
never_rigid (rigid_name (an_eigen k)) h = h
never_rigid (rigid_name (expanded p q)) h = h
never_rigid (rigid_on r) h = never_rigid r h

pub apply_front : (f : Term) (ts : List Term) → IsPatternTerm (apply f ts) → IsPatternTerm f
apply_front f [] h = h
apply_front f (t ∷ ts) h = front_pattern (apply_front (app f t) ts h)

pub within_front : (P : Atom → Type 0) (f : Term) (ts : List Term) → Within P 0 (apply f ts) → Within P 0 f
within_front P f [] h = h
within_front P f (t ∷ ts) h = (within_front P (app f t) ts h).0

-- eigenconstants that are new to a term
abbrev pub AreNew : Term → List ℕ → Type 0
AreNew f [] = Unit {0}
AreNew f (k ∷ ks) = IsNewTo (free k) f × AreNew f ks

fronts_new : (f u : Term) (ks : List ℕ) → AreNew (app f u) ks → AreNew f ks
fronts_new f u [] h = tt
fronts_new f u (k ∷ ks) h = (h.0.0, fronts_new f u ks h.1)

no_member : (f u : Term) (k : ℕ) → Names (free k) u → (ks : List ℕ) → AreNew (app f u) ks → member k ks ≡ false
no_member f u k p [] h = refl
no_member f u k p (j ∷ ks) h =
    let rest = no_member f u k p ks h.1 in
    let apart : k ≡ j → ⊥ = λ e. own_not_new p (free j) h.0.1 (ap free e) in
    let test : nat_eq k j ≡ false = grind (arith, nat_tests) in
    ap (λ b. b || member k ks) test ∙ rest

-- the eigenconstants to which the arguments of a variable come
pub record AreArguments (f : Term) (r : Option (List ℕ)) : Type 0 where
  pub names : List ℕ
  pub is : r ≡ Some names
  pub new : AreNew f names
  pub distinct : are_distinct names ≡ true

named_argument : (P : Atom → Type 0) (f t : Term) → IsFlexible f → IsPatternTerm (app f t) → Within P 0 t → (k : ℕ) × Names (free k) t × IsNewTo (free k) f
named_argument P f t x (rigid r p q) w = absurd (never_rigid r x)
named_argument P f t x (on_name {n = n} p q new) w =
    let (k, e) = names_free P n q w in
    (k, transport (λ m. Names m t) e q, transport (λ m. IsNewTo m f) e new)

arguments_are : (P : Atom → Type 0) (n : ℕ) {ts us : List Term} → EachReduces ts us → (f : Term) → IsFlexible f → IsPatternTerm (apply f us) → Within
    P 0 (apply f us) → (r : Option (List ℕ)) → as_eigens n ts ≡ Some r → AreArguments f r
arguments_are P n none_reduce f x h w r e = record { names = []; is = sym (same_Some (Some []) r e); new = tt; distinct = refl }
arguments_are P n (more_reduce {t = t} {u = u} {ts = ts} {us = us} c cs) f x h w r e = elim (as_eigen n t) as
    (λ o. as_eigen n t ≡ o → option_and_then (λ o'. elim o' [ None ↦ Some None | Some k ↦ option_map (option_map (λ ks. k ∷ ks)) (as_eigens n ts) ]) o
    ≡ Some r → AreArguments f r) [
      | None ↦ λ p q. absurd (cc)
      | Some o ↦ λ p q.
          let (k, named, new) = named_argument P f u x (apply_front (app f u) us h) (within_front P (app f u) us w).1 in
          let same : o ≡ Some k = eigen_is n k t o (converts_on (converts_reduces c) (names_convert named)) p in
          let rest : option_map (option_map (λ ks. k ∷ ks)) (as_eigens n ts) ≡ Some r =
          sym (ap (λ (o' : Option ℕ). elim o' as (λ z. Option (Option (List ℕ))) [ None ↦ Some None | Some k ↦ option_map (option_map (λ ks. k ∷ ks)) (as_eigens n ts) ]) same) ∙ q in
          go k named new (as_eigens n ts) (λ js d. arguments_are P n cs (app f u) x h w js d) rest
    ] refl e
  where
    go : (k : ℕ) → Names (free k) u → IsNewTo (free k) f → (o : Option (Option (List ℕ))) →
        ((js : Option (List ℕ)) → o ≡ Some js → AreArguments (app f u) js) → option_map (option_map (λ ks. k ∷ ks)) o ≡ Some r → AreArguments f r
    go k named new None ih e = absurd (cc)
    go k named new (Some js) ih e =
        let a = ih js refl in
        record {
          names = k ∷ a.names;
          is = sym (same_Some (option_map (λ ks. k ∷ ks) js) r e) ∙ ap (option_map (λ ks. k ∷ ks)) a.is;
          new = (new, fronts_new f u a.names a.new);
          distinct = both_on (not (member k a.names)) (are_distinct a.names) (ap not (no_member f u k named a.names a.new)) a.distinct;
        }

above_all : (x l : ℕ) (ks : List ℕ) → AreNew (atom (logic x l)) ks → are_above l ks ≡ true
above_all x l [] h = refl
above_all x l (k ∷ ks) h =
    let less : l < k = h.0 in
    let test : nat_lt l k ≡ true = grind (arith, nat_tests) in
    both_on (nat_lt l k) (are_above l ks) test (above_all x l ks h.1)

-- so a variable in a term that reduces to a pattern term stands on a pattern
pub stands_on_pattern : (P : Atom → Type 0) (n x l : ℕ) (ts : List Term) → IsPattern (apply (atom (logic x l)) ts) → Within P 0 (apply (atom (logic x l)) ts) →
    (r : Option (List ℕ)) → pattern_of n l ts ≡ Some r → (ks : List ℕ) × (r ≡ Some ks) × (are_distinct ks ≡ true) × (are_above l ks ≡ true)
stands_on_pattern P n x l ts h w r e = elim (as_eigens n ts) as (λ o. as_eigens n ts ≡ o → option_map
    (only_if (λ ks. are_distinct ks && are_above l ks)) o ≡ Some r → (ks : List ℕ) × (r ≡ Some ks) × (are_distinct ks ≡ true) ×
    (are_above l ks ≡ true)) [
      | None ↦ λ p q. absurd (cc)
      | Some js ↦ λ p q.
          let s = spine_reduces ts (atom (logic x l)) h.form tt h.reduces in
          let form : h.form ≡ apply (atom (logic x l)) s.arguments = s.is ∙ ap (λ z. apply z s.arguments) (atom_reduces s.leads) in
          let a = arguments_are P n s.each (atom (logic x l)) tt (transport IsPatternTerm form h.pattern) (transport (Within P 0) form (within_reduces P 0 h.reduces w)) js p in
          let above = above_all x l a.names a.new in
          let test = both_on (are_distinct a.names) (are_above l a.names) a.distinct above in (
            a.names,
            sym (same_Some (only_if (λ ks. are_distinct ks && are_above l ks) js) r q) ∙ ap (only_if (λ ks. are_distinct ks && are_above l ks)) a.is ∙ ap (λ b. if b then Some a.names else None) test,
            a.distinct,
            above,
          )
    ] refl e

-- and what stands on a pattern is a pattern term
later_new : (f : Term) (k : ℕ) (ks : List ℕ) → member k ks ≡ false → AreNew f ks → AreNew (app f (atom (eigen k))) ks
later_new f k [] e h = tt
later_new f k (j ∷ ks) e h =
    let apart : k ≡ j → ⊥ = λ q. (let t : nat_eq k j ≡ true = grind (arith, nat_tests) in let c : true ≡ false = sym (ap (λ b. b || member k ks) t) ∙ e in cc) in
    let rest : member k ks ≡ false = tail_false (nat_eq k j) (member k ks) e in
    ((h.0, apart), later_new f k ks rest h.1)
  where
    tail_false : (a b : Bool) → (a || b) ≡ false → b ≡ false
    tail_false true b e = absurd (cc)
    tail_false false b e = e

pub not_true : (b : Bool) → not b ≡ true → b ≡ false
not_true true e = absurd (cc)
not_true false e = refl

pub pattern_on : (ks : List ℕ) (f : Term) → IsPatternTerm f → AreNew f ks → are_distinct ks ≡ true → IsPatternTerm (apply f (eigens ks))
pattern_on [] f h new d = h
pattern_on (k ∷ ks) f h new d =
    pattern_on ks (app f (atom (eigen k))) (on_name h (an_eigen k) new.0) (later_new f k ks (not_true (member k ks) (and_true_left (not (member k ks)) (are_distinct ks) d)) new.1)
    (and_true_right (not (member k ks)) (are_distinct ks) d)

all_above : (x l : ℕ) (ks : List ℕ) → are_above l ks ≡ true → AreNew (atom (logic x l)) ks
all_above x l [] e = tt
all_above x l (k ∷ ks) e =
    let a = and_true_left (nat_lt l k) (are_above l ks) e in
    let less : l < k = grind (arith, nat_tests) in
    (less, all_above x l ks (and_true_right (nat_lt l k) (are_above l ks) e))

pub variable_pattern : (x l : ℕ) (ks : List ℕ) → are_distinct ks ≡ true → are_above l ks ≡ true → IsPatternTerm (apply (atom (logic x l)) (eigens ks))
variable_pattern x l ks d a = pattern_on ks (atom (logic x l)) (of_atom (logic x l)) (all_above x l ks a) d
