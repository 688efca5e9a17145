-- The candidates that are found are the clauses that the definition tries, in its order.
use Rattle.std.proofs.Common.{◌≡◌, ℕ, zero, suc, ◌-◌, List, [], ◌∷◌, ◌++◌, map, length, cond, refl, sym, ap, ◌∙◌, subst, arith, Bool, true, false, Option, None, Some, nat_eq}
use Rattle.std.specs.Prelude.{filter, ◌&&◌}
use Rattle.std.proofs.lemmas.Bool.Decides.{nat_tests}
use Rattle.lp_lemmas.proofs.Numbers.{nat_eq_self}
use Rattle.lp_calculus.specs.Spine.{head_of, arguments}
use Rattle.lp_calculus.specs.Term.{Term, Atom, index, atom, abs, app, constant, integer, text, eigen, logic, param}
use Rattle.lp_calculus.specs.Types.{Ty}
use Rattle.lp_term.specs.Nodes.{Nodes}
use Rattle.lp_model.specs.Flat.{Clause, clause, Clauses, no_clauses, clauses, clause_list}
use Rattle.lp_model.specs.Same.{same_name}
use Rattle.lp_model.specs.Search.{candidates, first_key, has_head, may_meet, passes as lets_pass}
use Rattle.lp_plain.specs.declared.candidates.Candidate.{Candidate}
use Rattle.lp_plain.specs.declared.candidates.Candidate.TheVariants as candidate
use Rattle.lp_plain.specs.declared.head.Head.{Head}
use Rattle.lp_plain.specs.declared.head.Head.TheVariants as head
use Rattle.lp_plain.specs.declared.head.Key.{Key}
use Rattle.lp_plain.specs.declared.table.Rule.{Rule}
use Rattle.lp_plain.specs.declared.table.Span.{Span}
use Rattle.lp_plain.specs.declared.table.Table.{Table}
use Rattle.lp_plain.specs.Assuming.{Lists, AreAssumed, head_term, is_for, is_head}
use Rattle.lp_plain.specs.Candidates.{constant_at, constant_of, in_turn, is_number, is_of, is_text_of, meets, meets_at, numbers, numbers_from, numbers_in, passes}
use Rattle.lp_plain.specs.Heads.{IsKey}
use Rattle.lp_plain.specs.Starts.{AreProgramOf}
use Rattle.lp_plain.specs.Tables.{AreRules, IsRule, Never, Shown, shown}
use Rattle.lp_plain.specs.Trying.{AreApplied, AreCandidates, AreOfProgram, HasArity, IsNoEigen, all_clauses, head_in}
use Rattle.lp_plain.proofs.Assumed.{rules_within}

-- keys meet as those of the definition

and_true : (b : Bool) → b ≡ (b && true)
and_true true = refl
and_true false = refl

keys_meet : (b : Nodes) (k l : Key) (a o : Option Atom) → IsKey b (Some k) a → IsKey b (Some l) o → meets b (Some k) (Some l) ≡ may_meet a o
keys_meet b (Key.Constant c) (Key.Constant d) a o h g = and_true (nat_eq c d) ∙ (λ i. may_meet (sym h i) (sym g i))
keys_meet b (Key.Constant c) (Key.Number z) a o h g = λ i. may_meet (sym h i) (sym g i)
keys_meet b (Key.Constant c) (Key.Text t) a o h g = λ i. may_meet (sym h i) (sym g.2 i)
keys_meet b (Key.Constant c) (Key.Eigen k) a o h g = λ i. may_meet (sym h i) (sym g i)
keys_meet b (Key.Number z) (Key.Constant c) a o h g = λ i. may_meet (sym h i) (sym g i)
keys_meet b (Key.Number y) (Key.Number z) a o h g = λ i. may_meet (sym h i) (sym g i)
keys_meet b (Key.Number z) (Key.Text t) a o h g = λ i. may_meet (sym h i) (sym g.2 i)
keys_meet b (Key.Number z) (Key.Eigen k) a o h g = λ i. may_meet (sym h i) (sym g i)
keys_meet b (Key.Text t) (Key.Constant c) a o h g = λ i. may_meet (sym h.2 i) (sym g i)
keys_meet b (Key.Text t) (Key.Number z) a o h g = λ i. may_meet (sym h.2 i) (sym g i)
keys_meet b (Key.Text s) (Key.Text t) a o h g = (λ i. is_text_of (h.1 i) (g.1 i)) ∙ (λ i. may_meet (sym h.2 i) (sym g.2 i))
keys_meet b (Key.Text t) (Key.Eigen k) a o h g = λ i. may_meet (sym h.2 i) (sym g i)
keys_meet b (Key.Eigen k) (Key.Constant c) a o h g = λ i. may_meet (sym h i) (sym g i)
keys_meet b (Key.Eigen k) (Key.Number z) a o h g = λ i. may_meet (sym h i) (sym g i)
keys_meet b (Key.Eigen k) (Key.Text t) a o h g = λ i. may_meet (sym h i) (sym g.2 i)
keys_meet b (Key.Eigen k) (Key.Eigen l) a o h g = λ i. may_meet (sym h i) (sym g i)

some_key : (b : Nodes) (k : Key) (a : Option Atom) → IsKey b (Some k) a → (x : Atom) × (a ≡ Some x)
some_key b (Key.Constant c) a h = (constant c [], h)
some_key b (Key.Number z) a h = (integer z, h)
some_key b (Key.Text t) a h = (text h.0, h.2)
some_key b (Key.Eigen k) a h = (eigen k, h)

pub meets_is : (b : Nodes) (k l : Option Key) (a o : Option Atom) → IsKey b k a → IsKey b l o → meets b k l ≡ may_meet a o
meets_is b None l a o h g = ap (λ x. may_meet x o) (sym h)
meets_is b (Some k) None a o h g = let s = some_key b k a h in (λ i. may_meet (sym s.1 i) (sym g i))
meets_is b (Some k) (Some l) a o h g = keys_meet b k l a o h g

-- heads are the same where they have the number

lengths_meet : (c d m n : ℕ) → (ar : ℕ → ℕ) → m ≡ ar d → n ≡ ar c → (nat_eq d c && nat_eq m n) ≡ nat_eq d c
lengths_meet c d m n ar e f = go (nat_eq d c) refl
  where
    go : (t : Bool) → nat_eq d c ≡ t → (nat_eq d c && nat_eq m n) ≡ nat_eq d c
    go true q =
        let s : d ≡ c = grind (arith, nat_tests, q) in
        let l : m ≡ n = e ∙ ap ar s ∙ sym f in
        sym (and_true (nat_eq d c) ∙ ap (λ x. nat_eq d c && x) (sym (nat_eq_self n) ∙ ap (λ x. nat_eq x n) (sym l)))
    go false q = ap (λ x. x && nat_eq m n) q ∙ sym q

constants_same : (ar : ℕ → ℕ) (u : Term) (c : ℕ) (ts : List Ty) → HasArity ar u → length ts ≡ ar c → same_name u (atom (constant c ts)) ≡ is_head (head.Constant c) (head_term u)
constants_same ar (index i) c ts a e = refl
constants_same ar (atom (constant d us)) c ts a e = lengths_meet c d (length us) (length ts) ar a e
constants_same ar (atom (integer z)) c ts a e = refl
constants_same ar (atom (text s)) c ts a e = refl
constants_same ar (atom (eigen k)) c ts a e = refl
constants_same ar (atom (logic x l)) c ts a e = refl
constants_same ar (atom (param k t)) c ts a e = refl
constants_same ar (abs b) c ts a e = refl
constants_same ar (app t v) c ts a e = refl

eigens_same : (u : Term) (k : ℕ) → same_name u (atom (eigen k)) ≡ is_head (head.Eigen k) (head_term u)
eigens_same (index i) k = refl
eigens_same (atom (constant d us)) k = refl
eigens_same (atom (integer z)) k = refl
eigens_same (atom (text s)) k = refl
eigens_same (atom (eigen l)) k = refl
eigens_same (atom (logic x l)) k = refl
eigens_same (atom (param i t)) k = refl
eigens_same (abs b) k = refl
eigens_same (app t v) k = refl

heads_same : (ar : ℕ → ℕ) (u v : Term) (h : Head) → HasArity ar u → HasArity ar v → head_term v ≡ Some h → same_name u v ≡ is_head h (head_term u)
heads_same ar u (index i) h a b e = absurd (cc)
heads_same ar u (atom (constant c ts)) h a b e = let q : head.Constant c ≡ h = cc in constants_same ar u c ts a b ∙ ap (λ x. is_head x (head_term u)) q
heads_same ar u (atom (integer z)) h a b e = absurd (cc)
heads_same ar u (atom (text s)) h a b e = absurd (cc)
heads_same ar u (atom (eigen k)) h a b e = let q : head.Eigen k ≡ h = cc in eigens_same u k ∙ ap (λ x. is_head x (head_term u)) q
heads_same ar u (atom (logic x l)) h a b e = absurd (cc)
heads_same ar u (atom (param k t)) h a b e = absurd (cc)
heads_same ar u (abs c) h a b e = absurd (cc)
heads_same ar u (app s w) h a b e = absurd (cc)

-- assumed clauses

head_is_for : (ar : ℕ → ℕ) (t : Term) (h : Head) (c : Clause) → HasArity ar (head_in c) → HasArity ar (head_of t) → head_term (head_of t) ≡ Some h → has_head t c ≡ is_for h c
head_is_for ar t h (clause n vs u body) a b e = heads_same ar (head_of u) (head_of t) h a b e

filter_heads : (ar : ℕ → ℕ) (t : Term) (h : Head) (cs : List Clause) → AreApplied ar cs → HasArity ar (head_of t) → head_term (head_of t) ≡ Some h → filter (has_head t) cs ≡ filter (is_for h) cs
filter_heads ar t h [] a b e = refl
filter_heads ar t h (c ∷ cs) a b e =
    ap (λ x. cond x (c ∷ filter (has_head t) cs) (filter (has_head t) cs)) (head_is_for ar t h c a.0 b e) ∙ ap (λ z. cond (is_for h c) (c ∷ z) z) (filter_heads ar t h cs a.1 b e)

assumed_candidates : (l : Lists) (ns : List ℕ) (cs : List Clause) → AreAssumed l ns cs → AreCandidates l (map (λ i. candidate.Assumed i) ns) cs
assumed_candidates l [] [] h = tt
assumed_candidates l [] (c ∷ cs) h = absurd h
assumed_candidates l (n ∷ ns) [] h = absurd h
assumed_candidates l (n ∷ ns) (c ∷ cs) h = (h.0, assumed_candidates l ns cs h.1)

pub candidates_append : (l : Lists) (ks js : List Candidate) (cs ds : List Clause) → AreCandidates l ks cs → AreCandidates l js ds → AreCandidates l (ks ++ js) (cs ++ ds)
candidates_append l [] js [] ds h g = g
candidates_append l [] js (c ∷ cs) ds h g = absurd h
candidates_append l (k ∷ ks) js [] ds h g = absurd h
candidates_append l (k ∷ ks) js (c ∷ cs) ds h g = (h.0, candidates_append l ks js cs ds h.1 g)

-- the program's

abbrev pub RulesAt : Nodes → Shown → List ℕ → List Clause → Type 0
RulesAt b t [] [] = Unit {0}
RulesAt b t [] (c ∷ cs) = ⊥
RulesAt b t (k ∷ ks) [] = ⊥
RulesAt b t (k ∷ ks) (c ∷ cs) = IsRule b Never t k c × RulesAt b t ks cs

rules_append : (b : Nodes) (t : Shown) (ks js : List ℕ) (cs ds : List Clause) → RulesAt b t ks cs → RulesAt b t js ds → RulesAt b t (ks ++ js) (cs ++ ds)
rules_append b t [] js [] ds h g = g
rules_append b t [] js (c ∷ cs) ds h g = absurd h
rules_append b t (k ∷ ks) js [] ds h g = absurd h
rules_append b t (k ∷ ks) js (c ∷ cs) ds h g = (h.0, rules_append b t ks js cs ds h.1 g)

rules_at : (b : Nodes) (t : Shown) (n from to : ℕ) (cs : Clauses) → AreRules b Never t from to cs → n ≡ to - from → RulesAt b t (numbers_from n from) (clause_list cs)
rules_at b t zero from to no_clauses h e = tt
rules_at b t (suc n) from to no_clauses h e = absurd (omega (arith, h, e))
rules_at b t zero from to (clauses c cs) h e = absurd (let l = rules_within b t (suc from) to cs h.1 in omega (arith, l, e))
rules_at b t (suc n) from to (clauses c cs) h e = (h.0, rules_at b t n (suc from) to cs h.1 (omega (arith, e)))

pub program_at : (b : Nodes) (t : Table) (ss : List Span) (css : List Clauses) → AreProgramOf b t ss css → RulesAt b (shown t) (numbers ss) (all_clauses css)
program_at b t [] [] h = tt
program_at b t [] (cs ∷ css) h = absurd h
program_at b t (s ∷ ss) [] h = absurd h
program_at b t (s ∷ ss) (cs ∷ css) h = rules_append b (shown t) (numbers_in s) (numbers ss) (clause_list cs) (all_clauses css)
    (rules_at b (shown t) (s.to - s.from) s.from s.to cs h.0 refl) (program_at b t ss css h.1)

constant_is_for : (c : ℕ) (u : Term) → is_number c (constant_of u) ≡ is_head (head.Constant c) (head_term u)
constant_is_for c (index i) = refl
constant_is_for c (atom (constant d us)) = refl
constant_is_for c (atom (integer z)) = refl
constant_is_for c (atom (text s)) = refl
constant_is_for c (atom (eigen l)) = refl
constant_is_for c (atom (logic x l)) = refl
constant_is_for c (atom (param i t)) = refl
constant_is_for c (abs b) = refl
constant_is_for c (app t v) = refl

-- no clause of a program has an eigenconstant at its head
no_eigen_head : (k : ℕ) (u : Term) → IsNoEigen u → same_name u (atom (eigen k)) ≡ false
no_eigen_head k (index i) h = refl
no_eigen_head k (atom (constant d us)) h = refl
no_eigen_head k (atom (integer z)) h = refl
no_eigen_head k (atom (text s)) h = refl
no_eigen_head k (atom (eigen l)) h = absurd h
no_eigen_head k (atom (logic x l)) h = refl
no_eigen_head k (atom (param i t)) h = refl
no_eigen_head k (abs b) h = refl
no_eigen_head k (app t v) h = refl

module _ (b : Nodes) (t : Shown) (ar : ℕ → ℕ) (goal : Term) (key : Option Key) (known : IsKey b key (first_key (arguments goal))) (arity : HasArity ar (head_of goal)) where
  tests_of : (c k : ℕ) (x : Clause) → head_term (head_of goal) ≡ Some (head.Constant c) → HasArity ar (head_in x) → IsRule b Never t k x → lets_pass
      goal x ≡ (is_of b t.rules c k && passes b t.rules key k)
  tests_of c k (clause n vs u body) e w r =
      let q : is_of b t.rules c k ≡ is_head (head.Constant c) (head_term (head_of u)) = ap (λ o. is_number c (constant_at b o)) r.1 ∙ ap
      (λ z. is_number c (constant_of z)) r.3.head ∙ constant_is_for c (head_of u) in
      let p : passes b t.rules key k ≡ may_meet (first_key (arguments u)) (first_key (arguments goal)) = ap (meets_at b key) r.1 ∙ meets_is b r.0.key key (first_key (arguments u)) (first_key (arguments goal)) r.3.key known in
      (λ i. heads_same ar (head_of u) (head_of goal) (head.Constant c) w arity e i && may_meet (first_key (arguments u)) (first_key (arguments goal))) ∙ (λ i. sym q i && sym p i)

  program_passes : (c : ℕ) (ks : List ℕ) (cs : List Clause) → head_term (head_of goal) ≡ Some (head.Constant c) → AreOfProgram ar cs → RulesAt b t ks
      cs → RulesAt b t (filter (passes b t.rules key) (filter (is_of b t.rules c) ks)) (filter (lets_pass goal) cs)
  program_passes c [] [] e w h = tt
  program_passes c [] (x ∷ cs) e w h = absurd h
  program_passes c (k ∷ ks) [] e w h = absurd h
  program_passes c (k ∷ ks) (x ∷ cs) e w h =
      subst (λ d. RulesAt b t (filter (passes b t.rules key) (filter (is_of b t.rules c) (k ∷ ks)))
      (cond d (x ∷ filter (lets_pass goal) cs) (filter (lets_pass goal) cs))) (sym (tests_of c k x e w.0 h.0))
      (go (is_of b t.rules c k) (passes b t.rules key k) refl (program_passes c ks cs e w.2 h.1))
    where
      go : (q p : Bool) → passes b t.rules key k ≡ p → RulesAt b t (filter (passes b t.rules key) (filter (is_of b t.rules c) ks)) (filter (lets_pass goal) cs) →
          RulesAt b t (filter (passes b t.rules key) (cond q (k ∷ filter (is_of b t.rules c) ks) (filter (is_of b t.rules c) ks)))
          (cond (q && p) (x ∷ filter (lets_pass goal) cs) (filter (lets_pass goal) cs))
      go false p f r = r
      go true true f r =
          subst (λ z. RulesAt b t (cond z (k ∷ filter (passes b t.rules key) (filter (is_of b t.rules c) ks))
          (filter (passes b t.rules key) (filter (is_of b t.rules c) ks))) (x ∷ filter (lets_pass goal) cs)) (sym f) (h.0, r)
      go true false f r =
          subst (λ z. RulesAt b t (cond z (k ∷ filter (passes b t.rules key) (filter (is_of b t.rules c) ks))
          (filter (passes b t.rules key) (filter (is_of b t.rules c) ks))) (filter (lets_pass goal) cs)) (sym f) r

  none_passes : (k : ℕ) (cs : List Clause) → head_of goal ≡ atom (eigen k) → AreOfProgram ar cs → filter (lets_pass goal) cs ≡ []
  none_passes k [] e w = refl
  none_passes k (clause n vs u body ∷ cs) e w =
      ap (λ z. cond (z && may_meet (first_key (arguments u)) (first_key (arguments goal))) (clause n vs u body ∷ filter (lets_pass goal) cs) (filter (lets_pass goal) cs))
      (ap (same_name (head_of u)) e ∙ no_eigen_head k (head_of u) w.1) ∙ none_passes k cs e w.2

program_candidates : (l : Lists) (ks : List ℕ) (cs : List Clause) → RulesAt l.bank (shown l.table) ks cs → AreCandidates l (map (λ i. candidate.Program i) ks) cs
program_candidates l [] [] h = tt
program_candidates l [] (c ∷ cs) h = absurd h
program_candidates l (k ∷ ks) [] h = absurd h
program_candidates l (k ∷ ks) (c ∷ cs) h = (h.0, program_candidates l ks cs h.1)

-- the numbers of the program's clauses for a head
abbrev pub program_for : Nodes → List Rule → Head → List ℕ → List ℕ
program_for b rules (head.Constant c) ks = filter (is_of b rules c) ks
program_for b rules (head.Eigen k) ks = []

eigen_of_head : (k : ℕ) (u : Term) → head_term u ≡ Some (head.Eigen k) → u ≡ atom (eigen k)
eigen_of_head k (index i) e = absurd (cc)
eigen_of_head k (atom (constant c ts)) e = absurd (cc)
eigen_of_head k (atom (integer z)) e = absurd (cc)
eigen_of_head k (atom (text s)) e = absurd (cc)
eigen_of_head k (atom (eigen l)) e = let q : l ≡ k = cc in ap (λ z. atom (eigen z)) q
eigen_of_head k (atom (logic x l)) e = absurd (cc)
eigen_of_head k (atom (param i t)) e = absurd (cc)
eigen_of_head k (abs b) e = absurd (cc)
eigen_of_head k (app t v) e = absurd (cc)

module _ (l : Lists) (ar : ℕ → ℕ) (h : Head) (key : Option Key) (goal : Term) (ss : List Span) (css : List Clauses) (before : List Clause) (ns : List ℕ) (p : AreProgramOf l.bank l.table ss css) (e : head_term (head_of goal) ≡ Some h)
    (w : HasArity ar (head_of goal)) (wp : AreOfProgram ar (all_clauses css)) (wb : AreApplied ar before) (k : IsKey l.bank key (first_key (arguments goal))) (found : AreAssumed l ns (filter (is_for h) before)) where
  of_program : (x : Head) → head_term (head_of goal) ≡ Some x →
      AreCandidates l (map (λ i. candidate.Program i) (filter (passes l.bank l.table.rules.items key) (program_for l.bank l.table.rules.items x (numbers ss)))) (filter (lets_pass goal) (all_clauses css))
  of_program (head.Constant c) q =
      program_candidates l (filter (passes l.bank l.table.rules.items key) (filter (is_of l.bank l.table.rules.items c) (numbers ss))) (filter (lets_pass goal) (all_clauses css))
      (program_passes l.bank (shown l.table) ar goal key k w c (numbers ss) (all_clauses css) q wp (program_at l.bank l.table ss css p))
  of_program (head.Eigen n) q = subst (AreCandidates l []) (sym (none_passes l.bank (shown l.table) ar goal key k w n (all_clauses css) (eigen_of_head n (head_of goal) q) wp)) tt

  pub program_are : AreCandidates l (map (λ i. candidate.Program i) (filter (passes l.bank l.table.rules.items key) (program_for l.bank l.table.rules.items h (numbers ss)))) (filter (lets_pass goal) (all_clauses css))
  program_are = of_program h e

  pub assumed_are : AreCandidates l (map (λ i. candidate.Assumed i) ns) (filter (has_head goal) before)
  assumed_are = assumed_candidates l ns (filter (has_head goal) before) (subst (AreAssumed l ns) (sym (filter_heads ar goal h before wb w e)) found)

  pub candidates_are : AreCandidates l (in_turn l.bank l.table.rules.items key ns (program_for l.bank l.table.rules.items h (numbers ss))) (candidates (all_clauses css) before goal)
  candidates_are =
      candidates_append l (map (λ i. candidate.Assumed i) ns) (map (λ i. candidate.Program i)
      (filter (passes l.bank l.table.rules.items key) (program_for l.bank l.table.rules.items h (numbers ss)))) (filter (has_head goal) before)
      (filter (lets_pass goal) (all_clauses css)) assumed_are program_are
