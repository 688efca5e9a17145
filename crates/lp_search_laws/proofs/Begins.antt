-- The branch that a search starts with is typed, and its solutions are the instances for which the query is provable.
use Rattle.lp_proof_laws.specs.Filled.{IsSourceAtom}
use Rattle.lp_calculus.specs.Closed.{AllAtoms}
use Rattle.lp_proof_laws.proofs.Uniform.Assumptions.{AreKept}
use Rattle.lp_proof_laws.proofs.Uniform.Settings.{IsSetting}
use Rattle.std.proofs.Common.{◌≡◌, ℕ, zero, suc, ◌+◌, ◌-◌, ◌≤◌, ◌<◌, List, [], ◌∷◌, ◌++◌, map, length, reverse, Some, refl, sym, ap, ◌∙◌, subst as transport, arith, append-nil}
use Rattle.std.specs.Prelude.{slice_get, option_map}
use Rattle.std.proofs.lemmas.List.{length-reverse, length-map}
use Rattle.lp_unify_laws.specs.TypesBelow.{IsTypeBelow, AreTysBelow, AreTypesBelow}
use Rattle.lp_calculus.specs.Types.{Ty, Tys, var, param as type_param, con, arrow, no_types, types, instance, instances}
use Rattle.lp_calculus.specs.Term.{Term, Atom, atom, constant, integer, text, eigen, logic, param, index, abs, app}
use Rattle.lp_calculus.specs.Fill.{Within}
use Rattle.lp_calculus.specs.Typing.{atom_type, o_type, type_at}
use Rattle.lp_calculus.proofs.Sigma.{subst}
use Rattle.lp_calculus.proofs.Fills.{within_subst, within_more}
use Rattle.lp_calculus.proofs.Steps.{within_reduces}
use Rattle.lp_calculus.proofs.Subject.{typed_reduces, typed_subst}
use Rattle.lp_calculus.proofs.Typings.{instance_typed}
use Rattle.lp_lemmas.specs.Each.{EachOf}
use Rattle.lp_model.specs.Eigens.{beta_normal}
use Rattle.lp_model.specs.Pair.{Closing}
use Rattle.lp_model.specs.Flat.{Goal, Goals, no_goals, goals, Clause, clause, Clauses, no_clauses, clauses, clause_list, goal_list, instantiate_goals, formula_of_goal, formula_of_goals, formula_of_clause}
use Rattle.lp_model.specs.Flatten.{ClauseFormula, with_type_vars, flat_goal, flatten_query}
use Rattle.lp_standard.specs.Schemes.{IsStandard}
use Rattle.lp_model.specs.Proofs.{AreFlattened, Declared, under, IsSentence, Leaves, ProvableBy}
use Rattle.lp_model.specs.Answers.{Query, Variable, type_of, over, IsPrefix, IsScopedAtom, AreTypedValues, IsWellFormed, Instance, filled}
use Rattle.lp_model.specs.Branch.{nothing_written, Branch, Go, entries}
use Rattle.lp_model.specs.Search.{vars_from, types_from, start}
use Rattle.lp_proof_laws.proofs.Uniform.Formulas.{typed_more}
use Rattle.lp_proof_laws.proofs.Uniform.Openings.{instantiate_subst}
use Rattle.lp_unify_laws.proofs.Looks.{beta_reduces}
use Rattle.lp_unify_laws.proofs.TypedInstances.{get_map}
use Rattle.lp_search_laws.specs.Holds.{Holds, IsTyped}
use Rattle.lp_search_laws.specs.Started.{IsQueryAtom, IsTypedQuery, IsTypedSentence, outermost, IsProvableBy}
use Rattle.lp_search_laws.specs.Clauses.{sentence_of, clauses_at}
use Rattle.lp_search_laws.specs.Branches.{IsPlainTerm, IsClause, IsProgramTyped, IsTypedBranch, IsPlainVariable, SolvesBranch}
use Rattle.lp_search_laws.specs.Begun.{first_branch, first_typing}
use Rattle.lp_search_laws.proofs.Opened.{goals_instantiate}
use Rattle.lp_search_laws.specs.Written.{AreWrittenGoals, AreWrittenClauses}
use Rattle.lp_search_laws.proofs.Written.{instantiated_goals}
use Rattle.lp_search_laws.proofs.WrittenFlat.{goals_written, clauses_written}
use Rattle.lp_search_laws.proofs.Fronts.{MayStand, each_at, entries_hold, hold_entries}
use Rattle.lp_search_laws.proofs.FlatViews.{goals_stand}
use Rattle.lp_search_laws.proofs.TypedParts.{goals_put, MayPut}
use Rattle.lp_lemmas.proofs.Options.{and_then_some, option_map_some}
use Rattle.lp_search_laws.proofs.Programs.{flattened, program_reads_back}
use Rattle.lp_search_laws.proofs.Queries.{get_reverse, term_shut, at_closed, query_starts}
use Rattle.lp_search_laws.proofs.TypedFlats.{IsOver, AreFine, ClausesFine, goals_fine, clauses_fine, first_of}

-- sentences
pub typed_sentence : (d : Declared) (D : ClauseFormula) → IsTypedSentence d D → IsSentence d D
typed_sentence d D s = record {
  instances = λ ts l k. record {
    typed = instance_typed (type_at ts) (under d []) [] D.formula o_type s.typed;
    closed = term_shut (type_at ts) (at_closed ts k) D.type_vars 0 D.formula s.within;
  };
}

pub each_sentence : (d : Declared) (F : List ClauseFormula) → EachOf (IsTypedSentence d) F → EachOf (IsSentence d) F
each_sentence d [] h = tt
each_sentence d (D ∷ F) h = (typed_sentence d D h.0, each_sentence d F h.1)

no_scope : (k : ℕ) (V : List Variable) (a : Atom) → IsQueryAtom k a → IsScopedAtom V [] a
no_scope k V (constant c ts) h = tt
no_scope k V (integer z) h = tt
no_scope k V (text s) h = tt
no_scope k V (eigen j) h = absurd h
no_scope k V (logic x l) h = absurd h
no_scope k V (param j T) h = tt

-- it has no logic variable
source_atom : (k : ℕ) (a : Atom) → IsQueryAtom k a → IsSourceAtom a
source_atom k (constant c ts) h = tt
source_atom k (integer z) h = tt
source_atom k (text s) h = tt
source_atom k (eigen j) h = tt
source_atom k (logic x l) h = absurd h
source_atom k (param j T) h = tt

pub query_source : (k n : ℕ) (t : Term) → Within (IsQueryAtom k) n t → AllAtoms IsSourceAtom t
query_source k n (index i) w = tt
query_source k n (atom a) w = source_atom k a w
query_source k n (abs b) w = query_source k (suc n) b w
query_source k n (app t u) w = (query_source k n t w.0, query_source k n u w.1)

module _ (d : Declared) (std : IsStandard d) where
  same_count : (n k : ℕ) (vs : List Ty) (h : Term) (b : Goals) → formula_of_clause (clause n vs h b) ≡ formula_of_clause (clause k vs h b)
  same_count n k vs h no_goals = refl
  same_count n k vs h (goals g gs) = refl

  program_clause : (n k : ℕ) (vs : List Ty) (h : Term) (b : Goals) → IsOver d k [] (formula_of_clause (clause n vs h b)) → IsClause k [] (clause n vs h b) → AreWrittenGoals b → IsProgramTyped d (clause k vs h b)
  program_clause n k vs h b o c w = record {
    typed = transport (λ z. IsTyped d [] [] z o_type) (same_count n k vs h b) (record { typed = o.typed; scoped = within_more (IsQueryAtom k) (IsScopedAtom [] []) 0 0 (no_scope k []) (omega arith) (formula_of_clause (clause n vs h b)) o.within });
    form = c;
    written = w;
  }

  program_clauses : (k : ℕ) (cs : Clauses) → ClausesFine d k [] [] cs → AreWrittenClauses cs → EachOf (IsProgramTyped d) (clause_list (with_type_vars k cs))
  program_clauses k no_clauses f w = tt
  program_clauses k (clauses (clause n vs h b) cs) f w =
      let p = first_of d std k [] (clause n vs h b) cs f.over in
      (program_clause n k vs h b p.0 f.form.1 w.0, program_clauses k cs (record { over = p.1; form = f.form.2 }) w.1)

  each_append : {A : Type 0} (X : A → Type 0) (xs ys : List A) → EachOf X xs → EachOf X ys → EachOf X (xs ++ ys)
  each_append X [] ys h k = k
  each_append X (x ∷ xs) ys h k = (h.0, each_append X xs ys h.1 k)

  pub program_typed : (F : List ClauseFormula) (P : List Clause) → EachOf (IsTypedSentence d) F → AreFlattened d F P → EachOf (IsProgramTyped d) P
  program_typed [] P s x = transport (EachOf (IsProgramTyped d)) (sym x) tt
  program_typed (D ∷ F) P s x =
      let y = flattened x.0 d D x.1 x.3 in
      let o : IsOver d D.type_vars [] y.form = record { typed = typed_reduces (atom_type (under d [])) [] y.leads o_type s.0.typed; within = within_reduces (IsQueryAtom D.type_vars) 0 y.leads s.0.within } in
      let here = transport (λ z. EachOf (IsProgramTyped d) (clause_list z)) y.is (program_clauses D.type_vars y.plain
      (clauses_fine d std D.type_vars x.0 y.form y.plain [] y.flat o) (clauses_written IsSourceAtom (λ a h. h) d x.0 [] y.form y.plain y.flat
      (query_source D.type_vars 0 y.form o.within))) in
      transport (EachOf (IsProgramTyped d)) (sym x.5) (each_append (IsProgramTyped d) (clause_list x.1) x.2 here (program_typed F x.2 s.1 x.4))

-- the query's type variables and variables
pub from_count : (k m : ℕ) → length (types_from k m) ≡ k
from_count zero m = refl
from_count (suc k) m = ap suc (from_count k (suc m))

pub from_below : (k m j : ℕ) → m + k ≤ j → AreTypesBelow j (types_from k m)
from_below zero m j l = tt
from_below (suc k) m j l = (omega (l, arith), from_below k (suc m) j (omega (l, arith)))

from_at : (k m i : ℕ) → i < k → type_at (types_from k m) i ≡ var (m + i)
from_at zero m i l = absurd (omega (l, arith))
from_at (suc k) m zero l = let e : m ≡ m + 0 = omega arith in ap var e
from_at (suc k) m (suc i) l = let e : suc m + i ≡ m + suc i = omega arith in from_at k (suc m) i (omega (l, arith)) ∙ ap var e

mutual
  pub type_stays : (f : ℕ → Ty) (k : ℕ) → ((i : ℕ) → i < k → f i ≡ var i) → (T : Ty) → IsTypeBelow k T → instance f T ≡ T
  type_stays f k h (var i) w = h i w
  type_stays f k h (type_param n) w = refl
  type_stays f k h (con c ts) w = ap (con c) (types_stay f k h ts w)
  type_stays f k h (arrow a b) w = λ i. arrow (type_stays f k h a w.0 i) (type_stays f k h b w.1 i)

  types_stay : (f : ℕ → Ty) (k : ℕ) → ((i : ℕ) → i < k → f i ≡ var i) → (ts : Tys) → AreTysBelow k ts → instances f ts ≡ ts
  types_stay f k h no_types w = refl
  types_stay f k h (types t ts) w = λ i. types (type_stays f k h t w.0 i) (types_stay f k h ts w.1 i)

list_stays : (f : ℕ → Ty) (k : ℕ) → ((i : ℕ) → i < k → f i ≡ var i) → (ts : List Ty) → AreTypesBelow k ts → map (instance f) ts ≡ ts
list_stays f k h [] w = refl
list_stays f k h (t ∷ ts) w = λ i. type_stays f k h t w.0 i ∷ list_stays f k h ts w.1 i

values_typed : (d : Declared) (V : List Variable) (Ts : List Ty) (m : ℕ) → ((i : ℕ) (T : Ty) → slice_get Ts i ≡ Some T → slice_get V (m + i) ≡ Some (outermost T)) → AreTypedValues d V (vars_from (length Ts) m) Ts
values_typed d V [] m h = tt
values_typed d V (T ∷ Ts) m h =
    let e : m + 0 ≡ m = omega arith in
    let g : slice_get V m ≡ Some (outermost T) = ap (slice_get V) (sym e) ∙ h 0 T refl in
    (record { typed = ap (λ o. type_of o 0) g; outermost = refl; positive = tt }, values_typed d V Ts (suc m) (λ i U w. let f : suc m + i ≡ m + suc i = omega arith in ap (slice_get V) f ∙ h (suc i) U w))

plain_values : (j k m : ℕ) → EachOf (IsPlainTerm j) (vars_from k m)
plain_values j zero m = tt
plain_values j (suc k) m = (tt, plain_values j k (suc m))

plain_variables : (j : ℕ) (Ts : List Ty) → AreTypesBelow j Ts → EachOf (IsPlainVariable j) (map outermost Ts)
plain_variables j [] h = tt
plain_variables j (T ∷ Ts) h = (record { type = h.0; scope = tt }, plain_variables j Ts h.1)

module _ (d : Declared) (std : IsStandard d) (m : ℕ) (q : Query) (gs : Goals) (t : IsTypedQuery d q) (e : flatten_query m d q.formula ≡ Some gs) where
  abbrev V : List Variable
  V = map outermost q.vars

  abbrev put_in : ℕ → Term
  put_in k = atom (logic (length q.vars - suc k) 0)

  more : (a : Atom) (T : Ty) → atom_type (under d []) a ≡ Some T → atom_type (over d [] V) a ≡ Some T
  more (constant c ts) T w = w
  more (integer z) T w = w
  more (text s) T w = w
  more (eigen j) T w = w
  more (logic x l) T w = absurd (cc)
  more (param j U) T w = w

  pub fine : AreFine d q.type_vars (reverse q.vars) [] gs
  fine =
      let b = and_then_some (beta_normal m q.formula) (λ s. flat_goal m d [] s no_goals) gs e in
      let r = beta_reduces m q.formula b.0 b.1 in
      let w = transport (λ z. Within (IsQueryAtom q.type_vars) z q.formula) (sym (length-reverse q.vars)) t.within in
      goals_fine d std q.type_vars m [] b.0 gs (reverse q.vars) b.2 (record { typed = typed_reduces (atom_type (under d [])) (reverse q.vars) r o_type t.typed; within = within_reduces (IsQueryAtom q.type_vars) (length (reverse q.vars)) r w })

  variable_at : (i : ℕ) (T : Ty) → slice_get (reverse q.vars) i ≡ Some T → slice_get V (length q.vars - suc i) ≡ Some (outermost T)
  variable_at i T w = let r = get_reverse q.vars i T w in get_map outermost q.vars (length q.vars - suc i) ∙ ap (option_map outermost) r.1

  scope_at : (i : ℕ) → Within (IsScopedAtom V []) 0 (put_in i)
  scope_at i v w =
      let m = option_map_some (slice_get q.vars (length q.vars - suc i)) outermost v (sym (get_map outermost q.vars (length q.vars - suc i)) ∙ w) in
      transport (λ z. IsPrefix z.scope []) m.2 (record { rest = []; is = refl })

  goals_typed_in : IsTyped d [] V (formula_of_goals (instantiate_goals put_in gs)) o_type
  goals_typed_in =
      let x = formula_of_goals gs in
      let y : subst put_in x ≡ formula_of_goals (instantiate_goals put_in gs) = sym (instantiate_subst put_in x) ∙ sym (goals_instantiate put_in gs) in
      transport (λ z. IsTyped d [] V z o_type) y (record {
        typed = typed_subst (atom_type (over d [] V)) (reverse q.vars) [] put_in (λ i A w. ap (λ o. type_of o 0) (variable_at i A w)) x o_type (typed_more (atom_type (under d [])) (atom_type (over d [] V)) more (reverse q.vars) x o_type fine.over.typed);
        scoped = within_subst (IsScopedAtom V []) put_in (length (reverse q.vars)) 0 (λ i l. scope_at i) x (within_more (IsQueryAtom q.type_vars) (IsScopedAtom V []) (length (reverse q.vars)) (length (reverse q.vars)) (no_scope q.type_vars V) (omega arith) x fine.over.within);
      })

  may_put : MayPut q.type_vars [] [] put_in
  may_put = record { plain = λ i. tt; heads = λ i w. absurd (cc) }

  stand : MayStand d V q.type_vars (each_at [] (goal_list (instantiate_goals put_in gs))) (entries (goal_list (instantiate_goals put_in gs)) [] nothing_written 0 0)
  stand = goals_stand d std V q.type_vars [] [] nothing_written 0 0 (record { is_level = refl; below = tt; typed = tt; plain = tt }) (record { clauses = tt; terms = tt; origins = tt }) (instantiate_goals put_in gs) goals_typed_in (goals_put q.type_vars [] [] put_in may_put gs fine.form)
      (instantiated_goals put_in gs (let b = and_then_some (beta_normal m q.formula) (λ s. flat_goal m d [] s no_goals) gs e in goals_written
      IsSourceAtom (λ a h. h) d m [] b.0 gs b.2 (query_source q.type_vars (length q.vars) b.0
      (within_reduces (IsQueryAtom q.type_vars) (length q.vars) (beta_reduces m q.formula b.0 b.1) t.within))))

  vars_stay : map (instance (type_at (types_from q.type_vars 0))) q.vars ≡ q.vars
  vars_stay = list_stays (type_at (types_from q.type_vars 0)) q.type_vars (λ i l. let a : 0 + i ≡ i = omega arith in from_at q.type_vars 0 i l ∙ ap var a) q.vars t.vars

  well_formed : IsWellFormed d q (first_typing q gs).answer (record { next = length q.vars; next_type = q.type_vars; types = types_from q.type_vars 0; values = vars_from (length q.vars) 0; pairs = [] })
  well_formed = record {
    variables = length-map q.vars outermost;
    types = from_count q.type_vars 0;
    values = transport (AreTypedValues d V (vars_from (length q.vars) 0)) (sym vars_stay) (values_typed d V q.vars 0 (λ i T w. let a : 0 + i ≡ i = omega arith in ap (slice_get V) a ∙ get_map outermost q.vars i ∙ ap (option_map outermost) w));
    pairs = tt;
  }

  pub start_typed : (n steps answers : ℕ) → ((start q.type_vars (length q.vars) gs steps answers).stack ≡ Go (first_branch q.type_vars (length q.vars) gs) ∷ []) × IsTypedBranch n d q (first_typing q gs) (first_branch q.type_vars (length q.vars) gs)
  start_typed n steps answers = (
    refl,
    record {
      answer = well_formed;
      entries = stand.typed;
      variables = plain_variables q.type_vars q.vars t.vars;
      types = from_below q.type_vars 0 q.type_vars (omega arith);
      values = plain_values q.type_vars (length q.vars) 0;
      pairs = tt;
      goals = stand.plain;
      written = stand.written;
      stuck = tt;
    },
  )

module _ {L : Leaves} (d : Declared) (std : IsSetting L d) (m : ℕ) (q : Query) (gs : Goals) (t : IsTypedQuery d q) (e : flatten_query m d q.formula ≡ Some gs) where
  abbrev put_here : ℕ → Term
  put_here k = atom (logic (length q.vars - suc k) 0)

  -- solutions
  module _ (F : List ClauseFormula) (P : List Clause) (s : EachOf (IsTypedSentence d) F) (x : AreFlattened d F P) (k : AreKept L [] F (map sentence_of P) × AreKept L [] (map sentence_of P) F) (i : Instance) where
    same_sentence : (P : List Clause) → map sentence_of P ≡ map sentence_of P
    same_sentence [] = refl
    same_sentence (clause k vs h b ∷ P) = ap (λ z. sentence_of (clause k vs h b) ∷ z) (same_sentence P)

    program_at : (c : Closing) → map sentence_of P ≡ clauses_at P [] c
    program_at c = same_sentence P ∙ sym (append-nil (map sentence_of P))

    to_program : (G : Term) → ProvableBy L d [] F G → ProvableBy L d [] (map sentence_of P) G
    to_program G p = transport (λ z. ProvableBy L d [] z G) (append-nil (map sentence_of P)) ((program_reads_back d std F P (each_sentence d F s) x [] k [] G).0 (transport (λ z. ProvableBy L d [] z G) (sym (append-nil F)) p))

    from_program : (G : Term) → ProvableBy L d [] (map sentence_of P) G → ProvableBy L d [] F G
    from_program G p = transport (λ z. ProvableBy L d [] z G) (append-nil F) ((program_reads_back d std F P (each_sentence d F s) x [] k [] G).1 (transport (λ z. ProvableBy L d [] z G) (sym (append-nil (map sentence_of P))) p))

    abbrev first : Branch
    first = first_branch q.type_vars (length q.vars) gs

    abbrev goals_in : List Goal
    goals_in = goal_list (instantiate_goals put_here gs)

    at_program : (c : Closing) (R S : List ClauseFormula) → R ≡ S → (hs : List Goal) → EachOf (λ g. Holds L d [] R c (formula_of_goal g)) hs → EachOf (λ g. Holds L d [] S c (formula_of_goal g)) hs
    at_program c R S w hs h = transport (λ z. EachOf (λ g. Holds L d [] z c (formula_of_goal g)) hs) w h

    pub solves : IsProvableBy L d F q i → SolvesBranch L d P q i (first_typing q gs) first
    solves p =
        let h = (query_starts d std m q gs t e (map sentence_of P) i).0 (record { types = p.types; types_closed = p.types_closed; values = p.values; proved = to_program (filled q i) p.proved }) in
        record {
          query = record { types = p.types; types_closed = p.types_closed; values = p.values };
          answer = record { closing = h.closing; closes = h.closes; solves = tt; types = h.types; values = h.values };
          proved = entries_hold _ d P h.closing [] [] nothing_written 0 0 goals_in (at_program h.closing (map sentence_of P) (clauses_at P [] h.closing) (program_at h.closing) goals_in h.holds);
        }

    pub proves_it : SolvesBranch L d P q i (first_typing q gs) first → IsProvableBy L d F q i
    proves_it s =
        let c = s.answer.closing in
        let h = at_program c (clauses_at P [] c) (map sentence_of P) (sym (program_at c)) goals_in (hold_entries _ d P c [] [] nothing_written 0 0 goals_in s.proved) in
        let p = (query_starts d std m q gs t e (map sentence_of P) i).1 s.query.values (record { closing = c; closes = s.answer.closes; types = s.answer.types; values = s.answer.values; holds = h }) in
        record { types = p.types; types_closed = p.types_closed; values = p.values; proved = from_program (filled q i) p.proved }
