-- A branch with one more variable, for a goal that says that there is a term.
use Rattle.std.proofs.Common.{◌≡◌, ℕ, zero, suc, ◌<◌, List, [], ◌∷◌, ◌++◌, map, length, Some, ◌∙◌, refl, sym, ap, subst as transport, arith, inl, inr, Bool, true, false, nat_eq, if◌then◌else◌}
use Rattle.std.specs.Prelude.{◌&&◌, ◌+◌, slice_get}
use Rattle.std.proofs.lemmas.Bool.Decides.{nat_tests}
use Rattle.std.proofs.lemmas.Bool.{eqb-true}
use Rattle.lp_unify_laws.specs.TypesBelow.{IsTypeBelow}
use Rattle.lp_calculus.specs.Types.{Ty, instance}
use Rattle.lp_calculus.specs.Term.{Term, Atom, constant, integer, text, eigen, logic, param}
use Rattle.lp_calculus.specs.Convert.{Converts}
use Rattle.lp_calculus.specs.Typing.{Typed}
use Rattle.lp_calculus.proofs.Fills.{within_more}
use Rattle.lp_lemmas.specs.Each.{EachOf}
use Rattle.lp_model.specs.Pair.{Pair, Closing, closed, SolvesAll}
use Rattle.lp_model.specs.Flat.{Clause, formula_of_clause, formula_of_goal}
use Rattle.lp_model.specs.Branch.{Entry, Branch, Go}
use Rattle.lp_model.specs.Answers.{Query, Variable, Instance, AnswerTyping, PairTyping, Closes, over, AreTypedValues, AreTypedPairs, IsTypedPair, ConvertEach}
use Rattle.lp_model.specs.Proofs.{Declared, IsWitness, Leaves, ProvableBy}
use Rattle.lp_model.specs.Search.{with_goals}
use Rattle.lp_calculus.specs.Typing.{o_type}
use Rattle.lp_unify_laws.specs.Solutions.{IsMore}
use Rattle.lp_unify_laws.proofs.Scopes.{in_scope, typed_grows, scope_grows, prefix_none, variable_of, got_before, get_last, length_last}
use Rattle.lp_unify_laws.proofs.TypedBindings.{HasAtomType, typed_atoms}
use Rattle.lp_proof_laws.proofs.Uniform.Contexts.{get_front, get_split}
use Rattle.lp_lemmas.proofs.Each.{each_append}
use Rattle.lp_search_laws.specs.Holds.{Holds, IsTyped, with_value, IsOther, IsUnused}
use Rattle.lp_search_laws.specs.Clauses.{clauses_at, assumed_at, sentence_of}
use Rattle.lp_search_laws.specs.Branches.{AreTypedEntries, AreProved, EntryHolds, BranchTyping, IsTypedBranch, SolvesBranch, IsPlainVariable, going}
use Rattle.lp_search_laws.specs.Given.{IsPut}
use Rattle.lp_search_laws.specs.Views.{StandFor}
use Rattle.lp_search_laws.proofs.Closed.{unused_closed, value_at}
use Rattle.lp_search_laws.proofs.TypedParts.{typed_wider}
use Rattle.lp_search_laws.specs.Written.{IsWrittenEntry}
use Rattle.lp_search_laws.proofs.Fronts.{MayStand, Typings, Typed as IsTypedHere, typed_append, plain_append, proved_append, proved_split}

-- with more variables
values_more : (d : Declared) (V W : List Variable) → IsMore V W → (ts : List Term) (Ts : List Ty) → AreTypedValues d V ts Ts → AreTypedValues d W ts Ts
values_more d V W m [] [] h = tt
values_more d V W m [] (T ∷ Ts) h = absurd h
values_more d V W m (t ∷ ts) [] h = absurd h
values_more d V W m (t ∷ ts) (T ∷ Ts) h = (record { typed = typed_grows (in_scope d [] V) (in_scope d [] W) (scope_grows d [] [] V W (prefix_none []) m) [] t T h.0.typed; outermost = h.0.outermost; positive = h.0.positive }, values_more d V W m ts Ts h.1)

pair_more : (d : Declared) (V W : List Variable) → IsMore V W → (y : PairTyping) (p : Pair) → IsTypedPair d V y p → IsTypedPair d W y p
pair_more d V W m y p h =
    let a = typed_wider d y.eigens y.eigens V W (prefix_none y.eigens) m p.left y.type (record { typed = h.left; scoped = h.left_scoped }) in
    let b = typed_wider d y.eigens y.eigens V W (prefix_none y.eigens) m p.right y.type (record { typed = h.right; scoped = h.right_scoped }) in
    record { level = h.level; left = a.typed; right = b.typed; left_scoped = a.scoped; right_scoped = b.scoped }

pairs_more : (d : Declared) (V W : List Variable) → IsMore V W → (ys : List PairTyping) (ps : List Pair) → AreTypedPairs d V ys ps → AreTypedPairs d W ys ps
pairs_more d V W m [] [] h = tt
pairs_more d V W m [] (p ∷ ps) h = absurd h
pairs_more d V W m (y ∷ ys) [] h = absurd h
pairs_more d V W m (y ∷ ys) (p ∷ ps) h = (pair_more d V W m y p h.0, pairs_more d V W m ys ps h.1)

pub clauses_more : (d : Declared) (E : List Ty) (V W : List Variable) → IsMore V W → (A : List Clause) → EachOf (λ c. IsTyped d E V (formula_of_clause c) o_type) A → EachOf (λ c. IsTyped d E W (formula_of_clause c) o_type) A
clauses_more d E V W m [] h = tt
clauses_more d E V W m (c ∷ A) h = (typed_wider d E E V W (prefix_none E) m (formula_of_clause c) o_type h.0, clauses_more d E V W m A h.1)

entries_more : (d : Declared) (V W : List Variable) → IsMore V W → (Es : List (List Ty)) (es : List Entry) → AreTypedEntries d V Es es → AreTypedEntries d W Es es
entries_more d V W m [] [] h = tt
entries_more d V W m [] (e ∷ es) h = absurd h
entries_more d V W m (E ∷ Es) [] h = absurd h
entries_more d V W m (E ∷ Es) (e ∷ es) h = (record { level = h.0.level; goal = typed_wider d E E V W (prefix_none E) m (formula_of_goal e.goal) o_type h.0.goal; assumed = clauses_more d E V W m e.assumed h.0.assumed }, entries_more d V W m Es es h.1)

-- the new variable stands in nothing that is there
and_false : (a c : Bool) → a ≡ false → (a && c) ≡ false
and_false a c e = ap (λ z. z && c) e

lower_differs : (y x : ℕ) → y < x → nat_eq y x ≡ false
lower_differs y x h = grind (arith, nat_tests)

atom_other : (d : Declared) (E : List Ty) (V : List Variable) (x l : ℕ) → x ≡ length V → (a : Atom) → HasAtomType (in_scope d E V) a → IsOther x l a
atom_other d E V x l e (logic y m) h =
    let v = variable_of V y m h.0 h.1 in
    let g = got_before V y v.variable v.is in
    let r : y < x = omega arith in
    and_false (nat_eq y x) (nat_eq m l) (lower_differs y x r)
atom_other d E V x l e (constant c ts) h = tt
atom_other d E V x l e (integer z) h = tt
atom_other d E V x l e (text s) h = tt
atom_other d E V x l e (eigen k) h = tt
atom_other d E V x l e (param k T) h = tt

pub unused_new : (d : Declared) (E : List Ty) (V : List Variable) (x l : ℕ) → x ≡ length V → (t : Term) (T : Ty) → Typed (over d E V) [] t T → IsUnused x l t
unused_new d E V x l e t T h = within_more (HasAtomType (in_scope d E V)) (IsOther x l) 0 0 (atom_other d E V x l e) (omega arith) t (typed_atoms (in_scope d E V) [] t T h)

module _ (d : Declared) (P : List Clause) (V : List Variable) (x l : ℕ) (ne : x ≡ length V) (c : Closing) (w : Term) where
  abbrev c' : Closing
  c' = with_value c x l w

  same_term : (E : List Ty) (t : Term) (T : Ty) → Typed (over d E V) [] t T → closed (with_value c x l w) t ≡ closed c t
  same_term E t T h = unused_closed c x l w t (unused_new d E V x l ne t T h)

  same_clauses : (E : List Ty) (A : List Clause) → EachOf (λ k. IsTyped d E V (formula_of_clause k) o_type) A → assumed_at (with_value c x l w) A ≡ assumed_at c A
  same_clauses E [] h = refl
  same_clauses E (k ∷ A) h = let a = same_term E (formula_of_clause k) o_type h.0.typed in let r = same_clauses E A h.1 in λ i. r i ++ record { type_vars = 0; formula = a i } ∷ []

  pub same_context : (E : List Ty) (A : List Clause) → EachOf (λ k. IsTyped d E V (formula_of_clause k) o_type) A → clauses_at P A (with_value c x l w) ≡ clauses_at P A c
  same_context E A h = ap (λ r. map sentence_of P ++ r) (same_clauses E A h)

  same_solved : (ys : List PairTyping) (ps : List Pair) → AreTypedPairs d V ys ps → SolvesAll c ps → SolvesAll (with_value c x l w) ps
  same_solved [] [] h s = tt
  same_solved [] (p ∷ ps) h s = absurd h
  same_solved (y ∷ ys) [] h s = absurd h
  same_solved (y ∷ ys) (p ∷ ps) h s =
      let a = same_term y.eigens p.left y.type h.0.left in
      let b = same_term y.eigens p.right y.type h.0.right in
      (transport (λ t. Converts t (closed (with_value c x l w) p.right)) (sym a) (transport (Converts (closed c p.left)) (sym b) s.0), same_solved ys ps h.1 s.1)

  same_values : (ts : List Term) (Ts : List Ty) → AreTypedValues d V ts Ts → map (closed (with_value c x l w)) ts ≡ map (closed c) ts
  same_values [] Ts h = refl
  same_values (t ∷ ts) [] h = absurd h
  same_values (t ∷ ts) (T ∷ Ts) h = let a = same_term [] t T h.0.typed in let r = same_values ts Ts h.1 in λ i. a i ∷ r i

  same_proved : (L : Leaves) (Es : List (List Ty)) (es : List Entry) → AreTypedEntries d V Es es → AreProved L d P c Es es → AreProved L d P (with_value c x l w) Es es
  same_proved L [] [] h s = tt
  same_proved L [] (e ∷ es) h s = absurd h
  same_proved L (E ∷ Es) [] h s = absurd h
  same_proved L (E ∷ Es) (e ∷ es) h s =
      let a = same_term E (formula_of_goal e.goal) o_type h.0.goal.typed in
      let r = same_context E e.assumed h.0.assumed in
      (transport (λ t. ProvableBy L d (map (instance c.types) E) (clauses_at P e.assumed (with_value c x l w)) t) (sym a) (transport (λ R. ProvableBy L d (map (instance c.types) E) R (closed c (formula_of_goal e.goal))) (sym r) s.0), same_proved L Es es h.1 s.1)

-- closings of the variables with the new one, and without it
pub closes_front : (d : Declared) (V W : List Variable) (c : Closing) → Closes d (V ++ W) c → Closes d V c
closes_front d V W c h = record { types = h.types; terms = λ x v e. h.terms x v (get_front V W x v e) }

closes_new : (d : Declared) (V : List Variable) (E : List Ty) (T : Ty) (x l : ℕ) → x ≡ length V → length E ≡ l → (c : Closing) (w : Term) → Closes d V c → IsWitness d (map (instance c.types) E) w (instance c.types T) → Closes d (V ++ record { type = T; scope = E } ∷ []) (with_value c x l w)
closes_new d V E T x l nx nl c w h g = record { types = h.types; terms = terms }
  where
    old : (y : ℕ) (v : Variable) → slice_get V y ≡ Some v → IsWitness d (map (instance c.types) v.scope) ((with_value c x l w).terms y (length v.scope)) (instance c.types v.type)
    old y v e =
        let b = got_before V y v e in
        let r : y < x = omega arith in
        let q = and_false (nat_eq y x) (nat_eq (length v.scope) l) (lower_differs y x r) in
        transport (λ t. IsWitness d (map (instance c.types) v.scope) t (instance c.types v.type)) (sym (ap (λ a. if a then w else c.terms y (length v.scope)) q)) (h.terms y v e)

    last : (j y : ℕ) (v : Variable) → y ≡ length V + j → slice_get (record { type = T; scope = E } ∷ []) j ≡ Some v → IsWitness d (map (instance c.types) v.scope) ((with_value c x l w).terms y (length v.scope)) (instance c.types v.type)
    last zero y v i e =
        let r : x ≡ y = omega arith in
        let s : ◌≡◌ {A = Variable} (record { type = T; scope = E }) v = cc in
        transport (λ z. IsWitness d (map (instance c.types) z.scope) ((with_value c x l w).terms y (length z.scope)) (instance c.types z.type)) s
        (transport (λ m. IsWitness d (map (instance c.types) E) ((with_value c x l w).terms y m) (instance c.types T)) (sym nl)
        (transport (λ m. IsWitness d (map (instance c.types) E) ((with_value c x l w).terms m l) (instance c.types T)) r
        (transport (λ t. IsWitness d (map (instance c.types) E) t (instance c.types T)) (sym (value_at c x l w)) g)))
    last (suc j) y v i e = absurd (cc)

    terms : (y : ℕ) (v : Variable) → slice_get (V ++ record { type = T; scope = E } ∷ []) y ≡ Some v → IsWitness d (map (instance c.types) v.scope) ((with_value c x l w).terms y (length v.scope)) (instance c.types v.type)
    terms y v e = elim (get_split V (record { type = T; scope = E } ∷ []) y v e) [ inl a ↦ old y v a | inr a ↦ last a.0 y v a.1 a.2 ]

and_both : (a b : Bool) → (a && b) ≡ true → (a ≡ true) × (b ≡ true)
and_both true b e = (refl, e)
and_both false b e = absurd (cc)

same_at : (c : Closing) (x l y m : ℕ) (a : Bool) → (nat_eq y x && nat_eq m l) ≡ a → (if a then c.terms x l else c.terms y m) ≡ c.terms y m
same_at c x l y m true e = let r = and_both (nat_eq y x) (nat_eq m l) e in ap (λ z. c.terms z l) (sym (eqb-true y x r.0)) ∙ ap (c.terms y) (sym (eqb-true m l r.1))
same_at c x l y m false e = refl

-- a closing with its own value
pub own_value : (c : Closing) (x l : ℕ) → with_value c x l (c.terms x l) ≡ c
own_value c x l = λ i. record { types = c.types; terms = λ y m. same_at c x l y m (nat_eq y x && nat_eq m l) refl i }

module _ (n : ℕ) (d : Declared) (P : List Clause) (q : Query) (z : AnswerTyping) (b : Branch) (E : List Ty) (Es : List (List Ty)) (e : Entry) (es : List Entry) (h : IsTypedHere n d P q z b E Es e es) (T : Ty) (below : IsTypeBelow b.next_type T) where
  abbrev pub W : List Variable
  W = z.variables ++ record { type = T; scope = E } ∷ []

  abbrev pub wider_typing : List (List Ty) → BranchTyping
  wider_typing Fs = record { answer = record { variables = z.variables ++ record { type = T; scope = E } ∷ []; pairs = z.pairs }; eigens = Fs }

  abbrev pub wider_branch : List Entry → Branch
  wider_branch fs = record { next = suc b.next; next_type = b.next_type; goals = fs; types = b.types; values = b.values; pairs = b.pairs }

  pub more : IsMore z.variables (z.variables ++ record { type = T; scope = E } ∷ [])
  more = record { more = record { type = T; scope = E } ∷ []; is = refl }

  wider_stays : (Fs : List (List Ty)) (fs : List Entry) → MayStand d (z.variables ++ record { type = T; scope = E } ∷ []) b.next_type Fs fs → IsTypedBranch n d q (wider_typing (Fs ++ Es)) (wider_branch (fs ++ es))
  wider_stays Fs fs m = record {
    answer = record {
      variables = length_last z.variables (record { type = T; scope = E }) ∙ ap suc h.answer.variables;
      types = h.answer.types;
      values = values_more d z.variables W more b.values _ h.answer.values;
      pairs = pairs_more d z.variables W more z.pairs b.pairs h.answer.pairs;
    };
    entries = typed_append d W Fs Es fs es m.typed (entries_more d z.variables W more Es es h.entries.1);
    variables = each_append (IsPlainVariable b.next_type) z.variables (record { type = T; scope = E } ∷ []) h.variables (record { type = below; scope = h.goals.0.eigens }, tt);
    types = h.types;
    values = h.values;
    pairs = h.pairs;
    goals = plain_append b.next_type Fs Es fs es m.plain h.goals.1;
    written = each_append IsWrittenEntry fs es m.written h.written.1;
    stuck = h.stuck;
  }

  abbrev pub Says : Leaves → Term → Type 0
  Says L B = (c : Closing) → Closes d z.variables c →
      (EntryHolds L d P c E e → (w : Term) × IsWitness d (map (instance c.types) E) w (instance c.types T) × Holds L d (map (instance c.types) E) (clauses_at P e.assumed c) (with_value c b.next e.level w) B) ×
      ((w : Term) × IsWitness d (map (instance c.types) E) w (instance c.types T) × Holds L d (map (instance c.types) E) (clauses_at P e.assumed c) (with_value c b.next e.level w) B → EntryHolds L d P c E e)

  abbrev pub Splits : Leaves → Term → List (List Ty) → List Entry → Type 0
  Splits L B Fs fs = (c : Closing) → Closes d (z.variables ++ record { type = T; scope = E } ∷ []) c → (Holds L d (map (instance c.types) E) (clauses_at P e.assumed c) c B → AreProved L d P c Fs fs) × (AreProved L d P c Fs fs → Holds L d (map (instance c.types) E) (clauses_at P e.assumed c) c B)

  pub stands_new : {L : Leaves} (B : Term) (Fs : List (List Ty)) (fs : List Entry) → MayStand d (z.variables ++ record { type = T; scope = E } ∷ [])
      b.next_type Fs fs → IsPut n e.goal E z.variables (z.variables ++ record { type = T; scope = E } ∷ []) fs Fs → Says L B → Splits L B Fs fs →
      StandFor L n d P q (going (Typings n d P q z b E Es e es (E ∷ Es)) (with_goals b (e ∷ es))) (Go (wider_branch (fs ++ es)) ∷ [])
  stands_new {L} B Fs fs m x says splits = record {
    typed = going (wider_typing (Fs ++ Es)) (wider_branch (fs ++ es)) ∷ [];
    is = refl;
    ok = (wider_stays Fs fs m, tt);
    given = (inl (record { front = fs; types = Fs; goals = refl; eigens = refl; put = x; pairs = refl; found = (refl, refl, refl) }), tt);
    keeps = λ i s. inl (keeps i s);
    gives = λ i s. elim s [ inl x ↦ gives i x | inr x ↦ absurd x ];
  }
    where
      keeps : (i : Instance) → SolvesBranch L d P q i (Typings n d P q z b E Es e es (E ∷ Es)) (with_goals b (e ∷ es)) → SolvesBranch L d P q i (wider_typing (Fs ++ Es)) (wider_branch (fs ++ es))
      keeps i s =
          let c = s.answer.closing in
          let r = (says c s.answer.closes).0 s.proved.0 in
          let w = r.0 in
          let v = with_value c b.next e.level w in
          let nx = sym h.answer.variables in
          let g = closes_new d z.variables E T b.next e.level nx h.entries.0.level c w s.answer.closes r.1 in
          record {
            query = s.query;
            answer = record {
              closing = v;
              closes = g;
              solves = same_solved d P z.variables b.next e.level nx c w z.pairs b.pairs h.answer.pairs s.answer.solves;
              types = s.answer.types;
              values = transport (λ ts. ConvertEach ts i.values) (sym (same_values d P z.variables b.next e.level nx c w b.values _ h.answer.values)) s.answer.values;
            };
            proved = proved_append _ d P v Fs Es fs es
                ((splits v g).0 (transport (λ R. Holds L d (map (instance c.types) E) R (with_value c b.next e.level w) B) (sym (same_context d P z.variables b.next e.level nx c w E e.assumed h.entries.0.assumed)) r.2))
                (same_proved d P z.variables b.next e.level nx c w _ Es es h.entries.1 s.proved.1);
          }

      gives : (i : Instance) → SolvesBranch L d P q i (wider_typing (Fs ++ Es)) (wider_branch (fs ++ es)) → SolvesBranch L d P q i (Typings n d P q z b E Es e es (E ∷ Es)) (with_goals b (e ∷ es))
      gives i s =
          let c = s.answer.closing in
          let l = closes_front d z.variables (record { type = T; scope = E } ∷ []) c s.answer.closes in
          let r = proved_split _ d P c W Fs Es fs es m.typed s.proved in
          let g = s.answer.closes.terms (length z.variables) (record { type = T; scope = E }) (get_last z.variables (record { type = T; scope = E })) in
          let g' = transport (λ j. IsWitness d (map (instance c.types) E) (c.terms j (length E)) (instance c.types T)) h.answer.variables g in
          let g'' = transport (λ j. IsWitness d (map (instance c.types) E) (c.terms b.next j) (instance c.types T)) h.entries.0.level g' in
          record {
            query = s.query;
            answer = record { closing = c; closes = l; solves = s.answer.solves; types = s.answer.types; values = s.answer.values };
            proved = (
              (says c l).1 (c.terms b.next e.level, g'', transport (λ v. Holds L d (map (instance c.types) E) (clauses_at P e.assumed c) v B) (sym (own_value c b.next e.level)) ((splits c s.answer.closes).1 r.0)),
              r.1,
            );
          }
