-- Negated goals without negation inside are judged rightly: where the search of one is refuted no closing makes its goals provable, and where it is held some does.
use Rattle.std.proofs.Common.{◌≡◌, ℕ, List, [], ◌∷◌, map, length, Option, Some, None, true, refl, sym, ap, ◌∙◌, subst as transport}
use Rattle.std.specs.Prelude.{nat_eq, slice_get}
use Rattle.std.proofs.lemmas.Bool.{eqb-true}
use Rattle.lp_calculus.specs.Types.{Ty, instance}
use Rattle.lp_calculus.specs.Term.{Term, atom, param}
use Rattle.lp_calculus.specs.Typing.{o_type}
use Rattle.lp_calculus.specs.Closed.{IsClosedType}
use Rattle.lp_lemmas.specs.Each.{AnyOf, EachOf}
use Rattle.lp_standard.specs.Schemes.{IsStandard}
use Rattle.lp_standard.specs.Connectives.{truth}
use Rattle.lp_model.specs.Unify.{unit_limit}
use Rattle.lp_model.specs.Pair.{Closing, SolvesAll, closed}
use Rattle.lp_model.specs.Skeleton.{Note, Refuted, Held, starts, inner, run}
use Rattle.lp_model.specs.Flat.{Not, Written, Goals, Clause, formula_of_goals}
use Rattle.lp_model.specs.Branch.{Entry, Branch, Answer, Go}
use Rattle.lp_model.specs.Search.{with_goals, look, has_no_pairs}
use Rattle.lp_model.specs.Answers.{Query, Variable, AnswerTyping, Instance, Closes, AreTypedValues, ConvertEach, IsInstance, TypedAnswer, IsWellFormed}
use Rattle.lp_model.specs.Proofs.{Declared, IsWitness, no_leaf}
use Rattle.lp_proof_laws.proofs.Uniform.Settings.{without_leaves}
use Rattle.lp_search_laws.specs.Holds.{Holds, IsTyped}
use Rattle.lp_search_laws.specs.Clauses.{clauses_at}
use Rattle.lp_search_laws.specs.Right.{IsRightOf}
use Rattle.lp_search_laws.specs.Unnegated.{AreUnnegatedGoals, IsUnnegatedClause}
use Rattle.lp_search_laws.specs.Branches.{no_query, BranchTyping, IsTypedBranch, IsProgramTyped, IsQueryInstance, SolvesBranch}
use Rattle.lp_search_laws.proofs.ClosedTerms.{closed_type}
use Rattle.lp_search_laws.proofs.FlatViews.{goals_proved}
use Rattle.lp_search_laws.proofs.GoalViews.{inner_branch, inner_typing, inner_goals_typed, inner_typed}
use Rattle.lp_search_laws.proofs.LooksRight.{each_run}
use Rattle.lp_search_laws.proofs.Unnegated.{goals_entries}
use Rattle.lp_search_laws.proofs.Stack.InnerRuns.{refuted_fails, held_gives}

-- the instance of a query without variables
abbrev pub no_values : Instance
no_values = record { types = []; values = [] }

-- every variable has a closed value: a parameter of its type
pub value_of : (ℕ → Ty) → Option Variable → Term
value_of θ None = truth
value_of θ (Some v) = atom (param 0 (instance θ v.type))

-- with any closed types
abbrev pub closing_with : (ℕ → Ty) → List Variable → Closing
closing_with θ V = record { types = θ; terms = λ x l. value_of θ (slice_get V x) }

pub closing_closes : (θ : ℕ → Ty) → ((i : ℕ) → IsClosedType (θ i)) → (d : Declared) (V : List Variable) → Closes d V (closing_with θ V)
unfolding value_of
closing_closes θ h d V = record {
  types = h;
  terms = λ x v e.
      let T = instance θ v.type in
      let c : IsClosedType (instance θ v.type) = closed_type θ h v.type in
      transport (λ o. IsWitness d (map (instance θ) v.scope) (value_of θ o) T) (sym e) (record { typed = refl; closed = c; positive = tt; type_closed = c });
}

pub some_closing : List Variable → Closing
some_closing V = closing_with (λ i. o_type) V

pub some_closes : (d : Declared) (V : List Variable) → Closes d V (some_closing V)
unfolding some_closing
some_closes d V = closing_closes (λ i. o_type) (λ i. tt) d V

pub none : {A : Type 0} (xs : List A) → length xs ≡ 0 → xs ≡ []
none [] e = refl
none (x ∷ xs) e = cc

pub no_pairs : (n : ℕ) → nat_eq n 0 ≡ true → n ≡ 0
no_pairs n e = eqb-true n 0 e

pub no_typed_values : (d : Declared) (V : List Variable) (ts : List Term) → AreTypedValues d V ts [] → ts ≡ []
no_typed_values d V [] h = refl
no_typed_values d V (t ∷ ts) h = absurd h

module _ (d : Declared) where
  pub query : IsQueryInstance d no_query no_values
  query = record { types = refl; types_closed = tt; values = tt }

  pub no_answers : (xs : List TypedAnswer) → map (λ a. a.answer) xs ≡ [] → AnyOf (λ a. IsInstance d a.typing a.answer no_values) xs → ⊥
  no_answers [] e h = h
  no_answers (x ∷ xs) e h = cc

  an_instance : (x : TypedAnswer) → IsWellFormed d no_query x.typing x.answer → has_no_pairs x.answer ≡ true → IsInstance d x.typing x.answer no_values
  an_instance x w f =
      let c = some_closing x.typing.variables in
      let ps = none x.answer.pairs (no_pairs (length x.answer.pairs) f) in
      let ts = none x.answer.types w.types in
      let vs = no_typed_values d x.typing.variables x.answer.values w.values in
      record {
        closing = c;
        closes = some_closes d x.typing.variables;
        solves = transport (SolvesAll c) (sym ps) tt;
        types = ap (map (instance c.types)) ts;
        values = transport (λ us. ConvertEach (map (closed c) us) []) (sym vs) tt;
      }

  -- what holds of each instance of the first answer, where that leaves no pairs
  pub first_sound : (S : Instance → Type 0) (a : Answer) (more : List Answer) (xs : List TypedAnswer) → map (λ x. x.answer) xs ≡ a ∷ more → has_no_pairs a ≡ true → EachOf (λ x. IsWellFormed d no_query x.typing x.answer) xs →
      EachOf (λ x. (i : Instance) → IsQueryInstance d no_query i → IsInstance d x.typing x.answer i → S i) xs → S no_values
  first_sound S a more [] e f w s = absurd (cc)
  first_sound S a more (x ∷ xs) e f w s = let q : x.answer ≡ a = cc in s.0 no_values query (an_instance x w.0 (ap has_no_pairs q ∙ f))

module _ (n : ℕ) (d : Declared) (std : IsStandard d) (P : List Clause) (program : EachOf (IsProgramTyped d) P) (pure : EachOf IsUnnegatedClause P) (q : Query) (z : AnswerTyping) (b : Branch) (E : List Ty) (Es : List (List Ty)) (e : Entry) (es : List Entry)
    (h : IsTypedBranch n d q (record { answer = z; eigens = E ∷ Es }) (with_goals b (e ∷ es))) (ws : Written) (gs : Goals) (is : e.goal ≡ Not ws gs) (unnegated : AreUnnegatedGoals gs) (assumed : EachOf IsUnnegatedClause e.assumed) where
  abbrev pub first : Branch
  first = inner_branch n d (without_leaves d std) P q z b E Es e es h gs

  abbrev pub typing : BranchTyping
  typing = inner_typing n d (without_leaves d std) P q z b E Es e es h gs

  goals_typed : IsTyped d E z.variables (formula_of_goals gs) o_type
  goals_typed = inner_goals_typed n d (without_leaves d std) P q z b E Es e es h ws gs is

  first_typed : IsTypedBranch n d no_query typing first
  first_typed = inner_typed n d (without_leaves d std) P q z b E Es e es h ws gs is

  right : (j m steps : ℕ) → IsRightOf no_leaf d P no_query typing first (run (look unit_limit n P) j m (starts (Go first) steps 1))
  right j m steps = each_run n d std P program no_query pure typing first first_typed (goals_entries gs e.assumed e.written e.level 0 unnegated assumed) j m steps 1

  -- a closing with which the goals are provable
  abbrev pub HoldsHere : Closing → Type 0
  HoldsHere c = Holds no_leaf d (map (instance c.types) E) (clauses_at P e.assumed c) c (formula_of_goals gs)

  solved : (c : Closing) → Closes d z.variables c → HoldsHere c → SolvesBranch no_leaf d P no_query no_values typing first
  solved c l p = record {
    query = query d;
    answer = record { closing = c; closes = l; solves = tt; types = refl; values = tt };
    proved = (goals_proved d (without_leaves d std) P z.variables c l E e.assumed e.written e.level 0 gs goals_typed).0 p;
  }

  holds : SolvesBranch no_leaf d P no_query no_values typing first → (c : Closing) × Closes d z.variables c × HoldsHere c
  holds s = (s.answer.closing, s.answer.closes, (goals_proved d (without_leaves d std) P z.variables s.answer.closing s.answer.closes E e.assumed e.written e.level 0 gs goals_typed).1 s.proved)

  module _ (j steps k p : ℕ) (ns : List Note) where
    pub refuted : inner (look unit_limit n P) j has_no_pairs (starts (Go first) steps 1) ≡ Refuted k ns p → (c : Closing) → Closes d z.variables c → HoldsHere c → ⊥
    refuted r c l v =
        let f = refuted_fails (look unit_limit n P) has_no_pairs j (starts (Go first) steps 1) k p ns r in
        let x = right j j steps in
        no_answers d x.typed (x.is ∙ f.1) (x.exhausts f.0 no_values (solved c l v))

    pub held : inner (look unit_limit n P) j has_no_pairs (starts (Go first) steps 1) ≡ Held k ns p → (c : Closing) × Closes d z.variables c × HoldsHere c
    held r =
        let f = held_gives (look unit_limit n P) has_no_pairs j (starts (Go first) steps 1) k p ns r in
        let x = right j j steps in
        holds (first_sound d (λ i. SolvesBranch no_leaf d P no_query i typing first) f.0 f.1 x.typed (x.is ∙ f.3) f.2 x.well_formed x.sound)
